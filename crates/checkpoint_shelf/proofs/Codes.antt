-- A word is what its number stands for.
use Rattle.std.proofs.Common.{◌≡◌, ℕ, suc, ◌+◌, ◌*◌, ◌<◌, ◌/◌, ◌%◌, ◌==◌, if◌then◌else◌, Some, All, sym, refl, ap, ◌∙◌, subst, ⊎_elim, arith, slice_get, length, slice_index_or, List, [], ◌∷◌, zero}
use Rattle.shelf_core.specs.Plan.{place_of, index_of}
use Rattle.shelf_core.specs.declared.plan.Key.{Key}
use Rattle.shelf_core.specs.declared.plan.ShelfPlan.{ShelfPlan}
use Rattle.shelf_core.specs.declared.words.PlaceWord.{PlaceWord}
use Rattle.shelf_core.specs.declared.words.PlaceWord.TheVariants.{Free, Writing, Ready, Lent}
use Rattle.shelf_core.proofs.Plans.{index_found, place_cases}
use Rattle.shelf_core.proofs.Lists.{within, some_same, not_some}
use Rattle.checkpoint_shelf.specs.Codes.{KeyFits, WordFits, key_code, place_code, key_in, number_in, place_word_in}
use Rattle.checkpoint_shelf.specs.Plans.{PlanFits, KeyBelow}

abbrev of_kind : ℕ → ℕ → PlaceWord
of_kind kind n = if kind == 0 then Free else (if kind == 1 then Writing (number_in n) else (if kind == 2 then Ready (key_in n) else Lent (key_in n) (number_in n)))

kind_is : (n kind : ℕ) → n % 4 ≡ kind → place_word_in n ≡ of_kind kind n
kind_is n kind e = ap (λ r. of_kind r n) e

key_back : (key : Key) (low : ℕ) → KeyFits key → low < 256 → key_in (key_code key * 256 + low) ≡ key
key_back key low fits lt = let a = fits.0 in let b = fits.1 in
    let s : (key_code key * 256 + low) / 4294967296 % 4096 ≡ key.segment = omega arith in
    let e : (key_code key * 256 + low) / 256 % 16777216 ≡ key.event = omega arith in
    λ i. record { segment = s i; event = e i }

pub word_back : (word : PlaceWord) → WordFits word → place_word_in (place_code word) ≡ word
word_back Free fits = refl
word_back (Writing n) fits = let c : ℕ = n * 4 + 1 in let k : c % 4 ≡ 1 = omega arith in let m : number_in c ≡ n = omega arith in kind_is c 1 k ∙ ap Writing m
word_back (Ready key) fits = let c : ℕ = key_code key * 256 + 2 in let k : c % 4 ≡ 2 = omega arith in kind_is c 2 k ∙ ap Ready (key_back key 2 fits (omega arith))
word_back (Lent key n) fits = let low = fits.1 in let c : ℕ = key_code key * 256 + n * 4 + 3 in let c' : ℕ = key_code key * 256 + (n * 4 + 3) in let same : c ≡ c' = omega arith in
    let k : c % 4 ≡ 3 = omega arith in let m : number_in c ≡ n = omega arith in
    kind_is c 3 k ∙ ap (λ (x : Key). Lent x (number_in c)) (ap key_in same ∙ key_back key (n * 4 + 3) fits.0 (omega arith)) ∙ ap (Lent key) m

pub word_same : (a b : PlaceWord) → WordFits a → WordFits b → place_code a ≡ place_code b → a ≡ b
word_same a b f g e = sym (word_back a f) ∙ ap place_word_in e ∙ word_back b g

all_at : (P : Key → Type 0) (keys : List Key) (i : ℕ) (key : Key) → All P keys → slice_get keys i ≡ Some key → P key
all_at P keys i key all e = subst P (is keys i e) (all i key (within keys i key e))
  where
    is : (keys : List Key) (i : ℕ) → slice_get keys i ≡ Some key → slice_index_or keys i key ≡ key
    is [] i e = absurd (not_some key e)
    is (k ∷ ks) zero e = some_same k key e
    is (k ∷ ks) (suc i) e = is ks i e

-- A key that has a place is one of the plan's, and fits.
pub key_fits : (plan : ShelfPlan) (key : Key) (p : ℕ) → PlanFits plan → place_of plan key ≡ Some p → KeyFits key
key_fits plan key p fits e = let few = fits.segments in ⊎_elim
    (λ (fork : index_of key plan.forks ≡ Some p). let b : KeyBelow plan.segments key = all_at (KeyBelow plan.segments) plan.forks p key fits.forks (index_found key p plan.forks fork) in let low = b.0 in (omega arith, b.1))
    (λ (grid : (j : ℕ) × (index_of key plan.grid ≡ Some j) × (plan.places ≡ 0 → ⊥) × (p ≡ length plan.forks + j % plan.places)).
    let b : KeyBelow plan.segments key = all_at (KeyBelow plan.segments) plan.grid grid.0 key fits.grid (index_found key grid.0 plan.grid grid.1) in let low = b.0 in (omega arith, b.1))
    (place_cases plan (index_of key plan.forks) (index_of key plan.grid) p e)
