-- Lemmas on the items of an array.
use Rattle.std.proofs.Common.{◌≡◌, ◌&&◌, Bool, true, false, ℕ, sym, suc, List, [], ◌∷◌, map, refl, ap, ◌∙◌, length, ◌==◌, Bor, bytes_eq}
use Rattle.std.specs.Prelude.{◌||◌}
use Rattle.std.specs.List.{list_all, list_any}
use Rattle.toml.specs.Data.{Data}
use Rattle.toml.specs.View.{view, items_view}
use Rattle.toml.specs.declared.value.Value.{Value}
use Rattle.study_file.specs.Keys.{items_list, is_number}
use Rattle.study_file.specs.Tables.{is_named}

-- the items of an array are those of its view
pub items_list-view : (vs : List Value) → items_list (items_view vs) ≡ map view vs
items_list-view [] = refl
items_list-view (v ∷ vs) = ap (λ ds. view v ∷ ds) (items_list-view vs)

pub all-items : (test : Data → Bool) (vs : List Value) → list_all test (items_list (items_view vs)) ≡ list_all (λ v. test (view v)) vs
all-items test [] = refl
all-items test (v ∷ vs) = ap (λ b. test (view v) && b) (all-items test vs)

pub length-items : (vs : List Value) → length (items_list (items_view vs)) ≡ length vs
length-items [] = refl
length-items (v ∷ vs) = ap suc (length-items vs)

pub pair-items : (vs : List Value)
    → (length (items_list (items_view vs)) == 2 && list_all is_number (items_list (items_view vs)))
    ≡ (length vs == 2 && list_all (λ v. is_number (view v)) vs)
pair-items vs =
    ap (λ n. n == 2 && list_all is_number (items_list (items_view vs))) (length-items vs)
    ∙ ap (λ b. length vs == 2 && b) (all-items is_number vs)

-- names behind references
pub listed-now : (names : List (Bor (List ℕ))) (word : List ℕ)
    → list_any (λ (n : Bor (List ℕ)). bytes_eq n.now word) names ≡ is_named (map (λ (n : Bor (List ℕ)). n.now) names) word
listed-now [] word = refl
listed-now (n ∷ names) word = ap (λ b. bytes_eq n.now word || b) (listed-now names word)

length-now : (names : List (Bor (List ℕ))) → length names ≡ length (map (λ (n : Bor (List ℕ)). n.now) names)
length-now [] = refl
length-now (n ∷ names) = ap suc (length-now names)

-- a list of no names, and one of some

pub none-now : (names : List (Bor (List ℕ))) (word : List ℕ) → (length names == 0) ≡ true
    → true ≡ (length (map (λ (n : Bor (List ℕ)). n.now) names) == 0 || is_named (map (λ (n : Bor (List ℕ)). n.now) names) word)
none-now names word e =
    ap (λ b. b || is_named (map (λ (n : Bor (List ℕ)). n.now) names) word) (sym e ∙ ap (λ n. n == 0) (length-now names))

pub some-now : (names : List (Bor (List ℕ))) (word : List ℕ) → (length names == 0) ≡ false
    → is_named (map (λ (n : Bor (List ℕ)). n.now) names) word
    ≡ (length (map (λ (n : Bor (List ℕ)). n.now) names) == 0 || is_named (map (λ (n : Bor (List ℕ)). n.now) names) word)
some-now names word e =
    ap (λ b. b || is_named (map (λ (n : Bor (List ℕ)). n.now) names) word) (sym e ∙ ap (λ n. n == 0) (length-now names))
