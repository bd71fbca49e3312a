-- The first branch that doesn't pass a test beside those before it.
use Rattle.std.proofs.Math.Path.{fun_ext}
use Rattle.std.proofs.Common.{◌≡◌, ◌+◌, ◌++◌, ℕ, Bool, true, false, List, [], ◌∷◌, map, take, length, Option, None, Some, refl, ap, sym, ◌∙◌, arith, subst, cond}
use Rattle.std.specs.Prelude.{position, not}
use Rattle.std.specs.List.{enumerate_from, take-map, position_from}
use Rattle.std.proofs.lemmas.Iterator.Adapters.{position_from-zero}
use Rattle.toml.specs.Data.{Data}
use Rattle.toml.specs.View.{view}
use Rattle.toml.specs.declared.value.Value.{Value}
use Rattle.study_file.proofs.KeyLists.{position-map}
use Rattle.study_market.proofs.Repeats.{enumerate-map}
use Rattle.study_rules.specs.BranchRules.{first_failing_beside}

position-same : {X : Type 0} (p q : X → Bool) (same : (x : X) → p x ≡ q x) (xs : List X) → position p xs ≡ position q xs
position-same p q same xs = ap (λ r. position r xs) (fun_ext same)

pub beside : (test : List Data → Data → Bool) (vs : List Value)
    → first_failing_beside test (map view vs)
    ≡ position (λ (p : ℕ × Value). not (test (map view (take p.0 vs)) (view p.1))) (enumerate_from 0 vs)
beside test vs =
    ap (position (λ (p : ℕ × Data). not (test (take p.0 (map view vs)) p.1))) (enumerate-map view 0 vs)
    ∙ position-map (λ (p : ℕ × Value). (p.0, view p.1)) (λ (p : ℕ × Data). not (test (take p.0 (map view vs)) p.1)) (enumerate_from 0 vs)
    ∙ position-same (λ (p : ℕ × Value). not (test (take p.0 (map view vs)) (view p.1)))
    (λ (p : ℕ × Value). not (test (map view (take p.0 vs)) (view p.1)))
    (λ p. ap (λ ds. not (test ds (view p.1))) (take-map view p.0 vs)) (enumerate_from 0 vs)

-- each branch passes the test beside those before it
abbrev pub AllBeside : (List Data → Data → Bool) → List Data → List Data → Type 0
AllBeside test before [] = Unit {0}
AllBeside test before (d ∷ ds) = (test before d ≡ true) × AllBeside test (before ++ d ∷ []) ds

pub none-if : {X : Type 0} (b : Bool) (x : X) (o : Option X) → cond b (Some x) o ≡ None → (b ≡ false) × (o ≡ None)
none-if true x o h = absurd (cc h)
none-if false x o h = (refl, h)

pub not-false : (b : Bool) → not b ≡ false → b ≡ true
not-false true h = refl
not-false false h = absurd (cc h)

pub take-before : {X : Type 0} (xs ys : List X) (n : ℕ) → n ≡ length xs → take n (xs ++ ys) ≡ xs
take-before [] ys n e = subst (λ m. take m ys ≡ []) (sym e) refl
take-before (x ∷ xs) ys n e = subst (λ m. take m (x ∷ (xs ++ ys)) ≡ x ∷ xs) (sym e) (ap (λ l. x ∷ l) (take-before xs ys (length xs) refl))

pub append-one : {X : Type 0} (xs : List X) (y : X) (ys : List X) → (xs ++ y ∷ []) ++ ys ≡ xs ++ y ∷ ys
append-one [] y ys = refl
append-one (x ∷ xs) y ys = ap (λ l. x ∷ l) (append-one xs y ys)

pub length-one : {X : Type 0} (xs : List X) (y : X) → length (xs ++ y ∷ []) ≡ length xs + 1
length-one [] y = refl
length-one (x ∷ xs) y = let more : length (xs ++ y ∷ []) ≡ length xs + 1 = length-one xs y in omega (arith, more)

all-from : (test : List Data → Data → Bool) (whole before ds : List Data) (n i : ℕ) → whole ≡ before ++ ds → n ≡ length before
    → position_from (λ (p : ℕ × Data). not (test (take p.0 whole) p.1)) i (enumerate_from n ds) ≡ None → AllBeside test before ds
all-from test whole before [] n i e f h = tt
all-from test whole before (d ∷ ds) n i e f h =
    let parts = none-if (not (test (take n whole) d)) i
    (position_from (λ (p : ℕ × Data). not (test (take p.0 whole) p.1)) (i + 1) (enumerate_from (n + 1) ds)) h in
    let here : take n whole ≡ before = ap (take n) e ∙ take-before before (d ∷ ds) n f in (
      subst (λ l. test l d ≡ true) here (not-false (test (take n whole) d) parts.0),
      all-from test whole (before ++ d ∷ []) ds (n + 1) (i + 1) (e ∙ sym (append-one before d ds)) (ap (λ m. m + 1) f ∙ sym (length-one before d)) parts.1,
    )

pub all-beside : (test : List Data → Data → Bool) (ds : List Data) → first_failing_beside test ds ≡ None → AllBeside test [] ds
all-beside test ds h =
    all-from test ds [] ds 0 0 refl refl
    (sym (position_from-zero (λ (p : ℕ × Data). not (test (take p.0 ds) p.1)) (enumerate_from 0 ds)) ∙ h)

-- each item passes
abbrev pub Each : {X : Type 0} → (X → Type 0) → List X → Type 0
Each P [] = Unit {0}
Each P (x ∷ xs) = P x × Each P xs
