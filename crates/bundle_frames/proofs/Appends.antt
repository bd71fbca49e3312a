-- One part after another.
use Rattle.std.proofs.Common.{◌≡◌, ℕ, ◌+◌, ◌<◌, List, [], ◌∷◌, ◌++◌, Result, Ok, Err, OnOk, length, get_or, drop, refl, sym, ap, ◌∙◌, append_assoc, ◌*◌, arith, length-append}
use Rattle.std.specs.Prelude.{ℤ}
use Rattle.std.specs.List.{flat_map}
use Rattle.std.proofs.lemmas.List.{drop_more}
use Rattle.bundle_frames.specs.Wires.{position_bytes, positions_bytes}

-- a part behind two others
pub then_part : (old now new a b : List ℕ) → now ≡ old ++ a → new ≡ now ++ b → new ≡ old ++ (a ++ b)
then_part old now new a b before after = after ∙ ap (λ (l : List ℕ). l ++ b) before ∙ append_assoc old a b

-- the same of a call that may fail
pub then_last : {A E : Type 0} (r : Result A E) (old now new a b : List ℕ) → now ≡ old ++ a → OnOk r (new ≡ now ++ b)
    → OnOk r (new ≡ old ++ (a ++ b))
then_last (Ok x) old now new a b before after = then_part old now new a b before after
then_last (Err e) old now new a b before after = tt

-- what an item of a list adds, and what is still to come
pub one_more : {X : Type 0} (f : X → List ℕ) (xs : List X) (i : ℕ) (d : X) (now new : List ℕ) → i < length xs
    → new ≡ now ++ f (get_or xs i d) → new ++ flat_map f (drop (i + 1) xs) ≡ now ++ flat_map f (drop i xs)
one_more f xs i d now new within after =
    ap (λ (l : List ℕ). l ++ flat_map f (drop (i + 1) xs)) after
    ∙ append_assoc now (f (get_or xs i d)) (flat_map f (drop (i + 1) xs))
    ∙ sym (ap (λ ys. now ++ flat_map f ys) (drop_more xs i d within))

-- the same for an item that was read
pub one_more_at : {X : Type 0} (f : X → List ℕ) (xs : List X) (i : ℕ) (x : X) (now new : List ℕ) → i < length xs → x ≡ get_or xs i x
    → new ≡ now ++ f x → new ++ flat_map f (drop (i + 1) xs) ≡ now ++ flat_map f (drop i xs)
one_more_at f xs i x now new within at after = one_more f xs i x now new within (after ∙ ap (λ y. now ++ f y) at)

length-position : (p : ℤ) → length (position_bytes p) ≡ 8
unfolding position_bytes
length-position p = refl

pub length-positions : (ps : List ℤ) → length (positions_bytes ps) ≡ 8 * length ps
length-positions [] = refl
length-positions (p ∷ ps) = omega (arith, length-append (position_bytes p) (positions_bytes ps), length-position p, length-positions ps)
