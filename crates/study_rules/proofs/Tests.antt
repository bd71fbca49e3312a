-- Lemmas on tests.
use Rattle.std.proofs.Common.{◌≡◌, Bool, true, false, refl, inl, inr, ◌⊎◌, if◌then◌else◌}
use Rattle.std.specs.Prelude.{◌||◌, not}

pub if-pass : {X : Type 0} (b : Bool) (x y : X) → b ≡ true → (if b then x else y) ≡ x
if-pass true x y h = refl
if-pass false x y h = absurd (cc h)

pub if-fail : {X : Type 0} (b : Bool) (x y : X) → b ≡ false → (if b then x else y) ≡ y
if-fail true x y h = absurd (cc h)
if-fail false x y h = refl

pub or-true : (b c : Bool) → (b || c) ≡ true → (b ≡ true) ⊎ (c ≡ true)
or-true true c h = inl refl
or-true false c h = inr h

pub not-true : (b : Bool) → not b ≡ true → b ≡ false
not-true true h = absurd (cc h)
not-true false h = refl
