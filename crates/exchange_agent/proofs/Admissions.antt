-- What an answer says of whether a pair was there.
use Rattle.std.proofs.Common.{◌≡◌, Bool, true, false, refl}
use Rattle.std.specs.Prelude.{not}
use Rattle.std.specs.Bool.{OnFalse, OnTrue}

pub on-true : (b : Bool) (P : Type 0) → b ≡ true → OnTrue b P → P
on-true true P e p = p
on-true false P e p = absurd cc

pub on-false : (b : Bool) (P : Type 0) → b ≡ false → OnFalse b P → P
on-false true P e p = absurd cc
on-false false P e p = p

-- a pair that was added was not there
pub not-there : (added there : Bool) → added ≡ not there → added ≡ true → there ≡ false
not-there added true is e = absurd cc
not-there added false is e = refl

-- and one that was not added was
pub there : (added there : Bool) → added ≡ not there → added ≡ false → there ≡ true
there added true is e = refl
there added false is e = absurd cc
