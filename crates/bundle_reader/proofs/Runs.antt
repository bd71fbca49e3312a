-- Frames taken one after another.
use Rattle.std.proofs.Common.{◌≡◌, ◌∙◌, List, [], ◌∷◌, ◌++◌, Option, Some, None, ap}
use Rattle.bundle_reader.specs.declared.frame.Frame.{Frame}
use Rattle.bundle_reader.specs.Told.{ReadingTold}
use Rattle.bundle_reader.specs.Order.{taken}

abbrev pub go_on : Option ReadingTold → (ReadingTold → Option ReadingTold) → Option ReadingTold
go_on None k = None
go_on (Some r) k = k r

-- what was read with these frames more
abbrev pub takes : ReadingTold → List Frame → Option ReadingTold
takes r [] = Some r
takes r (f ∷ fs) = go_on (taken r f) (λ next. takes next fs)

pub some_same : {A : Type 0} (a b : A) → Some a ≡ Some b → a ≡ b
some_same a b e = cc

pub none_some : {A : Type 0} (a : A) → ◌≡◌ {A = Option A} None (Some a) → ⊥
none_some a e = cc

-- one frame and then the others
pub takes_one : (r next : ReadingTold) (f : Frame) (fs : List Frame) → taken r f ≡ Some next → takes r (f ∷ fs) ≡ takes next fs
takes_one r next f fs e = ap (λ o. go_on o (λ n. takes n fs)) e

-- some frames and then others
pub takes_more : (r next : ReadingTold) (fs gs : List Frame) → takes r fs ≡ Some next → takes r (fs ++ gs) ≡ takes next gs
takes_more r next [] gs e = ap (λ s. takes s gs) (some_same r next e)
takes_more r next (f ∷ fs) gs e =
    (elim (taken r f) as (λ o. go_on o (λ n. takes n fs) ≡ Some next → go_on o (λ n. takes n (fs ++ gs)) ≡ takes next gs) [
      | None ↦ λ h. absurd (none_some next h)
      | Some n ↦ λ h. takes_more n next fs gs h
    ]) e

-- one frame more, and the others
pub takes_then : (r next last : ReadingTold) (f : Frame) (fs : List Frame) → taken r f ≡ Some next → takes next fs ≡ Some last → takes r (f ∷ fs) ≡ Some last
takes_then r next last f fs e rest = takes_one r next f fs e ∙ rest

-- a first part and a second part
pub takes_both : (r next last : ReadingTold) (fs gs : List Frame) → takes r fs ≡ Some next → takes next gs ≡ Some last → takes r (fs ++ gs) ≡ Some last
takes_both r next last fs gs e rest = takes_more r next fs gs e ∙ rest
