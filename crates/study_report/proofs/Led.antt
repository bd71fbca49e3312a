-- Records that are read from a part, and then from those behind it.
use Rattle.std.proofs.Common.{◌≡◌, ◌∙◌, ℕ, ◌+◌, ◌<◌, ◌≤◌, Bool, true, false, List, [], ◌∷◌, ◌++◌, length, get_or, drop, ap, sym, subst}
use Rattle.std.specs.List.{flat_map}
use Rattle.std.proofs.lemmas.List.{drop_all}
use Rattle.market_types.specs.Told.{EventTold, EntryTold}
use Rattle.study_report.specs.Difference.{events_in}
use Rattle.study_report.specs.Next.{Leads}
use Rattle.study_report.proofs.ReportParts.{events_in-append, from_part}

-- a record of a part
pub leads_here : (more : Bool) (r : EventTold) (xs ys fs : List EntryTold) → Leads more r (events_in xs) (events_in ys) → more ≡ true → events_in (xs ++ fs) ≡ r ∷ events_in (ys ++ fs)
leads_here more r xs ys fs l t =
    events_in-append xs fs
    ∙ ap (λ (rs : List EventTold). rs ++ events_in fs) (subst (λ (k : Bool). Leads k r (events_in xs) (events_in ys)) t l)
    ∙ ap (λ (rs : List EventTold). r ∷ rs) (sym (events_in-append ys fs))

-- a part without one
pub nothing_here : (more : Bool) (r : EventTold) (xs ys fs : List EntryTold) → Leads more r (events_in xs) (events_in ys) → more ≡ false → events_in fs ≡ events_in (xs ++ fs)
nothing_here more r xs ys fs l f =
    sym (events_in-append xs fs ∙ ap (λ (rs : List EventTold). rs ++ events_in fs) (subst (λ (k : Bool). Leads k r (events_in xs) (events_in ys)) f l))

-- the same of a part in a list of parts
pub leads_in_part : {X : Type 0} (f : X → List EntryTold) (ps : List X) (i : ℕ) (x : X) (more : Bool) (r : EventTold) (xs ys whole : List EntryTold) → i < length ps → x ≡ get_or ps i x → xs ≡ f x
    → events_in (flat_map f (drop i ps)) ≡ events_in whole → Leads more r (events_in xs) (events_in ys) → more ≡ true → events_in whole ≡ r ∷ events_in (ys ++ flat_map f (drop (i + 1) ps))
leads_in_part f ps i x more r xs ys whole within at is inv l t =
    sym inv
    ∙ ap events_in (from_part f ps i x within at ∙ ap (λ (es : List EntryTold). es ++ flat_map f (drop (i + 1) ps)) (sym is))
    ∙ leads_here more r xs ys (flat_map f (drop (i + 1) ps)) l t

pub nothing_in_part : {X : Type 0} (f : X → List EntryTold) (ps : List X) (i : ℕ) (x : X) (more : Bool) (r : EventTold) (xs ys whole : List EntryTold) → i < length ps → x ≡ get_or ps i x → xs ≡ f x
    → events_in (flat_map f (drop i ps)) ≡ events_in whole → Leads more r (events_in xs) (events_in ys) → more ≡ false → events_in (flat_map f (drop (i + 1) ps)) ≡ events_in whole
nothing_in_part f ps i x more r xs ys whole within at is inv l t =
    nothing_here more r xs ys (flat_map f (drop (i + 1) ps)) l t
    ∙ ap events_in (ap (λ (es : List EntryTold). es ++ flat_map f (drop (i + 1) ps)) is ∙ sym (from_part f ps i x within at))
    ∙ inv

-- no part is left
pub nothing_left : {X : Type 0} (f : X → List EntryTold) (ps : List X) (i : ℕ) (whole : List EntryTold) → length ps ≤ i → events_in (flat_map f (drop i ps)) ≡ events_in whole → events_in whole ≡ []
nothing_left f ps i whole past inv = sym inv ∙ ap (λ (qs : List _). events_in (flat_map f qs)) (drop_all i ps past)
