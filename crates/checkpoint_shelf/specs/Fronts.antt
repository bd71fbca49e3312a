-- The slots that a seat has, each with the same value.
use Rattle.std.specs.Prelude.{◌≡◌, ◌≢◌, ℕ, List, [], ◌∷◌}
use mathlib.Core.Option.{Option, some, none}
use lib.ListN.{get_elem?}
use Rattle.atomic_table.specs.Table.{Act, keeps, takes, gives, chain}

-- The slots of these places, each with d.
abbrev pub held : {S : Type 0} → S → List ℕ → List (ℕ × S)
held d [] = []
held d (q ∷ qs) = (q, d) ∷ held d qs

abbrev pub NotIn : ℕ → List ℕ → Type 0
NotIn p [] = Unit {0}
NotIn p (q ∷ qs) = (q ≢ p) × NotIn p qs

abbrev pub Distinct : List ℕ → Type 0
Distinct [] = Unit {0}
Distinct (q ∷ qs) = NotIn q qs × Distinct qs

-- Each slot of the list is out.
abbrev pub AllOut : {S : Type 0} → List (Option S) → List ℕ → Type 0
AllOut hs [] = Unit {0}
AllOut hs (q ∷ qs) = (get_elem? hs q ≡ some none) × AllOut hs qs

-- The act that brings p, which stands behind qs, to the front.
abbrev pub front : {S : Type 0} → S → List ℕ → ℕ → Act S
front d [] p = keeps
front d (q ∷ qs) p = chain gives (chain (front d qs p) (chain gives (chain (takes q d) (takes p d))))
