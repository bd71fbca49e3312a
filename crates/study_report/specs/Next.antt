-- Records that are read one after another.
use Rattle.std.specs.Prelude.{◌≡◌, Bool, true, false, List, [], ◌∷◌}
use Rattle.market_types.specs.Told.{EventTold}

-- A record was read, where there was one: what was left before it, and what is left behind it.
abbrev pub Leads : Bool → EventTold → List EventTold → List EventTold → Type 0
Leads true r before behind = before ≡ r ∷ behind
Leads false r before behind = before ≡ []
