-- Small lanes.
use Rattle.std.specs.Prelude.{List, [], ◌∷◌}
use Rattle.branch_deques.specs.Lanes.{fresh, having_pushed, having_taken}
use Rattle.branch_deques.specs.declared.rule.LaneView.{LaneView}

-- The owner pushed 0, 1 and 2 and popped 1, and another worker took 0.
abbrev pub two_passes : List LaneView
two_passes = having_taken (1 ∷ []) (having_pushed (0 ∷ 1 ∷ 2 ∷ []) fresh) ∷ having_taken (0 ∷ []) fresh ∷ []
