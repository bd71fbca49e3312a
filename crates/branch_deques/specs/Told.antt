-- What contracts see of a worker's lane.
use Rattle.std.specs.Prelude.{◌≡◌, ℕ, ◌+◌, List, [], ◌∷◌, ◌++◌, Some, slice_get, map, take, drop}
use Rattle.std.specs.declared.alloc.Global.{Global}
use Rattle.atomic_blocks.specs.Lent.{RowsId}
use Rattle.branch_deques.specs.declared.rule.LaneView.{LaneView}
use Rattle.branch_deques.specs.Lanes.{fresh, Took}

-- Which lane it is.
abbrev pub LaneId : Type 0
LaneId = RowsId × Global

-- An end of a lane: which lane, and what its pass did there.
pub record EndTold : Type 0 where
  pub lane : LaneId
  pub view : LaneView

-- A worker's lane: the end at which it pushes and pops, and its ends of the others' lanes.
pub record LaneTold : Type 0 where
  pub own : EndTold
  pub others : List EndTold

abbrev pub fresh_end : LaneId → EndTold
fresh_end lane = record { lane = lane; view = fresh }

-- The others of these lanes, from the one behind number n on and round to the one before it.
abbrev pub round : ℕ → List LaneId → List LaneId
round n lanes = drop (n + 1) lanes ++ take n lanes

abbrev pub own_lanes : List LaneTold → List LaneId
own_lanes lanes = map (λ l. l.own.lane) lanes

-- The lanes as they are opened: on none was anything done, and each has an end of each other.
abbrev pub AreOpened : List LaneTold → Type 0
AreOpened lanes = (n : ℕ) (lane : LaneTold) → slice_get lanes n ≡ Some lane →
    (lane.own.view ≡ fresh) × (lane.others ≡ map fresh_end (round n (own_lanes lanes)))

-- One of the ends took a segment, and the others are as they were.
pub record Stole (room x : ℕ) (before after : List EndTold) : Type 0 where
  pub passed : List EndTold
  pub from : EndTold
  pub others : List EndTold
  pub view : LaneView
  pub was : before ≡ passed ++ from ∷ others
  pub is : after ≡ passed ++ record { lane = from.lane; view = view } ∷ others
  pub took : Took room (x ∷ []) from.view view
