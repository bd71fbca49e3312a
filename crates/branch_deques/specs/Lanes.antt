-- What is pushed on a lane is what is taken from it and what it holds.
use Rattle.std.specs.Prelude.{◌≡◌, ℕ, ◌+◌, ◌<◌, ◌==◌, if◌then◌else◌, All, List, [], ◌∷◌, ◌++◌, Some, slice_get, slice_set}
use Rattle.branch_deques.specs.declared.rule.LaneView.{LaneView}

-- A pass that did nothing yet; and one that also pushed these, or took them.
abbrev pub fresh : LaneView
fresh = record { pushed = []; taken = [] }

abbrev pub having_pushed : List ℕ → LaneView → LaneView
having_pushed xs v = record v { pushed = v.pushed ++ xs }

abbrev pub having_taken : List ℕ → LaneView → LaneView
having_taken xs v = record v { taken = v.taken ++ xs }

-- How often a segment stands in a list.
abbrev pub times : ℕ → List ℕ → ℕ
times x [] = 0
times x (y ∷ ys) = (if y == x then 1 else 0) + times x ys

-- A number of each view, added up.
abbrev pub total : (LaneView → ℕ) → List LaneView → ℕ
total count [] = 0
total count (v ∷ views) = count v + total count views

-- The rule of a lane between any two steps, whatever passes it has: what was pushed is, each as often, what was taken
-- and what it holds; and each segment that it holds is below the room.
pub record Stands (room : ℕ) (held : List ℕ) (views : List LaneView) : Type 0 where
  pub balanced : (x : ℕ) → total (λ v. times x v.pushed) views ≡ total (λ v. times x v.taken) views + times x held
  pub below : All (λ x. x < room) held

-- A pass with the view v pushed these on a lane that stood, and the lane stands with the pass's new view. The rule counts
-- segments, so this says nothing of their order on the lane.
pub record Pushed (room : ℕ) (xs : List ℕ) (v w : LaneView) : Type 0 where
  pub held : List ℕ
  pub views : List LaneView
  pub pass : ℕ
  pub before : Stands room held views
  pub had : slice_get views pass ≡ Some v
  pub after : Stands room (held ++ xs) (slice_set views pass w)
  pub is : w ≡ having_pushed xs v

-- A pass with the view v took these from a lane that stood, and the lane stands with the pass's new view. Nor does this
-- say where on the lane they stood.
pub record Took (room : ℕ) (xs : List ℕ) (v w : LaneView) : Type 0 where
  pub rest : List ℕ
  pub views : List LaneView
  pub pass : ℕ
  pub before : Stands room (xs ++ rest) views
  pub had : slice_get views pass ≡ Some v
  pub after : Stands room rest (slice_set views pass w)
  pub is : w ≡ having_taken xs v
