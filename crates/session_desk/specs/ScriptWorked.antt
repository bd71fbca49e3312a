-- Acts over a small tree, for worked examples.
use Rattle.std.specs.Prelude.{ℕ, List, [], ◌∷◌}
use Rattle.branch_tree.specs.declared.stop.Stop.TheVariants.{At}
use Rattle.branch_tree.specs.Worked.{branch, nested, root}
use Rattle.market_floor.specs.OpeningWorked.{market, watcher}
use Rattle.kernel_copy.specs.Courses.{CourseTold}
use Rattle.session_desk.specs.Session.{SessionTold, first_session}
use Rattle.session_desk.specs.declared.act.Act.{Act}
use Rattle.session_desk.specs.declared.act.Act.TheVariants.{Fork, Edit as Edited}

-- a market of at most a hundred events, with the root `r`, a branch `x` of it at 6 and a branch `y` of that one at 6
abbrev pub small_course : CourseTold
small_course = record { opening = market 2000 0 (watcher 1000 ∷ []); plan = record { branches = nested; limit = 100 } }

abbrev pub small_session : SessionTold
small_session = first_session small_course

-- the same market with a branch `x` of the root at 1 and a branch `y` of that one at 2
abbrev pub early_session : SessionTold
early_session = first_session (record {
  opening = market 2000 0 (watcher 1000 ∷ []);
  plan = record { branches = root ∷ (branch 120 0 (At 1) ∷ (branch 121 1 (At 2) ∷ [])); limit = 100 };
})

-- a fork and an edit without edits
abbrev pub fork_at : List ℕ → List ℕ → ℕ → Act
fork_at name parent at = Fork name parent at []

abbrev pub no_edits : List ℕ → Act
no_edits name = Edited name []
