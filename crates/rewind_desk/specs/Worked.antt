-- Keys, states and a course for worked examples.
use Rattle.std.specs.Prelude.{ℕ, [], ◌∷◌, codes}
use Rattle.market_floor.specs.OpeningWorked.{market_of, watcher}
use Rattle.branch_tree.specs.declared.branch.Branch.{Branch}
use Rattle.branch_tree.specs.declared.stop.Stop.TheVariants.{At}
use Rattle.shelf_core.specs.declared.plan.Key.{Key}
use Rattle.kernel_copy.specs.Courses.{CourseTold}
use Rattle.rewind_desk.specs.declared.near.Near.{Near}

-- the key of an event number in a segment
abbrev pub key_at : ℕ → ℕ → Key
key_at s e = record { segment = s; event = e }

-- a state at such a key with as many events
abbrev pub near_at : ℕ → ℕ → Near
near_at s e = record { key = key_at s e; events = e }

abbrev pub root : Branch
root = record { name = codes "root"; parent = 0; stop = At 0; edits = [] }

-- Two watchers wake, ask for quotes and get them: six events, of at most ten.
abbrev pub six_events : CourseTold
six_events = record {
  opening = market_of 2000 10 0 (watcher 1000 ∷ watcher 1000 ∷ []);
  plan = record { branches = root ∷ []; limit = 10 };
}
