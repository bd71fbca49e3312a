-- The bundle of a course of two branches, byte by byte: one watcher would first wake after the close, so that no event comes.
use Rattle.std.specs.Prelude.{ℕ, List, [], ◌∷◌, ◌++◌, replicate, codes}
use Rattle.market_floor.specs.declared.opening.Opening.{Opening}
use Rattle.market_floor.specs.OpeningWorked.{market, watcher}
use Rattle.market_types.specs.Told.{EntryTold, edit}
use Rattle.branch_tree.specs.declared.stop.Stop.{Stop}
use Rattle.branch_tree.specs.declared.stop.Stop.TheVariants.{At, When}
use Rattle.kernel_copy.specs.Courses.{CourseTold}

-- the root, and a branch from it at this stop that changes nothing
abbrev pub forked_course : Opening → Stop → CourseTold
forked_course opening stop = record {
  opening = opening;
  plan = record {
    branches = record { name = codes "root"; parent = 0; stop = At 0; edits = [] } ∷ record { name = codes "x"; parent = 0; stop = stop; edits = [] } ∷ [];
    limit = 100;
  };
}

-- a branch before the first event, and one at a time by which no event came
abbrev pub quiet_course : CourseTold
quiet_course = forked_course (market 1000 0 (watcher 2000 ∷ [])) (At 0)

abbrev pub quiet_course_by_time : CourseTold
quiet_course_by_time = forked_course (market 1000 0 (watcher 2000 ∷ [])) (When 1000)

-- two watchers wake at 1000 and ask for quotes, which the exchange hears at 1005
abbrev pub two_watchers : Opening
two_watchers = market 2000 0 (watcher 1000 ∷ watcher 1000 ∷ [])

-- the header: two agents with the exchange, one stock, two branches
abbrev pub header_bytes : List ℕ
header_bytes = 0 ∷ 9 ∷ 104 ∷ 0 ∷ 1 ∷ 0 ∷ 2 ∷ 0 ∷ 1 ∷ 0 ∷ 2 ∷ []

-- the branch 0, which has no parent
abbrev pub root_bytes : List ℕ
root_bytes = 0 ∷ 14 ∷ 98 ∷ 0 ∷ 0 ∷ 255 ∷ 255 ∷ 0 ∷ 0 ∷ 0 ∷ 0 ∷ 4 ∷ 114 ∷ 111 ∷ 111 ∷ 116 ∷ []

-- the branch 1 of the parent 0
abbrev pub fork_bytes : List ℕ
fork_bytes = 0 ∷ 11 ∷ 98 ∷ 0 ∷ 1 ∷ 0 ∷ 0 ∷ 0 ∷ 0 ∷ 0 ∷ 0 ∷ 1 ∷ 120 ∷ []

-- System Event `O`, Stock Directory and Stock Trading Action of `ABM`, and System Event `C`
abbrev pub feed_bytes : List ℕ
feed_bytes =
    (0 ∷ 12 ∷ 83 ∷ []) ++ replicate 8 0 ++ (3 ∷ 232 ∷ 79 ∷ [])
    ++ (0 ∷ 39 ∷ 82 ∷ 0 ∷ 1 ∷ []) ++ replicate 6 0 ++ (3 ∷ 232 ∷ 65 ∷ 66 ∷ 77 ∷ 32 ∷ 32 ∷ 32 ∷ 32 ∷ 32 ∷ 81 ∷ 78 ∷ 0 ∷ 0 ∷ 0 ∷ 100 ∷ 78 ∷ 67 ∷ 90 ∷ 32 ∷ 84 ∷ 78 ∷ 78 ∷ 32 ∷ 78 ∷ 0 ∷ 0 ∷ 0 ∷ 0 ∷ 78 ∷ [])
    ++ (0 ∷ 25 ∷ 72 ∷ 0 ∷ 1 ∷ []) ++ replicate 6 0 ++ (3 ∷ 232 ∷ 65 ∷ 66 ∷ 77 ∷ 32 ∷ 32 ∷ 32 ∷ 32 ∷ 32 ∷ 84 ∷ 32 ∷ 32 ∷ 32 ∷ 32 ∷ 32 ∷ [])
    ++ (0 ∷ 12 ∷ 83 ∷ []) ++ replicate 8 0 ++ (3 ∷ 232 ∷ 67 ∷ [])

-- an agent of a number, with its own time at the opening
abbrev pub agent_bytes : ℕ → List ℕ
agent_bytes agent = (0 ∷ 78 ∷ 97 ∷ 0 ∷ agent ∷ 78 ∷ []) ++ replicate 6 0 ++ (3 ∷ 232 ∷ []) ++ replicate 66 0

-- the closing: the counters of a closed state in which one message waits, the stock, the exchange and the watcher
abbrev pub closing_bytes : List ℕ
closing_bytes =
    (0 ∷ 66 ∷ 99 ∷ 67 ∷ []) ++ replicate 10 0 ++ (3 ∷ 232 ∷ []) ++ replicate 7 0 ++ (1 ∷ 0 ∷ 0 ∷ 0 ∷ 1 ∷ []) ++ replicate 40 0
    ++ (0 ∷ 44 ∷ 115 ∷ 0 ∷ 0 ∷ 84 ∷ []) ++ replicate 40 0 ++ agent_bytes 0 ++ agent_bytes 1

abbrev pub quiet_bundle : List ℕ
quiet_bundle =
    header_bytes ++ (root_bytes ++ feed_bytes ++ closing_bytes) ++ (fork_bytes ++ feed_bytes ++ closing_bytes)
    ++ 0 ∷ 3 ∷ 122 ∷ 0 ∷ 2 ∷ []

-- the edit of this place of branch 1 at the opening, a halt
abbrev pub halt_at : ℕ → EntryTold
halt_at index = edit (record { events = 0; time = 1000; branch = 1; index = index; letter = 84; feed = [] })

-- its frame
abbrev pub halt_bytes : ℕ → List ℕ
halt_bytes index = 0 ∷ 18 ∷ 100 ∷ 0 ∷ 0 ∷ 0 ∷ 0 ∷ 0 ∷ 0 ∷ 0 ∷ 0 ∷ 0 ∷ 0 ∷ 3 ∷ 232 ∷ 0 ∷ 1 ∷ 0 ∷ index ∷ 84 ∷ []
