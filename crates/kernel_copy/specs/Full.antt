-- The full run of a branch, which goes from the opening and knows no segment.
use Rattle.std.specs.Prelude.{ℕ, nat_le, if◌then◌else◌, List, [], ◌∷◌, drop}
use Rattle.branch_tree.specs.declared.branch.Branch.{Branch}
use Rattle.branch_tree.specs.Plan.{Plan, branch_at, stop_at}
use Rattle.branch_tree.specs.declared.stop.Stop.{Stop}
use Rattle.branch_tree.specs.Paths.{path_of}
use Rattle.market_floor.specs.declared.opening.Opening.{Opening}
use Rattle.kernel_core.specs.Open.{opened}
use Rattle.kernel_core.specs.Until.{Run, until}
use Rattle.kernel_core.specs.Edited.{edited}
use Rattle.kernel_copy.specs.UntilStop.{until_stop}

-- the run before the first event
abbrev pub opening_run : Opening → Run
opening_run o = record { state = opened o; entries = [] }

-- a branch's edits, made in a run
abbrev pub edited_by : List Branch → ℕ → Run → Run
edited_by branches b r = edited b (branch_at branches b).edits r

-- a run along these branches: to each one's stop or the end before it, and there its edits
abbrev pub forked : Opening → List Branch → List ℕ → Run → Run
forked o branches [] r = r
forked o branches (c ∷ cs) r = forked o branches cs (edited_by branches c (until_stop o (stop_at branches c) r))

-- the branches on a branch's path after the root
abbrev pub forks_of : List Branch → ℕ → List ℕ
forks_of branches b = drop 1 (path_of branches b)

-- a branch's run at its beginning, with its own edits made
unfoldable pub begun : Opening → Plan → ℕ → Run
begun o p b = forked o p.branches (forks_of p.branches b) (opening_run o)

-- a branch's run at a stop of its own
abbrev pub reach : Opening → Plan → ℕ → Stop → Run
reach o p b stop = until_stop o stop (begun o p b)

-- A run along these branches up to e events, with the edits at e included: at each branch's stop its edits are made,
-- unless the run stands past e there.
abbrev pub full_along : Opening → List Branch → ℕ → List ℕ → Run → Run
full_along o branches e [] r = until o e r
full_along o branches e (c ∷ cs) r =
    if nat_le (until_stop o (stop_at branches c) r).state.events e
    then full_along o branches e cs (edited_by branches c (until_stop o (stop_at branches c) r))
    else until o e r

-- a branch's full run up to e events, with the edits at e included
unfoldable pub full : Opening → Plan → ℕ → ℕ → Run
full o p b e = full_along o p.branches e (forks_of p.branches b) (opening_run o)

-- a branch's full run
abbrev pub full_run : Opening → Plan → ℕ → Run
full_run o p b = full o p b o.limit
