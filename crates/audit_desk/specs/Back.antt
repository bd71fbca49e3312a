-- What reading the bundle of a course answers.
use Rattle.std.specs.Prelude.{ℕ, zero, suc, ◌+◌, List, [], ◌∷◌, ◌++◌, length}
use Rattle.branch_tree.specs.Plan.{branch_at}
use Rattle.kernel_copy.specs.Closing.{closing_at}
use Rattle.kernel_copy.specs.Courses.{CourseTold}
use Rattle.kernel_copy.specs.Full.{full_run}
use Rattle.trace_bundle.specs.Bundle.{parent_written, stop_written}
use Rattle.trace_bundle.specs.Feed.{opening_feed, system_event}
use Rattle.bundle_reader.specs.Told.{BranchTold, BundleTold}
use Rattle.audit_desk.specs.AsRead.{as_read}

-- a branch: its own name, its parent and stop as they are written, the feed of the opening, the entries of its full run as they are read, the end of
-- the feed, and the closing of its run
abbrev pub branch_back : CourseTold → ℕ → BranchTold
branch_back c b = record {
  name = (branch_at c.plan.branches b).name;
  parent = parent_written c b;
  stop = stop_written c b;
  opening = opening_feed c.opening;
  entries = as_read (full_run c.opening c.plan b).entries;
  ended = system_event (full_run c.opening c.plan b).state.time 67;
  closing = closing_at c.opening (full_run c.opening c.plan b).state;
}

-- the first n branches
abbrev pub branches_back : CourseTold → ℕ → List BranchTold
branches_back c zero = []
branches_back c (suc n) = branches_back c n ++ branch_back c n ∷ []

-- the bundle: all branches, beside how many agents with the exchange and how many stocks there are
abbrev pub bundle_back : CourseTold → BundleTold
bundle_back c = record {
  agents = length c.opening.traders + 1;
  stocks = length c.opening.stocks;
  branches = branches_back c (length c.plan.branches);
}
