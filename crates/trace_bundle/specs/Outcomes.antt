-- A run of a course's segments as a list of outcomes.
use Rattle.std.specs.Prelude.{ℕ, List, [], map, slice_index_or}
use Rattle.bundle_frames.specs.declared.closing.Closing.{Closing}
use Rattle.kernel_copy.specs.declared.run.Outcome.{Outcome}
use Rattle.kernel_copy.specs.Kept.{entries}
use Rattle.kernel_copy.specs.Outcomes.{OutcomeTold, outcome_told}

-- the closing of no segment
abbrev pub no_closing : Closing
no_closing = record {
  counts = record { end = 0; events = 0; time = 0; next_seq = 0; waiting = 0; dropped = 0; enters = 0; cancels = 0; orders = 0; matches = 0 };
  stocks = [];
  orders = [];
  agents = [];
}

-- the outcome of no segment
abbrev pub no_outcome : OutcomeTold
no_outcome = record { segment = 0; kept = entries []; events = 0; closing = no_closing }

-- what is told of a segment
abbrev pub outcome_at : List OutcomeTold → ℕ → OutcomeTold
outcome_at xs s = slice_index_or xs s no_outcome

-- what a list of outcomes tells
abbrev pub all_told : List Outcome → List OutcomeTold
all_told xs = map outcome_told xs
