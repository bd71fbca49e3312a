-- What runs of segments give.
use Rattle.std.specs.Prelude.{ℕ, List, [], ◌∷◌, ◌++◌, suc, zero}
use Rattle.bundle_frames.specs.declared.closing.Closing.{Closing}
use Rattle.branch_tree.specs.Segments.{segment_at}
use Rattle.kernel_copy.specs.declared.kept.Keep.{Keep}
use Rattle.kernel_copy.specs.declared.run.Outcome.{Outcome}
use Rattle.kernel_copy.specs.Closing.{closing_at}
use Rattle.kernel_copy.specs.Segmentwise.{segment_end, segment_entries}
use Rattle.kernel_copy.specs.Courses.{CourseTold}
use Rattle.kernel_copy.specs.Kept.{KeptTold, kept_told, kept_as}

-- A segment's number, what is kept of its own entries, and the count of events and the closing of the state with which it
-- ends.
pub record OutcomeTold : Type 0 where
  pub segment : ℕ
  pub kept : KeptTold
  pub events : ℕ
  pub closing : Closing

-- what an outcome tells
abbrev pub outcome_told : Outcome → OutcomeTold
outcome_told x = record { segment = x.segment; kept = kept_told x.kept; events = x.events; closing = x.closing }

-- a segment's outcome, where this is to be kept
abbrev pub outcome_of : CourseTold → Keep → ℕ → OutcomeTold
outcome_of c keep s = record {
  segment = s;
  kept = kept_as keep (segment_entries c.opening c.plan (segment_at c.plan s));
  events = (segment_end c.opening c.plan (segment_at c.plan s)).state.events;
  closing = closing_at c.opening (segment_end c.opening c.plan (segment_at c.plan s)).state;
}

-- the outcomes of the segments before this one
abbrev pub outcomes_before : CourseTold → Keep → ℕ → List OutcomeTold
outcomes_before c keep zero = []
outcomes_before c keep (suc n) = outcomes_before c keep n ++ outcome_of c keep n ∷ []
