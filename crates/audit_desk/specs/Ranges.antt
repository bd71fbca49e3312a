-- Courses whose names and runs the fields of a bundle can hold.
use Rattle.std.specs.Prelude.{◌<◌, ℕ, Option, Some, length, All}
use Rattle.market_types.specs.declared.feed.Feed.{Feed}
use Rattle.market_types.specs.Told.{EntryTold, event, edit}
use Rattle.branch_tree.specs.declared.branch.Branch.{Branch}
use Rattle.branch_tree.specs.Names.{IsNameLength}
use Rattle.kernel_copy.specs.Closing.{closing_at}
use Rattle.bundle_reader.specs.Frames.{HasRanges}
use Rattle.bundle_reader.specs.declared.frame.Frame.TheVariants as frame
use Rattle.bundle_reader.specs.Bundle.{closing_list, event_part}
use Rattle.kernel_copy.specs.Courses.{CourseTold}
use Rattle.kernel_copy.specs.Full.{full_run}

-- Each field of an event, of its body and of the messages of its own feed is in its range. Of the feed before an event and of
-- edits nothing is asked.
abbrev pub IsEventInRange : Option ℕ → EntryTold → Type 0
IsEventInRange stocks (event e) = HasRanges stocks (frame.Event (event_part e)) × All (λ (m : Feed). HasRanges stocks (frame.Message m)) e.after
IsEventInRange stocks (edit d) = Unit {0}

-- So it is of each event of a branch's full run, and each field of the run's closing is in its range.
pub record IsRunInRange (c : CourseTold) (b : ℕ) : Type 0 where
  pub events : All (IsEventInRange (Some (length c.opening.stocks))) (full_run c.opening c.plan b).entries
  pub closing : All (HasRanges (Some (length c.opening.stocks))) (closing_list (closing_at c.opening (full_run c.opening c.plan b).state))

-- Each branch has a name of 1 to 32 bytes, and a run whose fields are in their ranges.
pub record IsInRange (c : CourseTold) : Type 0 where
  pub names : All (λ (b : Branch). IsNameLength (length b.name)) c.plan.branches
  pub runs : (b : ℕ) → b < length c.plan.branches → IsRunInRange c b
