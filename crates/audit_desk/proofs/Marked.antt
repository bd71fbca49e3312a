-- The edits of a run and its feed fit the fields of a bundle.
use Rattle.std.proofs.Common.{ℕ, ◌<◌, List, [], ◌∷◌, length, All, arith}
use Rattle.std.proofs.lemmas.List.Elements.{All-cons, All-head, All-nil, All-tail}
use Rattle.market_types.specs.Told.{EntryTold, event, edit}
use Rattle.wire_fields.specs.Wire.{IsInRange}
use Rattle.bundle_frames.specs.Layouts.{edit_kinds}
use Rattle.bundle_frames.specs.Wires.{edit_wire}
use Rattle.kernel_copy.specs.Courses.{CourseTold, IsCourse}
use Rattle.kernel_copy.specs.Full.{full, full_run}
use Rattle.market_laws.specs.Fields.{HasFeedInRange, HasMark, IsFeedInRange}
use Rattle.market_laws.proofs.FeedRanges.{all-parts}
use Rattle.market_laws.proofs.Texts.{all-in, eight, four, two}
use Rattle.audit_desk.proofs.Around.{byte-in}

-- each message of an entry's feed is in its ranges, and so is an edit's frame
abbrev pub IsMarkedInRange : EntryTold → Type 0
IsMarkedInRange (event e) = All IsFeedInRange e.before × All IsFeedInRange e.after
IsMarkedInRange (edit d) = IsInRange (edit_wire d) × All IsFeedInRange d.feed

marked-in : (x : EntryTold) → HasFeedInRange x → HasMark x → IsMarkedInRange x
marked-in (event e) feed mark = all-parts IsFeedInRange e.before e.after feed
marked-in (edit d) feed mark = (
  all-in edit_kinds (edit_wire d).values
      (four d.events (omega (arith, mark.events)), (eight d.time (omega (arith, mark.time)), (two d.branch (omega (arith, mark.branch)), (two d.index (omega (arith, mark.index)), (byte-in d.letter mark.letter, tt))))),
  feed,
)

all-marked : (xs : List EntryTold) → All HasFeedInRange xs → All HasMark xs → All IsMarkedInRange xs
all-marked [] feeds marks = All-nil IsMarkedInRange
all-marked (x ∷ xs) feeds marks =
    All-cons IsMarkedInRange x xs (marked-in x (All-head HasFeedInRange x xs feeds) (All-head HasMark x xs marks))
    (all-marked xs (All-tail HasFeedInRange x xs feeds) (All-tail HasMark x xs marks))

-- so it is of each entry of each branch's full run
abbrev pub MarkedOf : CourseTold → Type 0
MarkedOf c = (b : ℕ) → b < length c.plan.branches → All IsMarkedInRange (full_run c.opening c.plan b).entries

-- what the laws of feeds and of edits say
abbrev pub FeedsInRange : Type 0
FeedsInRange = (c : CourseTold) (b e : ℕ) → IsCourse c → b < length c.plan.branches → All HasFeedInRange (full c.opening c.plan b e).entries

abbrev pub EditsMarked : Type 0
EditsMarked = (c : CourseTold) (b e : ℕ) → IsCourse c → b < length c.plan.branches → All HasMark (full c.opening c.plan b e).entries

pub are-marked : (c : CourseTold) → IsCourse c → FeedsInRange → EditsMarked → MarkedOf c
are-marked c is feeds marks b l =
    let e = c.opening.limit in
    all-marked (full_run c.opening c.plan b).entries (feeds c b e is l) (marks c b e is l)
