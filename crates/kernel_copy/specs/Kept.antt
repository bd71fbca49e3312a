-- What is kept of the entries of a segment's run.
use Rattle.std.specs.Prelude.{ℕ, List, [], ◌++◌, All}
use Rattle.std.specs.List.{flat_map}
use Rattle.market_types.specs.Told.{EntryTold, EventTold}
use Rattle.market_types.specs.Timely.{IsTimely}
use Rattle.bundle_frames.specs.Frames.{entry_frames, event_frames}
use Rattle.kernel_copy.specs.declared.kept.Keep.{Keep}
use Rattle.kernel_copy.specs.declared.kept.Keep.TheVariants as keep
use Rattle.kernel_copy.specs.declared.kept.Kept.{Kept}
use Rattle.kernel_copy.specs.declared.kept.Kept.TheVariants as kept
use Rattle.kernel_copy.specs.declared.tally.Tally.{Tally}
use Rattle.kernel_copy.specs.Tallies.{tally_of, tally_with}

-- Entries, or the bytes of their frames, or how many those bytes are and their sum, or nothing of them.
pub data KeptTold : Type 0 where
  entries : List EntryTold → KeptTold
  frames : List ℕ → KeptTold
  tallied : Tally → KeptTold
  nothing : KeptTold

abbrev pub kept_told : Kept → KeptTold
kept_told (kept.Entries summed) = entries summed.list
kept_told (kept.Frames bytes) = frames bytes.items
kept_told (kept.Tallied tally) = tallied tally
kept_told kept.Nothing = nothing

-- what is kept of these entries
abbrev pub kept_as : Keep → List EntryTold → KeptTold
kept_as keep.Entries xs = entries xs
kept_as keep.Frames xs = frames (flat_map entry_frames xs)
kept_as keep.Tallied xs = tallied (tally_of (flat_map entry_frames xs))
kept_as keep.Nothing xs = nothing

-- what is kept once more entries came
abbrev pub kept_with : KeptTold → List EntryTold → KeptTold
kept_with (entries xs) more = entries (xs ++ more)
kept_with (frames bytes) more = frames (bytes ++ flat_map entry_frames more)
kept_with (tallied tally) more = tallied (tally_with tally (flat_map entry_frames more))
kept_with nothing more = nothing

-- the bytes of frames once those of one event more came
abbrev pub with_event_frames : List ℕ → EventTold → List ℕ
with_event_frames bytes e = bytes ++ event_frames e

-- the tally of frames once those of one event more came
abbrev pub with_event_tally : Tally → EventTold → Tally
with_event_tally tally e = tally_with tally (event_frames e)

-- the bytes of the frames of what is kept; none where a tally is kept, or nothing
abbrev pub frames_of : KeptTold → List ℕ
frames_of (entries xs) = flat_map entry_frames xs
frames_of (frames bytes) = bytes
frames_of (tallied tally) = []
frames_of nothing = []

-- Its frames can be written: the times of each entry's feed fit a frame; bytes are written already, and where no frames are
-- kept there are none to write.
abbrev pub IsWritable : KeptTold → Type 0
IsWritable (entries xs) = All IsTimely xs
IsWritable (frames bytes) = Unit {0}
IsWritable (tallied tally) = Unit {0}
IsWritable nothing = Unit {0}

-- With this the frames are kept, or the entries that tell them.
abbrev pub KeepsFrames : Keep → Type 0
KeepsFrames keep.Entries = Unit {0}
KeepsFrames keep.Frames = Unit {0}
KeepsFrames keep.Tallied = ⊥
KeepsFrames keep.Nothing = ⊥

-- With this the tally of the frames is kept, or what tells it.
abbrev pub KeepsTally : Keep → Type 0
KeepsTally keep.Entries = Unit {0}
KeepsTally keep.Frames = Unit {0}
KeepsTally keep.Tallied = Unit {0}
KeepsTally keep.Nothing = ⊥
