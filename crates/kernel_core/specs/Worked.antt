-- Worked runs, told in short.
use Rattle.std.specs.Prelude.{ℕ, Bool, false, List, [], map, length, Option}
use Rattle.market_types.specs.declared.entry.End.{End}
use Rattle.market_types.specs.Told.{EntryTold, event, edit}
use Rattle.market_floor.specs.declared.opening.Opening.{Opening}
use Rattle.kernel_core.specs.Open.{opened}
use Rattle.kernel_core.specs.Step.{end_of}
use Rattle.kernel_core.specs.Until.{Run, until}
use Rattle.kernel_core.specs.Due.{due_by, until_time}

abbrev pub opening_run : Opening → Run
opening_run o = record { state = opened o; entries = [] }

abbrev pub full_run : Opening → Run
full_run o = until o o.limit (opening_run o)

-- An event in short: its number, its time, the number of its message, sender, receiver, whether it was put back, and the
-- receiver's own time afterwards. Of an edit its count of events and its time.
abbrev pub Row : Type 0
Row = ℕ × ℕ × ℕ × ℕ × ℕ × Bool × ℕ

abbrev pub row_of : EntryTold → Row
row_of (event e) = (e.number, e.time, e.seq, e.from, e.to, e.put_back, e.until)
row_of (edit e) = (e.events, e.time, 0, 0, 0, false, 0)

abbrev pub rows : Run → List Row
rows r = map row_of r.entries

-- how a run ended: why, how many messages wait, and the number of the next one
abbrev pub ended : Opening → Run → Option End × ℕ × ℕ
ended o r = (end_of o r.state, length r.state.post.waiting, r.state.post.next_seq)

-- How far a run came up to a time: how many events stand, when the last of them was, and whether one more is due by then.
abbrev pub standing : Opening → ℕ → Run → ℕ × ℕ × Bool
standing o when r = (r.state.events, r.state.time, due_by o when r.state)

-- how far a run from the opening comes up to a time with no more than so many events
abbrev pub reached : Opening → ℕ → ℕ → ℕ × ℕ × Bool
reached o when most = standing o when (until_time o when most (opening_run o))
