use Rattle.std.proofs.Common.{take}
use Rattle.rewind_desk.specs.Nearest.{IsNearest}
use Rattle.rewind_desk.proofs.finding.nearest_among.Given as goal

-- the nearest under the keys so far
abbrev pub invariant-loop-key : goal.invariant-loop-key
invariant-loop-key l = IsNearest l.shelf l.last l.event (take l.key-index l.keys) l.found
