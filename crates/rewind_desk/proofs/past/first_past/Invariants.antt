use Rattle.std.proofs.Common.{◌≡◌, drop}
use Rattle.rewind_desk.specs.Targets.{past_from, past_of}
use Rattle.rewind_desk.proofs.past.first_past.Given as goal

-- what is first among the rest is first of all
abbrev pub invariant-loop-index : goal.invariant-loop-index
invariant-loop-index l = past_from l.lasts l.index (drop l.index l.targets) ≡ past_of l.lasts l.targets
