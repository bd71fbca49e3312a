use Rattle.std.proofs.Common.{◌≡◌, ◌++◌, drop}
use Rattle.std.specs.List.{flat_map}
use Rattle.session_desk.specs.Answered.{value_frame}
use Rattle.session_desk.proofs.frames.put_values.Given as goal

-- what was appended and what is still to come
abbrev pub invariant-loop-value : goal.invariant-loop-value
invariant-loop-value l =
    l.out.items ++ flat_map value_frame (drop l.value-index l.values) ≡ l.initial.out.items ++ flat_map value_frame l.values
