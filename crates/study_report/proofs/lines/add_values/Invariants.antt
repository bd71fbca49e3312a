use Rattle.std.proofs.Common.{◌≡◌, ◌++◌, [], map, drop}
use Rattle.std.specs.Fmt.{signed_decimal}
use Rattle.csv.specs.Records.{fields_of, partial_of}
use Rattle.study_report.proofs.lines.add_values.Given as goal

abbrev pub invariant-loop-value : goal.invariant-loop-value
invariant-loop-value l =
    (partial_of l.line ≡ [])
    × (fields_of l.line ++ map signed_decimal (drop l.value-index l.values) ≡ fields_of l.initial.line ++ map signed_decimal l.values)
