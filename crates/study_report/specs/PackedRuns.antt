-- What is left to read of a run.
use Rattle.std.specs.Prelude.{List, ◌++◌, drop}
use Rattle.std.specs.List.{flat_map}
use Rattle.market_types.specs.Told.{EventTold}
use Rattle.study_report.specs.declared.packed_run.PackedRun.{PackedRun}
use Rattle.study_report.specs.Difference.{events_in}

abbrev pub left_in : PackedRun → List EventTold
left_in r = events_in (r.walk ++ flat_map (λ t. t.now.list) (drop r.place r.parts.now))
