use Rattle.std.proofs.Common.{◌≡◌, map, take, unsigned_abs}
use Rattle.toml.specs.View.{view}
use Rattle.toml.specs.Data.{Data}
use Rattle.study_file.specs.Values.{number_in}
use Rattle.study_market.proofs.latencies.jitter_numbers.Given as goal

abbrev pub invariant-loop-item : goal.invariant-loop-item
invariant-loop-item l = l.numbers.items ≡ map (λ (x : Data). unsigned_abs (number_in x)) (map view (take l.item-index l.items))
