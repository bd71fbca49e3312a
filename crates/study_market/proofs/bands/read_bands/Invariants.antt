use Rattle.std.proofs.Common.{◌≡◌, map, take, true}
use Rattle.std.specs.List.{list_all}
use Rattle.toml.specs.View.{view}
use Rattle.toml.specs.declared.value.Value.{Value}
use Rattle.study_market.specs.StockRules.{band_in, is_band}
use Rattle.study_market.proofs.bands.read_bands.Given as goal

abbrev pub invariant-loop-value : goal.invariant-loop-value
invariant-loop-value l = record {
  said : l.bands.items ≡ map band_in (map view (take l.value-index l.values));
  kept : list_all (λ (v : Value). is_band (view v)) (take l.value-index l.values) ≡ true;
}
