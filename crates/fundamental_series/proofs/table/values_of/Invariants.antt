use Rattle.std.proofs.Common.{◌≡◌, ◌+◌, ◌^◌, ◌≤◌, length}
use Rattle.fundamental_series.specs.Table.{IsTable}
use Rattle.fundamental_series.specs.Value.{value_after}
use Rattle.fundamental_series.proofs.table.values_of.Given as goal

abbrev pub invariant-loop-step : goal.invariant-loop-step
invariant-loop-step l = record {
  long : length l.values.items ≡ l.step;
  table : IsTable l.key l.stock l.rule l.values.items;
  next : l.value ≡ value_after l.key l.stock l.rule l.step;
  price : l.value ≤ 1999999900;
  stream : l.stream ≡ 2 ^ 33 + l.stock;
}
