use Rattle.std.proofs.Common.{◌≡◌, ◌++◌, [], ℕ, map}
use Rattle.std.specs.List.{range_with_len}
use Rattle.toml.specs.View.{table_view}
use Rattle.study_market.specs.Traders.{trader_of}
use Rattle.study_market.proofs.traders.push_traders.Given as goal

abbrev pub invariant-loop-number : goal.invariant-loop-number
invariant-loop-number l =
    l.traders.items ≡ l.fn.traders.items ++ map (λ (n : ℕ). record (trader_of [] (table_view l.agent) n) { kind = l.kind; stock = l.stock }) (range_with_len 0 l.number)
