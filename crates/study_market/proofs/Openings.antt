-- What an accepted study says is an opening.
use Rattle.std.proofs.Common.{◌≡◌, ◌<◌, ◌≤◌, ◌&&◌, Bool, pos, List, length, map, None, arith, codes}
use Rattle.std.specs.Prelude.{int_le}
use Rattle.std.specs.Int.{is_in_range}
use Rattle.std.proofs.lemmas.Bool.{and_parts}
use Rattle.std.proofs.lemmas.List.{length-map}
use Rattle.toml.specs.Data.{Data, Members}
use Rattle.agent_shell.specs.declared.setting.TraderSetting.{TraderSetting}
use Rattle.fundamental_series.specs.declared.rule.SeriesRow.{SeriesRow}
use Rattle.market_floor.specs.Opening.{IsOpening}
use Rattle.study_file.specs.Values.{number_at, number_or, is_between, has_between, broken_unless}
use Rattle.study_market.specs.MarketRules.{opens_at, closes_at, start_of, close_of, size_of, bases, exchange_of, is_group, day_broken, limits_broken, exchange_broken}
use Rattle.study_market.specs.StockRules.{stocks, stock_count_broken}
use Rattle.study_market.specs.Entries.{entry_of, natural_at}
use Rattle.study_market.specs.Market.{numbers_in}
use Rattle.study_market.specs.Stocks.{stock_of}
use Rattle.study_market.specs.Traders.{traders_of}
use Rattle.study_market.specs.Opening.{opening_of, limit_of, stride_of, IsAccepted}
use Rattle.study_market.proofs.Held.{AreHeld, are-held, both-none, held-unless}
use Rattle.study_market.proofs.Numbers.{Within, natural-between, natural-in-range, group-below, hours}
use Rattle.study_market.proofs.StockRanges.{are-stocks}
use Rattle.study_market.proofs.Symbols.{are-distinct}
use Rattle.study_market.proofs.SeriesRanges.{are-series}
use Rattle.study_market.proofs.LatencyRanges.{are-latencies}
use Rattle.study_market.proofs.PartDates.{are-dated}
use Rattle.study_market.proofs.TraderRanges.{how-many, are-traders}

-- the hours of the market
day : (t : Members) → day_broken t ≡ None → (start_of t ≤ close_of t) × (close_of t ≤ 86399999999999)
day t h =
    hours (opens_at t) (closes_at t) (held-unless (int_le (pos 0) (opens_at t) && int_le (opens_at t) (closes_at t) && int_le (closes_at t) (pos 86399999999999)) 0 h)

pub limits : (t : Members) → limits_broken t ≡ None → Within 1 1000000 (limit_of t) × Within 100 1000000 (stride_of t)
limits t h =
    let events : Bool = has_between (pos 1) (pos 1000000) (codes "events") t in
    let stride : Bool = is_between (pos 100) (pos 1000000) (number_or (pos 10000) (codes "stride") t) in
    let parts = both-none (broken_unless events 0) (broken_unless stride 1) h in
    (natural-between 1 1000000 (number_at (codes "events") t) (held-unless events 0 parts.0), natural-between 100 1000000 (number_or (pos 10000) (codes "stride") t) (held-unless stride 1 parts.1))

pub exchange : (t : Members) → exchange_broken t ≡ None → (natural_at (codes "group") (exchange_of t) < size_of t) × (natural_at (codes "delay") (exchange_of t) ≤ 3600000000000)
exchange t h =
    let delay : Bool = has_between (pos 0) (pos 3600000000000) (codes "delay") (exchange_of t) in
    let parts = and_parts (is_group (size_of t) (exchange_of t)) delay (held-unless (is_group (size_of t) (exchange_of t) && delay) 0 h) in
    (group-below (size_of t) (number_at (codes "group") (exchange_of t)) parts.0, (natural-between 0 3600000000000 (number_at (codes "delay") (exchange_of t)) parts.1).not_above)

pub how-many-stocks : (t : Members) → stock_count_broken t ≡ None → Within 1 16 (length (stocks t))
how-many-stocks t h = natural-in-range 1 16 (length (stocks t)) (held-unless (is_in_range 1 16 (length (stocks t))) 0 h)

pub is-opening : (t : Members) (tables : List (List SeriesRow)) → IsAccepted t tables → IsOpening (opening_of t tables)
is-opening t tables accepted =
    let h : AreHeld t tables = are-held t tables accepted in
    let hours_held = day t h.day in
    let events : Within 1 1000000 (limit_of t) = (limits t h.limits).0 in
    let exchange_held = exchange t h.exchange in
    let listed : Within 1 16 (length (stocks t)) = how-many-stocks t h.stock_count in
    let same : length (map (λ (d : Data). stock_of (entry_of d)) (stocks t)) ≡ length (stocks t) = length-map (stocks t) (λ (d : Data). stock_of (entry_of d)) in
    let acting = how-many t h.counts in record {
      close = hours_held.1;
      start = hours_held.0;
      some = events.not_below;
      limit = events.not_above;
      groups = are-latencies t h.squares h.cells;
      exchange_group = omega (arith, exchange_held.0, length-map (bases t) numbers_in);
      exchange_delay = exchange_held.1;
      market = record {
        some = omega (arith, same, listed.not_below);
        few = omega (arith, same, listed.not_above);
        distinct = are-distinct t h.symbol_texts h.repeats;
        traders = omega (arith, acting.1, length-map (traders_of t) (λ (s : TraderSetting). s.cash));
      };
      stocks = are-stocks t h.symbol_texts h.bands h.fees;
      series = are-series t accepted.series tables accepted.rows h.stock_keys h.prices h.pace h.late;
      dated = are-dated t tables h.change_keys h.dates h.change_stocks h.new_rules;
      some_trader = acting.0;
      traders = are-traders t tables h.timing h.agent_stocks h.own;
    }
