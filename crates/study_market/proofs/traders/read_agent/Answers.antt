use Rattle.std.proofs.Common.{◌≡◌, ◌∙◌, ◌++◌, true, map, ap, rules}
use Rattle.toml.specs.View.{table_view, view}
use Rattle.study_market.specs.StockRules.{symbol_in}
use Rattle.study_market.specs.AgentRules.{has_timing}
use Rattle.study_market.specs.Entries.{place_of}
use Rattle.study_market.proofs.TraderRanges.{loosely, same-traders}
use Rattle.study_market.proofs.traders.read_agent.Goals as goal

pub push_traders-requires : goal.push_traders-requires
push_traders-requires c =
    let reading = c.args.reading.now in
    let timed : has_timing reading.groups reading.start (table_view c.args.agent.now) ≡ true = search rules in
    record { timing = loosely reading.groups reading.start (table_view c.args.agent.now) reading.square timed }

pub returns-clause-said : goal.returns-clause-said
returns-clause-said c = λ none.
    let known = map symbol_in (map view c.args.reading.now.stocks.now) in
    c.in_ok-push_traders.ensures
    ∙ ap (λ xs. c.args.traders.now.items ++ xs)
    (same-traders known (table_view c.args.agent.now) c.in-Some-read_kind.kind c.in-Some.stock c.in-Some-read_kind.ensures.said
    (c.in-Some.ensures.said ∙ ap (place_of known) c.string_at.ensures))
