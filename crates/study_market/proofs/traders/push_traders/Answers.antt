use Rattle.std.proofs.Common.{◌≡◌, ◌∙◌, ◌++◌, ◌∷◌, [], ℕ, List, ap, sym, map, arith}
use Rattle.std.specs.List.{range_with_len}
use Rattle.toml.specs.View.{table_view}
use Rattle.agent_shell.specs.declared.setting.TraderSetting.{TraderSetting}
use Rattle.study_market.specs.AgentRules.{count_of}
use Rattle.study_market.specs.Traders.{trader_of}
use Rattle.study_market.proofs.TraderRanges.{one-trader-more}
use Rattle.study_market.proofs.traders.push_traders.Goals as goal

pub loop-number-preserved : goal.loop-number-preserved
loop-number-preserved c =
    let f : ℕ → TraderSetting = λ n. record (trader_of [] (table_view c.args.agent.now) n) { kind = c.args.kind; stock = c.args.stock } in
    let before = c.args.traders.now.items ++ map f (range_with_len 0 c.loop-number.number) in
    c.in_ok-push.ensures.items
    ∙ ap (λ (xs : List TraderSetting). xs ++ c.trader.result ∷ []) c.loop-number.invariant
    ∙ ap (λ (x : TraderSetting). before ++ x ∷ []) c.trader.ensures
    ∙ sym (one-trader-more c.args.traders.now.items f c.loop-number.number)

pub returns : goal.returns
returns c =
    let f : ℕ → TraderSetting = λ n. record (trader_of [] (table_view c.args.agent.now) n) { kind = c.args.kind; stock = c.args.stock } in
    let all : c.loop-number.number ≡ count_of (table_view c.args.agent.now)
    = omega (arith, c.loop-number-test.false, c.loop-number.auto.number-end, c.count_in-count.ensures) in
    c.loop-number.invariant ∙ ap (λ (n : ℕ). c.args.traders.now.items ++ map f (range_with_len 0 n)) all
