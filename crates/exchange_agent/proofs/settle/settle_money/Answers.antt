use Rattle.std.proofs.Common.{◌+◌, ◌*◌, ◌^◌, arith, lit≤, rules}
use Rattle.exchange_agent.proofs.Withins.{all-within, gained-small, gained-twice, within-more}
use Rattle.exchange_agent.proofs.settle.settle_money.Goals as goal

pub gain_money-requires-2-clause-small : goal.gain_money-requires-2-clause-small
gain_money-requires-2-clause-small c =
    let n = c.args.fill.now.shares in
    gained-small c.args.fill.now.resting.agent c.net_for-gain.result c.args.cash.now.items c.gain_money.new.accounts.items
    (search (rules, c.gain_money.ensures)) (omega (arith, c.requires.resting_trader, c.requires.resting_exists)) (within-more (2 ^ 40 * n) (2 ^ 80) c.net_for-gain.result (omega (arith, c.requires.few)) c.net_for-gain.ensures.size) c.requires.small

pub returns-clause-moves : goal.returns-clause-moves
returns-clause-moves c = λ b all.
    let n = c.args.fill.now.shares in
    gained-twice b (2 ^ 40 * n) (b + 2 ^ 41 * n) c.args.fill.now.resting.agent c.args.taking.now.agent c.net_for-gain.result c.net_for-gain-2.result c.args.cash.now.items c.gain_money.new.accounts.items c.gain_money-2.new.accounts.items
    (search (rules, c.gain_money.ensures)) (search (rules, c.gain_money-2.ensures))
    (omega (arith, c.requires.resting_trader, c.requires.resting_exists)) (omega (arith, c.requires.trader, c.requires.exists))
    c.net_for-gain.ensures.size c.net_for-gain-2.ensures.size (omega arith) all

pub net_for-gain-requires-clause-few : goal.net_for-gain-requires-clause-few
net_for-gain-requires-clause-few c = c.requires.few

pub gain_money-requires-clause-trader : goal.gain_money-requires-clause-trader
gain_money-requires-clause-trader c = c.requires.resting_trader

pub gain_money-requires-clause-exists : goal.gain_money-requires-clause-exists
gain_money-requires-clause-exists c = c.requires.resting_exists

pub gain_money-requires-clause-small : goal.gain_money-requires-clause-small
gain_money-requires-clause-small c = all-within (2 ^ 100) (2 ^ 120) c.args.cash.now.items (lit≤ tt) c.requires.small

pub net_for-gain-requires-2-clause-few : goal.net_for-gain-requires-2-clause-few
net_for-gain-requires-2-clause-few c = c.requires.few

pub gain_money-requires-2-clause-trader : goal.gain_money-requires-2-clause-trader
gain_money-requires-2-clause-trader c = c.requires.trader

pub returns-clause-value : goal.returns-clause-value
returns-clause-value c = search rules
