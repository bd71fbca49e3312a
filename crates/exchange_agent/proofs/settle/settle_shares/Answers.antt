use Rattle.std.proofs.Common.{◌≡◌, ℤ, List, ◌^◌, ap, ◌∙◌, lit≤, ◌+◌, ◌*◌, arith, rules}
use Rattle.exchange_agent.proofs.Withins.{all-within, gained-few, gained-twice, within-more}
use Rattle.exchange_agent.specs.Settle.{gained, shares_gained}
use Rattle.market_types.specs.declared.order.Side.{Side}
use Rattle.market_types.specs.Sides.{opposite_of}
use Rattle.exchange_agent.proofs.settle.settle_shares.Goals as goal

pub returns-clause-moves : goal.returns-clause-moves
returns-clause-moves c = λ b all.
    let n = c.args.fill.now.shares in
    gained-twice b n (b + 2 * n) c.args.fill.now.resting.agent c.args.taking.now.agent c.shares_for-gain.result c.shares_for-gain-2.result c.args.positions.now.items c.gain_shares.new.accounts.items c.gain_shares-2.new.accounts.items
    (search (rules, c.gain_shares.ensures)) (search (rules, c.gain_shares-2.ensures))
    (omega (arith, c.requires.resting_trader, c.requires.resting_exists)) (omega (arith, c.requires.trader, c.requires.exists))
    c.shares_for-gain.ensures.size c.shares_for-gain-2.ensures.size (omega arith) all

pub gain_shares-requires-clause-trader : goal.gain_shares-requires-clause-trader
gain_shares-requires-clause-trader c = c.requires.resting_trader

pub gain_shares-requires-clause-exists : goal.gain_shares-requires-clause-exists
gain_shares-requires-clause-exists c = c.requires.resting_exists

pub gain_shares-requires-clause-small : goal.gain_shares-requires-clause-small
gain_shares-requires-clause-small c = all-within (2 ^ 50) (2 ^ 60) c.args.positions.now.items (lit≤ tt) c.requires.small

pub gain_shares-requires-2-clause-trader : goal.gain_shares-requires-2-clause-trader
gain_shares-requires-2-clause-trader c = c.requires.trader

pub gain_shares-requires-2-clause-small : goal.gain_shares-requires-2-clause-small
gain_shares-requires-2-clause-small c =
    let n = c.args.fill.now.shares in
    gained-few c.args.fill.now.resting.agent c.shares_for-gain.result c.args.positions.now.items c.gain_shares.new.accounts.items (search (rules, c.gain_shares.ensures))
    (omega (arith, c.requires.resting_trader, c.requires.resting_exists)) (within-more n (2 ^ 40) c.shares_for-gain.result (omega (arith, c.requires.few)) c.shares_for-gain.ensures.size) c.requires.small

pub returns-clause-value : goal.returns-clause-value
returns-clause-value c =
    let n = c.args.fill.now.shares in
    let side = c.args.taking.now.side in
    let first = c.args.fill.now.resting.agent in
    let second = c.args.taking.now.agent in
    let xs = c.args.positions.now.items in
    let ys = c.gain_shares.new.accounts.items in
    let zs = c.gain_shares-2.new.accounts.items in
    let first_is : ys ≡ gained first c.shares_for-gain.result xs = search (rules, c.gain_shares.ensures) in
    let second_is : zs ≡ gained second c.shares_for-gain-2.result ys = search (rules, c.gain_shares-2.ensures) in
    let once : ys ≡ gained first (shares_gained (opposite_of side) n) xs = first_is ∙ ap (λ (m : ℤ). gained first m xs) (c.shares_for-gain.ensures.value ∙ ap (λ (s : Side). shares_gained s n) c.opposite.ensures) in
    second_is ∙ ap (λ (m : ℤ). gained second m ys) c.shares_for-gain-2.ensures.value ∙ ap (λ (zs : List ℤ). gained second (shares_gained side n) zs) once
