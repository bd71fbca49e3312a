use Rattle.std.proofs.Common.{◌≡◌, ◌+◌, ◌*◌, ◌^◌, ◌+ℤ◌, ℤ, arith, ap, subst, sym, rules}
use Rattle.std.proofs.lemmas.Int.{to_z-of_z}
use Rattle.exchange_agent.specs.Sound.{IsWithin}
use Rattle.exchange_agent.specs.State.{Tally}
use Rattle.exchange_agent.proofs.Withins.{all-within, within-more, within-sum}
use Rattle.exchange_agent.proofs.listing.Listing.settle.Goals as goal

pub returns-clause-small : goal.returns-clause-small
returns-clause-small c = λ orders shares some h.
    let n = c.args.fill.now.shares in
    let tally = c.count.ensures.tally in
    let matched = ap (λ (t : Tally). t.matched) tally in
    let summed : c.summed-out.result ≡ c.args.out.now.fee +ℤ c.both_fees-fees.result = search (rules, c.summed-out.ensures, c.tell.ensures.fee) in
    let within : IsWithin (2 ^ 32 * (shares + n)) c.summed-out.result =
    subst (λ (x : ℤ). IsWithin (2 ^ 32 * (shares + n)) x) (sym summed)
    (within-more (2 ^ 32 * shares + 2 ^ 32 * n) (2 ^ 32 * (shares + n)) (c.args.out.now.fee +ℤ c.both_fees-fees.result) (omega arith) (within-sum (2 ^ 32 * shares) (2 ^ 32 * n) c.args.out.now.fee c.both_fees-fees.result h.fee c.both_fees-fees.ensures.size)) in
    record {
      cash = all-within (2 ^ 63 + 2 ^ 61 * orders + 2 ^ 41 * shares + 2 ^ 41 * n) (2 ^ 63 + 2 ^ 61 * orders + 2 ^ 41 * (shares + n)) _ (omega arith) (c.settle_money.ensures.moves (2 ^ 63 + 2 ^ 61 * orders + 2 ^ 41 * shares) h.cash);
      matches = omega (arith, some, h.matches);
      matched = omega (arith, matched, h.matched);
      taken = within-more (2 ^ 53 * orders + 2 ^ 32 * shares + 2 ^ 32 * n) (2 ^ 53 * orders + 2 ^ 32 * (shares + n)) _ (omega arith) (c.count.ensures.taken (2 ^ 53 * orders + 2 ^ 32 * shares) h.taken);
      positions = all-within (2000000 * orders + 2 * shares + 2 * n) (2000000 * orders + 2 * (shares + n)) _ (omega arith) (c.count.ensures.positions (2000000 * orders + 2 * shares) h.positions);
      fee = grind (arith, to_z-of_z, within);
    }

pub settle_money-requires-clause-few : goal.settle_money-requires-clause-few
settle_money-requires-clause-few c = c.requires.few

pub settle_money-requires-clause-trader : goal.settle_money-requires-clause-trader
settle_money-requires-clause-trader c = c.requires.trader

pub settle_money-requires-clause-exists : goal.settle_money-requires-clause-exists
settle_money-requires-clause-exists c = c.requires.exists

pub settle_money-requires-clause-resting_trader : goal.settle_money-requires-clause-resting_trader
settle_money-requires-clause-resting_trader c = c.requires.resting_trader

pub settle_money-requires-clause-resting_exists : goal.settle_money-requires-clause-resting_exists
settle_money-requires-clause-resting_exists c = c.requires.resting_exists

pub settle_money-requires-clause-small : goal.settle_money-requires-clause-small
settle_money-requires-clause-small c = c.requires.far.cash

pub count-requires-clause-few : goal.count-requires-clause-few
count-requires-clause-few c = c.requires.few

pub count-requires-clause-trader : goal.count-requires-clause-trader
count-requires-clause-trader c = c.requires.trader

pub count-requires-clause-resting_trader : goal.count-requires-clause-resting_trader
count-requires-clause-resting_trader c = c.requires.resting_trader

pub count-requires-clause-exists : goal.count-requires-clause-exists
count-requires-clause-exists c = omega (arith, c.requires.exists, c.requires.traders)

pub count-requires-clause-resting_exists : goal.count-requires-clause-resting_exists
count-requires-clause-resting_exists c = omega (arith, c.requires.resting_exists, c.requires.traders)

pub count-requires-clause-positions : goal.count-requires-clause-positions
count-requires-clause-positions c = c.requires.far.positions

pub count-requires-clause-matched : goal.count-requires-clause-matched
count-requires-clause-matched c = c.requires.far.matched

pub count-requires-clause-taken : goal.count-requires-clause-taken
count-requires-clause-taken c = c.requires.far.taken

pub tell-requires-clause-room : goal.tell-requires-clause-room
tell-requires-clause-room c = c.requires.room

pub tell-requires-clause-feed_room : goal.tell-requires-clause-feed_room
tell-requires-clause-feed_room c = c.requires.feed_room

pub returns-clause-cash : goal.returns-clause-cash
returns-clause-cash c = c.settle_money.ensures.value

pub returns-clause-tally : goal.returns-clause-tally
returns-clause-tally c = c.count.ensures.tally

pub returns-clause-rest : goal.returns-clause-rest
returns-clause-rest c = c.count.ensures.rest

pub returns-clause-book : goal.returns-clause-book
returns-clause-book c = c.count.ensures.book

pub returns-clause-replies : goal.returns-clause-replies
returns-clause-replies c = c.tell.ensures.replies

pub overflow_add-matches : goal.overflow_add-matches
overflow_add-matches c = omega (arith, c.requires.far.matches)
