use Rattle.exchange_agent.proofs.Risings.{absent-any, absent-with, parted, present-any, present-with}
use Rattle.exchange_agent.proofs.tokens.vacant.Goals as goal

pub returns-then-is_there-clause-there : goal.returns-then-is_there-clause-there
returns-then-is_there-clause-there c =
    let there = c.is_there.ensures.some c.if-is_there.true in
    present-any c.args.tokens.now c.args.token.now c.place_of-at.result there.0 (there.1 c.args.token.now)

pub returns-then-is_there-clause-kept : goal.returns-then-is_there-clause-kept
returns-then-is_there-clause-kept c =
    let there = c.is_there.ensures.some c.if-is_there.true in
    present-with c.args.tokens.now c.args.token.now c.place_of-at.result c.requires there.0 (there.1 c.args.token.now)

pub returns-clause-absent : goal.returns-clause-absent
returns-clause-absent c =
    absent-any c.args.tokens.now c.args.token.now c.place_of-at.result
    (parted c.args.tokens.now c.args.token.now c.place_of-at.result c.requires
    (record { within = c.place_of-at.ensures.within; below = c.place_of-at.ensures.below; above = c.place_of-at.ensures.above })
    (λ d. c.is_there.ensures.none d c.if-is_there.false))

pub returns-clause-placed : goal.returns-clause-placed
returns-clause-placed c =
    absent-with c.args.tokens.now c.args.token.now c.place_of-at.result
    (parted c.args.tokens.now c.args.token.now c.place_of-at.result c.requires
    (record { within = c.place_of-at.ensures.within; below = c.place_of-at.ensures.below; above = c.place_of-at.ensures.above })
    (λ d. c.is_there.ensures.none d c.if-is_there.false))
