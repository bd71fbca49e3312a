use Rattle.std.proofs.Common.{◌+◌, [], ap, refl, subst, sym, arith}
use Rattle.agent_shell.specs.Bounds.{IsAfter, IsMoved}
use Rattle.agent_shell.specs.Decide.{quoted, woken}
use Rattle.agent_shell.specs.Parts.{trader_of}
use Rattle.agent_shell.specs.Sight.{sight_of}
use Rattle.agent_shell.specs.Sound.{IsTrader}
use Rattle.agent_shell.proofs.Moves.{moved-by, moved-past, quoted-moved, woken-moved}
use Rattle.market_floor.specs.Party.{PartyState}
use Rattle.market_floor.proofs.Parties.{reacted-sent}
use Rattle.market_floor.proofs.party.Party.react.Goals as goal

pub returns-in-Answer-clause-after : goal.returns-in-Answer-clause-after
returns-in-Answer-clause-after c =
    let t = trader_of c.self.inside.past c.self.inside.parts in
    let new = trader_of c.self.inside.past (record c.self.inside.parts { shell = c.take_reply.new.self }) in
    let moved : IsMoved t new = record {
      setting = refl;
      agent = c.take_reply.ensures.agent;
      tokens = omega (arith, c.take_reply.ensures.tokens);
      draws = omega arith;
      quotes = omega arith;
      position = c.take_reply.ensures.position;
      cash = c.take_reply.ensures.cash;
    } in
    λ n h. c.traders_stay_in_range.ensures.steps n t new (subst (IsAfter n) (sym (ap (λ (p : PartyState). p.trader) c.self.view_is)) h) moved

pub returns-in-Wake-clause-sendings : goal.returns-in-Wake-clause-sendings
returns-in-Wake-clause-sendings c =
    reacted-sent (sight_of c.args.view.now) c.args.self.now c.args.body.now (subst IsTrader (ap (λ (p : PartyState). p.trader) c.self.view_is) c.self.invariant.sound)

pub returns-in-Wake-clause-after : goal.returns-in-Wake-clause-after
returns-in-Wake-clause-after c =
    let t = trader_of [] c.self.inside.parts in
    let new = trader_of [] c.wake.new.self in
    let v = sight_of c.args.view.now in
    let moved =
    moved-past c.self.inside.past t new c.args.self.now.trader (ap (λ (p : PartyState). p.trader) c.self.view_is)
    (moved-by c.wake.result t t new (woken v t).trader refl c.wake.ensures.trader c.wake.ensures.unmoved (woken-moved v t)) in
    λ n h. c.traders_stay_in_range.ensures.steps n c.args.self.now.trader (trader_of c.self.inside.past c.wake.new.self) h moved

pub returns-in-Quote-clause-sendings : goal.returns-in-Quote-clause-sendings
returns-in-Quote-clause-sendings c =
    reacted-sent (sight_of c.args.view.now) c.args.self.now c.args.body.now (subst IsTrader (ap (λ (p : PartyState). p.trader) c.self.view_is) c.self.invariant.sound)

pub returns-in-Quote-clause-after : goal.returns-in-Quote-clause-after
returns-in-Quote-clause-after c =
    let t = trader_of c.self.inside.past c.self.inside.parts in
    let new = trader_of c.take_quote.new.past c.take_quote.new.parts in
    let v = sight_of c.args.view.now in
    let q = c.in-Quote.quote in
    let moved =
    moved-by c.take_quote.result t c.args.self.now.trader new (quoted v t q).trader (ap (λ (p : PartyState). p.trader) c.self.view_is)
    c.take_quote.ensures.trader c.take_quote.ensures.unmoved (quoted-moved v t q c.self.invariant.sound) in
    λ n h. c.traders_stay_in_range.ensures.steps n c.args.self.now.trader new h moved

pub returns-in-Wake-2-clause-after : goal.returns-in-Wake-2-clause-after
returns-in-Wake-2-clause-after c = λ n h. c.traders_stay_in_range.ensures.later n (n + 1) c.args.self.now.trader (omega arith) h

pub returns-in-Wake-2-2-clause-after : goal.returns-in-Wake-2-2-clause-after
returns-in-Wake-2-2-clause-after c = λ n h. c.traders_stay_in_range.ensures.later n (n + 1) c.args.self.now.trader (omega arith) h

pub returns-in-Wake-2-3-clause-after : goal.returns-in-Wake-2-3-clause-after
returns-in-Wake-2-3-clause-after c = λ n h. c.traders_stay_in_range.ensures.later n (n + 1) c.args.self.now.trader (omega arith) h

pub returns-in-Wake-2-4-clause-after : goal.returns-in-Wake-2-4-clause-after
returns-in-Wake-2-4-clause-after c = λ n h. c.traders_stay_in_range.ensures.later n (n + 1) c.args.self.now.trader (omega arith) h
