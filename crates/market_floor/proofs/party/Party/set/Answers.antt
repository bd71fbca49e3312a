use Rattle.std.proofs.Common.{ap, subst, sym}
use Rattle.agent_shell.specs.Bounds.{IsAfter}
use Rattle.market_floor.specs.Party.{PartyState}
use Rattle.market_floor.proofs.party.Party.set.Goals as goal

pub returns-clause-after : goal.returns-clause-after
returns-clause-after c = λ n h.
    let before = subst (IsAfter n) (sym (ap (λ (p : PartyState). p.trader) c.self.view_is)) h in
    record { tokens = before.tokens; draws = before.draws; quotes = before.quotes; position = before.position; cash = before.cash }
