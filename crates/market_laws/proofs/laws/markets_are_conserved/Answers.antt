use Rattle.kernel_copy.specs.Full.{full}
use Rattle.market_laws.proofs.Conserved.{conserved-market}
use Rattle.market_laws.proofs.laws.markets_are_conserved.Goals as goal

pub returns : goal.returns
returns c = λ k b e h l.
    let met = c.runs_are_what_the_exchange_met.ensures k b e h l in
    conserved-market k.opening (full k.opening k.plan b e) met.0 h.opening (c.courses_stay_in_range.ensures.states k b e h l).floor.stocks c.runs_are_conserved.ensures c.matches_are_told.ensures met.1
