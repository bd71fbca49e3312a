use Rattle.std.proofs.Common.{◌≡◌, ◌∙◌, ap, sym, List, rules}
use Rattle.market_rules.specs.declared.bands.Band.{Band}
use Rattle.market_rules.specs.Ticks.{tick_of}
use Rattle.market_rules.proofs.Tables.{tick_here, no_band}
use Rattle.market_rules.proofs.ticks.TickTable.tick_at.Goals as goal

pub returns-clause-value : goal.returns-clause-value
returns-clause-value c =
    let xs = c.as_slice-bands.result.now in
    let q : c.args.self.now ≡ xs = search rules in
    let p : c.args.price ≡ c.from.result = search rules in
    sym (ap (λ (b : List Band). tick_of b c.args.price) q ∙ ap (tick_of xs) p ∙ tick_here c.from.result xs no_band c.place_of.result c.place_of.ensures.within (c.place_of.ensures.starts no_band) (c.place_of.ensures.later no_band))
