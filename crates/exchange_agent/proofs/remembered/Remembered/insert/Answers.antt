use Rattle.std.proofs.Common.{ℕ, ◌+◌, List, length, ap, sym, ◌∙◌}
use Rattle.exchange_agent.specs.declared.pair.Pair.{Pair}
use Rattle.exchange_agent.specs.Pairs.{by_pair, has_pair}
use Rattle.exchange_agent.specs.Remembered.{pairs_from}
use Rattle.exchange_agent.proofs.Admissions.{not-there}
use Rattle.exchange_agent.proofs.Pairs.{length-insert_key}
use Rattle.exchange_agent.proofs.remembered.Remembered.insert.Goals as goal

pub invariant_of-self-2 : goal.invariant_of-self-2
invariant_of-self-2 c =
    let old = pairs_from 0 c.self.inside.agents.items in
    let pair = c.args.pair in
    ap (λ (n : ℕ). n + 1) c.self.invariant
    ∙ sym (ap (λ (ps : List Pair). length ps) c.in-Ok.ensures.keys
    ∙ length-insert_key by_pair pair old (not-there c.in-Ok.added (has_pair pair old) c.in-Ok.ensures.added c.if-not-added.false))
