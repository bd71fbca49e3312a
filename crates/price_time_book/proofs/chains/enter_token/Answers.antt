use Rattle.std.proofs.Common.{◌≡◌, ◌<◌, ◌++◌, ◌∷◌, ◌∙◌, [], length, get_or, ap, arith, rules}
use Rattle.std.proofs.lemmas.List.{get_or_default}
use Rattle.price_time_book.proofs.Befores.{chained_joined}
use Rattle.price_time_book.proofs.chains.enter_token.Goals as goal

pub returns-clause-chained : goal.returns-clause-chained
returns-clause-chained c = λ os h free.
    let k = c.args.chains.now in
    let at = c.chain_of-chain.result in
    let fits : at < length k.lasts.items = omega (arith, c.chain_of-chain.ensures.within, c.requires.begun) in
    let value : c.index-before.result.now ≡ get_or k.lasts.items at 0 = c.index-before.ensures ∙ get_or_default k.lasts.items at c.index-before.result.now 0 fits in
    chained_joined os c.args.order.now k.lasts.items k.befores.items _ _ at c.chain_of-chain.ensures.value fits (c.in-Ok.ensures.items ∙ ap (λ n. k.befores.items ++ n ∷ []) value) (search rules) h free
