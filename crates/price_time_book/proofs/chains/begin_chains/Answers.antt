use Rattle.std.proofs.Common.{◌≡◌, ◌∙◌, length, get_or, ap, sym, arith, rules}
use Rattle.std.proofs.lemmas.List.{get_or_past}
use Rattle.price_time_book.proofs.Befores.{zeros}
use Rattle.price_time_book.proofs.chains.begin_chains.Goals as goal

pub returns-clause-same : goal.returns-clause-same
returns-clause-same c = λ chain.
    let none : length c.args.lasts.now.items ≡ 0 = search rules in
    ap (λ v. get_or v chain 0) c.in-Ok.ensures ∙ zeros 512 chain ∙ sym (get_or_past c.args.lasts.now.items chain 0 (omega (arith, none)))
