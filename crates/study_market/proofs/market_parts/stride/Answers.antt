use Rattle.std.proofs.Common.{◌≡◌, ◌∙◌, ap, unsigned_abs, rules}
use Rattle.study_market.proofs.market_parts.stride.Goals as goal

pub returns : goal.returns
returns c =
    let said : c.unsigned_abs.result ≡ unsigned_abs c.number_or.result = search rules in
    said ∙ ap unsigned_abs c.number_or.ensures
