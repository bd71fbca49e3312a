use Rattle.std.proofs.Common.{◌∙◌, ap, sym, option_map}
use Rattle.std.proofs.lemmas.Option.{slice_get-get_or}
use Rattle.price_time_book.specs.Indexed.{nothing}
use Rattle.price_time_book.proofs.search.order_of.Goals as goal

pub returns-in_err-at : goal.returns-in_err-at
returns-in_err-at c = ap (option_map (λ o. o.now)) c.from_residual.ensures ∙ sym c.in_err-at.ensures.absent

pub returns : goal.returns
returns c =
    let os = c.args.orders.now in
    let w = c.in_ok-at.ensures.within in
    sym (c.in_ok-at.ensures.found ∙ sym (slice_get-get_or os c.in_ok-at.at nothing w) ∙ slice_get-get_or os c.in_ok-at.at _ w)
