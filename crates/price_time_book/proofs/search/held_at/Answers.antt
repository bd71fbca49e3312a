use Rattle.std.proofs.Common.{◌∙◌, ap, sym, option_map}
use Rattle.std.proofs.lemmas.Option.{slice_get-get_or}
use Rattle.price_time_book.specs.Indexed.{nothing}
use Rattle.price_time_book.proofs.search.held_at.Goals as goal

pub returns-in_err-at-clause-held : goal.returns-in_err-at-clause-held
returns-in_err-at-clause-held c = ap (option_map (λ p. p.1)) c.from_residual.ensures ∙ sym c.in_err-at.ensures.absent

pub returns-clause-held : goal.returns-clause-held
returns-clause-held c =
    let os = c.args.orders.now in
    let w = c.in_ok-at.ensures.within in
    sym (c.in_ok-at.ensures.found ∙ sym (slice_get-get_or os c.in_ok-at.at nothing w) ∙ slice_get-get_or os c.in_ok-at.at _ w)

pub returns-clause-place : goal.returns-clause-place
returns-clause-place c = slice_get-get_or c.args.orders.now c.in_ok-at.at _ c.in_ok-at.ensures.within
