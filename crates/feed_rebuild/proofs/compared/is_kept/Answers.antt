use Rattle.std.proofs.Common.{◌∙◌, not, false, sym, ap}
use Rattle.std.proofs.lemmas.List.{get_or_default}
use Rattle.market_types.specs.declared.order.Side.TheVariants.{Buy}
use Rattle.feed_rebuild.specs.declared.entries.Entry.{Entry}
use Rattle.feed_rebuild.specs.Entries.{vacant}
use Rattle.feed_rebuild.proofs.Sames.{none-kept, one-kept}
use Rattle.feed_rebuild.proofs.compared.is_kept.Goals as goal

pub returns-in_default : goal.returns-in_default
returns-in_default c = sym (none-kept c.args.order.now c.args.entries.now c.in_default.ensures.none)

pub returns : goal.returns
returns c =
    let es = c.args.entries.now in
    let at = c.in-Some.at in
    let d : Entry = record { order = record { stock = 0; reference = 0; side = Buy; left = 0; price = 0 }; gone = false } in
    ap (λ (e : Entry). not e.gone) (get_or_default es at d vacant c.in-Some.ensures.within) ∙ one-kept 0 at c.args.order.now es c.requires c.in-Some.ensures.within c.in-Some.ensures.same
