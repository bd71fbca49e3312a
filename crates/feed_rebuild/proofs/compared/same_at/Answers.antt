use Rattle.std.proofs.Common.{◌∙◌, false, sym, ap}
use Rattle.std.proofs.lemmas.List.{get_or_default}
use Rattle.market_types.specs.declared.order.Side.TheVariants.{Buy}
use Rattle.feed_rebuild.specs.declared.entries.Entry.{Entry}
use Rattle.feed_rebuild.specs.Compared.{is_same}
use Rattle.feed_rebuild.specs.Entries.{vacant}
use Rattle.feed_rebuild.proofs.Sames.{one-differs}
use Rattle.feed_rebuild.proofs.compared.same_at.Goals as goal

pub returns-then-not-is_one_order-clause-none : goal.returns-then-not-is_one_order-clause-none
returns-then-not-is_one_order-clause-none c =
    let es = c.args.entries.now in
    let at = c.in-Some.at in
    let d : Entry = record { order = record { stock = 0; reference = 0; side = Buy; left = 0; price = 0 }; gone = false } in
    let same = ap (λ (e : Entry). is_same c.args.order.now e.order) (get_or_default es at vacant d c.in-Some.ensures.within) in
    one-differs 0 at c.args.order.now es c.requires c.in-Some.ensures.within (c.in-Some.ensures.found vacant) (same ∙ sym c.is_one_order.ensures ∙ c.if-not-is_one_order.true)
