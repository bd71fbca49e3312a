use Rattle.std.proofs.Common.{◌≡◌, ◌<◌, Ok, List, length, get_or, sym, subst}
use Rattle.std.specs.List.{AllByRecursion}
use Rattle.feed_rebuild.specs.declared.entries.Entry.{Entry}
use Rattle.feed_rebuild.specs.Entries.{left_with, vacant, IsHeldAt, IsRising}
use Rattle.feed_rebuild.specs.Fold.{deleted, held, Told}
use Rattle.feed_rebuild.proofs.Places.{listed-set, rising-set, same-reference, same-stock, seen, told-deleted}
use Rattle.feed_rebuild.proofs.retold.Retold.delete.Goals as goal

pub invariant_of-self : goal.invariant_of-self
invariant_of-self c =
    let es = c.self.inside.entries.items in
    let e = get_or es c.in-Some.at vacant in
    record {
      rising = subst (λ (v : List Entry). IsRising 0 v) (sym c.leave_with.ensures) (rising-set 0 es c.in-Some.at (left_with 0 e) c.self.invariant.rising (same-reference 0 e));
      listed = subst (λ (v : List Entry). AllByRecursion (λ (e : Entry). e.order.stock < length c.self.inside.states.items) v) (sym c.leave_with.ensures)
          (listed-set (length c.self.inside.states.items) es c.in-Some.at (left_with 0 e) c.self.invariant.listed (same-stock 0 e));
    }

pub returns-clause-told : goal.returns-clause-told
returns-clause-told c =
    let es = c.self.inside.entries.items in
    let there = subst (λ (v : List Entry). IsHeldAt c.args.locate c.args.reference c.in-Some.at v) c.as_slice.ensures.value c.in-Some.ensures.some in
    subst (λ (t : Told). deleted t c.args.locate c.args.reference (held c.args.locate c.args.reference t.orders) ≡ Ok (seen c.leave_with.new.entries.items c.self.inside.states.items)) c.self.view_is
    (told-deleted c.args.locate c.args.reference c.in-Some.at es c.leave_with.new.entries.items c.self.inside.states.items c.self.invariant.rising there c.leave_with.ensures)
