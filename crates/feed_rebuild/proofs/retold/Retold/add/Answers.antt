use Rattle.std.proofs.Common.{◌≡◌, ◌<◌, true, false, None, Ok, List, length, sym, ap, ◌∙◌, subst, arith}
use Rattle.std.specs.List.{AllByRecursion}
use Rattle.feed_rebuild.specs.declared.entries.Entry.{Entry}
use Rattle.feed_rebuild.specs.Entries.{last_from, IsRising}
use Rattle.feed_rebuild.specs.Fold.{added, is_later, is_listed, Told}
use Rattle.feed_rebuild.proofs.Places.{listed-below, listed-pushed, rising-pushed, seen, told-added}
use Rattle.feed_rebuild.proofs.retold.Retold.add.Goals as goal

pub invariant_of-self-2 : goal.invariant_of-self-2
invariant_of-self-2 c =
    let es = c.self.inside.entries.items in
    let x : Entry = record { order = c.args.order; gone = false } in
    let l = sym c.is_listed.ensures ∙ c.if-not-is_listed.false in
    let later : is_later (last_from None es) c.args.order.reference ≡ true = ap (λ (v : List Entry). is_later (last_from None v) c.args.order.reference) (sym c.as_slice.ensures.value) ∙ sym c.is_above.ensures ∙ c.if-not-is_above.false in
    record {
      rising = subst (λ (v : List Entry). IsRising 0 v) (sym c.in_ok-join.ensures.joined) (rising-pushed 0 None es x c.self.invariant.rising later (λ n t. omega arith));
      listed = subst (λ (v : List Entry). AllByRecursion (λ (e : Entry). e.order.stock < length c.self.inside.states.items) v) (sym c.in_ok-join.ensures.joined)
          (listed-pushed (length c.self.inside.states.items) es x c.self.invariant.listed (listed-below c.args.locate c.args.order.stock (seen es c.self.inside.states.items) (ap (λ (t : Told). is_listed t c.args.locate) c.self.view_is ∙ l) c.requires));
    }

pub returns-clause-told : goal.returns-clause-told
returns-clause-told c =
    let es = c.self.inside.entries.items in
    let l = sym c.is_listed.ensures ∙ c.if-not-is_listed.false in
    let later : is_later (last_from None es) c.args.order.reference ≡ true = ap (λ (v : List Entry). is_later (last_from None v) c.args.order.reference) (sym c.as_slice.ensures.value) ∙ sym c.is_above.ensures ∙ c.if-not-is_above.false in
    subst (λ (t : Told). added t c.args.locate c.args.order ≡ Ok (seen c.join.new.entries.items c.self.inside.states.items)) c.self.view_is
    (told-added c.args.locate c.args.order es c.join.new.entries.items c.self.inside.states.items (ap (λ (t : Told). is_listed t c.args.locate) c.self.view_is ∙ l) later c.in_ok-join.ensures.joined)
