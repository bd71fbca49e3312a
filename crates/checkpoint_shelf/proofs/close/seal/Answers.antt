use Rattle.std.proofs.Common.{ap, sym, ◌∙◌, subst}
use Rattle.std.specs.Mem.Slots.{slots_items, slots_counts}
use Rattle.checkpoint_shelf.specs.Closing.{IsClosed}
use Rattle.checkpoint_shelf.proofs.Closes.{closes}
use Rattle.checkpoint_shelf.proofs.close.seal.Goals as goal

pub invariant_of-result : goal.invariant_of-result
invariant_of-result g c = let e = c.close_with-closed.ensures in let key = c.of-told.ensures in
    let long = sym (slots_counts c.close_with-closed.result.slots).0 ∙ e.counts.1 ∙ c.requires.slots in
    let closed = closes _ g.C.Shelved.key_of g.C.Shelved.course_of c.args.table.shared.key (slots_items c.close_with-closed.result.words) (slots_items c.close_with-closed.result.slots) c.args.first.id c.args.first.me.0 c.requires.fits e.values.2 long c.requires.leads c.requires.made c.requires.met in (
      ap (λ t. t.key.plan) key ∙ c.requires.plan,
      e.values.0,
      e.values.1,
      subst (λ (s : _). IsClosed g.C.Shelved.key_of g.C.Shelved.course_of s.key (slots_items c.close_with-closed.result.words) (slots_items c.close_with-closed.result.slots) c.of-last.result.value.me.0.seen) (sym key)
          (subst (λ (s : _). IsClosed g.C.Shelved.key_of g.C.Shelved.course_of c.args.table.shared.key (slots_items c.close_with-closed.result.words) (slots_items c.close_with-closed.result.slots) s.me.0.seen) (sym c.of-last.ensures) closed),
    )

pub returns-clause-orderly : goal.returns-clause-orderly
returns-clause-orderly g c = let e = c.close_with-closed.ensures in let key = c.of-told.ensures in
    let long = sym (slots_counts c.close_with-closed.result.slots).0 ∙ e.counts.1 ∙ c.requires.slots in
    let closed = closes _ g.C.Shelved.key_of g.C.Shelved.course_of c.args.table.shared.key (slots_items c.close_with-closed.result.words) (slots_items c.close_with-closed.result.slots) c.args.first.id c.args.first.me.0 c.requires.fits e.values.2 long c.requires.leads c.requires.made c.requires.met in
    (subst (λ (s : _). IsClosed g.C.Shelved.key_of g.C.Shelved.course_of s.key (slots_items c.close_with-closed.result.words) (slots_items c.close_with-closed.result.slots) c.of-last.result.value.me.0.seen) (sym key)
    (subst (λ (s : _). IsClosed g.C.Shelved.key_of g.C.Shelved.course_of c.args.table.shared.key (slots_items c.close_with-closed.result.words) (slots_items c.close_with-closed.result.slots) s.me.0.seen) (sym c.of-last.ensures) closed)).orderly
