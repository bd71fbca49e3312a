use Rattle.std.proofs.Common.{◌≡◌, ◌∙◌, ◌∷◌, [], ◌++◌, ap, of_z, rules, subst, sym, to_z, w64}
use Rattle.market_types.specs.declared.entry.Entry.{Entry}
use Rattle.market_types.specs.Told.{edit_told, entry_told, event_told}
use Rattle.probe_desk.specs.Sums.{AreSums}
use Rattle.probe_desk.proofs.Summing.{sums-edit, sums-more}
use Rattle.probe_desk.proofs.summed.Summed.push.Goals as goal

pub invariant_of-self-in-Event : goal.invariant_of-self-in-Event
invariant_of-self-in-Event c =
    let fee : to_z w64 (of_z w64 c.in-Event.e.fee) ≡ c.in-Event.e.fee = search rules in
    let before = c.self.inside.packed.list in
    sums-more c.self.inside.sums c.of.result _ before _ (event_told c.in-Event.e) _ c.followed_by-self-inside.ensures.sums c.of.ensures.value c.of.ensures.few fee c.self.invariant
    (c.in_ok-push.ensures.pushed ∙ ap (λ (x : Entry). before ++ entry_told x ∷ []) c.in-Event.is)

pub invariant_of-self-in_default : goal.invariant_of-self-in_default
invariant_of-self-in_default c =
    let before = c.self.inside.packed.list in
    subst (λ es. AreSums c.self.inside.sums es) (sym (c.in_ok-push.ensures.pushed ∙ ap (λ (x : Entry). before ++ entry_told x ∷ []) c.in_default.is))
    (sums-edit c.self.inside.sums before (edit_told c.in_default.field-0) c.self.invariant)
