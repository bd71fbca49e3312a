use Rattle.std.proofs.Common.{◌≡◌, ◌<◌, ◌-◌, ℕ, Ok, Err, List, length, get_or, set, sym, ap, ◌∙◌, subst, arith}
use Rattle.std.specs.List.{AllByRecursion}
use Rattle.feed_rebuild.specs.declared.entries.Entry.{Entry}
use Rattle.feed_rebuild.specs.declared.shown.AuditError.{AuditError}
use Rattle.feed_rebuild.specs.Entries.{left_with, vacant, IsHeldAt, IsMisfitOf, IsRising}
use Rattle.feed_rebuild.specs.Fold.{held, lowered, Told}
use Rattle.feed_rebuild.proofs.Places.{listed-set, not_lowered, rising-set, same-reference, same-stock, seen, told-lowered}
use Rattle.feed_rebuild.proofs.retold.Retold.lower.Goals as goal

pub returns-then-left-shares-clause-misfit : goal.returns-then-left-shares-clause-misfit
returns-then-left-shares-clause-misfit c =
    let es = c.self.inside.entries.items in
    let there = subst (λ (v : List Entry). IsHeldAt c.args.locate c.args.reference c.in-Some.at v) c.as_slice.ensures.value c.in-Some.ensures.some in
    let left : c.left_at-left.result ≡ (get_or es c.in-Some.at vacant).order.left = c.left_at-left.ensures ∙ ap (λ (v : List Entry). (get_or v c.in-Some.at vacant).order.left) c.as_slice-2.ensures.value in
    let told = subst (λ (t : Told). lowered t c.args.locate c.args.reference c.args.shares (held c.args.locate c.args.reference t.orders) ≡ Err c.args.reference) c.self.view_is
    (not_lowered c.args.locate c.args.reference c.args.shares c.in-Some.at es c.self.inside.states.items c.self.invariant.rising there (omega (arith, left))) in
    subst (λ (e : AuditError). IsMisfitOf (lowered c.args.self.now c.args.locate c.args.reference c.args.shares (held c.args.locate c.args.reference c.args.self.now.orders)) e) (sym c.misfit-then-left-shares.ensures) told

pub invariant_of-self : goal.invariant_of-self
invariant_of-self c =
    let es = c.self.inside.entries.items in
    let e = get_or es c.in-Some.at vacant in
    let n = c.left_at-left.result - c.args.shares in
    record {
      rising = subst (λ (v : List Entry). IsRising 0 v) (sym c.leave_with.ensures) (rising-set 0 es c.in-Some.at (left_with n e) c.self.invariant.rising (same-reference n e));
      listed = subst (λ (v : List Entry). AllByRecursion (λ (e : Entry). e.order.stock < length c.self.inside.states.items) v) (sym c.leave_with.ensures)
          (listed-set (length c.self.inside.states.items) es c.in-Some.at (left_with n e) c.self.invariant.listed (same-stock n e));
    }

pub returns-clause-told : goal.returns-clause-told
returns-clause-told c =
    let es = c.self.inside.entries.items in
    let at = c.in-Some.at in
    let there = subst (λ (v : List Entry). IsHeldAt c.args.locate c.args.reference at v) c.as_slice.ensures.value c.in-Some.ensures.some in
    let left : c.left_at-left.result ≡ (get_or es at vacant).order.left = c.left_at-left.ensures ∙ ap (λ (v : List Entry). (get_or v at vacant).order.left) c.as_slice-2.ensures.value in
    let set_to = c.leave_with.ensures ∙ ap (λ (n : ℕ). set es at (left_with (n - c.args.shares) (get_or es at vacant))) left in
    subst (λ (t : Told). lowered t c.args.locate c.args.reference c.args.shares (held c.args.locate c.args.reference t.orders) ≡ Ok (seen c.leave_with.new.entries.items c.self.inside.states.items)) c.self.view_is
    (told-lowered c.args.locate c.args.reference c.args.shares at es c.leave_with.new.entries.items c.self.inside.states.items c.self.invariant.rising there (omega (arith, left)) set_to)
