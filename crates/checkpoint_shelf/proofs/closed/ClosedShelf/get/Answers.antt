use Rattle.std.proofs.Common.{arith, ◌≡◌, ◌+◌, ap, sym, ◌∙◌, subst, Some}
use Rattle.std.specs.Arc.{arc_value}
use Rattle.std.specs.Mem.Slots.{slots_counts, slots_items}
use Rattle.shelf_core.specs.Plan.{place_of}
use Rattle.shelf_core.specs.Words.{is_ready}
use Rattle.shelf_core.specs.Possible.{word_at}
use Rattle.shelf_core.proofs.Lists.{some_same, not_some}
use Rattle.shelf_core.proofs.Plans.{place_below}
use Rattle.checkpoint_shelf.proofs.Closes.{closed_word_at, ready_value}
use Rattle.checkpoint_shelf.proofs.closed.ClosedShelf.get.Goals as goal

pub word-requires : goal.word-requires
word-requires g c = let inv = c.self.invariant in
    let low = place_below c.self.inside.told.value.key.plan c.args.key c.in-Some.place (ap (λ p. place_of p c.args.key) c.self.invariant.0 ∙ sym c.rising_place_of.ensures ∙ c.in-Some.is) in
    let long = inv.3.words_long in let count = (slots_counts c.self.inside.closed.words).0 in (omega arith, inv.1)

pub returns-then-not-is_ready_of-clause-none : goal.returns-then-not-is_ready_of-clause-none
returns-then-not-is_ready_of-clause-none g c = let at = closed_word_at c.self.inside.told.value.key.plan c.self.inside.told.value.key.seats (slots_items c.self.inside.closed.words) c.self.inside.last.value.me.0.seen c.args.key c.in-Some.place (c.in-Some.place + 1) c.word.result (ap (λ p. place_of p c.args.key) c.self.invariant.0 ∙ sym c.rising_place_of.ensures ∙ c.in-Some.is) (omega arith) c.word.ensures in
    ap (λ s. is_ready c.args.key (word_at s.system c.args.key)) (sym c.self.view_is) ∙ ap (is_ready c.args.key) at ∙ ap (λ w. is_ready c.args.key (Some w)) (sym c.decode-word.ensures) ∙ sym c.is_ready_of.ensures ∙ c.if-not-is_ready_of.true

pub get-requires : goal.get-requires
get-requires g c = let inv = c.self.invariant in
    let low = place_below c.self.inside.told.value.key.plan c.args.key c.in-Some.place (ap (λ p. place_of p c.args.key) c.self.invariant.0 ∙ sym c.rising_place_of.ensures ∙ c.in-Some.is) in
    let long = inv.3.slots_long in let count = (slots_counts c.self.inside.closed.slots).0 in (omega arith, inv.2 c.in-Some.place (omega arith) (omega arith))

pub returns-in-Some-get-clause-some : goal.returns-in-Some-get-clause-some
returns-in-Some-get-clause-some g c = let key = c.args.key in let of = ap (λ p. place_of p key) c.self.invariant.0 ∙ sym c.rising_place_of.ensures ∙ c.in-Some.is in
    let at = closed_word_at c.self.inside.told.value.key.plan c.self.inside.told.value.key.seats (slots_items c.self.inside.closed.words) c.self.inside.last.value.me.0.seen key c.in-Some.place (c.in-Some.place + 1) c.word.result of (omega arith) c.word.ensures in
    let ready = ap (λ w. is_ready key (Some w)) (sym c.decode-word.ensures) ∙ sym c.is_ready_of.ensures ∙ c.if-not-is_ready_of.false in
    let v = ready_value _ _ _ _ _ _ c.self.invariant.3 key c.in-Some.place (c.in-Some.place + 1) c.word.result c.get.result.now of (omega arith) c.word.ensures ready c.get.ensures in
    let same = some_same _ _ (sym v.1 ∙ c.in-Some-get.is) in (
      ap (λ s. is_ready key (word_at s.system key)) (sym c.self.view_is) ∙ ap (is_ready key) at ∙ ready,
      subst (λ a. g.C.Shelved.key_of (arc_value a) ≡ key) same v.2,
      subst (λ a. g.C.Shelved.course_of (arc_value a) ≡ c.args.self.now.course) same (v.3 ∙ ap (λ s. s.course) c.self.view_is),
    )

pub returns-in-None-clause-none : goal.returns-in-None-clause-none
returns-in-None-clause-none g c = let key = c.args.key in let of = ap (λ p. place_of p key) c.self.invariant.0 ∙ sym c.rising_place_of.ensures ∙ c.in-Some.is in
    let ready = ap (λ w. is_ready key (Some w)) (sym c.decode-word.ensures) ∙ sym c.is_ready_of.ensures ∙ c.if-not-is_ready_of.false in
    let v = ready_value _ _ _ _ _ _ c.self.invariant.3 key c.in-Some.place (c.in-Some.place + 1) c.word.result c.get.result.now of (omega arith) c.word.ensures ready c.get.ensures in
    absurd (not_some v.0 (sym c.in-None.is ∙ v.1))
