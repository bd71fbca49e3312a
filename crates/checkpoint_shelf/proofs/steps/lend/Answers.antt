use Rattle.std.proofs.Common.{arith, ◌≡◌, refl, sym, ap, ◌∙◌, subst, ◌∷◌, Some, None, eq-eqb, ne_eqb}
use Rattle.shelf_core.specs.Plan.{place_of}
use Rattle.shelf_core.specs.After.{with_loan}
use Rattle.shelf_core.specs.declared.words.PlaceWord.TheVariants.{Ready, Lent}
use Rattle.shelf_core.specs.declared.event.Event.TheVariants.{Lend}
use Rattle.atomic_table.specs.Table.{rest}
use Rattle.checkpoint_shelf.specs.Codes.{place_code}
use Rattle.checkpoint_shelf.specs.Holds.{seeing}
use Rattle.shelf_core.specs.Made.{Makes}
use Rattle.checkpoint_shelf.proofs.Codes.{key_fits}
use Rattle.checkpoint_shelf.proofs.Loans.{lends}
use Rattle.shelf_core.proofs.Facts.{at_true, at_false}
use Rattle.checkpoint_shelf.proofs.Hands.{found_seat, found_seen, front_is}
use Rattle.shelf_core.proofs.Lists.{some_same}
use Rattle.std.specs.Arc.{arc_value}
use Rattle.checkpoint_shelf.proofs.steps.lend.Goals as goal

pub encode-old-requires : goal.encode-old-requires
encode-old-requires g c = key_fits c.args.table.now.key.plan c.args.key c.args.place c.requires.seat.fits.plan c.requires.place

pub encode-mine-requires : goal.encode-mine-requires
encode-mine-requires g c = let small = c.requires.seat.small in let most = c.requires.seat.fits.seats.1 in (key_fits c.args.table.now.key.plan c.args.key c.args.place c.requires.seat.fits.plan c.requires.place, omega arith)

pub compare_exchange-found-requires : goal.compare_exchange-found-requires
compare_exchange-found-requires g c = let w = c.requires.words in let a = c.requires.aim in
    let low = Rattle.shelf_core.proofs.Plans.place_below c.args.table.now.key.plan c.args.key c.args.place c.requires.place in (
      c.requires.table,
      omega arith,
      lends _ _ _ c.args.table.now.key _ _ c.args.number _ c.args.place _ _ g.B.Aim.key _ c.requires.seat c.requires.slots (omega arith) (c.encode-old.ensures ∙ ap (λ x. place_code (Ready x)) (sym a)) (c.encode-mine.ensures ∙ ap (λ x. place_code (Lent x c.args.number)) (sym a))
          (ap (place_of c.args.table.now.key.plan) a ∙ c.requires.place),
    )

pub returns-then-found-old-clause-not : goal.returns-then-found-old-clause-not
returns-then-found-old-clause-not g c = let all = c.compare_exchange-found.ensures.2 c.args.table.now.key c.requires.seat.about c.args.place (omega arith) in
    let x = at_false _ _ _ (ne_eqb c.compare_exchange-found.result c.encode-old.result c.if-found-old.true) all in
    let s = found_seen c.args.table.now.key c.args.number c.args.seat.now.me c.compare_exchange-found.new.seat.me c.requires.seat c.args.place c.compare_exchange-found.result x.0 c.decode.result c.decode.ensures x.1 in (
      (λ same. c.if-found-old.true (x.1.1 ∙ ap place_code (sym s.0 ∙ same) ∙ sym c.encode-old.ensures)),
      s.1,
      found_seat c.args.table.now.key c.args.number c.args.seat.now.me c.compare_exchange-found.new.seat.me c.requires.seat c.args.place c.compare_exchange-found.result x.0 x.1 x.2,
      s.2,
    )

pub exchange-held-requires : goal.exchange-held-requires
exchange-held-requires g c = let all = c.compare_exchange-found.ensures.2 c.args.table.now.key c.requires.seat.about c.args.place (omega arith) in
    let x = at_true _ _ _ (eq-eqb c.compare_exchange-found.result c.encode-old.result c.if-found-old.false) all in
    (c.compare_exchange-found.ensures.0 ∙ c.requires.table, (Some x.0, x.4 ∙ ap (λ l. (c.args.place, Some x.0) ∷ rest l) (sym x.4)))

pub held_value-requires : goal.held_value-requires
held_value-requires g c = let all = c.compare_exchange-found.ensures.2 c.args.table.now.key c.requires.seat.about c.args.place (omega arith) in
    let x = at_true _ _ _ (eq-eqb c.compare_exchange-found.result c.encode-old.result c.if-found-old.false) all in
    let is : c.exchange-held.result ≡ Some x.0 = front_is _ _ _ _ _ c.exchange-held.ensures.2 x.4 in subst Rattle.std.specs.Option.IsSome (sym is) refl

pub returns-clause-lent : goal.returns-clause-lent
returns-clause-lent g c = let all = c.compare_exchange-found.ensures.2 c.args.table.now.key c.requires.seat.about c.args.place (omega arith) in
    let x = at_true _ _ _ (eq-eqb c.compare_exchange-found.result c.encode-old.result c.if-found-old.false) all in
    let is : c.exchange-held.result ≡ Some x.0 = front_is _ _ _ _ _ c.exchange-held.ensures.2 x.4 in
    let same : x.0 ≡ c.held_value.result = some_same _ _ (sym is ∙ c.held_value.ensures) in
    let e = c.exchange-held.ensures.3 in
    let aim = c.requires.aim in (
      subst (λ a. g.C.Shelved.key_of (arc_value a) ≡ c.args.key) same (x.1 ∙ aim),
      subst (λ a. g.C.Shelved.course_of (arc_value a) ≡ c.args.table.now.key.course.value) same x.2,
      e ∙ (λ j. (x.3 j, (c.args.place, None) ∷ rest (x.4 j))) ∙ ap (λ y. (seeing c.args.seat.now.me.0 (with_loan (Some c.args.table.now.key.plan) c.args.place y c.args.seat.now.me.0.seen), (c.args.place, None) ∷ c.args.seat.now.me.1)) aim,
      subst (λ w. Makes c.args.table.now.key.plan (λ n. Lend n c.args.key) c.args.seat.now.me.0.seen w) (sym (ap (λ m. m.0.seen) e))
          (subst (λ y. Makes c.args.table.now.key.plan (λ n. Lend n y) c.args.seat.now.me.0.seen c.compare_exchange-found.new.seat.me.0.seen) aim x.5),
    )
