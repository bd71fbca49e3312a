use Rattle.std.proofs.Common.{arith, sym, ap, ◌∙◌, subst, ◌∷◌, ◌<◌, None, eq-eqb, ne_eqb}
use Rattle.shelf_core.specs.Plan.{place_of}
use Rattle.shelf_core.specs.Views.{times}
use Rattle.shelf_core.specs.After.{with_turn}
use Rattle.shelf_core.specs.declared.event.Event.TheVariants.{Begin}
use Rattle.atomic_table.specs.Table.{rest}
use Rattle.shelf_core.specs.Made.{Makes}
use Rattle.shelf_core.specs.Possible.{allows}
use Rattle.checkpoint_shelf.proofs.Places.{begins}
use Rattle.shelf_core.proofs.Facts.{at_true, at_false}
use Rattle.checkpoint_shelf.proofs.Hands.{found_seat, found_seen, turn_seat}
use Rattle.checkpoint_shelf.proofs.steps.take_turn.Goals as goal

pub compare_exchange-found-requires : goal.compare_exchange-found-requires
compare_exchange-found-requires g c = let w = c.requires.words in let a = c.requires.aim in let small = c.requires.seat.small in let most = c.requires.seat.fits.seats.1 in
    let low = Rattle.shelf_core.proofs.Plans.place_below c.args.table.now.key.plan c.args.key c.args.place c.requires.place in (
      c.requires.table,
      omega arith,
      begins _ _ _ c.args.table.now.key _ _ c.args.number _ c.args.place _ _ g.B.Aim.key c.args.want _ c.requires.seat c.requires.slots (omega arith) c.encode-old.ensures c.encode-mine.ensures
          (ap (place_of c.args.table.now.key.plan) a ∙ c.requires.place) (subst (λ x. 0 < times x.segment c.args.seat.now.me.0.seen.claims) (sym a) c.requires.claim) c.requires.fits (ap (λ x. allows c.args.table.now.key.plan c.args.place x c.args.want) a ∙ c.requires.allowed),
    )

pub returns-then-found-old-clause-seat : goal.returns-then-found-old-clause-seat
returns-then-found-old-clause-seat g c = let all = c.compare_exchange-found.ensures.2 c.args.table.now.key c.requires.seat.about c.args.place (omega arith) in
    let x = at_false _ _ _ (ne_eqb c.compare_exchange-found.result c.encode-old.result c.if-found-old.true) all in
    found_seat c.args.table.now.key c.args.number c.args.seat.now.me c.compare_exchange-found.new.seat.me c.requires.seat c.args.place c.compare_exchange-found.result x.0 x.1 x.2

pub returns-then-found-old-clause-taken : goal.returns-then-found-old-clause-taken
returns-then-found-old-clause-taken g c = let all = c.compare_exchange-found.ensures.2 c.args.table.now.key c.requires.seat.about c.args.place (omega arith) in
    let x = at_false _ _ _ (ne_eqb c.compare_exchange-found.result c.encode-old.result c.if-found-old.true) all in
    let s = found_seen c.args.table.now.key c.args.number c.args.seat.now.me c.compare_exchange-found.new.seat.me c.requires.seat c.args.place c.compare_exchange-found.result x.0 c.decode.result c.decode.ensures x.1 in
    ((λ same. c.if-found-old.true (x.1.1 ∙ ap Rattle.checkpoint_shelf.specs.Codes.place_code (sym s.0 ∙ same) ∙ sym c.encode-old.ensures)), s.1, s.2)

pub exchange-before-requires : goal.exchange-before-requires
exchange-before-requires g c = let all = c.compare_exchange-found.ensures.2 c.args.table.now.key c.requires.seat.about c.args.place (omega arith) in
    let x = at_true _ _ _ (eq-eqb c.compare_exchange-found.result c.encode-old.result c.if-found-old.false) all in
    (c.compare_exchange-found.ensures.0 ∙ c.requires.table, (x.0, x.2 ∙ ap (λ l. (c.args.place, x.0) ∷ rest l) (sym x.2)))

pub returns-clause-seat : goal.returns-clause-seat
returns-clause-seat g c = let all = c.compare_exchange-found.ensures.2 c.args.table.now.key c.requires.seat.about c.args.place (omega arith) in
    let x = at_true _ _ _ (eq-eqb c.compare_exchange-found.result c.encode-old.result c.if-found-old.false) all in
    let e = c.exchange-before.ensures in
    turn_seat c.args.table.now.key c.args.number c.args.seat.now.me c.exchange-before.new.seat.me c.requires.seat c.args.place g.B.Aim.key (ap (place_of c.args.table.now.key.plan) c.requires.aim ∙ c.requires.place)
    (ap (λ m. m.0) e.3 ∙ x.1) (ap (λ m. m.1) e.3 ∙ ap (λ l. (c.args.place, None) ∷ rest l) x.2)

pub returns-clause-turn : goal.returns-clause-turn
returns-clause-turn g c = let all = c.compare_exchange-found.ensures.2 c.args.table.now.key c.requires.seat.about c.args.place (omega arith) in
    let x = at_true _ _ _ (eq-eqb c.compare_exchange-found.result c.encode-old.result c.if-found-old.false) all in
    let e = c.exchange-before.ensures in let same = ap (λ m. m.0.seen) e.3 in (
      same ∙ ap (λ v. v.seen) x.1 ∙ ap (λ y. with_turn c.args.place y c.args.seat.now.me.0.seen) c.requires.aim,
      subst (λ w. Makes c.args.table.now.key.plan (λ n. Begin n c.args.key) c.args.seat.now.me.0.seen w) (sym same)
          (subst (λ y. Makes c.args.table.now.key.plan (λ n. Begin n y) c.args.seat.now.me.0.seen c.compare_exchange-found.new.seat.me.0.seen) c.requires.aim x.3),
    )
