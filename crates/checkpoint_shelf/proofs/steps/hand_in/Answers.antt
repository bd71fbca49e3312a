use Rattle.std.proofs.Common.{arith, ◌≡◌, refl, sym, ap, ◌∙◌, subst, ◌∷◌, Some, None}
use Rattle.shelf_core.specs.Plan.{place_of}
use Rattle.shelf_core.specs.Views.{has_turn, turns_at}
use Rattle.shelf_core.specs.After.{having_published}
use Rattle.shelf_core.specs.declared.words.PlaceWord.TheVariants.{Ready}
use Rattle.shelf_core.specs.declared.words.Seen.TheVariants.{Place as place_seen}
use Rattle.shelf_core.specs.declared.event.Event.TheVariants.{Publish}
use Rattle.atomic_table.specs.Table.{rest}
use Rattle.checkpoint_shelf.specs.Codes.{place_code}
use Rattle.checkpoint_shelf.specs.Holds.{IsSeat, seeing}
use Rattle.shelf_core.specs.Made.{Makes}
use Rattle.checkpoint_shelf.proofs.Codes.{key_fits}
use Rattle.shelf_core.proofs.Facts.{loaded}
use Rattle.checkpoint_shelf.proofs.Spends.{brings_front, publishes}
use Rattle.checkpoint_shelf.proofs.Hands.{front_seat, spent_seat, front_is, turn_placed}
use Rattle.checkpoint_shelf.proofs.steps.hand_in.Goals as goal

pub load-requires : goal.load-requires
load-requires g c = let w = c.requires.words in
    let low = Rattle.shelf_core.proofs.Plans.place_below c.args.table.now.key.plan c.args.key c.args.place c.requires.place in
    (c.requires.table, omega arith, brings_front _ _ _ c.args.table.now.key _ _ c.args.number _ c.args.place _ c.requires.seat (omega arith) (turn_placed _ _ _ c.requires.seat c.args.key c.args.place c.requires.place c.requires.turn))

pub exchange-before-requires : goal.exchange-before-requires
exchange-before-requires g c = let x = c.load.ensures.2 c.args.table.now.key c.requires.seat.about c.args.place (omega arith) in
    (c.load.ensures.0 ∙ c.requires.table, (None, x.2.1 ∙ ap (λ l. (c.args.place, None) ∷ rest l) (sym x.2.1)))

pub end_none-requires : goal.end_none-requires
end_none-requires g c = let x = c.load.ensures.2 c.args.table.now.key c.requires.seat.about c.args.place (omega arith) in
    let is : c.exchange-before.result ≡ None = front_is _ _ _ _ _ c.exchange-before.ensures.2 x.2.1 in is

pub encode-requires : goal.encode-requires
encode-requires g c = key_fits c.args.table.now.key.plan c.args.key c.args.place c.requires.seat.fits.plan c.requires.place

pub store-requires : goal.store-requires
store-requires g c = let w = c.requires.words in let a = c.requires.aim in let e = c.exchange-before.ensures in
    let low = Rattle.shelf_core.proofs.Plans.place_below c.args.table.now.key.plan c.args.key c.args.place c.requires.place in
    let x = c.load.ensures.2 c.args.table.now.key c.requires.seat.about c.args.place (omega arith) in
    let seat = front_seat c.args.table.now.key c.args.number c.args.seat.now.me c.load.new.seat.me c.requires.seat c.args.place c.load.result x.0 x.2.0 x.1 x.2.1 x.2.2 in
    let s = loaded (Some c.args.table.now.key.plan) (place_seen c.args.place x.0) c.args.seat.now.me.0.seen in
    let v = ap (λ m. m.0) e.3 in
    let turns = ap (λ u. u.seen.turns) v ∙ ap (λ u. u.seen.turns) x.1.2 ∙ s.turns in (
      e.0 ∙ c.load.ensures.0 ∙ c.requires.table,
      omega arith,
      publishes _ _ _ c.args.table.now.key _ _ c.args.number _ c.args.place 0 _ g.B.Aim.key c.args.value _ c.load.new.seat.me.1
          (subst (λ u. IsSeat c.args.table.now.key c.args.number (u, c.load.new.seat.me.1)) (sym v) seat) c.requires.slots (omega arith)
          (c.encode.ensures ∙ ap (λ y. place_code (Ready y)) (sym a)) (ap (place_of c.args.table.now.key.plan) a ∙ c.requires.place) (ap (has_turn g.B.Aim.key) turns ∙ ap (λ y. has_turn y c.args.seat.now.me.0.seen.turns) a ∙ c.requires.turn)
          (ap (λ m. m.1) e.3 ∙ ap (λ m. (c.args.place, Some c.args.value) ∷ rest m.1) (sym e.3)) (c.requires.key ∙ sym a) c.requires.course,
    )

pub returns-clause-seat : goal.returns-clause-seat
returns-clause-seat g c = let e = c.exchange-before.ensures in
    let x = c.load.ensures.2 c.args.table.now.key c.requires.seat.about c.args.place (omega arith) in
    let seat = front_seat c.args.table.now.key c.args.number c.args.seat.now.me c.load.new.seat.me c.requires.seat c.args.place c.load.result x.0 x.2.0 x.1 x.2.1 x.2.2 in
    let s = loaded (Some c.args.table.now.key.plan) (place_seen c.args.place x.0) c.args.seat.now.me.0.seen in
    let v = ap (λ m. m.0) e.3 in
    let y = c.store.ensures.2 c.args.table.now.key (ap (λ u. u.about) v ∙ seat.about) c.args.place (omega arith) in
    let turns = ap (λ u. u.seen.turns) x.1.2 ∙ s.turns in
    spent_seat c.args.table.now.key c.args.number c.load.new.seat.me c.store.new.seat.me seat c.args.place g.B.Aim.key x.2.0 (having_published (Some c.args.table.now.key.plan) g.B.Aim.key c.load.new.seat.me.0.seen) x.2.1
    (λ p. x.2.2 p ∙ ap (turns_at p) (sym turns)) (subst (λ u. Rattle.checkpoint_shelf.specs.Places.OneLess c.args.place u.seen.turns (Rattle.shelf_core.specs.Views.other_turns g.B.Aim.key u.seen.turns)) v y.2) refl refl refl refl
    (y.0 ∙ ap (λ u. seeing u (having_published (Some c.args.table.now.key.plan) g.B.Aim.key u.seen)) v) (y.1 ∙ ap (λ m. rest m.1) e.3 ∙ ap rest x.2.1)

pub returns-clause-steps : goal.returns-clause-steps
returns-clause-steps g c = let e = c.exchange-before.ensures in
    let x = c.load.ensures.2 c.args.table.now.key c.requires.seat.about c.args.place (omega arith) in
    let seat = front_seat c.args.table.now.key c.args.number c.args.seat.now.me c.load.new.seat.me c.requires.seat c.args.place c.load.result x.0 x.2.0 x.1 x.2.1 x.2.2 in
    let v = ap (λ m. m.0) e.3 in
    let y = c.store.ensures.2 c.args.table.now.key (ap (λ u. u.about) v ∙ seat.about) c.args.place (omega arith) in (
      c.load.new.seat.me.0.seen,
      x.0,
      x.1.3,
      subst (λ z. Makes c.args.table.now.key.plan (λ n. Publish n z) c.load.new.seat.me.0.seen c.store.new.seat.me.0.seen) c.requires.aim (subst (λ u. Makes c.args.table.now.key.plan (λ n. Publish n g.B.Aim.key) u.seen c.store.new.seat.me.0.seen) v y.3),
      ap (λ u. u.seen) y.0 ∙ ap (λ u. having_published (Some c.args.table.now.key.plan) g.B.Aim.key u.seen) v ∙ ap (λ z. having_published (Some c.args.table.now.key.plan) z c.load.new.seat.me.0.seen) c.requires.aim,
    )
