use Rattle.std.proofs.Common.{arith, refl, sym, ap, ◌∙◌, subst, ◌∷◌, Some, None}
use Rattle.shelf_core.specs.Plan.{place_of}
use Rattle.shelf_core.specs.Views.{has_turn, turns_at}
use Rattle.shelf_core.specs.After.{without_turn}
use Rattle.shelf_core.specs.declared.words.Seen.TheVariants.{Place as place_seen}
use Rattle.shelf_core.specs.declared.event.Event.TheVariants.{Abandon}
use Rattle.atomic_table.specs.Table.{rest}
use Rattle.shelf_core.specs.Made.{Makes}
use Rattle.shelf_core.proofs.Facts.{loaded}
use Rattle.checkpoint_shelf.proofs.Spends.{brings_front, abandons}
use Rattle.checkpoint_shelf.proofs.Hands.{front_seat, spent_seat, turn_placed}
use Rattle.checkpoint_shelf.proofs.steps.let_go.Goals as goal

pub load-requires : goal.load-requires
load-requires g c = let w = c.requires.words in
    let low = Rattle.shelf_core.proofs.Plans.place_below c.args.table.now.key.plan c.args.key c.args.place c.requires.place in
    (c.requires.table, omega arith, brings_front _ _ _ c.args.table.now.key _ _ c.args.number _ c.args.place _ c.requires.seat (omega arith) (turn_placed _ _ _ c.requires.seat c.args.key c.args.place c.requires.place c.requires.turn))

pub store-requires : goal.store-requires
store-requires g c = let w = c.requires.words in let a = c.requires.aim in
    let low = Rattle.shelf_core.proofs.Plans.place_below c.args.table.now.key.plan c.args.key c.args.place c.requires.place in
    let x = c.load.ensures.2 c.args.table.now.key c.requires.seat.about c.args.place (omega arith) in
    let seat = front_seat c.args.table.now.key c.args.number c.args.seat.now.me c.load.new.seat.me c.requires.seat c.args.place c.load.result x.0 x.2.0 x.1 x.2.1 x.2.2 in
    let s = loaded (Some c.args.table.now.key.plan) (place_seen c.args.place x.0) c.args.seat.now.me.0.seen in
    let turns = ap (λ u. u.seen.turns) x.1.2 ∙ s.turns in (
      c.load.ensures.0 ∙ c.requires.table,
      omega arith,
      abandons _ _ _ c.args.table.now.key _ _ c.args.number _ c.args.place 0 g.B.Aim.key _ c.load.new.seat.me.1
          seat c.requires.slots (omega arith)
          (ap (place_of c.args.table.now.key.plan) a ∙ c.requires.place) (ap (has_turn g.B.Aim.key) turns ∙ ap (λ y. has_turn y c.args.seat.now.me.0.seen.turns) a ∙ c.requires.turn)
          (x.2.1 ∙ ap (λ l. (c.args.place, None) ∷ rest l) (sym x.2.1)),
    )

pub returns-clause-seat : goal.returns-clause-seat
returns-clause-seat g c =
    let x = c.load.ensures.2 c.args.table.now.key c.requires.seat.about c.args.place (omega arith) in
    let seat = front_seat c.args.table.now.key c.args.number c.args.seat.now.me c.load.new.seat.me c.requires.seat c.args.place c.load.result x.0 x.2.0 x.1 x.2.1 x.2.2 in
    let s = loaded (Some c.args.table.now.key.plan) (place_seen c.args.place x.0) c.args.seat.now.me.0.seen in
    let y = c.store.ensures.2 c.args.table.now.key seat.about c.args.place (omega arith) in
    let turns = ap (λ u. u.seen.turns) x.1.2 ∙ s.turns in
    spent_seat c.args.table.now.key c.args.number c.load.new.seat.me c.store.new.seat.me seat c.args.place g.B.Aim.key x.2.0 (without_turn g.B.Aim.key c.load.new.seat.me.0.seen) x.2.1
    (λ p. x.2.2 p ∙ ap (turns_at p) (sym turns)) y.2 refl refl refl refl y.0 (y.1 ∙ ap rest x.2.1)

pub returns-clause-steps : goal.returns-clause-steps
returns-clause-steps g c =
    let x = c.load.ensures.2 c.args.table.now.key c.requires.seat.about c.args.place (omega arith) in
    let seat = front_seat c.args.table.now.key c.args.number c.args.seat.now.me c.load.new.seat.me c.requires.seat c.args.place c.load.result x.0 x.2.0 x.1 x.2.1 x.2.2 in
    let y = c.store.ensures.2 c.args.table.now.key seat.about c.args.place (omega arith) in (
      c.load.new.seat.me.0.seen,
      x.0,
      x.1.3,
      subst (λ z. Makes c.args.table.now.key.plan (λ n. Abandon n z) c.load.new.seat.me.0.seen c.store.new.seat.me.0.seen) c.requires.aim y.3,
      ap (λ u. u.seen) y.0 ∙ ap (λ z. without_turn z c.load.new.seat.me.0.seen) c.requires.aim,
    )
