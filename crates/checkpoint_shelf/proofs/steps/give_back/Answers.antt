use Rattle.std.proofs.Common.{arith, refl, sym, ap, ◌∙◌, subst, ◌∷◌, Some}
use Rattle.shelf_core.specs.Plan.{place_of}
use Rattle.shelf_core.specs.After.{with_loan, having_returned}
use Rattle.shelf_core.specs.declared.words.PlaceWord.TheVariants.{Ready}
use Rattle.shelf_core.specs.declared.event.Event.TheVariants.{Return}
use Rattle.atomic_table.specs.Table.{rest}
use Rattle.checkpoint_shelf.specs.Codes.{place_code}
use Rattle.checkpoint_shelf.specs.Holds.{seeing}
use Rattle.shelf_core.specs.Made.{Makes}
use Rattle.checkpoint_shelf.proofs.Codes.{key_fits}
use Rattle.checkpoint_shelf.proofs.Loans.{returns}
use Rattle.checkpoint_shelf.proofs.Calls.{becomes}
use Rattle.checkpoint_shelf.proofs.steps.give_back.Goals as goal

pub encode-requires : goal.encode-requires
encode-requires g c = let was = c.requires.seat.1 in key_fits c.args.table.now.key.plan c.args.key c.args.place was.fits.plan c.requires.place

pub store-requires : goal.store-requires
store-requires g c = let w = c.requires.words in let a = c.requires.aim in let was = c.requires.seat.1 in let e = c.exchange-before.ensures in
    let low = Rattle.shelf_core.proofs.Plans.place_below c.args.table.now.key.plan c.args.key c.args.place c.requires.place in (
      e.0 ∙ c.requires.table,
      omega arith,
      returns _ _ _ c.args.table.now.key _ _ c.args.number _ c.args.place 0 _ g.B.Aim.key c.args.value _ c.requires.seat.0 was
          (ap (λ m. m.0) e.3 ∙ ap (λ m. m.0) c.requires.seat.2 ∙ ap (λ x. seeing c.requires.seat.0.0 (with_loan (Some c.args.table.now.key.plan) c.args.place x c.requires.seat.0.0.seen)) (sym a)) c.requires.slots (omega arith)
          (c.encode.ensures ∙ ap (λ x. place_code (Ready x)) (sym a)) (ap (place_of c.args.table.now.key.plan) a ∙ c.requires.place)
          (ap (λ m. m.1) e.3 ∙ ap (λ m. (c.args.place, Some c.args.value) ∷ rest m.1) (sym e.3)) (c.requires.key ∙ sym a) c.requires.course,
    )

pub returns-clause-returned : goal.returns-clause-returned
returns-clause-returned g c = let e = c.exchange-before.ensures in let about = ap (λ m. m.0.about) e.3 ∙ ap (λ m. m.0.about) c.requires.seat.2 ∙ c.requires.seat.1.about in
    let x = c.store.ensures.2 c.args.table.now.key about c.args.place (omega arith) in
    ap (λ v. v.seen) x.0 ∙ ap (λ m. having_returned g.B.Aim.key m.0.seen) e.3 ∙ ap (λ y. having_returned y c.args.seat.now.me.0.seen) c.requires.aim

pub returns-clause-step : goal.returns-clause-step
returns-clause-step g c = let e = c.exchange-before.ensures in let about = ap (λ m. m.0.about) e.3 ∙ ap (λ m. m.0.about) c.requires.seat.2 ∙ c.requires.seat.1.about in
    let x = c.store.ensures.2 c.args.table.now.key about c.args.place (omega arith) in
    subst (λ v. Makes c.args.table.now.key.plan Return v c.store.new.seat.me.0.seen) (ap (λ m. m.0.seen) e.3) x.2

pub returns-clause-seat : goal.returns-clause-seat
returns-clause-seat g c = let e = c.exchange-before.ensures in let was = c.requires.seat.1 in let w = c.requires.seat.0.0.seen in
    let about = ap (λ m. m.0.about) e.3 ∙ ap (λ m. m.0.about) c.requires.seat.2 ∙ was.about in
    let x = c.store.ensures.2 c.args.table.now.key about c.args.place (omega arith) in
    becomes c.args.table.now.key c.args.number c.requires.seat.0 c.store.new.seat.me was (having_returned g.B.Aim.key (with_loan (Some c.args.table.now.key.plan) c.args.place c.args.key w)) refl refl refl (sym was.idle) (
      x.0 ∙ ap (λ m. seeing m.0 (having_returned g.B.Aim.key m.0.seen)) e.3 ∙ ap (λ m. seeing m.0 (having_returned g.B.Aim.key m.0.seen)) c.requires.seat.2,
      x.1 ∙ ap (λ m. rest m.1) e.3 ∙ ap (λ m. rest m.1) c.requires.seat.2,
    )
