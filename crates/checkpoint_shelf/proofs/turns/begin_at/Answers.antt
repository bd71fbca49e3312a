use Rattle.std.proofs.Common.{arith, ◌≡◌, true, false, length, sym, ap, ◌∙◌}
use Rattle.std.proofs.lemmas.Bool.{lt-ltb, le-ltb}
use Rattle.shelf_core.specs.Calls.{is_fork_place}
use Rattle.shelf_core.specs.Possible.{allows}
use Rattle.shelf_core.proofs.Plans.{place_below}
use Rattle.checkpoint_shelf.proofs.Facts.{none_says, some_says}
use Rattle.checkpoint_shelf.proofs.Turned.{began_fork, began_grid, refused_fork, refused_first, refused_grid}
use Rattle.checkpoint_shelf.proofs.turns.begin_at.Goals as goal

pub look-first-requires-clause-place : goal.look-first-requires-clause-place
look-first-requires-clause-place g c = place_below c.args.table.now.key.plan c.args.key c.args.place c.requires.place

pub returns-then-place-len-clause-turn : goal.returns-then-place-len-clause-turn
returns-then-place-len-clause-turn g c = let plan = c.args.table.now.key.plan in
    let fork : is_fork_place plan c.args.place ≡ true = lt-ltb c.args.place (length plan.forks) (omega (arith, c.if-place-len.true, c.len.ensures ∙ ap (λ p. length p.forks) c.requires.plan)) in
    none_says c.take_turn.result (began_fork plan c.args.place c.args.key c.requires.place _ _ fork) c.take_turn.ensures.turn

pub returns-then-place-len-clause-taken : goal.returns-then-place-len-clause-taken
returns-then-place-len-clause-taken g c = let plan = c.args.table.now.key.plan in
    let fork : is_fork_place plan c.args.place ≡ true = lt-ltb c.args.place (length plan.forks) (omega (arith, c.if-place-len.true, c.len.ensures ∙ ap (λ p. length p.forks) c.requires.plan)) in
    some_says c.take_turn.result (λ word h. refused_fork plan c.args.place c.args.key c.requires.place word _ _ fork h) c.take_turn.ensures.taken

pub returns-then-not-may_write-clause-taken : goal.returns-then-not-may_write-clause-taken
returns-then-not-may_write-clause-taken g c = let plan = c.args.table.now.key.plan in
    let fork : is_fork_place plan c.args.place ≡ false = le-ltb c.args.place (length plan.forks) (omega (arith, c.if-place-len.false, c.len.ensures ∙ ap (λ p. length p.forks) c.requires.plan)) in
    let not : allows plan c.args.place c.args.key c.look-first.result ≡ false = ap (λ p. allows p c.args.place c.args.key c.look-first.result) (sym c.requires.plan) ∙ sym c.may_write.ensures ∙ c.if-not-may_write.true in
    refused_first plan c.args.place c.args.key c.requires.place c.look-first.result _ _ fork c.look-first.ensures.seen not

pub returns-clause-turn : goal.returns-clause-turn
returns-clause-turn g c = let plan = c.args.table.now.key.plan in
    let fork : is_fork_place plan c.args.place ≡ false = le-ltb c.args.place (length plan.forks) (omega (arith, c.if-place-len.false, c.len.ensures ∙ ap (λ p. length p.forks) c.requires.plan)) in
    let may : allows plan c.args.place c.args.key c.look-first.result ≡ true = ap (λ p. allows p c.args.place c.args.key c.look-first.result) (sym c.requires.plan) ∙ sym c.may_write.ensures ∙ c.if-not-may_write.false in
    none_says c.take_turn-2.result (began_grid plan c.args.place c.args.key c.requires.place _ _ _ c.look-first.result fork c.look-first.ensures.seen may) c.take_turn-2.ensures.turn

pub returns-clause-taken : goal.returns-clause-taken
returns-clause-taken g c = let plan = c.args.table.now.key.plan in
    let fork : is_fork_place plan c.args.place ≡ false = le-ltb c.args.place (length plan.forks) (omega (arith, c.if-place-len.false, c.len.ensures ∙ ap (λ p. length p.forks) c.requires.plan)) in
    let may : allows plan c.args.place c.args.key c.look-first.result ≡ true = ap (λ p. allows p c.args.place c.args.key c.look-first.result) (sym c.requires.plan) ∙ sym c.may_write.ensures ∙ c.if-not-may_write.false in
    some_says c.take_turn-2.result (λ word h. refused_grid plan c.args.place c.args.key c.requires.place word _ _ _ c.look-first.result fork c.look-first.ensures.seen may h) c.take_turn-2.ensures.taken
