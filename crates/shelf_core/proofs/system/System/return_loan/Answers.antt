use Rattle.std.proofs.Common.{◌≡◌, Some, sym, ◌∙◌, ap}
use Rattle.shelf_core.specs.Views.{changed_at}
use Rattle.shelf_core.specs.After.{having_returned, put, after_return}
use Rattle.shelf_core.specs.declared.words.PlaceWord.TheVariants.{Ready}
use Rattle.shelf_core.proofs.Apply.{replaced, loan_low, loan_there, seat_low, seat_there}
use Rattle.shelf_core.proofs.system.System.return_loan.Goals as goal

pub view-requires : goal.view-requires
view-requires c = seat_there c.args.self.now c.args.n _ c.requires.possible

pub view-requires-2 : goal.view-requires-2
view-requires-2 c = seat_low c.args.self.now _ _ c.view.ensures

pub set-requires : goal.set-requires
set-requires c = seat_low c.args.self.now _ _ c.view.ensures

pub put-requires-clause-word : goal.put-requires-clause-word
put-requires-clause-word c = (loan_low c.args.self.now c.args.n _ (c.in-Some.place, c.in-Some.key) c.requires.orderly c.view.ensures c.in-Some.is).0

pub put-requires-clause-value : goal.put-requires-clause-value
put-requires-clause-value c = (loan_low c.args.self.now c.args.n _ (c.in-Some.place, c.in-Some.key) c.requires.orderly c.view.ensures c.in-Some.is).1

pub returns-clause-after : goal.returns-clause-after
returns-clause-after c =
    let views : c.set.new.self ≡ changed_at (having_returned c.in-Some.key) c.args.self.now.views c.args.n = replaced _ _ _ _ _ _ c.view-2.ensures c.in-Ok.ensures c.set.ensures in
    c.put.ensures ∙ ap (λ l. put (record c.args.self.now { views = l }) c.in-Some.place (Ready c.in-Some.key) (Some c.in-Some.key)) views
    ∙ ap (after_return c.args.self.now c.args.n) (sym (loan_there c.args.self.now c.args.n _ (c.in-Some.place, c.in-Some.key) c.view.ensures c.requires.possible c.in-Some.is))
