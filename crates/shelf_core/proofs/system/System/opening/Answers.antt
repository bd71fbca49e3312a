use Rattle.std.proofs.Common.{◌≡◌, List, [], ◌∷◌, ◌++◌, ap, ◌∙◌, subst, sym}
use Rattle.shelf_core.specs.Orderly.{Orderly}
use Rattle.shelf_core.specs.declared.seat.SeatView.{SeatView}
use Rattle.shelf_core.proofs.Laid.{opened, opening_orderly}
use Rattle.shelf_core.proofs.system.System.opening.Goals as goal

pub returns-clause-opening : goal.returns-clause-opening
returns-clause-opening c =
    opened c.empty.result c.empty-2.result c.empty-3.result c.push.new.self c.empty.ensures c.empty-2.ensures c.empty-3.ensures
    (c.in-Ok-push.ensures.pushed ∙ ap (λ (vs : List SeatView). vs ++ c.in-Ok.view ∷ []) c.empty-views.ensures ∙ ap (λ (v : SeatView). v ∷ []) c.in-Ok.ensures)

pub returns-clause-orderly : goal.returns-clause-orderly
returns-clause-orderly c =
    let is =
    opened c.empty.result c.empty-2.result c.empty-3.result c.push.new.self c.empty.ensures c.empty-2.ensures c.empty-3.ensures
    (c.in-Ok-push.ensures.pushed ∙ ap (λ (vs : List SeatView). vs ++ c.in-Ok.view ∷ []) c.empty-views.ensures ∙ ap (λ (v : SeatView). v ∷ []) c.in-Ok.ensures) in
    subst Orderly (sym is) opening_orderly
