use Rattle.std.proofs.Common.{◌∙◌, ℕ, ap}
use Rattle.std.proofs.lemmas.Result.{IfOk-weaker}
use Rattle.bundle_reader.specs.Told.{branch_told}
use Rattle.feed_rebuild.specs.Compared.{difference}
use Rattle.feed_rebuild.specs.Fold.{fold}
use Rattle.audit_desk.specs.Audited.{branch_feed, displayed, states_of}
use Rattle.audit_desk.proofs.Agreeing.{books-misfit}
use Rattle.audit_desk.proofs.branch.misfit_of.Goals as goal

pub returns-in-Ok : goal.returns-in-Ok
returns-in-Ok c =
    let b = branch_told c.args.branch.now in
    let k = c.in-Ok.rebuilt in
    IfOk-weaker c.compared.result _ _
    (λ misfit h. h ∙ ap (λ (n : ℕ). difference n k.orders k.states (displayed b.closing) (states_of b.closing)) c.in-Ok.ensures.count
    ∙ books-misfit c.args.stocks b.closing (fold c.args.stocks (branch_feed b)) k c.in-Ok.ensures.told)
    c.compared.ensures
