use Rattle.std.proofs.Common.{◌≡◌, None, ◌∙◌, ap, sym, subst}
use Rattle.std.specs.Map.{lookup}
use Rattle.indexmap.proofs.CallerLemmas.{insert_entry-new}
use Rattle.agent_shell.specs.Own.{same_token}
use Rattle.agent_shell.specs.Shell.{Kept}
use Rattle.agent_shell.proofs.shell.Shell.join.Goals as goal
use Rattle.agent_shell.proofs.shell.Shell.join.Goals.{in-Ok, in-Err}

pub returns-clause-joined : goal.returns-clause-joined
returns-clause-joined c =
    let old = c.self.inside in
    let absent : lookup (same_token c.args.token) old.own.entries ≡ None = subst (λ (k : Kept). lookup (same_token c.args.token) k.orders.own ≡ None) (sym c.self.view_is) c.requires.fresh in
    let last = insert_entry-new same_token old.own c.args.token (record { side = c.args.side; left = c.args.shares }) absent in
    elim c.match-insert.branch [
      | in-Ok w ↦ rw w.result-is (rw (← c.self.view_is) (ap (λ own. record { agent = old.agent; tokens = old.tokens; account = old.account; own = own }) (w.in-Ok.ensures.entries ∙ last)))
      | in-Err w ↦ rw w.result-is tt
    ]
