use Rattle.std.proofs.Common.{sym, subst}
use Rattle.agent_shell.specs.Own.{own_order}
use Rattle.agent_shell.specs.Shell.{Kept, Orders}
use Rattle.agent_shell.specs.Sound.{IsOwn}
use Rattle.agent_shell.proofs.Kept.{executed-own, lowered-own, without-own}
use Rattle.agent_shell.proofs.shell.Shell.take_reply.Goals as goal

pub returns-in-Canceled-clause-own : goal.returns-in-Canceled-clause-own
returns-in-Canceled-clause-own c h =
    let s = c.self.inside in
    let o : Orders = record { agent = s.agent; tokens = s.tokens; account = s.account; own = s.own.entries } in
    let kept : IsOwn o = subst (λ (k : Kept). IsOwn k.orders) (sym c.self.view_is) h in
    subst (λ own. IsOwn (record o { own = own })) (sym c.lower.ensures) (lowered-own c.in-Canceled.token c.in-Canceled.decrement o kept)

pub returns-in-Executed-clause-own : goal.returns-in-Executed-clause-own
returns-in-Executed-clause-own c h =
    let o = c.args.self.now.orders in
    let e = c.in-Executed in
    subst IsOwn (sym c.execute.ensures.value) (executed-own (own_order e.token o.own) e.token e.price e.shares o h)

pub returns-in-Rejected-clause-own : goal.returns-in-Rejected-clause-own
returns-in-Rejected-clause-own c h =
    let s = c.self-in-Rejected.inside in
    let o : Orders = record { agent = s.agent; tokens = s.tokens; account = s.account; own = s.own.entries } in
    let kept : IsOwn o = subst (λ (k : Kept). IsOwn k.orders) (sym c.self-in-Rejected.view_is) h in
    subst (λ own. IsOwn (record o { own = own })) (sym c.shift_remove.ensures.entries) (without-own c.in-Rejected.token o kept)
