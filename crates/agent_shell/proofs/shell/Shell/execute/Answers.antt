use Rattle.std.proofs.Common.{◌≡◌, None, Some, position, sym, ◌∙◌, ap₂}
use Rattle.std.specs.Map.{keys_of, lookup}
use Rattle.indexmap.proofs.MapLemmas.{Missing-position}
use Rattle.agent_shell.specs.Own.{same_token}
use Rattle.agent_shell.proofs.shell.Shell.execute.Goals as goal

pub returns-in_default-clause-value : goal.returns-in_default-clause-value
returns-in_default-clause-value c =
    let at : position (same_token c.args.token.now) (keys_of c.self.inside.own.entries) ≡ None = sym c.get_index_of.ensures.index ∙ c.in_default.is in
    let none : lookup (same_token c.args.token.now) c.self.inside.own.entries ≡ None = (Missing-position (same_token c.args.token.now) c.self.inside.own.entries at).value in
    rw (← c.self.view_is, none)

pub returns-clause-value : goal.returns-clause-value
returns-clause-value c =
    let at : position (same_token c.args.token.now) (keys_of c.self.inside.own.entries) ≡ Some c.in-Some.at = sym c.get_index_of.ensures.index ∙ c.in-Some.is in
    let some : lookup (same_token c.args.token.now) c.self.inside.own.entries ≡ Some c.index-order.result.now = sym c.in-Some.ensures.value ∙ c.index-order.ensures in
    rw (← c.self.view_is, some) (ap₂ (λ account own. record { agent = c.self.inside.agent; tokens = c.self.inside.tokens; account = account; own = own }) c.traded-self-inside.ensures.value (c.lower_at.ensures c.args.token.now at some))
