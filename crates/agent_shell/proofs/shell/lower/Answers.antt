use Rattle.std.proofs.Common.{◌≡◌, None, Some, position, sym, ◌∙◌}
use Rattle.std.specs.Map.{keys_of, lookup}
use Rattle.agent_shell.specs.Own.{same_token}
use Rattle.agent_shell.proofs.Lowered.{lowered-nowhere}
use Rattle.agent_shell.proofs.shell.lower.Goals as goal

pub returns-in_default : goal.returns-in_default
returns-in_default c =
    let none : position (same_token c.args.token.now) (keys_of c.args.own.now.entries) ≡ None = sym c.get_index_of.ensures.index ∙ c.in_default.is in
    lowered-nowhere c.args.token.now c.args.shares c.args.own.now.entries none

pub returns : goal.returns
returns c =
    let at : position (same_token c.args.token.now) (keys_of c.args.own.now.entries) ≡ Some c.in-Some.at = sym c.get_index_of.ensures.index ∙ c.in-Some.is in
    let some : lookup (same_token c.args.token.now) c.args.own.now.entries ≡ Some c.index-order.result.now = sym c.in-Some.ensures.value ∙ c.index-order.ensures in
    c.lower_at.ensures c.args.token.now at some
