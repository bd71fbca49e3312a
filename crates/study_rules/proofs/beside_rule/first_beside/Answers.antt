use Rattle.std.proofs.Common.{◌≡◌, ◌<◌, ℕ, map, take, length, sym, ◌∙◌, arith}
use Rattle.std.specs.Prelude.{not}
use Rattle.toml.specs.View.{view}
use Rattle.toml.specs.declared.value.Value.{Value}
use Rattle.study_market.proofs.Repeats.{place-within}
use Rattle.study_rules.proofs.Beside.{beside}
use Rattle.study_rules.proofs.beside_rule.first_beside.Goals as goal

pub overflow_cast-place : goal.overflow_cast-place
overflow_cast-place g c =
    let within : c.in-Some.at < length c.args.branches.now
    = place-within (λ (p : ℕ × Value). not (g.R.BesideRule.kept_by c.args.rule.now (map view (take p.0 c.args.branches.now)) (view p.1))) c.args.branches.now _ c.in-Some.ensures in
    omega (arith, within, c.requires.few)

pub returns-in-Some : goal.returns-in-Some
returns-in-Some g c = c.in-Some.ensures ∙ sym (beside (g.R.BesideRule.kept_by c.args.rule.now) c.args.branches.now)

pub returns-in-None : goal.returns-in-None
returns-in-None g c = c.in-None.ensures ∙ sym (beside (g.R.BesideRule.kept_by c.args.rule.now) c.args.branches.now)
