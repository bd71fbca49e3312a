use Rattle.std.proofs.Common.{◌≤◌, ◌+◌, ◌*◌, ℕ, sym, subst, codes, arith}
use Rattle.toml.specs.View.{table_view}
use Rattle.study_market.specs.AgentRules.{count_of}
use Rattle.study_market.specs.Entries.{natural_at}
use Rattle.study_market.proofs.TraderRanges.{IsTimed, is-timed, before-last}
use Rattle.study_market.proofs.traders.first_wakeup.Goals as goal

pub overflow_mul-result : goal.overflow_mul-result
overflow_mul-result c =
    let t = table_view c.args.agent.now in
    let timed : IsTimed 32 0 t = is-timed 32 0 t c.requires.timing in
    let sum : natural_at (codes "first") t + c.args.number * natural_at (codes "spread") t ≤ 86399999999999
    = before-last (natural_at (codes "first") t) (natural_at (codes "spread") t) c.args.number (count_of t) 86399999999999 c.requires.number timed.last in
    let product : c.args.number * c.natural_at-2.result ≤ 86399999999999
    = subst (λ (s : ℕ). c.args.number * s ≤ 86399999999999) (sym c.natural_at-2.ensures) (omega (arith, sum)) in
    omega (arith, product)

pub overflow_add-result : goal.overflow_add-result
overflow_add-result c =
    let t = table_view c.args.agent.now in
    let timed : IsTimed 32 0 t = is-timed 32 0 t c.requires.timing in
    let sum : natural_at (codes "first") t + c.args.number * natural_at (codes "spread") t ≤ 86399999999999
    = before-last (natural_at (codes "first") t) (natural_at (codes "spread") t) c.args.number (count_of t) 86399999999999 c.requires.number timed.last in
    let total : c.natural_at.result + c.args.number * c.natural_at-2.result ≤ 86399999999999
    = subst (λ (f : ℕ). f + c.args.number * c.natural_at-2.result ≤ 86399999999999) (sym c.natural_at.ensures)
    (subst (λ (s : ℕ). natural_at (codes "first") t + c.args.number * s ≤ 86399999999999) (sym c.natural_at-2.ensures) sum) in
    omega (arith, total)
