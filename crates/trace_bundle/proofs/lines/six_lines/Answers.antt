use Rattle.std.proofs.Common.{◌≡◌, ℕ, List, IfOk, string_bytes, subst}
use Rattle.trace_bundle.proofs.Sums.{lines-joined}
use Rattle.trace_bundle.proofs.lines.six_lines.Goals as goal

pub returns : goal.returns
returns c =
    subst (λ (bytes : List ℕ). IfOk c.format.result (λ text. string_bytes text ≡ bytes))
    (lines-joined c.args.study c.args.branches c.args.events c.args.distinct c.args.bundle.count c.args.bundle.total)
    c.format.ensures.ok
