use Rattle.std.proofs.Common.{◌≡◌, ltb, List, None, ap, ◌∙◌, arith, rules}
use Rattle.market_rules.specs.declared.changes.Dated.{Dated}
use Rattle.market_rules.specs.Changes.{dates_refusal, dated_by}
use Rattle.market_rules.proofs.Due.{next-tells, past-none}
use Rattle.market_rules.proofs.changes.DatedList.is_due.Goals as goal

pub returns-then-dated-applied : goal.returns-then-dated-applied
returns-then-dated-applied c =
    let xs = c.as_slice-dated.result.now in
    let same : xs ≡ c.args.self.now = search rules in
    past-none xs c.args.time c.args.applied (omega arith) ∙ ap (λ (l : List Dated). ltb c.args.applied (dated_by l c.args.time)) same

pub returns : goal.returns
returns c =
    let xs = c.as_slice-dated.result.now in
    let same : xs ≡ c.args.self.now = search rules in
    let rising : dates_refusal xs ≡ None = search rules in
    let x = c.index-dated-applied.result in
    next-tells xs c.args.time c.args.applied x rising (omega arith)
    ∙ ap (λ (l : List Dated). ltb c.args.applied (dated_by l c.args.time)) same
