use Rattle.std.proofs.Common.{◌∙◌, ◌++◌, ◌∷◌, [], List, ap, replicate}
use Rattle.std.proofs.lemmas.List.{replicate_more}
use Rattle.fundamental_series.specs.declared.rule.SeriesRow.{SeriesRow}
use Rattle.study_market.proofs.tables.add_empty.Goals as goal

pub loop-turn-preserved : goal.loop-turn-preserved
loop-turn-preserved c =
    c.in_ok-push.ensures.items
    ∙ ap (λ (xs : List (List SeriesRow)). xs ++ c.empty.result ∷ []) c.loop-turn.invariant
    ∙ ap (λ (x : List SeriesRow). replicate c.loop-turn._turn [] ++ x ∷ []) c.empty.ensures
    ∙ replicate_more c.loop-turn._turn []
