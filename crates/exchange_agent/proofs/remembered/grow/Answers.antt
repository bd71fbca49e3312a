use Rattle.std.proofs.Common.{ℕ, List, [], ◌∷◌, ◌++◌, ap, ◌∙◌}
use Rattle.exchange_agent.specs.Remembered.{pairs_from}
use Rattle.exchange_agent.proofs.Agents.{pairs-grown}
use Rattle.exchange_agent.proofs.remembered.grow.Goals as goal

pub agents-preserved : goal.agents-preserved
agents-preserved c =
    let before = c.agents.agents.items in
    ap (λ (tss : List (List (List ℕ))). pairs_from 0 tss) (c.in_ok-push.ensures.items ∙ ap (λ (ts : List (List ℕ)). before ++ ts ∷ []) c.new-tokens.ensures)
    ∙ pairs-grown 0 before ∙ c.agents.invariant
