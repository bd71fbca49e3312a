use Rattle.std.proofs.Common.{◌≡◌, ℕ, List, ◌∙◌, subst, sym}
use Rattle.std.specs.List.{insert}
use Rattle.std.specs.BTreeSet.{insert_key}
use Rattle.exchange_agent.specs.Remembered.{AreRising, by_bytes}
use Rattle.exchange_agent.proofs.Risings.{rising-with}
use Rattle.exchange_agent.proofs.tokens.put.Goals as goal

pub returns-in-Ok-clause-rising : goal.returns-in-Ok-clause-rising
returns-in-Ok-clause-rising c =
    let t = c.args.token.now in
    let ts = c.args.tokens.now.items in
    let at = c.in-Some.at in
    let made : c.put_at.new.tokens.items ≡ insert_key by_bytes ts t =
    c.in-Ok.ensures.tokens ∙ subst (λ (us : List (List ℕ)). insert us at t ≡ insert_key by_bytes us t) c.as_slice.ensures.value (sym c.in-Some.ensures.placed) in
    subst (λ (us : List (List ℕ)). AreRising us) (sym made) (rising-with t ts c.requires)
