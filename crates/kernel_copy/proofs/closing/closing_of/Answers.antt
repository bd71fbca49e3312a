use Rattle.std.proofs.Common.{◌≡◌, ◌≤◌, List, length, All, sym, ◌∙◌, subst, arith}
use Rattle.std.proofs.lemmas.List.Elements.{All-weaker}
use Rattle.bundle_frames.specs.declared.closing.ClosingAgent.{ClosingAgent}
use Rattle.bundle_frames.specs.Frames.{HasFewPositions}
use Rattle.kernel_copy.specs.Closing.{closing_at}
use Rattle.kernel_copy.proofs.closing.closing_of.Goals as goal

pub returns-clause-positions : goal.returns-clause-positions
returns-clause-positions c =
    let s = c.args.kernel.now in
    let few : length s.floor.exchange.stocks ≤ 16 = omega (arith, c.requires.opening.market.few, c.requires.stocks) in
    let all = All-weaker (λ (a : ClosingAgent). length a.positions ≡ length s.floor.exchange.stocks) HasFewPositions
    (λ a q. omega (arith, q, few)) (closing_at c.args.o.now s).agents (c.agents_have_all_positions.ensures c.args.o.now s) in
    subst (λ (xs : List ClosingAgent). All HasFewPositions xs) (sym (c.new-3.ensures ∙ c.in-Ok-agents.ensures)) all
