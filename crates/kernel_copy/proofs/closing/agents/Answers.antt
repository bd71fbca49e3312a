use Rattle.std.proofs.Common.{◌≡◌, ℕ, ◌+◌, ◌++◌, ◌∷◌, [], List, length, sym, ap, ◌∙◌, add-one, arith}
use Rattle.bundle_frames.specs.declared.closing.ClosingAgent.{ClosingAgent}
use Rattle.agent_shell.specs.Trader.{told_of}
use Rattle.market_floor.specs.Floor.{party_at}
use Rattle.kernel_copy.specs.Closing.{agents_closed, trader_closed}
use Rattle.kernel_copy.proofs.closing.agents.Goals as goal

pub loop-i-preserved : goal.loop-i-preserved
loop-i-preserved c =
    let s = c.args.kernel.now in
    let i = c.loop-i.i in
    c.in-Ok.ensures
    ∙ ap (λ (xs : List ClosingAgent). xs ++ trader_closed s (i + 1) (party_at s.floor (i + 1)) (told_of (party_at s.floor (i + 1)).trader) ∷ []) c.loop-i.invariant
    ∙ sym (ap (λ (n : ℕ). agents_closed s n) (add-one i))

pub returns : goal.returns
returns c =
    let s = c.args.kernel.now in
    let all : c.loop-i.i ≡ length s.floor.parties = omega arith in
    c.loop-i.invariant ∙ ap (λ (n : ℕ). agents_closed s n) all
