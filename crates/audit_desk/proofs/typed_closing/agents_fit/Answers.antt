use Rattle.std.proofs.Common.{◌≡◌, subst}
use Rattle.std.proofs.lemmas.List.Elements.{All-more}
use Rattle.bundle_frames.specs.declared.closing.ClosingAgent.{ClosingAgent}
use Rattle.audit_desk.specs.Clipped.{clipped_agent}
use Rattle.audit_desk.proofs.Typed.{whole-same}
use Rattle.audit_desk.proofs.typed_closing.agents_fit.Goals as goal

abbrev Stays : ClosingAgent → Type 0
Stays x = clipped_agent x ≡ x

pub loop-i-preserved : goal.loop-i-preserved
loop-i-preserved c =
    let x = c.index-agents-i.result in
    All-more Stays c.args.agents.now c.loop-i.i x c.loop-i-test.true c.loop-i.invariant (subst Stays c.index-agents-i.is c.agent_fits.ensures)

pub returns : goal.returns
returns c = whole-same clipped_agent c.args.agents.now c.loop-i.i c.loop-i-test.false c.loop-i.invariant
