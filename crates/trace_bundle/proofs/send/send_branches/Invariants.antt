use Rattle.std.proofs.Common.{Ok}
use Rattle.trace_bundle.specs.Bundle.{traces_of}
use Rattle.trace_bundle.specs.Tallied.{parts_before}
use Rattle.trace_bundle.proofs.send.send_branches.Given as goal

abbrev pub invariant-loop-branch : goal.invariant-loop-branch
invariant-loop-branch g l = g.C.Carrier.Carried l.initial.to l.to (traces_of l.course l.branch) (parts_before l.course l.branch) (Ok tt)
