use Rattle.std.proofs.Common.{List, ℕ, Ok, subst, ◌∙◌, arith}
use Rattle.abides_run.specs.Output.{counts_line}
use Rattle.abides_run.specs.Performed.{Sent}
use Rattle.abides_run.proofs.Performing.{sent_all}
use Rattle.abides_run.proofs.perform.check_study.Goals as goal

pub returns-in-Ok-send : goal.returns-in-Ok-send
returns-in-Ok-send g c =
    λ reads steps. sent_all (counts_line c.args.course.now) 0 0 0 reads (g.O.Sink.faults c.args.out.now) (g.O.Sink.faults c.send.new.out) steps steps (g.O.Sink.taken c.args.out.now) (g.O.Sink.taken c.send.new.out) (omega arith) (omega arith)
    (subst (λ (bytes : List ℕ). Sent bytes (g.O.Sink.faults c.args.out.now) (g.O.Sink.faults c.send.new.out) (g.O.Sink.taken c.args.out.now) (g.O.Sink.taken c.send.new.out) (Ok tt))
    (c.as_bytes.ensures.value ∙ c.in-Ok.ensures) c.in-Ok-send.ensures)
