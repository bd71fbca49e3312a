use Rattle.std.proofs.Common.{◌∙◌}
use Rattle.bundle_reader.specs.Told.{bundle_told}
use Rattle.bundle_reader.specs.Reading.{reading_of}
use Rattle.abides_run.specs.Verdict.{verdict_on_read}
use Rattle.abides_run.proofs.Auditing.{failing-finishes, passed-finishes, unaudited-finishes, unread-finishes}
use Rattle.abides_run.proofs.audits.audit_bundle.Goals as goal

pub returns-in-Err : goal.returns-in-Err
returns-in-Err g c =
    λ reads steps probes. unread-finishes c.in-Err.error (reading_of c.args.bytes.items) probes reads (g.O.Sink.faults c.args.out.now) steps (g.O.Sink.taken c.args.out.now) c.nameless.result.status _
    c.in-Err.ensures (c.nameless.ensures ∙ c.status_for.ensures)

pub returns-in-Ok-None : goal.returns-in-Ok-None
returns-in-Ok-None g c =
    λ reads steps probes. passed-finishes (reading_of c.args.bytes.items) (bundle_told c.in-Ok.bundle) probes _ _ c.send_passed-status.result c.nameless-in-Ok-None.result.status _
    c.in-Ok.ensures (rw c.in-Ok-None.field-0-is at c.in-Ok-None.ensures) c.nameless-in-Ok-None.ensures (c.send_passed-status.ensures reads steps)

pub returns-in-Ok-Some : goal.returns-in-Ok-Some
returns-in-Ok-Some g c =
    λ reads steps probes. failing-finishes (reading_of c.args.bytes.items) (bundle_told c.in-Ok.bundle) c.in-Ok-Some.failing probes reads (g.O.Sink.faults c.args.out.now) steps (g.O.Sink.taken c.args.out.now) c.nameless-in-Ok-Some.result.status _
    c.in-Ok.ensures (rw c.in-Ok-Some.field-0-is at c.in-Ok-Some.ensures) c.nameless-in-Ok-Some.ensures

pub returns-in-Err-audit : goal.returns-in-Err-audit
returns-in-Err-audit g c =
    λ reads steps probes. unaudited-finishes (verdict_on_read (reading_of c.args.bytes.items)) probes reads (g.O.Sink.faults c.args.out.now) steps (g.O.Sink.taken c.args.out.now) c.nameless-in-Err-audit.result.status _
    c.nameless-in-Err-audit.ensures
