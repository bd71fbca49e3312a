-- How an audit ends.
use Rattle.std.proofs.Common.{◌≡◌, ℕ, List, [], Option, None, Some, refl, sym, ap, subst, ◌∙◌, arith}
use Rattle.bundle_reader.specs.Told.{BundleTold}
use Rattle.bundle_reader.specs.declared.bundle.BundleError.{BundleError}
use Rattle.bundle_reader.specs.declared.bundle.BundleError.TheVariants as error
use Rattle.bundle_reader.specs.Reading.{IsRefusedAs, Read, read}
use Rattle.audit_desk.specs.declared.failing.Failing.{Failing}
use Rattle.audit_desk.specs.Audited.{audit_of}
use Rattle.abides_run.specs.Audits.{status_for}
use Rattle.abides_run.specs.Headline.{Seen}
use Rattle.abides_run.specs.Output.{Probes, audit_line, audited}
use Rattle.abides_run.specs.Performed.{Finished, Performed}
use Rattle.abides_run.specs.Verdict.{Verdict, accepted, audit_failed, bad_bundle, verdict_on_failing, verdict_on_read}
use Rattle.abides_run.specs.declared.status.Status.{Status}
use Rattle.abides_run.specs.declared.status.Status.TheVariants as status
use Rattle.abides_run.proofs.Finishing.{refused-still, wanting-finishes}
use Rattle.abides_run.proofs.Performing.{performed_finishes}

-- a refusal before the first step, whose line names nothing
refuses : (come : Verdict) (probes : Probes) (reads writes steps : ℕ) (taken : Option (List ℕ)) (reason at : ℕ) (st : Status) (name : List ℕ)
    → come ≡ bad_bundle reason at → st ≡ status.BadBundle reason at
    → Finished come probes [] (record { reads = reads; writes = writes; taken = taken; steps = steps }) (record { reads = reads; writes = writes; taken = taken; steps = steps }) st name
refuses come probes reads writes steps taken reason at st name is same =
    let seen : Seen = record { reads = reads; writes = writes; taken = taken; steps = steps } in
    subst (λ (v : Verdict). Finished v probes [] seen seen st name) (sym is)
    (subst (λ (x : Status). Finished (bad_bundle reason at) probes [] seen seen x name) (sym same)
    (refused-still (bad_bundle reason at) probes [] seen (status.BadBundle reason at) name refl tt tt (λ fetched. tt) tt))

-- the bytes are no bundle, or memory was wanting to read them
pub unread-finishes : (e : BundleError) (r : Read) (probes : Probes) (reads writes steps : ℕ) (taken : Option (List ℕ)) (st : Status) (name : List ℕ)
    → IsRefusedAs e r → st ≡ status_for e
    → Finished (verdict_on_read r) probes [] (record { reads = reads; writes = writes; taken = taken; steps = steps }) (record { reads = reads; writes = writes; taken = taken; steps = steps }) st name
unread-finishes (error.Cut left) r probes reads writes steps taken st name is same =
    refuses (verdict_on_read r) probes reads writes steps taken 1 left st name (ap verdict_on_read is) same
unread-finishes (error.BadFrame at) r probes reads writes steps taken st name is same =
    refuses (verdict_on_read r) probes reads writes steps taken 2 at st name (ap verdict_on_read is) same
unread-finishes (error.BadOrder at) r probes reads writes steps taken st name is same =
    refuses (verdict_on_read r) probes reads writes steps taken 3 at st name (ap verdict_on_read is) same
unread-finishes error.Memory r probes reads writes steps taken st name is same =
    wanting-finishes (verdict_on_read r) probes [] reads writes steps steps taken st name same (omega arith) (omega arith)

-- what is read of the bytes comes to what its audit comes to
audit_comes : (r : Read) (b : BundleTold) (failing : Option Failing) → r ≡ read b → failing ≡ audit_of b → verdict_on_read r ≡ verdict_on_failing b failing
audit_comes r b failing is found = ap verdict_on_read is ∙ ap (λ (f : Option Failing). verdict_on_failing b f) (sym found)

-- a branch fails
pub failing-finishes : (r : Read) (b : BundleTold) (failing : Failing) (probes : Probes) (reads writes steps : ℕ) (taken : Option (List ℕ)) (st : Status) (name : List ℕ)
    → r ≡ read b → Some failing ≡ audit_of b → st ≡ status.AuditFailed failing.branch failing.reference
    → Finished (verdict_on_read r) probes [] (record { reads = reads; writes = writes; taken = taken; steps = steps }) (record { reads = reads; writes = writes; taken = taken; steps = steps }) st name
failing-finishes r b failing probes reads writes steps taken st name is found same =
    let seen : Seen = record { reads = reads; writes = writes; taken = taken; steps = steps } in
    let come : Verdict = audit_failed failing.branch failing.reference in
    subst (λ (v : Verdict). Finished v probes [] seen seen st name) (sym (audit_comes r b (Some failing) is found))
    (subst (λ (x : Status). Finished come probes [] seen seen x name) (sym same)
    (refused-still come probes [] seen (status.AuditFailed failing.branch failing.reference) name refl tt tt (λ fetched. tt) tt))

-- none does, and that was told
pub passed-finishes : (r : Read) (b : BundleTold) (probes : Probes) (before after : Seen) (st told : Status) (name : List ℕ)
    → r ≡ read b → None ≡ audit_of b → told ≡ st → Performed (audit_line b) 0 0 0 before after st
    → Finished (verdict_on_read r) probes [] before after told name
passed-finishes r b probes before after st told name is none same p =
    subst (λ (v : Verdict). Finished v probes [] before after told name) (sym (audit_comes r b None is none))
    (subst (λ (x : Status). Finished (accepted (audited b)) probes [] before after x name) (sym same)
    (performed_finishes probes (audited b) [] before after st name p (λ e. tt)))

-- memory was wanting for the audit
pub unaudited-finishes : (come : Verdict) (probes : Probes) (reads writes steps : ℕ) (taken : Option (List ℕ)) (st : Status) (name : List ℕ)
    → st ≡ status.Memory
    → Finished come probes [] (record { reads = reads; writes = writes; taken = taken; steps = steps }) (record { reads = reads; writes = writes; taken = taken; steps = steps }) st name
unaudited-finishes come probes reads writes steps taken st name is =
    wanting-finishes come probes [] reads writes steps steps taken st name is (omega arith) (omega arith)
