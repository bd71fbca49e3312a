-- The bundle of a study that the rules accept passes its audit.
use Rattle.std.proofs.Common.{◌≡◌, ℕ, List, Option, Some, None, Ok, ap, ◌∙◌, subst}
use Rattle.toml.specs.Data.{Members}
use Rattle.outside.specs.Files.{Content, whole, held, content}
use Rattle.study_rules.specs.Accepted.{StudyTold, study_of}
use Rattle.bundle_reader.specs.Told.{BundleTold}
use Rattle.bundle_reader.specs.Reading.{read, reading_of}
use Rattle.trace_bundle.specs.Bundle.{bundle_of}
use Rattle.audit_desk.specs.declared.failing.Failing.{Failing}
use Rattle.audit_desk.specs.Audited.{audit_of}
use Rattle.command_words.specs.declared.asked.Request.{Request}
use Rattle.command_words.specs.declared.asked.Request.TheVariants.{Bundle}
use Rattle.abides_run.specs.Words.{asked_of}
use Rattle.abides_run.specs.Output.{Probes, audited, study_bundle}
use Rattle.abides_run.specs.Verdict.{Files, Verdict, accepted, most_bundle_bytes, verdict_on_failing, verdict_on_read}
use Rattle.abides_run.specs.Ahead.{asked_ahead, bundle_ahead, verdict}
use Rattle.abides_run.specs.Statuses.{Cause, status_of}
use Rattle.abides_run.specs.Headline.{Answered, Honest, IsHonest, Passes, Seen}
use Rattle.abides_run.specs.declared.status.Status.{Status}
use Rattle.abides_run.specs.declared.status.Status.TheVariants as status

-- the bytes of each accepted study's bundle are read as one in which no branch fails
abbrev pub HonestPass : Type 0
HonestPass = (t : Members) (series : Option (List ℕ)) (s : StudyTold) → study_of t series ≡ Ok s
    → (b : BundleTold) × (reading_of (bundle_of s.course) ≡ read b) × (audit_of b ≡ None)

-- a verdict by which something is due causes neither status of an audit
passed : (come : Verdict) (b : BundleTold) (st : Status) → come ≡ accepted (audited b) → Cause come st → Passes st
passed come b st is cause = record {
  bundle = λ reason at e.
      let wrong : status_of come ≡ status.BadBundle reason at = subst (λ (x : Status). Cause come x) e cause in
      let right : status_of come ≡ status.Ok = ap status_of is in
      cc;
  audit = λ branch reference e.
      let wrong : status_of come ≡ status.AuditFailed branch reference = subst (λ (x : Status). Cause come x) e cause in
      let right : status_of come ≡ status.Ok = ap status_of is in
      cc;
}

-- what the words come to where the bundle's bytes are read so
audited_comes : (library : Files) (words : List (List ℕ)) (name bytes : List ℕ) (b : BundleTold) → asked_of words ≡ Some (Bundle name)
    → content (held library name) most_bundle_bytes ≡ whole bytes → reading_of bytes ≡ read b → audit_of b ≡ None
    → verdict library words ≡ accepted (audited b)
audited_comes library words name bytes b asks has is none =
    ap (λ (o : Option Request). (asked_ahead library o).verdict) asks ∙ ap (λ (c : Content). (bundle_ahead name c).verdict) has
    ∙ ap verdict_on_read is ∙ ap (λ (f : Option Failing). verdict_on_failing b f) none

honest_read : HonestPass → (bytes : List ℕ) → (h : IsHonest bytes) → (b : BundleTold) × (reading_of bytes ≡ read b) × (audit_of b ≡ None)
unfolding study_bundle
honest_read pass bytes h =
    let found = pass h.table h.series h.study h.accepted in
    (found.0, ap reading_of h.is ∙ found.1, found.2)

pub answered_honest : HonestPass → (files : Option Files) (words : List (List ℕ)) (probes : Probes) (before after : Seen) (st : Status)
    → Answered files words probes before after st → Honest files words st
answered_honest pass None words probes before after st a = record { passes = tt }
answered_honest pass (Some library) words probes before after st a = record {
  passes = λ name asks bytes has h.
      let found = honest_read pass bytes h in
      passed (verdict library words) found.0 st (audited_comes library words name bytes found.0 asks has found.1 found.2) a.told.cause;
}
