-- What is promised of a run. The clauses of the one call stand here, as the fields of records.
use Rattle.std.specs.Prelude.{◌≡◌, ◌⊎◌, ◌≤◌, ℕ, List, Option, IfSome, None, Some}
use Rattle.std.specs.Prelude as prelude
use Rattle.toml.specs.Data.{Members}
use Rattle.outside.specs.Files.{whole, held, content}
use Rattle.outside.specs.Rose.{Rose}
use Rattle.outside.specs.Taken.{appended, TookPrefix}
use Rattle.study_rules.specs.Accepted.{StudyTold, study_of}
use Rattle.command_words.specs.declared.asked.Request.TheVariants.{Bundle}
use Rattle.abides_run.specs.Words.{asked_of, IsLarge}
use Rattle.abides_run.specs.Ahead.{fetched, verdict}
use Rattle.abides_run.specs.Verdict.{Verdict, Files, most_bundle_bytes, IsDue, output, distinct, allowance, ceiling, RoseBy}
use Rattle.abides_run.specs.Output.{Probes, study_bundle}
use Rattle.abides_run.specs.Fetched.{arguments_in}
use Rattle.abides_run.specs.Statuses.{Cause, Counts, IsRefusal, IsStill, Names, SpeaksFor, NamesOne, status_of}
use Rattle.abides_run.specs.Notes.{note}
use Rattle.abides_run.specs.declared.status.Status.{Status}
use Rattle.abides_run.specs.declared.status.Status.TheVariants.{Ok, Usage, ReadFault, WriteFault, BadBundle, AuditFailed, Memory}

-- What is seen at one moment: how many reads of the library failed, how many writes to out, what out has taken where it
-- tells its bytes, and how many steps were counted.
pub record Seen : Type 0 where
  pub reads : ℕ
  pub writes : ℕ
  pub taken : Option (List ℕ)
  pub steps : ℕ

-- What holds where words and files come to this verdict, of which these bytes are to be written, and so many events and at
-- most so many more are to be simulated, and so many at most where not all is written.
pub record Fulfilled (come : Verdict) (bytes : List ℕ) (events more most : ℕ) (before after : Seen) (status : Status) : Type 0 where
  -- At status 0 out took the output and nothing else.
  pub output : status ≡ Ok → after.taken ≡ appended before.taken bytes
  -- How many steps were counted: for a run each event of the study's segments once, and no more. For a rewind they are as many
  -- at least, and at most those besides that lead to its targets from the states that are sure to be kept. For a session they are
  -- besides those of each full run that its acts tell values of, and those that lead to its answers from kept states: at least from
  -- the nearest that may be kept, and at most from the nearest that are sure to be.
  pub counter : Counts events more most before.steps after.steps before.taken after.taken status
  -- For a session whose answers were written, exactly how many: no act goes uncounted, and only states that may be kept count.
  pub session : status ≡ Ok → RoseBy come before.steps after.steps
  -- Each status has its cause, and where nothing is due and with no fault each cause its status.
  pub cause : Cause come status
  pub exact : ¬ IsDue come → ¬ (Rose before.reads after.reads) → (status ≡ status_of come) ⊎ (status ≡ Memory)
  -- Never more than a first part of the output is taken.
  pub prefix : TookPrefix before.taken after.taken bytes
  -- Where something is due and there is no fault, want of memory is the only other end.
  pub complete : IsDue come → ¬ (Rose before.reads after.reads) → ¬ (Rose before.writes after.writes) →
      (status ≡ Ok) ⊎ (status ≡ Memory)

-- What holds of all but the note. The files are there where the library tells them.
pub record Answered (files : Option Files) (words : List (List ℕ)) (probes : Probes) (before after : Seen) (status : Status) : Type 0 where
  pub told : IfSome files (λ held. Fulfilled (verdict held words) (output probes (verdict held words)) (distinct (verdict held words)) (allowance (verdict held words)) (ceiling (verdict held words)) before after status)
  -- Faulty words are told as such, and the library is not asked: its count stands.
  pub usage : status ≡ Usage → asked_of words ≡ None
  pub not_asked : asked_of words ≡ None → (status ≡ Usage) ⊎ (status ≡ Memory)
  pub unasked : status ≡ Usage → after.reads ≡ before.reads
  -- For a large study the library is not asked either.
  pub unread : IsLarge (asked_of words) → after.reads ≡ before.reads
  -- A fault is told only where one was counted, and one that was counted is told, where there is memory for its line: at any other
  -- status but want of memory its count stands.
  pub read_fault : status ≡ ReadFault → Rose before.reads after.reads
  pub write_fault : status ≡ WriteFault → Rose before.writes after.writes
  pub no_read_fault : ¬ (status ≡ ReadFault) → ¬ (status ≡ Memory) → after.reads ≡ before.reads
  pub no_write_fault : ¬ (status ≡ WriteFault) → ¬ (status ≡ Memory) → after.writes ≡ before.writes
  -- At a refusal nothing is taken and out's count stands; and the counter, but where an event isn't there.
  pub refused : IsRefusal status → after.taken ≡ before.taken
  pub unmoved : IsStill status → after.steps ≡ before.steps
  pub out_still : IsRefusal status → after.writes ≡ before.writes
  pub reads_never_fall : before.reads ≤ after.reads
  pub writes_never_fall : before.writes ≤ after.writes

-- The file or the argument that the note's line names.
pub record Named (files : Option Files) (words : List (List ℕ)) (status : Status) (name : List ℕ) : Type 0 where
  -- where the library tells its files, the one that is missing or too long, or one that was fetched; the first argument whose
  -- branch isn't there, or whose event isn't, with the last event of its branch
  pub told : IfSome files (λ held. Names (verdict held words) (fetched held words) status name)
  -- in any case the study's, the series file's that a study names, the further file's or the bundle's
  pub always : SpeaksFor words status name
  -- or one of the arguments
  pub argument : NamesOne (arguments_in (asked_of words)) status name

-- The bytes are those of the bundle of a study that the rules accept.
pub record IsHonest (bytes : List ℕ) : Type 0 where
  pub table : Members
  pub series : Option (List ℕ)
  pub study : StudyTold
  pub accepted : study_of table series ≡ prelude.Ok study
  pub is : bytes ≡ study_bundle study.course

-- Neither the status for bytes that are no bundle nor the one for a branch that fails.
pub record Passes (status : Status) : Type 0 where
  pub bundle : (reason at : ℕ) → ¬ (status ≡ BadBundle reason at)
  pub audit : (branch reference : ℕ) → ¬ (status ≡ AuditFailed branch reference)

-- An honest bundle passes: where the library holds under the name of the bundle to audit the bytes of the bundle of any study that
-- the rules accept, and they are not too many, neither status comes.
pub record Honest (files : Option Files) (words : List (List ℕ)) (status : Status) : Type 0 where
  pub passes : IfSome files (λ library. (name : List ℕ) → asked_of words ≡ Some (Bundle name)
      → (bytes : List ℕ) → content (held library name) most_bundle_bytes ≡ whole bytes → IsHonest bytes → Passes status)

-- What holds of the note, where the status speaks of this name: the counts of failed writes to the notes, and
-- what the notes have taken, before and after.
pub record Noted (name : List ℕ) (faults_before faults_after : ℕ) (before after : Option (List ℕ)) (status : Status) : Type 0 where
  -- The line for the status, and nothing at status 0.
  pub whole : ¬ (Rose faults_before faults_after) → after ≡ appended before (note name status)
  -- Where a write fails, a first part of the line at most.
  pub cut : TookPrefix before after (note name status)
  pub never_falls : faults_before ≤ faults_after
