-- What each status of a run says.
use Rattle.std.specs.Prelude.{◌≡◌, ℕ, ◌+◌, ◌≤◌, List, Option}
use Rattle.study_rules.specs.Accepted.{StudyTold}
use Rattle.abides_run.specs.Verdict.{Verdict, usage, no_file, file_too_long, refused, no_branch, no_stock, bad_orders, bad_bundle, audit_failed, bad_script, refused_act, no_event, accepted, IsDue, IsAsked}
use Rattle.abides_run.specs.Words.{asked_of}
use Rattle.abides_run.specs.Fetched.{IsAmong, files_of}
use Rattle.abides_run.specs.Notes.{past_event}
use Rattle.abides_run.specs.declared.status.Status.{Status}
use Rattle.abides_run.specs.declared.status.Status.TheVariants.{Ok, Usage, NoStudy, TooLong, Refused, ReadFault, WriteFault, NoBranch, NoStock, BadOrders, BadBundle, AuditFailed, BadScript, ActRefused, NoEvent, Memory}

-- the status where nothing fails and memory is there
abbrev pub status_of : Verdict → Status
status_of usage = Usage
status_of (no_file name) = NoStudy
status_of (file_too_long name) = TooLong
status_of (refused rule place) = Refused rule place
status_of (no_branch word) = NoBranch
status_of (no_stock word) = NoStock
status_of (bad_orders number) = BadOrders number
status_of (bad_bundle reason at) = BadBundle reason at
status_of (audit_failed branch reference) = AuditFailed branch reference
status_of (bad_script act) = BadScript act
status_of (refused_act act) = ActRefused act
status_of (no_event word last study past) = NoEvent
status_of (accepted due) = Ok

-- What words and files say of each status. Only want of memory may always come.
abbrev pub Cause : Verdict → Status → Type 0
Cause come Ok = IsDue come
Cause come ReadFault = IsAsked come
Cause come WriteFault = IsDue come
Cause come Memory = Unit {0}
Cause come refusal = status_of come ≡ refusal

-- The name is that of an argument or an act whose event is past the last of its branch, and says which event that is.
pub record IsPast (come : Verdict) (name : List ℕ) : Type 0 where
  pub word : List ℕ
  pub last : ℕ
  pub study : StudyTold
  pub past : ℕ
  pub is : come ≡ no_event word last study past
  pub said : name ≡ past_event word last

-- What a status's line names, where words and files come to this verdict and these files are fetched: a file, an argument, a
-- stock's symbol or an act. Which of the reads failed, no file tells.
abbrev pub Names : Verdict → List (List ℕ) → Status → List ℕ → Type 0
Names come fetched NoStudy name = come ≡ no_file name
Names come fetched TooLong name = come ≡ file_too_long name
Names come fetched ReadFault name = IsAmong name fetched
Names come fetched NoBranch name = come ≡ no_branch name
Names come fetched NoStock name = come ≡ no_stock name
Names come fetched NoEvent name = IsPast come name
Names come fetched _ name = Unit {0}

-- A status whose line names a file names one of these.
abbrev pub Speaks : List (List ℕ) → Status → List ℕ → Type 0
Speaks files NoStudy name = IsAmong name files
Speaks files TooLong name = IsAmong name files
Speaks files ReadFault name = IsAmong name files
Speaks files _ name = Unit {0}

-- The file is the study that the words ask for, the series file that a study of some bytes names, the further file that the
-- words name, or the bundle: so it is for each library, whether it tells its files or not.
abbrev pub SpeaksFor : List (List ℕ) → Status → List ℕ → Type 0
SpeaksFor words status name = (bytes : List ℕ) × Speaks (files_of (asked_of words) bytes) status name

-- the name is one of these arguments, and says which event is the last
pub record IsPastAmong (words : List (List ℕ)) (name : List ℕ) : Type 0 where
  pub word : List ℕ
  pub last : ℕ
  pub among : IsAmong word words
  pub said : name ≡ past_event word last

-- A status whose line names an argument names one of these, whether the library tells its files or not.
abbrev pub NamesOne : List (List ℕ) → Status → List ℕ → Type 0
NamesOne words NoBranch name = IsAmong name words
NamesOne words NoStock name = IsAmong name words
NamesOne words NoEvent name = IsPastAmong words name
NamesOne words _ name = Unit {0}

-- The rise of the counter at each status, where at least so many steps are to be counted and at most so many more, so many at most
-- where not all is written, and out had taken this before and has taken this now. No byte goes out before the least of them are
-- made.
abbrev pub Counts : ℕ → ℕ → ℕ → ℕ → ℕ → Option (List ℕ) → Option (List ℕ) → Status → Type 0
Counts least more most old new took_before took Ok = (old + least ≤ new) × (new ≤ old + least + more)
Counts least more most old new took_before took WriteFault = (old + least ≤ new) × (new ≤ old + most)
Counts least more most old new took_before took NoEvent = (old + least ≤ new) × (new ≤ old + most)
Counts least more most old new took_before took Memory =
    (old ≤ new) × (new ≤ old + most) × (¬ (took ≡ took_before) → old + least ≤ new)
Counts least more most old new took_before took _ = new ≡ old

-- a status that comes before the first byte
abbrev pub IsRefusal : Status → Type 0
IsRefusal Ok = ⊥
IsRefusal WriteFault = ⊥
IsRefusal Memory = ⊥
IsRefusal _ = Unit {0}

-- one that comes before the first step
abbrev pub IsStill : Status → Type 0
IsStill Ok = ⊥
IsStill WriteFault = ⊥
IsStill NoEvent = ⊥
IsStill Memory = ⊥
IsStill _ = Unit {0}
