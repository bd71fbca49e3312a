-- What the functions that write promise each other.
use Rattle.std.specs.Prelude.{◌≡◌, ◌⊎◌, ◌≤◌, ℕ, List, Option, Result, OnOk, OnErr, IfErr}
use Rattle.outside.specs.Rose.{Rose}
use Rattle.outside.specs.Taken.{appended, TookPrefix}
use Rattle.abides_run.specs.Output.{Probes}
use Rattle.abides_run.specs.Verdict.{Verdict, output, distinct, allowance, ceiling}
use Rattle.abides_run.specs.Statuses.{Counts, IsRefusal, IsStill, Names, NamesOne}
use Rattle.abides_run.specs.Headline.{Fulfilled, Seen}
use Rattle.abides_run.specs.declared.status.Status.{Status}
use Rattle.abides_run.specs.declared.status.Status.TheVariants.{Ok, Usage, NoStudy, TooLong, Refused, ReadFault, WriteFault, NoBranch, NoStock, BadOrders, BadBundle, AuditFailed, BadScript, ActRefused, NoEvent, Memory}

-- a status with which bytes are not all sent
abbrev pub IsUnsent : Status → Type 0
IsUnsent WriteFault = Unit {0}
IsUnsent Memory = Unit {0}
IsUnsent _ = ⊥

-- These bytes were made and sent to a sink; or a first part of them, and why no more. The counts are those of the sink's
-- faults, before and after, and then the bytes that it has taken. The count rises exactly where a write failed.
pub record Sent (bytes : List ℕ) (faults_before faults_after : ℕ) (before after : Option (List ℕ)) (result : Result (Unit {0}) Status) : Type 0 where
  pub whole : OnOk result (after ≡ appended before bytes)
  pub cut : OnErr result (TookPrefix before after bytes)
  pub unsent : IfErr result IsUnsent
  pub fault : IfErr result (λ st. st ≡ WriteFault → Rose faults_before faults_after)
  pub steady : OnOk result (faults_after ≡ faults_before)
  pub wanting : IfErr result (λ st. ¬ (st ≡ WriteFault) → faults_after ≡ faults_before)
  pub never_falls : faults_before ≤ faults_after

-- All of these bytes were written once so many events and at most so many more were simulated, or why not, and at most so many
-- events were.
pub record Performed (bytes : List ℕ) (events more most : ℕ) (before after : Seen) (status : Status) : Type 0 where
  pub ended : (status ≡ Ok) ⊎ IsUnsent status
  pub whole : status ≡ Ok → after.taken ≡ appended before.taken bytes
  pub counter : Counts events more most before.steps after.steps before.taken after.taken status
  pub cut : TookPrefix before.taken after.taken bytes
  pub fault : status ≡ WriteFault → Rose before.writes after.writes
  pub steady : ¬ (status ≡ WriteFault) → after.writes ≡ before.writes
  pub never_falls : before.writes ≤ after.writes

-- a status that comes once a study was found
abbrev pub IsFinal : Status → Type 0
IsFinal Usage = ⊥
IsFinal NoStudy = ⊥
IsFinal TooLong = ⊥
IsFinal (Refused rule place) = ⊥
IsFinal ReadFault = ⊥
IsFinal _ = Unit {0}

-- What was asked for with these arguments was done with a study that was found, which comes to this verdict; or why not. The
-- name is that of which the status speaks.
pub record Finished (come : Verdict) (probes : Probes) (arguments : List (List ℕ)) (before after : Seen) (status : Status) (name : List ℕ) : Type 0 where
  pub final : IsFinal status
  pub fulfilled : Fulfilled come (output probes come) (distinct come) (allowance come) (ceiling come) before after status
  pub named : (fetched : List (List ℕ)) → Names come fetched status name
  pub argument : NamesOne arguments status name
  pub fault : status ≡ WriteFault → Rose before.writes after.writes
  pub steady : ¬ (status ≡ WriteFault) → after.writes ≡ before.writes
  pub refused : IsRefusal status → after.taken ≡ before.taken
  pub unmoved : IsStill status → after.steps ≡ before.steps
  pub out_still : IsRefusal status → after.writes ≡ before.writes
  pub never_falls : before.writes ≤ after.writes
