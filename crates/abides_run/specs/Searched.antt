-- What a step of the search for a study comes to, as the functions of the search promise each other.
use Rattle.std.specs.Prelude.{◌≡◌, ◌⊎◌, ◌≤◌, ◌++◌, ℕ, List, Option, None, Some, IfSome, Result, Ok, Err, string_bytes}
use Rattle.outside.specs.Rose.{Rose}
use Rattle.command_words.specs.declared.asked.Request.{Request}
use Rattle.abides_run.specs.Ahead.{Ahead}
use Rattle.abides_run.specs.AllFound.{IsTasked, IsWorkedBy, arguments_on}
use Rattle.abides_run.specs.Fetched.{arguments_in}
use Rattle.abides_run.specs.Verdict.{Files, IsAsked}
use Rattle.abides_run.specs.Statuses.{Cause, Names, Speaks}
use Rattle.abides_run.specs.declared.ending.Ending.{Ending}
use Rattle.abides_run.specs.declared.found.Found.{Found}
use Rattle.abides_run.specs.declared.status.Status.{Status}
use Rattle.abides_run.specs.declared.status.Status.TheVariants.{Usage, NoStudy, TooLong, Refused, ReadFault, Memory}

-- What a library shows at one moment: its files, where it tells them, and how many of its reads failed.
pub record LibraryTold : Type 0 where
  pub files : Option Files
  pub faults : ℕ

-- One step's verdict is that of a later one, and the files from the later one on are the last of its own.
pub record Leads (from to : Ahead) : Type 0 where
  pub verdict : from.verdict ≡ to.verdict
  pub passed : List (List ℕ)
  pub fetched : from.fetched ≡ passed ++ to.fetched

-- The search came from one step to another. No read failed.
pub record Came (from to : Files → Ahead) (before after : LibraryTold) : Type 0 where
  pub leads : IfSome before.files (λ files. Leads (from files) (to files))
  pub steady : after.faults ≡ before.faults
  pub files : after.files ≡ before.files

-- a status that a search ends with once the words are read
abbrev pub IsSought : Status → Type 0
IsSought NoStudy = Unit {0}
IsSought TooLong = Unit {0}
IsSought (Refused rule place) = Unit {0}
IsSought ReadFault = Unit {0}
IsSought Memory = Unit {0}
IsSought _ = ⊥

-- The status has its cause in what lay ahead, and the name is that of the file which it speaks of.
pub record Ends (ahead : Ahead) (status : Status) (name : List ℕ) : Type 0 where
  pub cause : Cause ahead.verdict status
  pub named : Names ahead.verdict ahead.fetched status name

-- The search ended here, with a name that is one of these, whether the library tells its files or not. The library's count of
-- faults rose where a read failed, and stands at any other status.
pub record Stopped (from : Files → Ahead) (mentioned : List (List ℕ)) (before after : LibraryTold) (status : Status) (name : List ℕ) : Type 0 where
  pub ended : IfSome before.files (λ files. Ends (from files) status name)
  pub speaks : Speaks mentioned status name
  pub sought : IsSought status
  pub fault : status ≡ ReadFault → Rose before.faults after.faults
  pub steady : ¬ (status ≡ ReadFault) → after.faults ≡ before.faults
  pub never_falls : before.faults ≤ after.faults
  pub files : after.files ≡ before.files

-- A step was taken, and what it found says where the search came; or the search ended.
abbrev pub Searched : {X : Type 0} → (Files → Ahead) → (Files → X → Ahead) → List (List ℕ) → LibraryTold → LibraryTold → Result X Ending → Type 0
Searched from to mentioned before after (Ok found) = Came from (λ files. to files found) before after
Searched from to mentioned before after (Err ending) = Stopped from mentioned before after ending.status (string_bytes ending.name)

-- whatever is found, the words ask for something
abbrev pub AreAsked : (X : Type 0) → (Files → X → Ahead) → Type 0
AreAsked X next = (files : Files) (found : X) → IsAsked (next files found).verdict

-- What was found fits what was asked for: the arguments and the task, and the workers that are to do it.
pub record Fits (request : Option Request) (workers : Option ℕ) (found : Found) : Type 0 where
  pub arguments : arguments_on found ≡ arguments_in request
  pub tasked : IsTasked found
  pub worked : IsWorkedBy workers found

-- Faulty words end the search before the library is asked: with their status, or for want of memory.
abbrev pub Unasked : {X : Type 0} → LibraryTold → LibraryTold → Result X Ending → Type 0
Unasked before after (Ok found) = ⊥
Unasked before after (Err ending) = ((ending.status ≡ Usage) ⊎ (ending.status ≡ Memory)) × (after ≡ before)
