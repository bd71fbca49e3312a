-- How the program ends, as far as its streams and its exit status show it.
use Rattle.std.specs.Prelude.{◌≡◌, ◌⊎◌, ℕ, List, Option, None}
use Rattle.outside.specs.Rose.{Rose}
use Rattle.abides_run.specs.Code.{code_of}
use Rattle.abides_run.specs.Headline.{Noted}
use Rattle.abides_run.specs.Statuses.{IsRefusal}
use Rattle.abides_run.specs.Words.{asked_of}
use Rattle.abides_run.specs.declared.status.Status.{Status}
use Rattle.abides_run.specs.declared.status.Status.TheVariants.{Ok, Usage, WriteFault, Memory}

-- What a sink shows at one moment: how many writes failed, and what it has taken where it tells its bytes.
pub record Sunk : Type 0 where
  pub faults : ℕ
  pub taken : Option (List ℕ)

-- What holds at the end with a status: the notes got its line, for a name; at a refusal out took nothing, and no write to it
-- failed; a failed write is told only where one failed, and at any other status but want of memory none failed.
pub record Ended (status : Status) (out_before out_after notes_before notes_after : Sunk) : Type 0 where
  pub name : List ℕ
  pub noted : Noted name notes_before.faults notes_after.faults notes_before.taken notes_after.taken status
  pub refused : IsRefusal status → out_after.taken ≡ out_before.taken
  pub still : IsRefusal status → out_after.faults ≡ out_before.faults
  pub write_fault : status ≡ WriteFault → Rose out_before.faults out_after.faults
  pub steady : ¬ (status ≡ WriteFault) → ¬ (status ≡ Memory) → out_after.faults ≡ out_before.faults

-- The same of an exit status, which is the number of a status.
pub record EndedAs (exit : ℕ) (out_before out_after notes_before notes_after : Sunk) : Type 0 where
  pub status : Status
  pub code : exit ≡ code_of status
  pub ended : Ended status out_before out_after notes_before notes_after

-- Faulty words are told as such, and no others; of them no other end is told but want of memory.
pub record TellsFaulty (words : List (List ℕ)) (status : Status) : Type 0 where
  pub usage : status ≡ Usage → asked_of words ≡ None
  pub not_asked : asked_of words ≡ None → (status ≡ Usage) ⊎ (status ≡ Memory)
