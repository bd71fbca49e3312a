-- The ranges of what words ask for.
use Rattle.std.specs.Prelude.{◌≡◌, ◌≢◌, ◌≤◌, List, [], length, true, All}
use Rattle.command_words.specs.Marks.{is_branch_name}
use Rattle.command_words.specs.declared.mark.Mark.{Mark}
use Rattle.command_words.specs.declared.asked.Task.{Task}
use Rattle.command_words.specs.declared.asked.Task.TheVariants.{Run, Check, Table, Rewind, Cross, Session}
use Rattle.command_words.specs.declared.asked.Request.{Request}
use Rattle.command_words.specs.declared.asked.Request.TheVariants.{File, Large, Bundle}
use Rattle.command_words.specs.declared.asked.Asked.{Asked}

-- a mark's branch has the form of a name, and its event at most 7 digits
pub record IsMark (m : Mark) : Type 0 where
  pub branch : is_branch_name m.branch ≡ true
  pub event : m.event ≤ 9999999

-- so many marks
pub record AreMarks (marks : List Mark) : Type 0 where
  pub some : 1 ≤ length marks
  pub few : length marks ≤ 64
  pub each : All IsMark marks

-- a file of orders and a script have a name, and at most 128 places keep states
abbrev pub IsTask : Task → Type 0
IsTask Run = Unit {0}
IsTask Check = Unit {0}
IsTask Table = Unit {0}
IsTask (Rewind marks places) = AreMarks marks × (places ≤ 128)
IsTask (Cross crossing places) = IsMark crossing.mark × (crossing.file ≢ []) × (places ≤ 128)
IsTask (Session script places) = (script ≢ []) × (places ≤ 128)

-- a study and a bundle have a name, a number at most 4 digits
abbrev pub IsRequest : Request → Type 0
IsRequest (File task study) = IsTask task × (study ≢ [])
IsRequest (Large number) = number ≤ 9999
IsRequest (Bundle bundle) = bundle ≢ []

pub record IsInRange (asked : Asked) : Type 0 where
  pub request : IsRequest asked.request
  pub some_workers : 1 ≤ asked.workers
  pub few_workers : asked.workers ≤ 64
