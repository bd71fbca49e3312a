-- What the words of a command line ask for, and what that needs.
use Rattle.std.specs.Prelude.{ℕ, List, Option, Some, None, map, option_map, string_bytes}
use Rattle.std.specs.declared.string.String.{String}
use Rattle.std.specs.declared.alloc.Global.{Global}
use Rattle.command_words.specs.declared.asked.Asked.{Asked}
use Rattle.command_words.specs.declared.asked.Request.{Request}
use Rattle.command_words.specs.declared.asked.Request.TheVariants.{File, Large, Bundle}
use Rattle.command_words.specs.declared.asked.Task.{Task}
use Rattle.command_words.specs.declared.asked.Task.TheVariants.{Run, Check, Table, Rewind, Cross, Session}
use Rattle.command_words.specs.Asked as line

-- the bytes of each word
abbrev pub texts : List (String Global) → List (List ℕ)
texts words = map string_bytes words

-- the large study of a number is asked for, which is in no file
abbrev pub IsLarge : Option Request → Type 0
IsLarge None = ⊥
IsLarge (Some (File task study)) = ⊥
IsLarge (Some (Large number)) = Unit {0}
IsLarge (Some (Bundle name)) = ⊥

-- what the words ask for, where they are a command line
abbrev pub asked_of : List (List ℕ) → Option Request
asked_of words = option_map (λ (asked : Asked). asked.request) (line.asked_of words)

-- how many workers are to do it
abbrev pub workers_of : List (List ℕ) → Option ℕ
workers_of words = option_map (λ (asked : Asked). asked.workers) (line.asked_of words)

-- the file that a task names besides the study's
abbrev pub further_of : Task → Option (List ℕ)
further_of Run = None
further_of Check = None
further_of Table = None
further_of (Rewind marks places) = None
further_of (Cross crossing places) = Some crossing.file
further_of (Session script places) = Some script
