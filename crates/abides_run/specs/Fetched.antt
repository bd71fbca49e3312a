-- Which files and arguments a line may name.
use Rattle.std.specs.Prelude.{◌≡◌, ◌⊎◌, ℕ, List, [], ◌∷◌, ◌++◌, Option, Some, None, map}
use Rattle.toml.specs.Data.{Members}
use Rattle.command_words.specs.declared.mark.Mark.{Mark}
use Rattle.study_file.specs.Tables.{table_of}
use Rattle.command_words.specs.declared.asked.Request.{Request}
use Rattle.command_words.specs.declared.asked.Request.TheVariants.{File, Large, Bundle}
use Rattle.command_words.specs.declared.asked.Task.{Task}
use Rattle.command_words.specs.declared.asked.Task.TheVariants.{Run, Check, Table, Rewind, Cross, Session}
use Rattle.abides_run.specs.Sessions.{act_words}
use Rattle.abides_run.specs.Words.{further_of}
use Rattle.abides_run.specs.Verdict.{series_of}

abbrev pub named : Option (List ℕ) → List (List ℕ)
named None = []
named (Some name) = name ∷ []

-- the series file that the study's bytes name, where they are the text of a table
abbrev pub series_after : Option Members → List (List ℕ)
series_after None = []
series_after (Some table) = named (series_of table)

-- the study that is asked for, the series file that it names where these are its bytes, and the further file; or the bundle
abbrev pub files_of : Option Request → List ℕ → List (List ℕ)
files_of None bytes = []
files_of (Some (File task study)) bytes = study ∷ (series_after (table_of bytes) ++ named (further_of task))
files_of (Some (Large number)) bytes = []
files_of (Some (Bundle name)) bytes = name ∷ []

-- the arguments of a rewind, or the state and the stock of a cross, as they are written; the acts of a session by their numbers;
-- another task has none
abbrev pub arguments_of : Task → List (List ℕ)
arguments_of Run = []
arguments_of Check = []
arguments_of Table = []
arguments_of (Rewind marks places) = map (λ (m : Mark). m.word) marks
arguments_of (Cross crossing places) = crossing.mark.word ∷ crossing.symbol ∷ []
arguments_of (Session script places) = act_words

abbrev pub arguments_in : Option Request → List (List ℕ)
arguments_in None = []
arguments_in (Some (File task study)) = arguments_of task
arguments_in (Some (Large number)) = []
arguments_in (Some (Bundle name)) = []

-- the name is one of these
abbrev pub IsAmong : List ℕ → List (List ℕ) → Type 0
IsAmong name [] = ⊥
IsAmong name (other ∷ names) = (name ≡ other) ⊎ IsAmong name names
