-- What the words of a command line ask for.
use Rattle.std.specs.Prelude.{ℕ, ◌==◌, if◌then◌else◌, List, [], ◌∷◌, length, slice_index_or, codes, bytes_eq, Option, Some, None, option_map, option_and_then}
use Rattle.std.specs.Int.{is_in_range}
use Rattle.command_words.specs.Line.{Parts, line_of}
use Rattle.command_words.specs.Numbers.{number_of, count_of}
use Rattle.command_words.specs.Marks.{mark_of, marks_of}
use Rattle.command_words.specs.declared.asked.Crossing.{Crossing}
use Rattle.command_words.specs.declared.asked.Task.TheVariants.{Run, Check, Table, Rewind, Cross, Session}
use Rattle.command_words.specs.declared.asked.Request.{Request}
use Rattle.command_words.specs.declared.asked.Request.TheVariants.{File, Large, Bundle}
use Rattle.command_words.specs.declared.asked.Asked.{Asked}

-- a request that takes no further words
abbrev pub alone : Request → List (List ℕ) → Option Request
alone request [] = Some request
alone request (word ∷ more) = None

-- `rewind STUDY B:E...` with 1 to 64 marks
abbrev pub rewind_of : List ℕ → List (List ℕ) → ℕ → Option Request
rewind_of study more places =
    if is_in_range 1 64 (length more) then option_map (λ marks. File (Rewind marks places) study) (marks_of more) else None

-- `big NUMBER` with 1 to 4 digits
abbrev pub big_of : List ℕ → List (List ℕ) → Option Request
big_of study more = option_and_then (λ number. alone (Large number) more) (number_of 4 study)

-- a stock, a state and a file of orders, where the first word is a mark and the last is not empty
abbrev pub crossing_of : List ℕ → List ℕ → List ℕ → Option Crossing
crossing_of word symbol file =
    if length file == 0 then None
    else option_map (λ mark. record { mark = mark; symbol = symbol; file = file }) (mark_of word)

-- `cross STUDY B:E SYMBOL FILE`
abbrev pub cross_of : List ℕ → List (List ℕ) → ℕ → Option Request
cross_of study more places =
    if length more == 3
    then option_map (λ crossing. File (Cross crossing places) study) (crossing_of (slice_index_or more 0 []) (slice_index_or more 1 []) (slice_index_or more 2 []))
    else None

-- a study and a script, whose name is not empty
abbrev pub scripted_of : List ℕ → List ℕ → ℕ → Option Request
scripted_of study script places = if length script == 0 then None else Some (File (Session script places) study)

-- `session STUDY SCRIPT`
abbrev pub session_of : List ℕ → List (List ℕ) → ℕ → Option Request
session_of study more places = if length more == 1 then scripted_of study (slice_index_or more 0 []) places else None

-- what the command of this name asks for, with its study, number or bundle and its further words, of which so many grid places keep
-- states
abbrev pub request_of : List ℕ → List ℕ → List (List ℕ) → ℕ → Option Request
request_of name study more places =
    if bytes_eq name (codes "run") then alone (File Run study) more
    else if bytes_eq name (codes "table") then alone (File Table study) more
    else if bytes_eq name (codes "check") then alone (File Check study) more
    else if bytes_eq name (codes "rewind") then rewind_of study more places
    else if bytes_eq name (codes "big") then big_of study more
    else if bytes_eq name (codes "cross") then cross_of study more places
    else if bytes_eq name (codes "audit") then alone (Bundle study) more
    else if bytes_eq name (codes "session") then session_of study more places
    else None

abbrev pub asked_from : Parts → Option ℕ → Option ℕ → Option Asked
asked_from line (Some workers) (Some places) =
    option_map (λ request. record { request = request; workers = workers }) (request_of line.command line.study line.more places)
asked_from line _ _ = None

-- a line asks for its command, with 1 to 64 workers and 0 to 128 places; one with an empty study asks for nothing
abbrev pub asked_in : Parts → Option Asked
asked_in line =
    if length line.study == 0 then None
    else asked_from line (count_of 1 64 line.workers) (count_of 0 128 line.places)

-- what the words ask for, where the command line is one
abbrev pub asked_of : List (List ℕ) → Option Asked
asked_of words = option_and_then asked_in (line_of words)
