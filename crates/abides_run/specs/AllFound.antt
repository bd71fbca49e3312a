-- What was found for the words: a study and what is to be done with it, a large study, or the bytes of a bundle.
use Rattle.std.specs.Prelude.{◌≡◌, ℕ, List, [], Option, Some, option_map}
use Rattle.study_rules.specs.Accepted.{study_told}
use Rattle.bundle_reader.specs.Reading.{reading_of}
use Rattle.command_words.specs.Ranges.{IsTask}
use Rattle.abides_run.specs.declared.found.Found.{Found}
use Rattle.abides_run.specs.declared.found.Found.TheVariants.{Study, Large, Bundle}
use Rattle.abides_run.specs.Fetched.{arguments_of}
use Rattle.abides_run.specs.Output.{described}
use Rattle.abides_run.specs.Verdict.{Verdict, accepted, verdict_on_found, verdict_on_read}

-- what it comes to
abbrev pub verdict_on_all : Found → Verdict
verdict_on_all (Study s) = verdict_on_found s.task (option_map (λ bytes. bytes.items) s.further) (study_told s.simulation.study)
verdict_on_all (Large simulation bytes) = accepted (described bytes (study_told simulation.study))
verdict_on_all (Bundle bytes) = verdict_on_read (reading_of bytes.items)

-- the arguments of its task; a large study and a bundle have none
abbrev pub arguments_on : Found → List (List ℕ)
arguments_on (Study s) = arguments_of s.task
arguments_on (Large simulation bytes) = []
arguments_on (Bundle bytes) = []

-- its task is in its ranges
abbrev pub IsTasked : Found → Type 0
IsTasked (Study s) = IsTask s.task
IsTasked (Large simulation bytes) = Unit {0}
IsTasked (Bundle bytes) = Unit {0}

-- so many workers are to do it; a bundle takes none
abbrev pub IsWorkedBy : Option ℕ → Found → Type 0
IsWorkedBy asked (Study s) = asked ≡ Some s.simulation.workers
IsWorkedBy asked (Large simulation bytes) = asked ≡ Some simulation.workers
IsWorkedBy asked (Bundle bytes) = Unit {0}
