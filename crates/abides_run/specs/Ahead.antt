-- The search for what words ask for, step by step: what they come to in some files from each step on, and which files are fetched
-- from there on. The order of refusals is the order of this computation.
use Rattle.std.specs.Prelude.{ℕ, List, [], ◌∷◌, Option, Some, None, Result, Ok, Err, length}
use Rattle.toml.specs.Data.{Members}
use Rattle.outside.specs.Files.{Content, absent, too_long, whole, held, content}
use Rattle.study_file.specs.Tables.{table_of}
use Rattle.study_file.specs.LargeStudy.{large_study}
use Rattle.study_market.specs.declared.early_refusal.Refusal.{Refusal}
use Rattle.study_rules.specs.Accepted.{StudyTold, study_of}
use Rattle.bundle_reader.specs.Reading.{reading_of}
use Rattle.command_words.specs.declared.asked.Request.{Request}
use Rattle.command_words.specs.declared.asked.Request.TheVariants.{File, Large, Bundle}
use Rattle.command_words.specs.declared.asked.Task.{Task}
use Rattle.abides_run.specs.Words.{asked_of, further_of}
use Rattle.abides_run.specs.Output.{described}
use Rattle.abides_run.specs.Verdict.{Verdict, Files, usage, no_file, file_too_long, refused, accepted, most_bytes, most_bundle_bytes, large_limit, series_of, verdict_on_found, verdict_on_read}

-- What words and some files come to from a step of the search on, and the files that are fetched from it on, in order.
pub record Ahead : Type 0 where
  pub verdict : Verdict
  pub fetched : List (List ℕ)

-- nothing more is fetched
abbrev pub settled : Verdict → Ahead
settled come = record { verdict = come; fetched = [] }

-- A file is fetched under its name. Where it is there and not too long, its bytes say what is next.
abbrev pub file_ahead : List ℕ → (List ℕ → Ahead) → Content → Ahead
file_ahead name next absent = record { verdict = no_file name; fetched = name ∷ [] }
file_ahead name next too_long = record { verdict = file_too_long name; fetched = name ∷ [] }
file_ahead name next (whole bytes) = record { verdict = (next bytes).verdict; fetched = name ∷ (next bytes).fetched }

-- a file is fetched where there is a name
abbrev pub named_ahead : Files → (Option (List ℕ) → Ahead) → Option (List ℕ) → Ahead
named_ahead files next None = next None
named_ahead files next (Some name) = file_ahead name (λ bytes. next (Some bytes)) (content (held files name) most_bytes)

-- bytes may be the text of a table: a study that is none breaks rule 0
abbrev pub tabled : (Members → Ahead) → Option Members → Ahead
tabled next None = settled (refused 0 0)
tabled next (Some table) = next table

-- the first broken rule of all, or a study
abbrev pub judged : (StudyTold → Ahead) → Result StudyTold Refusal → Ahead
judged next (Err refusal) = settled (refused refusal.rule refusal.place)
judged next (Ok study) = next study

-- the rules judge a table with the bytes of the series file that it may name
abbrev pub table_ahead : Files → (StudyTold → Ahead) → Members → Ahead
table_ahead files next table = named_ahead files (λ series. judged next (study_of table series)) (series_of table)

-- the bytes of a study
abbrev pub bytes_ahead : Files → (StudyTold → Ahead) → List ℕ → Ahead
bytes_ahead files next bytes = tabled (table_ahead files next) (table_of bytes)

-- what a task comes to with a study that breaks no rule, and the bytes of the further file that the task may name
abbrev pub further_ahead : Files → Task → StudyTold → Ahead
further_ahead files task study = named_ahead files (λ further. settled (verdict_on_found task further study)) (further_of task)

-- a study is asked for under its name
abbrev pub study_ahead : Files → Task → List ℕ → Content → Ahead
study_ahead files task name = file_ahead name (bytes_ahead files (further_ahead files task))

-- the text of a large study has a length and no series file, and is judged by the same rules
abbrev pub text_ahead : List ℕ → Ahead
text_ahead text =
    tabled (λ table. judged (λ study. settled (accepted (described (length text) study))) (study_of table None)) (table_of text)

-- it is in no file, and nothing is fetched
abbrev pub large_ahead : List ℕ → Ahead
large_ahead text = settled (text_ahead text).verdict

-- a bundle is asked for under its name
abbrev pub bundle_ahead : List ℕ → Content → Ahead
bundle_ahead name = file_ahead name (λ bytes. settled (verdict_on_read (reading_of bytes)))

abbrev pub request_ahead : Files → Request → Ahead
request_ahead files (File task study) = study_ahead files task study (content (held files study) most_bytes)
request_ahead files (Large number) = large_ahead (large_study number large_limit)
request_ahead files (Bundle name) = bundle_ahead name (content (held files name) most_bundle_bytes)

abbrev pub asked_ahead : Files → Option Request → Ahead
asked_ahead files None = settled usage
asked_ahead files (Some request) = request_ahead files request

-- what words and files come to
abbrev pub verdict : Files → List (List ℕ) → Verdict
verdict files words = (asked_ahead files (asked_of words)).verdict

-- Which files are fetched, in order: the study that the words ask for, then the series file that it names, and then the further
-- file that the words name, where the study breaks no rule; nothing for a large study, and the bundle alone for an audit.
abbrev pub fetched : Files → List (List ℕ) → List (List ℕ)
fetched files words = (asked_ahead files (asked_of words)).fetched
