-- Whatever the files hold, words that are no faulty ones ask for something.
use Rattle.std.proofs.Common.{ℕ, List, [], ◌∷◌, Option, Some, None, Result, Ok, Err}
use Rattle.toml.specs.Data.{Members}
use Rattle.outside.specs.Files.{Content, absent, too_long, whole, held, content}
use Rattle.study_file.specs.Tables.{table_of}
use Rattle.study_market.specs.declared.early_refusal.Refusal.{Refusal}
use Rattle.study_rules.specs.Accepted.{StudyTold, study_of}
use Rattle.command_words.specs.declared.asked.Task.{Task}
use Rattle.abides_run.specs.Ahead.{Ahead, bytes_ahead, file_ahead, further_ahead, judged, named_ahead, settled, table_ahead, tabled}
use Rattle.abides_run.specs.Verdict.{Files, IsAsked, most_bytes, series_of, verdict_on_found}
use Rattle.abides_run.specs.Words.{further_of}
use Rattle.abides_run.proofs.Come.{found_asked}

pub file_asked : (next : List ℕ → Ahead) (name : List ℕ) → ((bytes : List ℕ) → IsAsked (next bytes).verdict) → (answer : Content) → IsAsked (file_ahead name next answer).verdict
file_asked next name asked absent = tt
file_asked next name asked too_long = tt
file_asked next name asked (whole bytes) = asked bytes

pub named_asked : (files : Files) (next : Option (List ℕ) → Ahead) → ((bytes : Option (List ℕ)) → IsAsked (next bytes).verdict) → (name : Option (List ℕ)) → IsAsked (named_ahead files next name).verdict
named_asked files next asked None = asked None
named_asked files next asked (Some name) = file_asked (λ bytes. next (Some bytes)) name (λ bytes. asked (Some bytes)) (content (held files name) most_bytes)

pub judged_asked : (next : StudyTold → Ahead) → ((s : StudyTold) → IsAsked (next s).verdict) → (r : Result StudyTold Refusal) → IsAsked (judged next r).verdict
judged_asked next asked (Err refusal) = tt
judged_asked next asked (Ok s) = asked s

pub tabled_asked : (next : Members → Ahead) → ((t : Members) → IsAsked (next t).verdict) → (table : Option Members) → IsAsked (tabled next table).verdict
tabled_asked next asked None = tt
tabled_asked next asked (Some t) = asked t

-- a study that is read, and is judged
pub bytes_asked : (files : Files) (next : StudyTold → Ahead) → ((s : StudyTold) → IsAsked (next s).verdict) → (bytes : List ℕ) → IsAsked (bytes_ahead files next bytes).verdict
bytes_asked files next asked bytes =
    tabled_asked (table_ahead files next)
    (λ t. named_asked files (λ series. judged next (study_of t series)) (λ series. judged_asked next asked (study_of t series)) (series_of t))
    (table_of bytes)

-- and its task
pub further_asked : (files : Files) (task : Task) (s : StudyTold) → IsAsked (further_ahead files task s).verdict
further_asked files task s =
    named_asked files (λ further. settled (verdict_on_found task further s)) (λ further. found_asked task further s) (further_of task)
