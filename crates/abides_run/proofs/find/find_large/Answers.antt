use Rattle.std.proofs.Common.{◌≡◌, ◌∙◌, List, ℕ, [], Option, None, Some, Result, Ok, Err, length, string_bytes, refl, subst}
use Rattle.toml.specs.Data.{Members}
use Rattle.toml.specs.View.{table_view}
use Rattle.study_file.specs.Tables.{table_of}
use Rattle.study_market.specs.declared.early_refusal.Refusal.{Refusal}
use Rattle.study_rules.specs.Accepted.{StudyTold, study_of, study_told}
use Rattle.abides_run.specs.Ahead.{Ahead, judged, large_ahead, settled, tabled, text_ahead}
use Rattle.abides_run.specs.Output.{described}
use Rattle.abides_run.specs.Searched.{Came, LibraryTold, Stopped}
use Rattle.abides_run.specs.Verdict.{accepted}
use Rattle.abides_run.proofs.Searching.{came_on, came_settled, stopped_behind}
use Rattle.abides_run.proofs.find.find_large.Goals as goal

-- what the rules accept is told of a text of this length
abbrev told : ℕ → StudyTold → Ahead
told bytes study = settled (accepted (described bytes study))

-- behind a text nothing is fetched
judged_unfetched : (bytes : ℕ) (r : Result StudyTold Refusal) → (judged (told bytes) r).fetched ≡ []
judged_unfetched bytes (Ok s) = refl
judged_unfetched bytes (Err refusal) = refl

tabled_unfetched : (bytes : ℕ) (table : Option Members) → (tabled (λ t. judged (told bytes) (study_of t None)) table).fetched ≡ []
tabled_unfetched bytes None = refl
tabled_unfetched bytes (Some t) = judged_unfetched bytes (study_of t None)

unfetched : (text : List ℕ) (library : LibraryTold) → Came (λ files. large_ahead text) (λ files. text_ahead text) library library
unfetched text library = came_settled (text_ahead text) library (tabled_unfetched (length text) (table_of text))

pub returns-in-Err-tables-clause-searched : goal.returns-in-Err-tables-clause-searched
returns-in-Err-tables-clause-searched c =
    let e = c.in-Err-tables.ending in
    let text = c.as_bytes-bytes.result.now in
    λ library. subst (λ (t : List ℕ). Stopped (λ files. large_ahead t) [] library library e.status (string_bytes e.name)) (c.as_bytes-bytes.ensures.value ∙ c.in-Ok.ensures)
    (stopped_behind (λ files. large_ahead text) (λ files. text_ahead text) [] [] library library library e.status (string_bytes e.name) (unfetched text library)
    (λ none. none)
    (c.in-Err-tables.ensures.searched (λ files table. judged (told (length text)) (study_of table None)) library))

pub returns-in-Err-accept_study-clause-searched : goal.returns-in-Err-accept_study-clause-searched
returns-in-Err-accept_study-clause-searched c =
    let e = c.in-Err-accept_study.ending in
    let text = c.as_bytes-bytes.result.now in
    let table = table_view c.in-Ok-tables.raw.table in
    λ library. subst (λ (t : List ℕ). Stopped (λ files. large_ahead t) [] library library e.status (string_bytes e.name)) (c.as_bytes-bytes.ensures.value ∙ c.in-Ok.ensures)
    (stopped_behind (λ files. large_ahead text) (λ files. judged (told (length text)) (study_of table None)) [] [] library library library e.status (string_bytes e.name)
    (came_on (λ files. large_ahead text) (λ files. text_ahead text) (λ files. judged (told (length text)) (study_of table None)) library library library
    (unfetched text library) (c.in-Ok-tables.ensures.searched (λ files table. judged (told (length text)) (study_of table None)) library))
    (λ none. none)
    (c.in-Err-accept_study.ensures.searched (λ files. told (length text)) library))

pub returns-clause-searched : goal.returns-clause-searched
returns-clause-searched c =
    let text = c.as_bytes-bytes.result.now in
    let table = table_view c.in-Ok-tables.raw.table in
    let study = study_told c.in-Ok-accept_study.study in
    λ library. subst (λ (t : List ℕ). Came (λ files. large_ahead t) (λ files. told (length text) study) library library) (c.as_bytes-bytes.ensures.value ∙ c.in-Ok.ensures)
    (came_on (λ files. large_ahead text) (λ files. judged (told (length text)) (study_of table None)) (λ files. told (length text) study) library library library
    (came_on (λ files. large_ahead text) (λ files. text_ahead text) (λ files. judged (told (length text)) (study_of table None)) library library library
    (unfetched text library) (c.in-Ok-tables.ensures.searched (λ files table. judged (told (length text)) (study_of table None)) library))
    (c.in-Ok-accept_study.ensures.searched (λ files. told (length text)) library))
