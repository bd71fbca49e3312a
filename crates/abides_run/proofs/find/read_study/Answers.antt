use Rattle.std.proofs.Common.{Bor, List, [], ℕ, Option, option_map, string_bytes, subst, sym, vec_items}
use Rattle.toml.specs.Data.{Members}
use Rattle.toml.specs.View.{table_view}
use Rattle.study_file.specs.Tables.{table_of}
use Rattle.study_rules.specs.Accepted.{study_of, study_told}
use Rattle.abides_run.specs.Ahead.{bytes_ahead, judged, table_ahead}
use Rattle.abides_run.specs.Fetched.{IsAmong, named, series_after}
use Rattle.abides_run.specs.Verdict.{series_of}
use Rattle.abides_run.proofs.Asking.{judged_asked}
use Rattle.abides_run.proofs.Searching.{came_on, searched_behind, stopped_behind, stopped_more}
use Rattle.abides_run.proofs.find.read_study.Goals as goal

pub returns-in-Err-clause-searched : goal.returns-in-Err-clause-searched
returns-in-Err-clause-searched g c =
    let e = c.in-Err.ending in
    λ next asked. stopped_more (λ files. bytes_ahead files (next files) c.args.bytes.now) [] (series_after (table_of c.args.bytes.now)) _ _ e.status (string_bytes e.name)
    (λ none. absurd none) (c.in-Err.ensures.searched (λ files. table_ahead files (next files)) _)

pub returns-in-Err-fetch_named-clause-searched : goal.returns-in-Err-fetch_named-clause-searched
returns-in-Err-fetch_named-clause-searched g c =
    let e = c.in-Err-fetch_named.ending in
    let bytes = c.args.bytes.now in
    let table = table_view c.in-Ok.raw.table in
    λ next asked. stopped_behind (λ files. bytes_ahead files (next files) bytes) (λ files. table_ahead files (next files) table)
    (named (series_of table)) (series_after (table_of bytes)) _ _ _ e.status (string_bytes e.name)
    (c.in-Ok.ensures.searched (λ files. table_ahead files (next files)) _)
    (λ among. subst (λ (t : Option Members). IsAmong (string_bytes e.name) (series_after t)) (sym c.in-Ok.ensures.table) among)
    (rw c.series_name.ensures at c.in-Err-fetch_named.ensures (λ files series. judged (next files) (study_of table series))
    (λ files series. judged_asked (next files) (asked files) (study_of table series)))

pub returns-clause-searched : goal.returns-clause-searched
returns-clause-searched g c =
    let bytes = c.args.bytes.now in
    let table = table_view c.in-Ok.raw.table in
    let series = option_map vec_items c.in-Ok-fetch_named.series in
    λ next asked. searched_behind (λ files. bytes_ahead files (next files) bytes) (λ files. judged (next files) (study_of table series))
    (λ files s. next files (study_told s)) [] (series_after (table_of bytes)) _ _ _ c.accept_study-study.result
    (came_on (λ files. bytes_ahead files (next files) bytes) (λ files. table_ahead files (next files) table) (λ files. judged (next files) (study_of table series)) _ _ _
    (c.in-Ok.ensures.searched (λ files. table_ahead files (next files)) _)
    (rw c.series_name.ensures at c.in-Ok-fetch_named.ensures (λ files series. judged (next files) (study_of table series))
    (λ files series. judged_asked (next files) (asked files) (study_of table series))))
    (λ name none. absurd none)
    (rw c.as_deref.ensures.value at c.accept_study-study.ensures.searched next _)
