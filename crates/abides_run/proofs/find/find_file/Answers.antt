use Rattle.std.proofs.Common.{List, ℕ, [], ◌∷◌, ◌++◌, option_map, string_bytes, inr, vec_items}
use Rattle.outside.specs.Files.{content, held}
use Rattle.study_file.specs.Tables.{table_of}
use Rattle.study_rules.specs.Accepted.{study_told}
use Rattle.abides_run.specs.Ahead.{bytes_ahead, further_ahead, settled, study_ahead}
use Rattle.abides_run.specs.Fetched.{named, series_after}
use Rattle.abides_run.specs.Verdict.{most_bytes, verdict_on_found}
use Rattle.abides_run.specs.Words.{further_of}
use Rattle.abides_run.proofs.Among.{among_before, among_behind, among_first}
use Rattle.abides_run.proofs.Asking.{bytes_asked, further_asked}
use Rattle.abides_run.proofs.Come.{found_asked}
use Rattle.abides_run.proofs.Searching.{came_on, stopped_behind, stopped_more}
use Rattle.abides_run.proofs.find.find_file.Goals as goal

pub returns-in-Err-clause-searched : goal.returns-in-Err-clause-searched
returns-in-Err-clause-searched g c =
    let e = c.in-Err.ending in
    let task = c.args.task in
    let name = c.args.name.now in
    let more = series_after (table_of []) ++ named (further_of task) in (
      [],
      stopped_more (λ files. study_ahead files task name (content (held files name) most_bytes)) (name ∷ []) (name ∷ more) _ _ e.status (string_bytes e.name)
          (among_first (string_bytes e.name) name more)
          (c.in-Err.ensures (λ files. bytes_ahead files (further_ahead files task)) (λ files. bytes_asked files (further_ahead files task) (further_asked files task))),
    )

pub returns-in-Err-read_study-clause-searched : goal.returns-in-Err-read_study-clause-searched
returns-in-Err-read_study-clause-searched g c =
    let e = c.in-Err-read_study.ending in
    let task = c.args.task in
    let name = c.args.name.now in
    let bytes = c.in-Ok.bytes.items in
    let series = series_after (table_of bytes) in
    let further = named (further_of task) in (
      bytes,
      stopped_behind (λ files. study_ahead files task name (content (held files name) most_bytes)) (λ files. bytes_ahead files (further_ahead files task) bytes)
          series (name ∷ (series ++ further)) _ _ _ e.status (string_bytes e.name)
          (c.in-Ok.ensures (λ files. bytes_ahead files (further_ahead files task)) (λ files. bytes_asked files (further_ahead files task) (further_asked files task)))
          (λ among. inr (among_before (string_bytes e.name) series further among))
          (rw c.deref.ensures.value at c.in-Err-read_study.ensures.searched (λ files. further_ahead files task) (λ files. further_asked files task)),
    )

pub returns-in-Err-fetch_named-clause-searched : goal.returns-in-Err-fetch_named-clause-searched
returns-in-Err-fetch_named-clause-searched g c =
    let e = c.in-Err-fetch_named.ending in
    let task = c.args.task in
    let name = c.args.name.now in
    let bytes = c.in-Ok.bytes.items in
    let study = study_told c.in-Ok-read_study.study in
    let series = series_after (table_of bytes) in
    let further = named (further_of task) in (
      bytes,
      stopped_behind (λ files. study_ahead files task name (content (held files name) most_bytes)) (λ files. further_ahead files task study)
          further (name ∷ (series ++ further)) _ _ _ e.status (string_bytes e.name)
          (came_on (λ files. study_ahead files task name (content (held files name) most_bytes)) (λ files. bytes_ahead files (further_ahead files task) bytes) (λ files. further_ahead files task study) _ _ _
          (c.in-Ok.ensures (λ files. bytes_ahead files (further_ahead files task)) (λ files. bytes_asked files (further_ahead files task) (further_asked files task)))
          (rw c.deref.ensures.value at c.in-Ok-read_study.ensures.searched (λ files. further_ahead files task) (λ files. further_asked files task)))
          (λ among. inr (among_behind (string_bytes e.name) series further among))
          (rw c.further_name.ensures at c.in-Err-fetch_named.ensures (λ files bytes. settled (verdict_on_found task bytes study)) (λ files bytes. found_asked task bytes study)),
    )

pub returns-clause-searched : goal.returns-clause-searched
returns-clause-searched g c =
    let task = c.args.task in
    let name = c.args.name.now in
    let bytes = c.in-Ok.bytes.items in
    let study = study_told c.in-Ok-read_study.study in
    let further = option_map vec_items c.in-Ok-fetch_named.further in (
      bytes,
      came_on (λ files. study_ahead files task name (content (held files name) most_bytes)) (λ files. further_ahead files task study) (λ files. settled (verdict_on_found task further study)) _ _ _
          (came_on (λ files. study_ahead files task name (content (held files name) most_bytes)) (λ files. bytes_ahead files (further_ahead files task) bytes) (λ files. further_ahead files task study) _ _ _
          (c.in-Ok.ensures (λ files. bytes_ahead files (further_ahead files task)) (λ files. bytes_asked files (further_ahead files task) (further_asked files task)))
          (rw c.deref.ensures.value at c.in-Ok-read_study.ensures.searched (λ files. further_ahead files task) (λ files. further_asked files task)))
          (rw c.further_name.ensures at c.in-Ok-fetch_named.ensures (λ files bytes. settled (verdict_on_found task bytes study)) (λ files bytes. found_asked task bytes study)),
    )
