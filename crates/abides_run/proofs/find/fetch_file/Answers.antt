use Rattle.std.proofs.Common.{◌≡◌, rules}
use Rattle.outside.specs.Fetched.{content_of}
use Rattle.abides_run.proofs.Searching.{file_came}
use Rattle.abides_run.proofs.find.fetch_file.Goals as goal

pub returns-in-Ok-Whole : goal.returns-in-Ok-Whole
returns-in-Ok-Whole g c =
    let steady : g.L.Library.faults c.fetch.new.self ≡ g.L.Library.faults c.args.library.now = search rules in
    λ next asked. file_came next c.args.name.now _ c.args.most (content_of c.in-Ok-Whole.field-0) _ _
    c.in-Ok-Whole.ensures.answer (search rules) c.fetch.ensures.same steady
