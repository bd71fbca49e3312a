use Rattle.std.proofs.Common.{◌≡◌, ◌∙◌, ◌+◌, ◌++◌, List, IfOk, IfSome, map, take, ap, subst, sym}
use Rattle.std.specs.List.{flat_map}
use Rattle.std.proofs.lemmas.List.{take_all}
use Rattle.market_types.specs.Told.{EntryTold}
use Rattle.kernel_copy.specs.Courses.{CourseTold}
use Rattle.probe_desk.specs.Probe.{column_of}
use Rattle.probe_desk.specs.Sums.{AreSums}
use Rattle.study_report.specs.Tables.{run_of}
use Rattle.study_report.proofs.Few.{few-moved}
use Rattle.study_report.proofs.Traces.{parts-taken}
use Rattle.study_report.proofs.Watching.{columns_by, columns_read, seen_on}
use Rattle.study_report.proofs.branch_row.columns.Goals as goal

pub loop-part-preserved : goal.loop-part-preserved
loop-part-preserved g c =
    let (numbers, meanings, titles) = c.loop-part.invariant in
    let w = c.watch_packed.ensures in
    let parts = c.deref-part-items.result.now in
    let i = c.loop-part.part-index in
    let seen = flat_map (λ t. t.now.list) (take i parts) in
    let next = c.packed.result.now.list in
    let more = parts-taken (λ t. t.now.list) parts i c.part-item.result c.loop-part-test.true c.part-item.is
    ∙ ap (λ (es : List EntryTold). seen ++ es) (sym (ap (λ v. v.list) c.packed.ensures)) in
    (c.in_ok-watch_packed.ensures.numbers ∙ seen_on _ _ c.loop-part.probes c.args.probes.now seen next (flat_map (λ t. t.now.list) (take (i + 1) parts)) meanings numbers more, w.meanings ∙ meanings, w.titles ∙ titles)

pub returns-clause-values : goal.returns-clause-values
returns-clause-values g c =
    let (numbers, meanings, titles) = c.loop-part.invariant in
    let seen = flat_map (λ t. t.now.list) (take c.loop-part.part-index c.deref-part-items.result.now) in
    let all = take_all c.loop-part.part-index c.deref-part-items.result.now c.loop-part-test.false ∙ c.deref-part-items.ensures.value in
    let whole = ap (flat_map (λ t. t.now.list)) all ∙ c.in_ok-parts.ensures in
    subst (λ xs. IfOk c.values.result (λ v. v.items ≡ xs))
    (columns_read _ _ c.loop-part.probes c.args.probes.now seen meanings numbers
    ∙ ap (λ (es : List EntryTold). map (λ m. column_of m es) (map (λ b. (goal.Probe-dyn g (b.vtable, b.value)).meaning b.value) c.args.probes.now)) whole)
    c.values.ensures

pub returns-in-Some-clause-values : goal.returns-in-Some-clause-values
returns-in-Some-clause-values g c =
    let k : CourseTold = c.args.course.now in
    let es : List EntryTold = (run_of k c.args.branch).entries in
    let sums : AreSums c.sums_of_parts.result es =
    subst (λ (xs : List EntryTold). AreSums c.sums_of_parts.result xs) (ap (flat_map (λ t. t.now.list)) c.deref.ensures.value ∙ c.in_ok-parts.ensures) c.sums_of_parts.ensures in
    let few = few-moved k c.args.branch c.sums_of_parts.result c.know_course.ensures c.requires.branch sums in
    subst (λ x. IfSome x (λ v. v.items ≡ map (λ b. column_of ((goal.Probe-dyn g (b.vtable, b.value)).meaning b.value) es) c.args.probes.now)) c.in-Some.is (c.in_ok-told.ensures es sums few)
    ∙ columns_by (λ b. (goal.Probe-dyn g (b.vtable, b.value)).meaning b.value) c.args.probes.now es
