use Rattle.std.proofs.Common.{◌≡◌, ◌∙◌, List, All, length, map, ap, sym, subst}
use Rattle.std.proofs.lemmas.List.{length-map}
use Rattle.probe_desk.specs.Probe.{Meaning}
use Rattle.study_report.specs.declared.row.TableRow.{TableRow}
use Rattle.kernel_copy.specs.Courses.{CourseTold}
use Rattle.study_report.proofs.Rows.{rows_wide}
use Rattle.study_report.proofs.tables.study_table.Goals as goal

pub table-requires : goal.table-requires
table-requires g c =
    let k : CourseTold = c.args.course.now in
    let meanings = map (λ b. (goal.Probe-dyn g (b.vtable, b.value)).meaning b.value) c.args.probes.now in
    let width = length c.rows.new.probes in
    let count : width ≡ length meanings =
    sym (length-map c.rows.new.probes (λ b. (goal.Probe-dyn g (b.vtable, b.value)).meaning b.value)) ∙ ap (λ (ms : List Meaning). length ms) c.rows.ensures.meanings in
    let P : TableRow → Type 0 = λ r. length r.values ≡ width in
    subst (λ (rs : List TableRow). All P rs) (sym (c.as_slice.ensures.value ∙ c.in_ok-rows.ensures.rows)) (rows_wide k meanings width (length k.plan.branches) count)
