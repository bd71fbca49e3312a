use Rattle.std.proofs.Common.{◌∙◌, refl}
use Rattle.study_report.proofs.Rows.{all_rows, is_branch, one_row_more}
use Rattle.study_report.proofs.tables.add_rows.Goals as goal

pub loop-b-init : goal.loop-b-init
loop-b-init g c = (c.requires.empty, refl, refl)

pub row-requires : goal.row-requires
row-requires g c = record {
  branch = is_branch c.args.course.now.plan c.plan.result.now c.branches-b-end.result.now c.loop-b.b c.branches-b-end.ensures.value c.plan.ensures.value c.loop-b-test.true;
  ran = c.requires.ran;
}

pub loop-b-preserved : goal.loop-b-preserved
loop-b-preserved g c =
    let (rows, meanings, titles) = c.loop-b.invariant in
    let r = c.row.ensures in
    (one_row_more c.args.course.now _ _ c.loop-b.rows.items c.push.new.self.items c.loop-b.b c.in_ok-next.next rows meanings c.in_ok-next.ensures.row c.in_ok-push.ensures.items, r.meanings ∙ meanings, r.titles ∙ titles)

pub returns-clause-rows : goal.returns-clause-rows
returns-clause-rows g c =
    all_rows c.args.course.now _ c.loop-b.rows.items c.plan.result.now c.branches-b-end.result.now c.loop-b.b c.loop-b.invariant.0 c.branches-b-end.ensures.value c.plan.ensures.value c.loop-b-test.false c.loop-b.auto.b-end
