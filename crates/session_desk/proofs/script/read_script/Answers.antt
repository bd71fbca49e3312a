use Rattle.std.proofs.Common.{◌≡◌, ◌≤◌, ◌∙◌, inl, inr, List, ℕ, All, Some, Err, length, ap, sym}
use Rattle.toml.specs.Data.{Members}
use Rattle.toml.specs.View.{table_view}
use Rattle.kernel_copy.specs.Courses.{CourseTold}
use Rattle.study_file.specs.Tables.{table_of}
use Rattle.session_desk.specs.declared.act.Act.{Act}
use Rattle.session_desk.specs.Script.{acts_in, script_of}
use Rattle.session_desk.specs.Fitting.{FitsOpening}
use Rattle.session_desk.proofs.Told.{script-acts, script-none, ok-by, err-by, ok-is, err-is, one-by-one, first-bad}
use Rattle.session_desk.proofs.Fits.{all-fit, how-many, bad-low}
use Rattle.session_desk.proofs.script.read_script.Goals as goal

pub returns-in-Ok-clause-acts : goal.returns-in-Ok-clause-acts
returns-in-Ok-clause-acts c =
    let course : CourseTold = c.args.study.now.course.value in
    let bytes : List ℕ = c.args.bytes.now in
    let t : Members = table_view c.in-Ok.raw.table in
    ok-by c.acts_in-acts.result (λ acts. acts.items) (script_of course bytes) (acts_in course t) (script-acts course bytes t c.in-Ok.ensures.table) c.acts_in-acts.ensures.acts

pub returns-in-Ok-clause-refused : goal.returns-in-Ok-clause-refused
returns-in-Ok-clause-refused c =
    let course : CourseTold = c.args.study.now.course.value in
    let bytes : List ℕ = c.args.bytes.now in
    let t : Members = table_view c.in-Ok.raw.table in
    err-by c.acts_in-acts.result (script_of course bytes) (acts_in course t) (script-acts course bytes t c.in-Ok.ensures.table) c.acts_in-acts.ensures.refused

pub returns-in-Err-clause-refused : goal.returns-in-Err-clause-refused
returns-in-Err-clause-refused c =
    elim c.in-Err.ensures.refused [
      | inl m ↦ inl m
      | inr none ↦ inr (script-none c.args.study.now.course.value c.args.bytes.now none.1 ∙ ap Err (sym none.0))
    ]

pub returns-in-Ok-clause-fit : goal.returns-in-Ok-clause-fit
returns-in-Ok-clause-fit c =
    let course : CourseTold = c.args.study.now.course.value in
    let bytes : List ℕ = c.args.bytes.now in
    let t : Members = table_view c.in-Ok.raw.table in
    let table : table_of bytes ≡ Some t = c.in-Ok.ensures.table in
    ok-is c.acts_in-acts.result (λ acts. acts.items) (acts_in course t) (All (FitsOpening course.opening))
    (λ acts is. all-fit course t acts (one-by-one course bytes t acts table (script-acts course bytes t table ∙ is))) c.acts_in-acts.ensures.acts

pub returns-in-Ok-clause-few : goal.returns-in-Ok-clause-few
returns-in-Ok-clause-few c =
    let course : CourseTold = c.args.study.now.course.value in
    let bytes : List ℕ = c.args.bytes.now in
    let t : Members = table_view c.in-Ok.raw.table in
    let table : table_of bytes ≡ Some t = c.in-Ok.ensures.table in
    ok-is c.acts_in-acts.result (λ acts. acts.items) (acts_in course t) (λ (acts : List Act). length acts ≤ 64)
    (λ acts is. (how-many course t acts (one-by-one course bytes t acts table (script-acts course bytes t table ∙ is))).1) c.acts_in-acts.ensures.acts

pub returns-in-Ok-clause-place : goal.returns-in-Ok-clause-place
returns-in-Ok-clause-place c =
    let course : CourseTold = c.args.study.now.course.value in
    let bytes : List ℕ = c.args.bytes.now in
    let t : Members = table_view c.in-Ok.raw.table in
    let table : table_of bytes ≡ Some t = c.in-Ok.ensures.table in
    err-is c.acts_in-acts.result (acts_in course t)
    (λ n is. bad-low course t n (first-bad course bytes t n table (script-acts course bytes t table ∙ is))) c.acts_in-acts.ensures.refused
