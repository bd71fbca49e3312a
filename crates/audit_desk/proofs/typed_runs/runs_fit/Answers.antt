use Rattle.kernel_copy.proofs.Pieces.{then-ok}
use Rattle.audit_desk.proofs.HeldCourses.{IsLawful}
use Rattle.audit_desk.proofs.Marked.{are-marked}
use Rattle.audit_desk.proofs.Typed.{runs-in}
use Rattle.audit_desk.proofs.typed_runs.runs_fit.Goals as goal

pub returns : goal.returns
returns g c = then-ok c.segments_fit.result c.segments_fit.ensures (λ typed spelled.
    let k = c.args.course.now in
    let is = c.know_course.ensures in
    let laws : IsLawful k = record {
      texts = λ b. record {
        events = c.texts_stay_in_range.ensures.events k b k.opening.limit is spelled;
        stocks = c.texts_stay_in_range.ensures.stocks k b k.opening.limit is spelled;
      };
      marked = are-marked k is c.feeds_stay_in_range.ensures c.edits_are_marked.ensures;
      positions = λ o s. c.agents_have_all_positions.ensures o s;
      states = λ b e within. c.courses_stay_in_range.ensures.states k b e is within;
    } in
    runs-in k is laws c.branches_have_names.ensures typed)
