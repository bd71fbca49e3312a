-- A full run has few records.
use Rattle.std.proofs.Common.{◌≡◌, ℕ, ◌^◌, ◌<◌, List, [], ◌∷◌, length, refl, ap, arith}
use Rattle.market_types.specs.Told.{EntryTold, event, edit}
use Rattle.branch_tree.specs.Segments.{last_of}
use Rattle.branch_tree.proofs.PartLemmas.{last-at}
use Rattle.kernel_core.specs.Until.{Run}
use Rattle.kernel_copy.specs.Courses.{CourseTold, IsCourse}
use Rattle.kernel_copy.proofs.Trees.{course-tree}
use Rattle.kernel_copy.proofs.Walks.{full-last, segment-within}
use Rattle.probe_desk.specs.declared.sums.Sums.{Sums}
use Rattle.probe_desk.specs.Sums.{AreSums, moved, records_in}
use Rattle.study_report.specs.Difference.{events_in}
use Rattle.study_report.specs.Tables.{run_of}
use Rattle.study_report.proofs.Numbering.{counted-full}

records-are : (es : List EntryTold) → records_in es ≡ length (events_in es)
records-are [] = refl
records-are (event r ∷ es) = let rest = records-are es in omega arith
records-are (edit x ∷ es) = records-are es

-- so that its sums are exact
pub few-moved : (c : CourseTold) (b : ℕ) (s : Sums) → IsCourse c → b < length c.plan.branches → AreSums s (run_of c b).entries → moved (run_of c b).entries < 2 ^ 127
few-moved c b s h l sums =
    let t = course-tree c h in
    let at = last-at c.plan b l in
    let same = ap (λ (r : Run). r.state.events) (full-last c.opening c.plan b t h.limit l) in
    let within = segment-within c.opening c.plan (last_of c.plan.branches b) t h.limit at.0 in
    let count = (counted-full c.opening c.plan b c.opening.limit).count in
    let records = records-are (run_of c b).entries in
    omega (arith, same, within, count, records, sums.bounded, h.opening.limit)
