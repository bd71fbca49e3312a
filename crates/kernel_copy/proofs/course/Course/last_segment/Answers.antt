use Rattle.std.proofs.Common.{◌≡◌, ◌<◌, ◌-◌, ℕ, List, length, get_or, ap, ◌∙◌, sym, subst}
use Rattle.branch_tree.specs.Plan.{Plan}
use Rattle.branch_tree.specs.Segments.{numbers_of, segments_in}
use Rattle.branch_tree.proofs.PartLemmas.{last-at}
use Rattle.kernel_copy.proofs.Keeping.{last-number}
use Rattle.kernel_copy.proofs.course.Course.last_segment.Goals as goal

pub returns-clause-last : goal.returns-clause-last
returns-clause-last c =
    let p = c.args.self.now.plan in
    let b = c.args.branch in
    let numbers : c.segments_of-numbers.result.now ≡ numbers_of p b = c.segments_of-numbers.ensures ∙ ap (λ (q : Plan). numbers_of q b) c.plan.ensures.value in
    ap (λ (ns : List ℕ). get_or ns (length ns - 1) 0) numbers ∙ last-number p b 0

pub returns-clause-exists : goal.returns-clause-exists
returns-clause-exists c =
    let p = c.args.self.now.plan in
    let b = c.args.branch in
    let numbers : c.segments_of-numbers.result.now ≡ numbers_of p b = c.segments_of-numbers.ensures ∙ ap (λ (q : Plan). numbers_of q b) c.plan.ensures.value in
    let last = ap (λ (ns : List ℕ). get_or ns (length ns - 1) 0) numbers ∙ last-number p b 0 in
    subst (λ (n : ℕ). n < length (segments_in p)) (sym last) (last-at p b c.requires).0
