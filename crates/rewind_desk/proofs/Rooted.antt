-- No branch forks on the root's path.
use Rattle.std.proofs.Common.{◌≡◌, ◌<◌, ◌≤◌, ℕ, zero, suc, length, Some, inl, inr, sym, ◌∙◌, subst, arith}
use Rattle.std.proofs.lemmas.Bool.{cases_eq}
use Rattle.branch_tree.specs.Plan.{Plan}
use Rattle.branch_tree.specs.Planned.{IsTree}
use Rattle.branch_tree.specs.Segments.{segments_in, segment_at, last_of}
use Rattle.branch_tree.proofs.PartLemmas.{last-at}
use Rattle.kernel_copy.specs.Courses.{CourseTold, IsCourse}
use Rattle.kernel_copy.proofs.Trees.{course-tree}
use Rattle.kernel_copy.proofs.Walks.{has_parent}
use Rattle.rewind_desk.specs.Reach.{IsOn}
use Rattle.rewind_desk.specs.Sure.{IsWholeAtForks}
use Rattle.rewind_desk.proofs.Chained.{on-below, on-first, on-parent, parent_cases}

-- what a segment of the root goes on from is of the root
parent-rooted : (p : Plan) (s q : ℕ) → IsTree p.branches p.limit → s < length (segments_in p) → (segment_at p s).branch ≡ 0 → (segment_at p s).parent ≡ Some q → (segment_at p q).branch ≡ 0
parent-rooted p s q t l root is = elim (has_parent p s q t l is).joins [
  | inl next ↦ next.branch ∙ root
  | inr fork ↦ absurd (omega (arith, fork.later, root))
]

-- so is each segment of its chain
chain-rooted : (n : ℕ) (p : Plan) (s k : ℕ) → IsTree p.branches p.limit → s < length (segments_in p) → s ≤ n → (segment_at p s).branch ≡ 0 → IsOn p s k → (segment_at p k).branch ≡ 0
chain-rooted zero p s k t l low root on = elim (parent_cases (segment_at p s).parent) [
  | inl none ↦ subst (λ (x : ℕ). (segment_at p x).branch ≡ 0) (on-first p s k none on) root
  | inr some ↦ let parent = has_parent p s some.0 t l some.1 in absurd (omega (arith, parent.earlier))
]
chain-rooted (suc n) p s k t l low root on = elim (parent_cases (segment_at p s).parent) [
  | inl none ↦ subst (λ (x : ℕ). (segment_at p x).branch ≡ 0) (on-first p s k none on) root
  | inr some ↦ elim (cases_eq s k) [
    | inl same ↦ subst (λ (x : ℕ). (segment_at p x).branch ≡ 0) same root
    | inr other ↦
        let q = some.0 in
        let parent = has_parent p s q t l some.1 in
        chain-rooted n p q k t (omega (arith, parent.earlier)) (omega (arith, parent.earlier)) (parent-rooted p s q t l root some.1) (on-parent p s q k t l some.1 other on)
  ]
]

pub root-whole : (c : CourseTold) → IsCourse c → IsWholeAtForks c 0
root-whole c h s q on is other =
    let t = course-tree c h in
    let last = last_of c.plan.branches 0 in
    let at = last-at c.plan 0 t.some in
    let root = chain-rooted last c.plan last s t at.0 (omega arith) at.1.branch on in
    absurd (other (parent-rooted c.plan s q t (on-below c.plan last s t at.0 on) root is ∙ sym root))
