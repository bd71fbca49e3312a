-- States of a segment.
use Rattle.std.proofs.Common.{◌≡◌, ℕ, ◌<◌, ◌≤◌, inl, inr, true, false, length, refl, sym, ap, arith}
use Rattle.std.proofs.lemmas.Bool.{cases_eq, eq-eqb, ne_eqb, le-ltb}
use Rattle.branch_tree.specs.declared.segment.Segment.{Segment}
use Rattle.branch_tree.specs.declared.stop.Stop.{Stop}
use Rattle.branch_tree.specs.declared.stop.Stop.TheVariants.{At, When}
use Rattle.branch_tree.specs.Plan.{Plan}
use Rattle.branch_tree.specs.Planned.{IsTree}
use Rattle.branch_tree.specs.Segments.{segments_in, segment_at}
use Rattle.market_floor.specs.declared.opening.Opening.{Opening}
use Rattle.kernel_core.specs.Until.{Run}
use Rattle.kernel_copy.specs.Full.{full}
use Rattle.kernel_copy.specs.Segmentwise.{segment_end, from_count, fork_number, is_past, after}
use Rattle.kernel_copy.proofs.Walks.{segment-within, segment-stays, segment-until}

-- after the number of its end's key, a segment's state is its end's
pub after-end : (o : Opening) (p : Plan) (g : Segment) → after o p g (fork_number g.stop) ≡ (segment_end o p g).state
after-end o p g = rw (eq-eqb (fork_number g.stop) (fork_number g.stop) refl) refl

-- so it is past its end
pub after-past : (o : Opening) (p : Plan) (g : Segment) (e : ℕ) → is_past (segment_end o p g).state.events g.stop e ≡ true → after o p g e ≡ (segment_end o p g).state
after-past o p g e h = elim (cases_eq e (fork_number g.stop)) [
  | inl same ↦ rw (eq-eqb e (fork_number g.stop) same) refl
  | inr other ↦ rw (ne_eqb e (fork_number g.stop) other, h) refl
]

not-past : (events : ℕ) (s : Stop) (e : ℕ) → e ≤ events → is_past events s e ≡ false
not-past events (At n) e h = rw (le-ltb events e h) refl
not-past events (When w) e h = refl

full-there : (o : Opening) (p : Plan) (s e : ℕ) (stop : Stop) → IsTree p.branches p.limit → p.limit ≡ o.limit → o.limit < 16777215 → s < length (segments_in p) → (segment_at p s).stop ≡ stop → e ≡ fork_number stop
    → from_count o p (segment_at p s) ≤ e → e ≤ (segment_end o p (segment_at p s)).state.events → full o p (segment_at p s).branch e ≡ segment_end o p (segment_at p s)
full-there o p s e (At n) t lim few l is at low high =
    let g = segment_at p s in
    segment-stays o p g n e is (omega (arith, segment-until o p s n t lim l is (omega arith))) (omega arith)
full-there o p s e (When w) t lim few l is at low high = absurd (omega (arith, segment-within o p s t lim l))

-- where its run stands, it is its branch's full run
pub after-full : (o : Opening) (p : Plan) (s e : ℕ) → IsTree p.branches p.limit → p.limit ≡ o.limit → o.limit < 16777215 → s < length (segments_in p)
    → from_count o p (segment_at p s) ≤ e → e ≤ (segment_end o p (segment_at p s)).state.events → after o p (segment_at p s) e ≡ (full o p (segment_at p s).branch e).state
after-full o p s e t lim few l low high =
    let g = segment_at p s in
    elim (cases_eq e (fork_number g.stop)) [
      | inl same ↦ rw (eq-eqb e (fork_number g.stop) same) (sym (ap (λ (r : Run). r.state) (full-there o p s e g.stop t lim few l refl same low high)))
      | inr other ↦ rw (ne_eqb e (fork_number g.stop) other, not-past (segment_end o p g).state.events g.stop e high) refl
    ]
