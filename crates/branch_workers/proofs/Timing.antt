-- What outcomes keep can be put into frames.
use Rattle.std.proofs.Common.{◌≡◌, ◌<◌, ◌≤◌, ℕ, zero, suc, List, All, length, map, sym, subst, arith}
use Rattle.std.proofs.lemmas.List.Elements.{All-nil, All-push}
use Rattle.branch_tree.specs.Segments.{segments_in, segment_at}
use Rattle.market_types.specs.Timely.{IsTimely}
use Rattle.kernel_copy.specs.declared.kept.Keep.{Keep}
use Rattle.kernel_copy.specs.declared.run.Outcome.{Outcome}
use Rattle.kernel_copy.specs.Courses.{CourseTold}
use Rattle.kernel_copy.specs.Kept.{IsWritable, kept_told}
use Rattle.kernel_copy.specs.Outcomes.{OutcomeTold, outcome_told, outcome_of, outcomes_before}
use Rattle.kernel_copy.specs.Segmentwise.{segment_entries}
use Rattle.kernel_copy.proofs.Pieces.{timely_as}
use Rattle.branch_workers.proofs.Closing.{all_from_map}

module _ (c : CourseTold) (keep : Keep) (law : (s : ℕ) → s < length (segments_in c.plan) → All IsTimely (segment_entries c.opening c.plan (segment_at c.plan s))) where
  timely_before : (n : ℕ) → n ≤ length (segments_in c.plan) → All (λ (t : OutcomeTold). IsWritable t.kept) (outcomes_before c keep n)
  timely_before zero l = All-nil (λ (t : OutcomeTold). IsWritable t.kept)
  timely_before (suc n) l =
      All-push (λ (t : OutcomeTold). IsWritable t.kept) (outcomes_before c keep n) (outcome_of c keep n) (timely_before n (omega arith))
      (timely_as keep (segment_entries c.opening c.plan (segment_at c.plan n)) (law n (omega arith)))

  pub outcomes_timely : (os : List Outcome) → map outcome_told os ≡ outcomes_before c keep (length (segments_in c.plan)) → All (λ (o : Outcome). IsWritable (kept_told o.kept)) os
  outcomes_timely os told =
      all_from_map (λ (t : OutcomeTold). IsWritable t.kept) outcome_told os
      (subst (λ (ts : List OutcomeTold). All (λ (t : OutcomeTold). IsWritable t.kept) ts) (sym told) (timely_before (length (segments_in c.plan)) (omega arith)))
