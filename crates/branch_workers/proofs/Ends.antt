-- The ends of segments on the shelf.
use Rattle.std.proofs.Common.{◌≡◌, ℕ, ◌<◌, true, false, Option, None, Some, IsSome, is_some, length, nat_lt, ltb-true, Bool, if◌then◌else◌, sym, refl, ap, ◌∙◌, subst}
use Rattle.std.proofs.lemmas.Bool.{lt-ltb}
use Rattle.branch_tree.specs.declared.segment.Segment.{Segment}
use Rattle.branch_tree.specs.Segments.{segments_in, segment_at, last_of}
use Rattle.shelf_core.specs.Plan.{place_of, is_sole}
use Rattle.shelf_core.specs.declared.plan.Key.{Key}
use Rattle.checkpoint_shelf.specs.Told.{ShelfTold}
use Rattle.kernel_copy.specs.Segmentwise.{segment_end, fork_number}
use Rattle.kernel_copy.specs.Courses.{CourseTold, CheckpointTold, state_at, end_of_segment, kept_of}
use Rattle.kernel_copy.proofs.Keeping.{end-state}
use Rattle.shelf_core.proofs.Lists.{not_some}
use Rattle.branch_workers.specs.Layout.{end_key, key_at}
use Rattle.branch_workers.specs.Runs.{IsShelfOf}
use Rattle.branch_workers.proofs.Forks.{end_place}

-- a key with the number of a segment's end is that of the end
pub key_is : (c : CourseTold) (s e : ℕ) (g : Segment) → g ≡ segment_at c.plan s → e ≡ fork_number g.stop → ◌≡◌ {A = Key} (record { segment = s; event = e }) (end_key c.plan s)
key_is c s e g is number = ap (λ (n : ℕ). key_at s n) (number ∙ ap (λ (x : Segment). fork_number x.stop) is)

-- an end from which others go on has a place of its own
pub has_place : (c : CourseTold) (stride : ℕ) (shelf : ShelfTold CourseTold) (s : ℕ) (key : Key) → IsShelfOf c stride shelf → s < length (segments_in c.plan) → s < last_of c.plan.branches (segment_at c.plan s).branch → key ≡ end_key c.plan s
    → IsSome (place_of shelf.plan key) × (is_sole shelf.plan key ≡ true)
has_place c stride shelf s key is l u e =
    let p = end_place c.plan shelf.plan s is.forks l u in
    subst (λ (k : Key). IsSome (place_of shelf.plan k) × (is_sole shelf.plan k ≡ true)) (sym e) (ap (λ (o : Option ℕ). is_some o) p.0.1, p.1)

-- what a value of its key has is the segment's end
pub end_state_of : (c : CourseTold) (s : ℕ) (x : CheckpointTold) → x.key ≡ end_key c.plan s → x.course ≡ c
    → state_at x.course x.key ≡ (segment_end c.opening c.plan (segment_at c.plan s)).state
end_state_of c s x key course =
    ap (λ (k : CourseTold). state_at k x.key) course ∙ ap (λ (k : Key). state_at c k) key ∙ sym (end-state c s)

-- what is kept of a segment
pub kept_is : (c : CourseTold) (s : ℕ) (x : CheckpointTold) → Some x ≡ kept_of c s → (x ≡ end_of_segment c s) × (s < last_of c.plan.branches (segment_at c.plan s).branch)
kept_is c s x e = at (nat_lt s (last_of c.plan.branches (segment_at c.plan s).branch)) refl e
  where
    at : (b : Bool) → nat_lt s (last_of c.plan.branches (segment_at c.plan s).branch) ≡ b → Some x ≡ (if b then Some (end_of_segment c s) else None) → (x ≡ end_of_segment c s) × (s < last_of c.plan.branches (segment_at c.plan s).branch)
    at true t e = (cc, ltb-true s (last_of c.plan.branches (segment_at c.plan s).branch) t)
    at false t e = absurd cc

-- where nothing is kept, the segment is its branch's last
pub kept_none : (c : CourseTold) (s : ℕ) → None ≡ kept_of c s → s < last_of c.plan.branches (segment_at c.plan s).branch → ⊥
kept_none c s e less = not_some (end_of_segment c s) (e ∙ ap (λ (b : Bool). if b then Some (end_of_segment c s) else None) (lt-ltb s (last_of c.plan.branches (segment_at c.plan s).branch) less))
