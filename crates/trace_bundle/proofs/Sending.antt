-- What is sent one part behind another.
use Rattle.std.proofs.Common.{◌≡◌, ℕ, zero, suc, ◌+◌, ◌<◌, List, [], ◌++◌, All, Result, Ok, Err, IsErr, IsErrAnd, length, sym, ap, ◌∙◌, subst, arith, append_assoc, append-nil, refl}
use Rattle.std.specs.List.{flat_map}
use Rattle.market_types.specs.Told.{EntryTold}
use Rattle.market_types.specs.Timely.{IsTimely}
use Rattle.bundle_frames.specs.Frames.{entry_frames}
use Rattle.bundle_frames.specs.declared.closing.Closing.{Closing}
use Rattle.branch_tree.specs.Segments.{last_of, segment_at, segments_in}
use Rattle.kernel_core.specs.Until.{Run}
use Rattle.kernel_copy.specs.Courses.{CourseTold, IsCourse}
use Rattle.kernel_copy.specs.Full.{full_run}
use Rattle.kernel_copy.specs.Kept.{IsWritable, KeepsTally, KeptTold, frames_of, kept_as}
use Rattle.kernel_copy.specs.declared.kept.Keep.{Keep}
use Rattle.kernel_copy.specs.declared.kept.Keep.TheVariants as keep
use Rattle.kernel_copy.specs.Segmentwise.{segment_end, segment_entries}
use Rattle.kernel_copy.proofs.Pieces.{frames_as, timely_as}
use Rattle.kernel_copy.proofs.Trees.{course-tree}
use Rattle.kernel_copy.proofs.Walks.{full-last}
use Rattle.trace_bundle.specs.Bundle.{end_of_trace, opening_of_trace, trace_of, traces_of}
use Rattle.trace_bundle.specs.Ran.{IsFramedRunOf, IsRunOf, IsTalliedRunOf}
use Rattle.trace_bundle.specs.Tallied.{IsKeptOf, frames_to, own_frames}

-- at an error of which this is known
pub at-error : {E : Type 0} (P : Result (Unit {0}) E → Type 0) (Q : E → Type 0) (r : Result (Unit {0}) E) → IsErr r × IsErrAnd r Q → ((error : E) → Q error → P (Err error)) → P r
at-error P Q (Ok done) is at = absurd is.1
at-error P Q (Err error) is at = at error is.1

-- an error that is handed on
pub handed : {E : Type 0} (P : Result (Unit {0}) E → Type 0) (r : Result (Unit {0}) E) (error : E) → IsErr r × IsErrAnd r (λ x. x ≡ error) → P (Err error) → P r
handed {E} P r error is p = at-error P (λ x. x ≡ error) r is (λ other same. subst (λ (x : E). P (Err x)) (sym same) p)

-- what is kept of a segment are the frames of its own entries, where frames are kept
pub own-framed : (c : CourseTold) (held : ℕ) (kept_of : ℕ → KeptTold) (closing_of : ℕ → Closing) (s : ℕ) → IsFramedRunOf c held kept_of closing_of → s < length (segments_in c.plan)
    → frames_of (kept_of s) ≡ own_frames c s
own-framed c held kept_of closing_of s framed l =
    ap frames_of (framed.run.kept s l) ∙ frames_as framed.run.keep (segment_entries c.opening c.plan (segment_at c.plan s)) framed.frames

-- what is kept of entries tells their frames or the tally of them, unless nothing is
told-as : (k : Keep) (xs : List EntryTold) → KeepsTally k → IsKeptOf (kept_as k xs) (flat_map entry_frames xs)
told-as keep.Entries xs keeps = refl
told-as keep.Frames xs keeps = refl
told-as keep.Tallied xs keeps = refl
told-as keep.Nothing xs keeps = absurd keeps

-- so what is kept of a segment tells the frames of its own entries or the tally of them
pub own-told : (c : CourseTold) (held : ℕ) (kept_of : ℕ → KeptTold) (closing_of : ℕ → Closing) (s : ℕ) (kept : KeptTold) → IsTalliedRunOf c held kept_of closing_of
    → s < length (segments_in c.plan) → kept ≡ kept_of s → IsKeptOf kept (own_frames c s)
own-told c held kept_of closing_of s kept ran l is =
    subst (λ (x : KeptTold). IsKeptOf x (own_frames c s)) (sym (is ∙ ran.run.kept s l)) (told-as ran.run.keep (segment_entries c.opening c.plan (segment_at c.plan s)) ran.tally)

-- and its frames can be written

pub own-writable : (c : CourseTold) (held : ℕ) (kept_of : ℕ → KeptTold) (closing_of : ℕ → Closing) (s : ℕ) (kept : KeptTold) → IsRunOf c held kept_of closing_of → s < length (segments_in c.plan)
    → kept ≡ kept_of s → All IsTimely (segment_entries c.opening c.plan (segment_at c.plan s)) → IsWritable kept
own-writable c held kept_of closing_of s kept run l is timely =
    subst (λ (x : KeptTold). IsWritable x) (sym (is ∙ run.kept s l)) (timely_as run.keep (segment_entries c.opening c.plan (segment_at c.plan s)) timely)

-- a branch's full run ends where its last segment does
pub full-end : (c : CourseTold) (b s : ℕ) → IsCourse c → b < length c.plan.branches → s ≡ last_of c.plan.branches b
    → segment_end c.opening c.plan (segment_at c.plan s) ≡ full_run c.opening c.plan b
full-end c b s course l is =
    ap (λ (n : ℕ). segment_end c.opening c.plan (segment_at c.plan n)) is ∙ sym (full-last c.opening c.plan b (course-tree c course) course.limit l)

-- a branch's trace in its three parts
pub trace-joined : (c : CourseTold) (b s : ℕ) → IsCourse c → b < length c.plan.branches → s ≡ last_of c.plan.branches b
    → (opening_of_trace c b ++ frames_to c s) ++ end_of_trace c (full_run c.opening c.plan b) ≡ trace_of c b
trace-joined c b s course l is =
    ap (λ (r : Run). (opening_of_trace c b ++ flat_map entry_frames r.entries) ++ end_of_trace c (full_run c.opening c.plan b)) (full-end c b s course l is)

-- the traces of more branches begin with those of fewer
pub traces-begin : (c : CourseTold) (n k m : ℕ) → m ≡ n + k → (more : List ℕ) × (traces_of c n ++ more ≡ traces_of c m)
traces-begin c n zero m is =
    let same : n ≡ m = omega (arith, is) in
    ([], append-nil (traces_of c n) ∙ ap (λ (x : ℕ). traces_of c x) same)
traces-begin c n (suc k) m is =
    let up : suc (n + k) ≡ m = omega (arith, is) in
    let rest : (more : List ℕ) × (traces_of c n ++ more ≡ traces_of c (n + k)) = traces-begin c n k (n + k) refl in (
      rest.0 ++ trace_of c (n + k),
      sym (append_assoc (traces_of c n) rest.0 (trace_of c (n + k))) ∙ ap (λ (l : List ℕ). l ++ trace_of c (n + k)) rest.1 ∙ ap (λ (x : ℕ). traces_of c x) up,
    )
