-- The bytes of all branches, and what is so of each.
use Rattle.std.proofs.Common.{◌≡◌, ◌∙◌, ℕ, zero, suc, ◌+◌, List, [], ◌∷◌, ◌++◌, length, refl, ap, sym, append_assoc, arith}
use Rattle.std.specs.List.{flat_map}
use Rattle.std.proofs.lemmas.List.{append-nil, length_push}
use Rattle.bundle_frames.specs.Frames.{closing_frames, end_frame, entry_frames, feed_frames, header_frame, message_frame}
use Rattle.kernel_copy.specs.Courses.{CourseTold}
use Rattle.kernel_copy.specs.Full.{full_run}
use Rattle.trace_bundle.specs.Bundle.{bundle_of, head_of, trace_of, traces_of}
use Rattle.trace_bundle.specs.Feed.{opening_feed}
use Rattle.bundle_reader.specs.Told.{BranchTold}
use Rattle.bundle_reader.specs.Bundle.{branch_bytes, branches_bytes, bundle_bytes}
use Rattle.audit_desk.specs.Back.{branch_back, branches_back, bundle_back}
use Rattle.audit_desk.proofs.Splits.{same-bytes}

bytes-push : (n : ℕ) (bs : List BranchTold) (b : BranchTold) → branches_bytes n (bs ++ b ∷ []) ≡ branches_bytes n bs ++ branch_bytes (n + length bs) b
bytes-push n [] b = let e : n ≡ n + length {A = BranchTold} [] = omega arith in append-nil (branch_bytes n b) ∙ ap (λ k. branch_bytes k b) e
bytes-push n (c ∷ cs) b =
    let e : n + 1 + length cs ≡ n + length (c ∷ cs) = omega arith in
    ap (λ bs. branch_bytes n c ++ bs) (bytes-push (n + 1) cs b)
    ∙ sym (append_assoc (branch_bytes n c) (branches_bytes (n + 1) cs) (branch_bytes (n + 1 + length cs) b))
    ∙ ap (λ k. (branch_bytes n c ++ branches_bytes (n + 1) cs) ++ branch_bytes k b) e

pub length-back : (c : CourseTold) (n : ℕ) → length (branches_back c n) ≡ n
length-back c zero = refl
length-back c (suc n) = omega (arith, length_push (branches_back c n) (branch_back c n), length-back c n)

branch-bytes : (c : CourseTold) (b : ℕ) → branch_bytes b (branch_back c b) ≡ trace_of c b
branch-bytes c b =
    let r = full_run c.opening c.plan b in
    let before = head_of c b ++ feed_frames (opening_feed c.opening) in
    let message = message_frame (branch_back c b).ended in
    let closing = closing_frames (branch_back c b).closing in
    ap (λ bs. ((before ++ bs) ++ message) ++ closing) (same-bytes r.entries)
    ∙ append_assoc (before ++ flat_map entry_frames r.entries) message closing

traces : (c : CourseTold) (n : ℕ) → branches_bytes 0 (branches_back c n) ≡ traces_of c n
traces c zero = refl
traces c (suc n) =
    let at : 0 + length (branches_back c n) ≡ n = omega (arith, length-back c n) in
    bytes-push 0 (branches_back c n) (branch_back c n)
    ∙ ap (λ k. branches_bytes 0 (branches_back c n) ++ branch_bytes k (branch_back c n)) at
    ∙ ap (λ bs. bs ++ branch_bytes n (branch_back c n)) (traces c n)
    ∙ ap (λ bs. traces_of c n ++ bs) (branch-bytes c n)

-- what is written of a course is the bytes of this bundle
pub same-bundle : (c : CourseTold) → bundle_bytes (bundle_back c) ≡ bundle_of c
unfolding bundle_bytes
same-bundle c =
    let n = length c.plan.branches in
    let agents = length c.opening.traders + 1 in
    let stocks = length c.opening.stocks in
    ap (λ k. (header_frame agents stocks k ++ branches_bytes 0 (branches_back c n)) ++ end_frame k) (length-back c n)
    ∙ ap (λ bs. (header_frame agents stocks n ++ bs) ++ end_frame n) (traces c n)
