-- What is written of a course whose fields are in their ranges is a bundle.
use Rattle.std.proofs.Common.{Option, ◌≡◌, ◌∙◌, ℕ, zero, suc, ◌+◌, ◌<◌, ◌≤◌, inl, inr, List, [], ◌∷◌, ◌++◌, length, All, Some, sym, ap, subst, append_assoc, arith}
use Rattle.std.specs.List.{flat_map}
use Rattle.std.proofs.lemmas.Bool.{cases_eq, eq-eqb, ne_eqb}
use Rattle.std.proofs.lemmas.List.{append-nil}
use Rattle.std.proofs.lemmas.List.Elements.{All-append, All-cons, All-get_or, All-head, All-nil, All-tail, All-weaker}
use Rattle.market_types.specs.Told.{EntryTold, event, edit}
use Rattle.branch_tree.specs.declared.branch.Branch.{Branch}
use Rattle.branch_tree.specs.Names.{IsNameLength}
use Rattle.branch_tree.specs.Plan.{branch_at, no_branch}
use Rattle.branch_tree.specs.Planned.{IsTree}
use Rattle.kernel_copy.specs.Closing.{closing_at}
use Rattle.kernel_copy.specs.Courses.{CourseTold, IsCourse}
use Rattle.kernel_copy.specs.Full.{full_run}
use Rattle.kernel_copy.proofs.Opened.{few-traders}
use Rattle.kernel_copy.proofs.Trees.{course-few, course-tree}
use Rattle.trace_bundle.specs.Bundle.{parent_written, stop_written}
use Rattle.trace_bundle.specs.Feed.{opening_feed, system_event}
use Rattle.trace_bundle.proofs.Origins.{stop-within}
use Rattle.bundle_reader.specs.Frames.{HasRanges, payload}
use Rattle.bundle_reader.specs.declared.frame.Frame.{Frame}
use Rattle.bundle_reader.specs.declared.frame.Frame.TheVariants as frame
use Rattle.bundle_reader.specs.Told.{BranchTold}
use Rattle.bundle_reader.specs.Bundle.{IsBundle, branch_list, branches_list, bundle_list, closing_list, edit_part, entry_list, event_part, feed_list}
use Rattle.audit_desk.specs.AsRead.{as_read}
use Rattle.audit_desk.specs.Back.{branch_back, branches_back, bundle_back}
use Rattle.audit_desk.specs.Ranges.{IsEventInRange, IsInRange}
use Rattle.audit_desk.proofs.Around.{branch-in, close-in, end-in, header-in, messages-in, opening-in}
use Rattle.audit_desk.proofs.Branches.{FeedsOf, StatesOf, branches-are}
use Rattle.audit_desk.proofs.Lists.{length-back}
use Rattle.audit_desk.proofs.Marked.{IsMarkedInRange, MarkedOf}
use Rattle.audit_desk.proofs.Splits.{same-frames}
use Rattle.audit_desk.proofs.Widths.{frame-short}

list-push : (n : ℕ) (bs : List BranchTold) (b : BranchTold) → branches_list n (bs ++ b ∷ []) ≡ branches_list n bs ++ branch_list (n + length bs) b
list-push n [] b = let e : n ≡ n + length {A = BranchTold} [] = omega arith in append-nil (branch_list n b) ∙ ap (λ k. branch_list k b) e
list-push n (c ∷ cs) b =
    let e : n + 1 + length cs ≡ n + length (c ∷ cs) = omega arith in
    ap (λ fs. branch_list n c ++ fs) (list-push (n + 1) cs b)
    ∙ sym (append_assoc (branch_list n c) (branches_list (n + 1) cs) (branch_list (n + 1 + length cs) b))
    ∙ ap (λ k. (branch_list n c ++ branches_list (n + 1) cs) ++ branch_list k b) e

-- a frame of a course's bundle
abbrev InCourse : CourseTold → Frame → Type 0
InCourse c f = HasRanges (Some (length c.opening.stocks)) f

entries-in : (stocks : Option ℕ) (xs : List EntryTold) → All IsMarkedInRange xs → All (IsEventInRange stocks) xs → All (HasRanges stocks) (flat_map entry_list xs)
entries-in stocks [] marked events = All-nil (HasRanges stocks)
entries-in stocks (event e ∷ xs) marked events =
    let own = All-head (IsEventInRange stocks) (event e) xs events in
    let here : Frame = frame.Event (event_part e) in
    All-append (HasRanges stocks) (feed_list e.before ++ (here ∷ feed_list e.after)) (flat_map entry_list xs)
    (All-append (HasRanges stocks) (feed_list e.before) (here ∷ feed_list e.after) (messages-in stocks e.before (All-head IsMarkedInRange (event e) xs marked).0)
    (All-cons (HasRanges stocks) here (feed_list e.after) own.0 (messages-in stocks e.after own.1)))
    (entries-in stocks xs (All-tail IsMarkedInRange (event e) xs marked) (All-tail (IsEventInRange stocks) (event e) xs events))
entries-in stocks (edit d ∷ xs) marked events =
    let own = All-head IsMarkedInRange (edit d) xs marked in
    let here : Frame = frame.Edit (edit_part d) in
    All-append (HasRanges stocks) (here ∷ feed_list d.feed) (flat_map entry_list xs)
    (All-cons (HasRanges stocks) here (feed_list d.feed) own.0 (messages-in stocks d.feed own.1))
    (entries-in stocks xs (All-tail IsMarkedInRange (edit d) xs marked) (All-tail (IsEventInRange stocks) (edit d) xs events))

parent-in : (c : CourseTold) (b : ℕ) → IsTree c.plan.branches c.plan.limit → length c.plan.branches ≤ 256 → b < length c.plan.branches → parent_written c b < 65536
parent-in c b tree few l = elim (cases_eq b 0) [
  | inl e ↦ rw (eq-eqb b 0 e) (omega arith)
  | inr other ↦ rw (ne_eqb b 0 other) (omega (arith, tree.parents b (omega (arith, other)) l, few, l))
]

frame-in : (c : CourseTold) (b : ℕ) → IsCourse c → All (λ (x : Branch). IsNameLength (length x.name)) c.plan.branches → b < length c.plan.branches
    → InCourse c (frame.Branch (record { branch = b; parent = parent_written c b; stop = stop_written c b; name = (branch_at c.plan.branches b).name }))
frame-in c b is names l =
    let x = branch_at c.plan.branches b in
    let tree = course-tree c is in
    let few = course-few c is in
    let name : IsNameLength (length x.name) = All-get_or (λ (y : Branch). IsNameLength (length y.name)) c.plan.branches b no_branch l names in (
      branch-in b (parent_written c b) (stop_written c b) x.name (omega (arith, few, l)) (parent-in c b tree few l)
          (omega (arith, stop-within c b is l, is.opening.limit)) (omega (arith, name.few)),
      name,
    )

branch-ranges : (c : CourseTold) (b : ℕ) → IsCourse c → IsInRange c → MarkedOf c → StatesOf c → b < length c.plan.branches → All (InCourse c) (branch_list b (branch_back c b))
branch-ranges c b is ranges marked states l =
    let o = c.opening in
    let r = full_run o c.plan b in
    let run = ranges.runs b l in
    let first = frame.Branch (record { branch = b; parent = parent_written c b; stop = stop_written c b; name = (branch_at c.plan.branches b).name }) in
    let entries : All (InCourse c) (flat_map entry_list (as_read r.entries)) = subst (λ (fs : List Frame). All (InCourse c) fs) (sym (same-frames r.entries)) (entries-in (Some (length o.stocks)) r.entries (marked b l) run.events) in
    let time : r.state.time < 281474976710656 = omega (arith, (states b o.limit l).close, is.opening.close) in
    let last = frame.Message (system_event r.state.time 67) in
    let closing = closing_list (closing_at o r.state) in
    All-cons (InCourse c) first (feed_list (opening_feed o) ++ flat_map entry_list (as_read r.entries) ++ (last ∷ closing)) (frame-in c b is ranges.names l)
    (All-append (InCourse c) (feed_list (opening_feed o) ++ flat_map entry_list (as_read r.entries)) (last ∷ closing)
    (All-append (InCourse c) (feed_list (opening_feed o)) (flat_map entry_list (as_read r.entries)) (opening-in (Some (length o.stocks)) o is.opening) entries)
    (All-cons (InCourse c) last closing (close-in r.state.time time) run.closing))

branches-ranges : (c : CourseTold) (n : ℕ) → IsCourse c → IsInRange c → MarkedOf c → StatesOf c → n ≤ length c.plan.branches → All (InCourse c) (branches_list 0 (branches_back c n))
branches-ranges c zero is ranges marked states le = All-nil (InCourse c)
branches-ranges c (suc n) is ranges marked states le =
    let at : 0 + length (branches_back c n) ≡ n = omega (arith, length-back c n) in
    let list = list-push 0 (branches_back c n) (branch_back c n) ∙ ap (λ k. branches_list 0 (branches_back c n) ++ branch_list k (branch_back c n)) at in
    subst (λ (fs : List Frame). All (InCourse c) fs) (sym list)
    (All-append (InCourse c) (branches_list 0 (branches_back c n)) (branch_list n (branch_back c n)) (branches-ranges c n is ranges marked states (omega (arith, le)))
    (branch-ranges c n is ranges marked states (omega (arith, le))))

all-ranges : (c : CourseTold) → IsCourse c → IsInRange c → MarkedOf c → StatesOf c → All (InCourse c) (bundle_list (bundle_back c))
all-ranges c is ranges marked states =
    let n = length c.plan.branches in
    let agents = length c.opening.traders + 1 in
    let stocks = length c.opening.stocks in
    let few : length (branches_back c n) < 65536 = omega (arith, length-back c n, course-few c is) in
    let first = frame.Header (record { agents = agents; stocks = stocks; branches = length (branches_back c n) }) in
    let last = frame.End (length (branches_back c n)) in
    All-cons (InCourse c) first (branches_list 0 (branches_back c n) ++ last ∷ [])
    (header-in agents stocks (length (branches_back c n)) (omega (arith, few-traders c.opening is.opening)) (omega (arith, is.opening.market.few)) few)
    (All-append (InCourse c) (branches_list 0 (branches_back c n)) (last ∷ []) (branches-ranges c n is ranges marked states (omega arith))
    (All-cons (InCourse c) last [] (end-in (length (branches_back c n)) few) (All-nil (InCourse c))))

pub bundle-is : (c : CourseTold) → IsCourse c → IsInRange c → MarkedOf c → FeedsOf c → StatesOf c → IsBundle (bundle_back c)
bundle-is c is ranges marked feeds states =
    let all = all-ranges c is ranges marked states in
    record {
      branches = branches-are c (length c.plan.branches) feeds states (omega arith);
      ranges = all;
      short = All-weaker (InCourse c) (λ f. length (payload f) ≤ 65535) (λ f r. frame-short (length c.opening.stocks) f is.opening.market.few r) (bundle_list (bundle_back c)) all;
    }
