-- Each branch of the bundle that is read back is a branch as reading wants it.
use Rattle.std.proofs.Common.{ℕ, zero, suc, ◌+◌, ◌<◌, ◌≤◌, length, All, refl, sym, arith}
use Rattle.std.proofs.lemmas.List.Elements.{All-nil, All-push}
use Rattle.kernel_copy.specs.Courses.{CourseTold}
use Rattle.kernel_copy.specs.Full.{full, full_run}
use Rattle.kernel_copy.specs.Reached.{IsReached}
use Rattle.bundle_reader.specs.Told.{BranchTold}
use Rattle.bundle_reader.specs.Bundle.{HasFeed, IsBranch}
use Rattle.audit_desk.specs.Back.{branch_back, branches_back}
use Rattle.audit_desk.proofs.Closings.{closing-is}
use Rattle.audit_desk.proofs.Openings.{opening-is}
use Rattle.audit_desk.proofs.Splits.{split-read}

-- what the law of feeds says of a course
abbrev pub FeedsOf : CourseTold → Type 0
FeedsOf c = (b e : ℕ) → All HasFeed (full c.opening c.plan b e).entries

-- what the law of ranges says of it
abbrev pub StatesOf : CourseTold → Type 0
StatesOf c = (b e : ℕ) → b < length c.plan.branches → IsReached c.opening 4080 (full c.opening c.plan b e).state

abbrev Is : CourseTold → BranchTold → Type 0
Is c x = IsBranch (length c.opening.stocks) (length c.opening.traders + 1) x

branch-is : (c : CourseTold) (b : ℕ) → FeedsOf c → StatesOf c → b < length c.plan.branches → Is c (branch_back c b)
branch-is c b feeds states within =
    let o = c.opening in
    let r = full_run o c.plan b in
    let floor = (states b o.limit within).floor in
    record {
      opening = opening-is o;
      split = split-read r.entries (feeds b o.limit);
      ended = refl;
      closing = closing-is o r.state (length o.stocks) (length o.traders) (sym floor.stocks) (sym floor.parties);
    }

pub branches-are : (c : CourseTold) (n : ℕ) → FeedsOf c → StatesOf c → n ≤ length c.plan.branches → All (Is c) (branches_back c n)
branches-are c zero feeds states le = All-nil (Is c)
branches-are c (suc n) feeds states le =
    All-push (Is c) (branches_back c n) (branch_back c n) (branches-are c n feeds states (omega (arith, le))) (branch-is c n feeds states (omega (arith, le)))
