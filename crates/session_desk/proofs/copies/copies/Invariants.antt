use Rattle.std.proofs.Common.{◌≡◌, take}
use Rattle.session_desk.proofs.copies.copies.Given as goal

abbrev pub invariant-loop-branch : goal.invariant-loop-branch
invariant-loop-branch l = l.copied.items ≡ take l.branch-index l.branches
