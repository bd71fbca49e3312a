-- The branches of a course.
use Rattle.std.proofs.Common.{◌≤◌, length}
use Rattle.branch_tree.specs.Planned.{IsTree}
use Rattle.branch_tree.proofs.TreeLemmas.{few_from, tree_from}
use Rattle.kernel_copy.specs.Courses.{CourseTold, IsCourse}

-- a course's branches make a tree
pub course-tree : (c : CourseTold) → IsCourse c → IsTree c.plan.branches c.plan.limit
course-tree c h = tree_from c.plan.branches c.plan.limit h.rooted h.accepted

-- they are few
pub course-few : (c : CourseTold) → IsCourse c → length c.plan.branches ≤ 256
course-few c h = few_from c.plan.branches c.plan.limit h.accepted
