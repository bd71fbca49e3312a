-- A session over a small tree, for worked examples.
use Rattle.std.specs.Prelude.{Bool, List}
use Rattle.branch_tree.specs.Worked.{nested}
use Rattle.kernel_copy.specs.Courses.{CourseTold}
use Rattle.session_desk.specs.Session.{SessionTold}

-- the root, a branch of it at 6 and a branch of that one at 6, of which these are still the study's own
abbrev pub nested_session : CourseTold → List Bool → SessionTold
nested_session c own = record { course = c; branches = nested; own = own }
