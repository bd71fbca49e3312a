-- What workers make of a course.
use Rattle.std.specs.Prelude.{List, length}
use Rattle.kernel_copy.specs.Courses.{CourseTold}
use Rattle.kernel_copy.specs.declared.run.Outcome.{Outcome}
use Rattle.trace_bundle.specs.Outcomes.{all_told, outcome_at}
use Rattle.trace_bundle.specs.Ran.{IsFramedRunOf, IsListedRunOf, IsRunOf, IsTalliedRunOf}

-- outcomes of all segments in order of number are a run of their course
abbrev pub AreRunOf : CourseTold → List Outcome → Type 0
AreRunOf c xs = IsRunOf c (length xs) (λ s. (outcome_at (all_told xs) s).kept) (λ s. (outcome_at (all_told xs) s).closing)

-- one with their frames
abbrev pub AreFramedRunOf : CourseTold → List Outcome → Type 0
AreFramedRunOf c xs = IsFramedRunOf c (length xs) (λ s. (outcome_at (all_told xs) s).kept) (λ s. (outcome_at (all_told xs) s).closing)

-- one with the tally of those
abbrev pub AreTalliedRunOf : CourseTold → List Outcome → Type 0
AreTalliedRunOf c xs = IsTalliedRunOf c (length xs) (λ s. (outcome_at (all_told xs) s).kept) (λ s. (outcome_at (all_told xs) s).closing)

-- and one that holds the entries themselves
abbrev pub AreListedRunOf : CourseTold → List Outcome → Type 0
AreListedRunOf c xs = IsListedRunOf c (length xs) (λ s. (outcome_at (all_told xs) s).kept) (λ s. (outcome_at (all_told xs) s).closing)
