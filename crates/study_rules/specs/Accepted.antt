-- The study that a study's tables and its series file say.
use Rattle.std.specs.Prelude.{ℕ, List, [], Option, None, Some, Result, Ok, Err}
use Rattle.std.specs.Option.{option_or}
use Rattle.std.specs.Result.{result_unwrap_or}
use Rattle.toml.specs.Data.{Members}
use Rattle.fundamental_series.specs.declared.rule.SeriesRow.{SeriesRow}
use Rattle.branch_tree.specs.Plan.{Plan}
use Rattle.kernel_copy.specs.Courses.{CourseTold}
use Rattle.market_floor.specs.declared.opening.Opening.{Opening}
use Rattle.study_market.specs.declared.early_refusal.Refusal.{Refusal}
use Rattle.study_market.specs.FirstBroken.{first_of_rules}
use Rattle.study_market.specs.FirstOfMarket.{first_broken, tables_of}
use Rattle.study_rules.specs.FirstBroken.{branch_rules}
use Rattle.study_rules.specs.Branches.{branches_of}
use Rattle.study_market.specs.Opening.{opening_of, limit_of, stride_of}
use Rattle.study_rules.specs.declared.study.Study.{Study}

-- A study as plain data: what its branches share, and each how many events a run keeps a copy of itself.
pub record StudyTold : Type 0 where
  pub course : CourseTold
  pub stride : ℕ

abbrev pub study_told : Study → StudyTold
study_told s = record { course = s.course.value; stride = s.stride }

-- the first broken rule of all; those of the branches come last
abbrev pub first_refusal : Members → Option (List ℕ) → Option Refusal
first_refusal t series = option_or (first_broken t series) (first_of_rules branch_rules t)

-- the tree of the branches, each of which has at most so many events
abbrev pub plan_of : Members → Plan
plan_of t = record { branches = branches_of t; limit = limit_of t }

-- the rows of each stock, in an accepted study
abbrev pub rows_in : Members → Option (List ℕ) → List (List SeriesRow)
rows_in t series = result_unwrap_or (tables_of t series) []

abbrev pub course_of : Members → List (List SeriesRow) → CourseTold
course_of t tables = record { opening = opening_of t tables; plan = plan_of t }

abbrev pub told_of : Members → List (List SeriesRow) → StudyTold
told_of t tables = record { course = course_of t tables; stride = stride_of t }

-- what a study says whose runs start from this
abbrev pub told_with : Members → Opening → StudyTold
told_with t opening = record { course = record { opening = opening; plan = plan_of t }; stride = stride_of t }

-- the study that a table says with the text of its series file, where it names one; or the first broken rule
unfoldable pub study_of : Members → Option (List ℕ) → Result StudyTold Refusal
study_of t series = elim (first_refusal t series) [
  | Some refusal ↦ Err refusal
  | None ↦ Ok (told_of t (rows_in t series))
]
