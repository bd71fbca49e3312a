-- The table that compares the branches of a study.
use Rattle.std.specs.Prelude.{ℕ, ℤ, zero, suc, ◌==◌, if◌then◌else◌, List, [], ◌∷◌, ◌++◌, length, map, Option, None, Some, unwrap_or}
use Rattle.market_types.specs.declared.entry.End.{End}
use Rattle.market_types.specs.declared.entry.End.TheVariants.{Quiet, Closed, EventLimit, QueueFull}
use Rattle.branch_tree.specs.Plan.{branch_at, parent_at}
use Rattle.kernel_core.specs.Step.{end_of}
use Rattle.kernel_core.specs.Until.{Run}
use Rattle.kernel_copy.specs.Full.{full_run}
use Rattle.kernel_copy.specs.Courses.{CourseTold}
use Rattle.trace_bundle.specs.Bundle.{stop_written}
use Rattle.probe_desk.specs.Probe.{Meaning, column_of}
use Rattle.study_report.specs.declared.row.TableRow.{TableRow}
use Rattle.study_report.specs.Difference.{first_difference_of}
use Rattle.study_report.specs.Table.{table_of}

-- a branch's full run
abbrev pub run_of : CourseTold → ℕ → Run
run_of c b = full_run c.opening c.plan b

-- what a probe of this meaning says of a branch's full run
abbrev pub column : CourseTold → ℕ → Meaning → ℤ
column c b m = column_of m (run_of c b).entries

-- the name of the branch that a branch leaves; the root leaves none
abbrev pub parent_name : CourseTold → ℕ → Option (List ℕ)
parent_name c b = if b == 0 then None else Some (branch_at c.plan.branches (parent_at c.plan.branches b)).name

-- where a branch's full run first differs from its parent's; 0 where it doesn't, and for the root
abbrev pub difference : CourseTold → ℕ → ℕ
difference c b =
    if b == 0 then 0 else first_difference_of (run_of c b).entries (run_of c (parent_at c.plan.branches b)).entries

-- what ended a run; a full run has ended
abbrev pub ending_of : Option End → End
ending_of x = unwrap_or x EventLimit

-- what a letter of a closing says ended its run
abbrev pub lettered : ℕ → End
lettered letter =
    if letter == 81 then Quiet else (if letter == 67 then Closed else (if letter == 70 then QueueFull else EventLimit))

-- the row of a branch, with the numbers of probes of these meanings
abbrev pub row_of : CourseTold → List Meaning → ℕ → TableRow
row_of c meanings b = record {
  name = (branch_at c.plan.branches b).name;
  parent = parent_name c b;
  stop = stop_written c b;
  events = (run_of c b).state.events;
  end = ending_of (end_of c.opening (run_of c b).state);
  difference = difference c b;
  values = map (column c b) meanings;
}

-- the rows of the first n branches
abbrev pub rows_of : CourseTold → List Meaning → ℕ → List TableRow
rows_of c meanings zero = []
rows_of c meanings (suc n) = rows_of c meanings n ++ row_of c meanings n ∷ []

-- the table of all branches in order, for probes of these meanings and titles
abbrev pub study_table : CourseTold → List Meaning → List (List ℕ) → List ℕ
study_table c meanings titles = table_of (rows_of c meanings (length c.plan.branches)) titles
