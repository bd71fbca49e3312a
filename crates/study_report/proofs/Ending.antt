-- A run up to the limit of events has ended.
use Rattle.std.proofs.Common.{◌≡◌, ◌≤◌, ℕ, ◌-◌, refl, inl, inr, List, [], ◌∷◌, Option, Some, None, arith}
use Rattle.std.specs.Prelude.{IsSome}
use Rattle.std.proofs.lemmas.Bool.{cases_lt, le-leb, lt-leb}
use Rattle.market_types.specs.declared.entry.End.{End}
use Rattle.market_types.specs.declared.entry.End.TheVariants.{Quiet, Closed, EventLimit, QueueFull}
use Rattle.branch_tree.specs.declared.branch.Branch.{Branch}
use Rattle.branch_tree.specs.Plan.{Plan, branch_at, stop_at}
use Rattle.market_floor.specs.declared.opening.Opening.{Opening}
use Rattle.kernel_copy.specs.Closing.{end_letter_of}
use Rattle.kernel_core.specs.Step.{end_of}
use Rattle.kernel_core.specs.Until.{Run, until}
use Rattle.kernel_core.proofs.EditRuns.{edited-events}
use Rattle.kernel_core.proofs.Runs.{going_below}
use Rattle.kernel_core.proofs.Stops.{end_cases, going-events}
use Rattle.kernel_copy.specs.UntilStop.{until_stop}
use Rattle.kernel_copy.specs.Full.{opening_run, edited_by, forks_of, full_along, full}
use Rattle.study_report.specs.Tables.{ending_of, lettered}

some_end : (x : Option End) (e : End) → x ≡ Some e → IsSome x
some_end None e h = cc
some_end (Some y) e h = refl

-- a run that isn't past the limit
until-ends : (o : Opening) (r : Run) → r.state.events ≤ o.limit → IsSome (end_of o (until o o.limit r).state)
until-ends o r h = elim (end_cases (end_of o (until o o.limit r).state)) [
  | inl going ↦
      let made = going-events (o.limit - r.state.events) o r going in
      let short = going_below o (until o o.limit r).state going in
      absurd (short (omega (arith, made, h)))
  | inr over ↦ some_end (end_of o (until o o.limit r).state) over.0 over.1
]

along-ends : (o : Opening) (bs : List Branch) (cs : List ℕ) (r : Run) → r.state.events ≤ o.limit → IsSome (end_of o (full_along o bs o.limit cs r).state)
along-ends o bs [] r h = until-ends o r h
along-ends o bs (b ∷ cs) r h =
    let t = until_stop o (stop_at bs b) r in
    let keeps = edited-events b (branch_at bs b).edits t in
    elim (cases_lt o.limit t.state.events) [
      | inl past ↦ rw (lt-leb t.state.events o.limit past) (until-ends o r h)
      | inr within ↦ rw (le-leb t.state.events o.limit within) (along-ends o bs cs (edited_by bs b t) (omega (arith, keeps, within)))
    ]

-- a branch's full run has ended
pub full-ends : (o : Opening) (p : Plan) (b : ℕ) → IsSome (end_of o (full o p b o.limit).state)
unfolding full
full-ends o p b = along-ends o p.branches (forks_of p.branches b) (opening_run o) (omega arith)

-- the letter of a closing says what ended the run
pub letter-says : (x : Option End) → lettered (end_letter_of x) ≡ ending_of x
letter-says None = refl
letter-says (Some Quiet) = refl
letter-says (Some Closed) = refl
letter-says (Some EventLimit) = refl
letter-says (Some QueueFull) = refl
