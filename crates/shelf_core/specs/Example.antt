use Rattle.std.specs.Prelude.{ℕ, Bool, true, false, List, [], ◌∷◌, Some, None}
use Rattle.shelf_core.specs.Possible.{possible}
use Rattle.shelf_core.specs.After.{step_of}
use Rattle.shelf_core.specs.declared.plan.Key.{Key}
use Rattle.shelf_core.specs.declared.plan.ShelfPlan.{ShelfPlan}
use Rattle.shelf_core.specs.declared.words.ClaimWord.TheVariants.{Open, Taken}
use Rattle.shelf_core.specs.declared.words.PlaceWord.TheVariants.{Ready}
use Rattle.shelf_core.specs.declared.system.System.{System}
use Rattle.shelf_core.specs.declared.event.Event.{Event}
use Rattle.shelf_core.specs.declared.event.Event.TheVariants.{Lay, Claim, Begin, Publish, Abandon, Lend, Return, Count, Stop, Split, Join}
use Rattle.shelf_core.specs.Views.{spent_view}

abbrev pub key : ℕ → ℕ → Key
key segment event = record { segment = segment; event = event }

-- Two forks, and three grid keys that share two places in turn: the first and the third have place 2, the second has
-- place 3 alone.
abbrev pub shared_plan : ShelfPlan
shared_plan = record {
  segments = 3;
  forks = key 0 2 ∷ key 1 3 ∷ [];
  grid = key 2 50 ∷ key 2 100 ∷ key 2 150 ∷ [];
  places = 2;
}

-- Two segments, of which the first is forked at event 2, and no grid.
abbrev pub fork_plan : ShelfPlan
fork_plan = record { segments = 2; forks = key 0 2 ∷ []; grid = []; places = 0 }

-- Two seats at the fork's place: seat 0 claims its segment and publishes, seat 1 takes the value on loan and returns
-- it, and seat 0 takes in seat 1.
abbrev pub two_seats : List Event
two_seats =
    Lay fork_plan ∷ Lay fork_plan ∷ Split 0 ∷ Claim 0 0 ∷ Claim 1 0
    ∷ Begin 0 (key 0 2) ∷ Begin 1 (key 0 2) ∷ Lend 1 (key 0 2) ∷ Abandon 1 (key 0 2)
    ∷ Publish 0 (key 0 2) ∷ Lend 1 (key 0 2) ∷ Lend 0 (key 0 2) ∷ Join 0 1 ∷ Return 1
    ∷ Count 0 ∷ Count 0 ∷ Stop 1 ∷ Join 0 1 ∷ []

-- Whether each event of a list is possible when its turn comes.
abbrev pub answers : System → List Event → List Bool
answers s [] = []
answers s (e ∷ events) = possible s e ∷ answers (step_of s e) events

-- What those events leave.
abbrev pub two_seats_left : System
two_seats_left = record {
  plan = Some fork_plan;
  claims = Taken 0 ∷ Open ∷ [];
  places = Ready (key 0 2) ∷ [];
  home = Some (key 0 2) ∷ [];
  done = 1;
  stopped = true;
  views = record {
    numbers = 0 ∷ 1 ∷ [];
    spent = false;
    claims = 0 ∷ [];
    counts = 1;
    turns = [];
    loan = None;
    known = key 0 2 ∷ key 0 2 ∷ [];
    done_seen = 0;
    stopped = true;
    found = key 0 2 ∷ [];
    loads = 0;
    saw = [];
  } ∷ spent_view ∷ [];
}
