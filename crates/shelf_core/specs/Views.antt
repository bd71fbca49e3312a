use Rattle.std.specs.Prelude.{ℕ, zero, suc, ◌+◌, ◌==◌, Bool, true, false, List, [], ◌∷◌, Option, Some, None, slice_get, if◌then◌else◌, not, filter}
use Rattle.std.specs.List.{list_any}
use Rattle.shelf_core.specs.Plan.{same_key}
use Rattle.shelf_core.specs.declared.plan.Key.{Key}
use Rattle.shelf_core.specs.declared.seat.SeatView.{SeatView}

-- The view of a new seat with this number.
abbrev pub new_view : ℕ → SeatView
new_view n = record {
  numbers = n ∷ [];
  spent = false;
  claims = [];
  counts = 0;
  turns = [];
  loan = None;
  known = [];
  done_seen = 0;
  stopped = false;
  found = [];
  loads = 0;
  saw = [];
}

-- What is left of the view of a seat that joined another.
abbrev pub spent_view : SeatView
spent_view = record {
  numbers = [];
  spent = true;
  claims = [];
  counts = 0;
  turns = [];
  loan = None;
  known = [];
  done_seen = 0;
  stopped = false;
  found = [];
  loads = 0;
  saw = [];
}

-- The view of seat n, where it is there and isn't spent. Views stand in the order of their own numbers.
abbrev pub unspent : Option SeatView → Option SeatView
unspent None = None
unspent (Some view) = if view.spent then None else Some view

abbrev pub live_view : List SeatView → ℕ → Option SeatView
live_view views n = unspent (slice_get views n)

-- The views that aren't spent.
abbrev pub live_views : List SeatView → List SeatView
live_views views = filter (λ view. not view.spent) views

-- The views with that of seat n changed.
abbrev pub changed_at : (SeatView → SeatView) → List SeatView → ℕ → List SeatView
changed_at change [] n = []
changed_at change (view ∷ views) zero = change view ∷ views
changed_at change (view ∷ views) (suc n) = view ∷ changed_at change views n

-- How often a number stands in a list.
abbrev pub times : ℕ → List ℕ → ℕ
times n [] = 0
times n (m ∷ ms) = (if m == n then 1 else 0) + times n ms

-- How many turns are at a place.
abbrev pub turns_at : ℕ → List (ℕ × Key) → ℕ
turns_at place [] = 0
turns_at place (turn ∷ turns) = (if turn.0 == place then 1 else 0) + turns_at place turns

-- A key is among the turns.
abbrev pub has_turn : Key → List (ℕ × Key) → Bool
has_turn key turns = list_any (λ turn. same_key turn.1 key) turns

-- The turns but for those of a key.
abbrev pub other_turns : Key → List (ℕ × Key) → List (ℕ × Key)
other_turns key turns = filter (λ turn. not (same_key turn.1 key)) turns

-- A number of each view, added up.
abbrev pub total : (SeatView → ℕ) → List SeatView → ℕ
total count [] = 0
total count (view ∷ views) = count view + total count views

-- How many views aren't spent.
abbrev pub live_count : List SeatView → ℕ
live_count views = total (λ view. if view.spent then 0 else 1) views
