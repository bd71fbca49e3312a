use Rattle.std.specs.Prelude.{ℕ, ◌+◌, ◌%◌, ◌^◌, ◌++◌, ◌||◌, max, Bool, true, false, List, [], ◌∷◌, Option, Some, None, slice_set, length, replicate, take, unwrap_or, if◌then◌else◌}
use Rattle.std.specs.List.{fold}
use Rattle.shelf_core.specs.Plan.{place_in, sole_in, place_count}
use Rattle.shelf_core.specs.Views.{new_view, spent_view, live_view, changed_at, other_turns}
use Rattle.shelf_core.specs.Possible.{possible, seen_at}
use Rattle.shelf_core.specs.declared.plan.Key.{Key}
use Rattle.shelf_core.specs.declared.plan.ShelfPlan.{ShelfPlan}
use Rattle.shelf_core.specs.declared.words.ClaimWord.TheVariants.{Open, Taken}
use Rattle.shelf_core.specs.declared.words.PlaceWord.{PlaceWord}
use Rattle.shelf_core.specs.declared.words.PlaceWord.TheVariants.{Free, Writing, Ready, Lent}
use Rattle.shelf_core.specs.declared.words.Seen.{Seen}
use Rattle.shelf_core.specs.declared.words.Seen.TheVariants.{Claim as claim_seen, Place as place_seen, Done as done_word}
use Rattle.shelf_core.specs.declared.seat.SeatView.{SeatView}
use Rattle.shelf_core.specs.declared.system.System.{System}
use Rattle.shelf_core.specs.declared.event.Event.{Event}
use Rattle.shelf_core.specs.declared.event.Event.TheVariants.{Lay, Claim, Begin, Publish, Abandon, Lend, Return, Count, Stop, Load, Split, Join}

-- The opening system: nothing is laid, and there is one seat, number 0.
abbrev pub opening : System
opening = record {
  plan = None;
  claims = [];
  places = [];
  home = [];
  done = 0;
  stopped = false;
  views = new_view 0 ∷ [];
}

-- The system with the view of seat n changed.
abbrev pub seat : System → ℕ → (SeatView → SeatView) → System
seat s n change = record s { views = changed_at change s.views n }

-- The system with another word and value at a place.
abbrev pub put : System → ℕ → PlaceWord → Option Key → System
put s place word value = record s { places = slice_set s.places place word; home = slice_set s.home place value }

-- The place of a key that has one.
abbrev pub key_place : System → Key → ℕ
key_place s key = unwrap_or (place_in s.plan key) 0

-- A sole key joins what a seat knows.
abbrev pub knowing : Option ShelfPlan → Key → List Key → List Key
knowing plan key known = if sole_in plan key then known ++ key ∷ [] else known

-- A view with a claim; with a turn, without it, and without it where the value is there; with a loan, and without
-- it; with a count; with the stop bit.
abbrev pub with_claim : ℕ → SeatView → SeatView
with_claim segment view = record view { claims = view.claims ++ segment ∷ [] }

abbrev pub with_turn : ℕ → Key → SeatView → SeatView
with_turn place key view = record view { turns = view.turns ++ (place, key) ∷ [] }

abbrev pub without_turn : Key → SeatView → SeatView
without_turn key view = record view { turns = other_turns key view.turns }

abbrev pub having_published : Option ShelfPlan → Key → SeatView → SeatView
having_published plan key view = record view { turns = other_turns key view.turns; known = knowing plan key view.known }

abbrev pub with_loan : Option ShelfPlan → ℕ → Key → SeatView → SeatView
with_loan plan place key view = record view { loan = Some (place, key); known = knowing plan key view.known }

abbrev pub having_returned : Key → SeatView → SeatView
having_returned key view = record view { loan = None; found = view.found ++ key ∷ [] }

abbrev pub with_count : SeatView → SeatView
with_count view = record view { counts = view.counts + 1 }

abbrev pub having_stopped : SeatView → SeatView
having_stopped view = record view { stopped = true }

-- What a seat knows once it saw a word: at a place with Ready or Lent of a sole key that key too.
abbrev pub known_from : Option ShelfPlan → Seen → List Key → List Key
known_from plan (claim_seen segment word) known = known
known_from plan (place_seen place Free) known = known
known_from plan (place_seen place (Writing m)) known = known
known_from plan (place_seen place (Ready key)) known = knowing plan key known
known_from plan (place_seen place (Lent key m)) known = knowing plan key known
known_from plan (done_word number bit) known = known

-- The done number and the stop bit that a seat saw last: those of the done word, where it saw that.
abbrev pub done_from : Seen → ℕ → ℕ
done_from (claim_seen segment word) before = before
done_from (place_seen place word) before = before
done_from (done_word number bit) before = number

abbrev pub stopped_from : Seen → Bool → Bool
stopped_from (claim_seen segment word) before = before
stopped_from (place_seen place word) before = before
stopped_from (done_word number bit) before = bit

-- A view after a load: what it learns from the word, one load more, modulo 2^64, and the last two of them, the newest
-- first.
abbrev pub having_loaded : Option ShelfPlan → Option Seen → SeatView → SeatView
having_loaded plan None view = view
having_loaded plan (Some seen) view = record view {
  known = known_from plan seen view.known;
  done_seen = done_from seen view.done_seen;
  stopped = stopped_from seen view.stopped;
  loads = (view.loads + 1) % 2 ^ 64;
  saw = take 2 (seen ∷ view.saw);
}

-- A view that took in another: all that the other has, its own last loads.
abbrev pub joined_with : SeatView → SeatView → SeatView
joined_with other view = record {
  numbers = view.numbers ++ other.numbers;
  spent = view.spent;
  claims = view.claims ++ other.claims;
  counts = view.counts + other.counts;
  turns = view.turns;
  loan = view.loan;
  known = view.known ++ other.known;
  done_seen = max view.done_seen other.done_seen;
  stopped = view.stopped || other.stopped;
  found = view.found ++ other.found;
  loads = view.loads;
  saw = view.saw;
}

-- Seat n takes in the seat m with this view.
abbrev pub after_join : System → ℕ → ℕ → Option SeatView → System
after_join s n m None = s
after_join s n m (Some other) = record s { views = slice_set (changed_at (joined_with other) s.views n) m spent_view }

-- Seat n returns what the view has on loan.
abbrev pub after_return : System → ℕ → Option (ℕ × Key) → System
after_return s n None = s
after_return s n (Some loan) = put (seat s n (having_returned loan.1)) loan.0 (Ready loan.1) (Some loan.1)

abbrev pub loan_of : Option SeatView → Option (ℕ × Key)
loan_of None = None
loan_of (Some view) = view.loan

-- What each event leaves, where it is possible.
abbrev pub after : System → Event → System
after s (Lay plan) = record s {
  plan = Some plan;
  claims = replicate plan.segments Open;
  places = replicate (place_count plan) Free;
  home = replicate (place_count plan) None;
  done = 0;
  stopped = false;
}
after s (Claim n segment) = record (seat s n (with_claim segment)) { claims = slice_set s.claims segment (Taken n) }
after s (Begin n key) = put (seat s n (with_turn (key_place s key) key)) (key_place s key) (Writing n) None
after s (Publish n key) = put (seat s n (having_published s.plan key)) (key_place s key) (Ready key) (Some key)
after s (Abandon n key) = put (seat s n (without_turn key)) (key_place s key) Free None
after s (Lend n key) = put (seat s n (with_loan s.plan (key_place s key) key)) (key_place s key) (Lent key n) None
after s (Return n) = after_return s n (loan_of (live_view s.views n))
after s (Count n) = record (seat s n with_count) { done = s.done + 1 }
after s (Stop n) = record (seat s n having_stopped) { stopped = true }
after s (Load n word) = seat s n (having_loaded s.plan (seen_at s word))
after s (Split n) = record s { views = s.views ++ new_view (length s.views) ∷ [] }
after s (Join n m) = after_join s n m (live_view s.views m)

-- An event that isn't possible changes nothing.
abbrev pub step_of : System → Event → System
step_of s e = if possible s e then after s e else s

-- What a list of events leaves of the opening system.
abbrev pub left_by : List Event → System
left_by events = fold step_of opening events
