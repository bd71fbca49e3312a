use Rattle.std.specs.Prelude.{ℕ, ◌==◌, ◌&&◌, ◌++◌, not, Bool, true, false, List, Option, Some, None, slice_get, nat_lt, nat_le, length, is_some, is_none, option_map}
use Rattle.std.specs.List.{list_any}
use Rattle.shelf_core.specs.Plan.{same_key, are_distinct, place_in, is_grid_place}
use Rattle.shelf_core.specs.Words.{is_open, is_ready}
use Rattle.shelf_core.specs.Views.{live_view, live_views, has_turn}
use Rattle.shelf_core.specs.declared.plan.Key.{Key}
use Rattle.shelf_core.specs.declared.plan.ShelfPlan.{ShelfPlan}
use Rattle.shelf_core.specs.declared.words.PlaceWord.{PlaceWord}
use Rattle.shelf_core.specs.declared.words.PlaceWord.TheVariants.{Free, Writing, Ready, Lent}
use Rattle.shelf_core.specs.declared.words.Word.{Word}
use Rattle.shelf_core.specs.declared.words.Word.TheVariants.{Claim as claim_word, Place as place_word, Done as done_word}
use Rattle.shelf_core.specs.declared.words.Seen.{Seen}
use Rattle.shelf_core.specs.declared.words.Seen.TheVariants.{Claim as claim_seen, Place as place_seen, Done as done_seen}
use Rattle.shelf_core.specs.declared.seat.SeatView.{SeatView}
use Rattle.shelf_core.specs.declared.system.System.{System}
use Rattle.shelf_core.specs.declared.event.Event.{Event}
use Rattle.shelf_core.specs.declared.event.Event.TheVariants.{Lay, Claim, Begin, Publish, Abandon, Lend, Return, Count, Stop, Load, Split, Join}

-- Seat n is there and isn't spent, and its view passes a test.
abbrev pub passes : Option SeatView → (SeatView → Bool) → Bool
passes None test = false
passes (Some view) test = test view

abbrev pub through : System → ℕ → (SeatView → Bool) → Bool
through s n test = passes (live_view s.views n) test

-- The word of a place, and that of a key's place.
abbrev pub word_in : List PlaceWord → Option ℕ → Option PlaceWord
word_in places None = None
word_in places (Some place) = slice_get places place

abbrev pub word_at : System → Key → Option PlaceWord
word_at s key = word_in s.places (place_in s.plan key)

-- A value of a key may be written where its place is Free, or is a grid place and Ready of another key.
abbrev pub is_replaceable : System → Key → Option ℕ → Bool
is_replaceable s key None = false
is_replaceable s key (Some place) = is_grid_place s.plan place

abbrev pub allows_writing : System → Key → Option PlaceWord → Bool
allows_writing s key None = false
allows_writing s key (Some Free) = true
allows_writing s key (Some (Writing n)) = false
allows_writing s key (Some (Ready k)) = is_replaceable s key (place_in s.plan key) && not (same_key k key)
allows_writing s key (Some (Lent k n)) = false

-- The same of a plan that is laid, at this place: a word there allows a value of the key to be written.
abbrev pub allows : ShelfPlan → ℕ → Key → PlaceWord → Bool
allows plan place key Free = true
allows plan place key (Writing n) = false
allows plan place key (Ready k) = nat_le (length plan.forks) place && not (same_key k key)
allows plan place key (Lent k n) = false

-- What a load of a word sees; none where there is no such word.
abbrev pub seen_at : System → Word → Option Seen
seen_at s (claim_word segment) = option_map (claim_seen segment) (slice_get s.claims segment)
seen_at s (place_word place) = option_map (place_seen place) (slice_get s.places place)
seen_at s done_word = option_map (λ plan. done_seen s.done s.stopped) s.plan

-- Where each event is possible.
abbrev pub possible : System → Event → Bool
possible s (Lay plan) =
    is_none s.plan && (length (live_views s.views) == 1) && are_distinct (plan.forks ++ plan.grid)
possible s (Claim n segment) = through s n (λ view. is_open (slice_get s.claims segment))
possible s (Begin n key) = through s n (λ view.
    list_any (λ segment. segment == key.segment) view.claims && allows_writing s key (word_at s key))
possible s (Publish n key) = through s n (λ view. has_turn key view.turns)
possible s (Abandon n key) = through s n (λ view. has_turn key view.turns)
possible s (Lend n key) = through s n (λ view. is_ready key (word_at s key) && is_none view.loan)
possible s (Return n) = through s n (λ view. is_some view.loan)
possible s (Count n) = through s n (λ view. nat_lt view.counts (length view.claims))
possible s (Stop n) = through s n (λ view. is_some s.plan)
possible s (Load n word) = through s n (λ view. is_some (seen_at s word))
possible s (Split n) = through s n (λ view. true)
possible s (Join n m) = through s n (λ view.
    not (m == n) && through s m (λ other. (length other.turns == 0) && is_none other.loan))
