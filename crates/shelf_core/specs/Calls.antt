-- What a seat does and learns at the place of a key, each as the events that it makes there.
use Rattle.std.specs.Prelude.{◌≡◌, ◌≢◌, ◌⊎◌, ℕ, ◌<◌, nat_lt, Bool, true, false, length, Some, MatchBool}
use Rattle.shelf_core.specs.Plan.{place_of}
use Rattle.shelf_core.specs.Views.{times, turns_at}
use Rattle.shelf_core.specs.After.{with_turn, without_turn, having_published, with_loan, having_returned}
use Rattle.shelf_core.specs.declared.plan.Key.{Key}
use Rattle.shelf_core.specs.declared.plan.ShelfPlan.{ShelfPlan}
use Rattle.shelf_core.specs.declared.words.PlaceWord.{PlaceWord}
use Rattle.shelf_core.specs.declared.words.PlaceWord.TheVariants.{Free, Writing, Ready, Lent}
use Rattle.shelf_core.specs.declared.words.Word.TheVariants.{Place as place_word}
use Rattle.shelf_core.specs.declared.words.Seen.TheVariants.{Place as place_seen}
use Rattle.shelf_core.specs.declared.event.Event.TheVariants.{Begin, Publish, Abandon, Lend, Return}
use Rattle.shelf_core.specs.declared.seat.SeatView.{SeatView}
use Rattle.shelf_core.specs.Possible.{allows}
use Rattle.shelf_core.specs.Made.{Makes, Sees}

-- The seat loaded the word of a place, and this stood there.
abbrev pub SeesPlace : ShelfPlan → ℕ → PlaceWord → SeatView → SeatView → Type 0
SeesPlace plan place word v w = Sees plan (place_word place) (place_seen place word) v w

abbrev pub is_fork_place : ShelfPlan → ℕ → Bool
is_fork_place plan place = nat_lt place (length plan.forks)

-- What comes before the step by which a value may be written: at a fork's place nothing, and at a place of the grid a
-- load of a word that allows it.
abbrev pub Readied : ShelfPlan → ℕ → Key → SeatView → SeatView → Type 0
Readied plan place key v m = MatchBool (is_fork_place plan place) (m ≡ v) ((first : PlaceWord) × SeesPlace plan place first v m × (allows plan place key first ≡ true))

-- The seat got the turn.
abbrev pub Began : ShelfPlan → Key → SeatView → SeatView → Type 0
Began plan key v w = (place : ℕ) × (m : SeatView) × (place_of plan key ≡ Some place) × Readied plan place key v m × (w ≡ with_turn place key m) × Makes plan (λ n. Begin n key) m w

-- The seat got no turn, since this stood in the place's word at the last step: at a fork's place it isn't Free; at a place
-- of the grid it allowed no writing when it was first loaded, or it was no longer what it was then.
abbrev pub Refused : ShelfPlan → Key → PlaceWord → SeatView → SeatView → Type 0
Refused plan key word v w = (place : ℕ) × (place_of plan key ≡ Some place) × MatchBool (is_fork_place plan place)
    (SeesPlace plan place word v w × (word ≢ Free))
    ((SeesPlace plan place word v w × (allows plan place key word ≡ false))
    ⊎ ((m : SeatView) × (first : PlaceWord) × SeesPlace plan place first v m × (allows plan place key first ≡ true) × SeesPlace plan place word m w × (word ≢ first)))

-- A turn is spent: a load of the place's word, which brings its slot to the front, and the event.
abbrev pub Published : ShelfPlan → Key → SeatView → SeatView → Type 0
Published plan key v w = (place : ℕ) × (m : SeatView) × (word : PlaceWord) × (place_of plan key ≡ Some place) × SeesPlace plan place word v m × (w ≡ having_published (Some plan) key m) × Makes plan (λ n. Publish n key) m w

abbrev pub Abandoned : ShelfPlan → Key → SeatView → SeatView → Type 0
Abandoned plan key v w = (place : ℕ) × (m : SeatView) × (word : PlaceWord) × (place_of plan key ≡ Some place) × SeesPlace plan place word v m × (w ≡ without_turn key m) × Makes plan (λ n. Abandon n key) m w

-- The seat took the value of a key on loan, and returned it.
abbrev pub Borrowed : ShelfPlan → Key → SeatView → SeatView → Type 0
Borrowed plan key v w = (place : ℕ) × (m : SeatView) × (place_of plan key ≡ Some place) × (m ≡ with_loan (Some plan) place key v) × Makes plan (λ n. Lend n key) v m × (w ≡ having_returned key m) × Makes plan Return m w

-- The seat found another word than Ready of the key.
abbrev pub Missed : ShelfPlan → Key → PlaceWord → SeatView → SeatView → Type 0
Missed plan key word v w = (place : ℕ) × (place_of plan key ≡ Some place) × SeesPlace plan place word v w × (word ≢ Ready key)

-- A word isn't Lent of a number of this seat.
abbrev pub LentElsewhere : SeatView → PlaceWord → Type 0
LentElsewhere v word = (key : Key) (n : ℕ) → word ≡ Lent key n → times n v.numbers ≡ 0

-- A word at the place of a key is Writing of a number of this seat only where the seat has a turn there.
abbrev pub WritingOwn : ShelfPlan → Key → SeatView → PlaceWord → Type 0
WritingOwn plan key v word = (place n : ℕ) → place_of plan key ≡ Some place → word ≡ Writing n → 0 < times n v.numbers → 0 < turns_at place v.turns

-- A word that isn't Ready of a key that the seat knows is Lent of it, to another seat.
abbrev pub LentKnown : Key → SeatView → PlaceWord → Type 0
LentKnown key v word = (n : ℕ) × (word ≡ Lent key n) × (times n v.numbers ≡ 0)
