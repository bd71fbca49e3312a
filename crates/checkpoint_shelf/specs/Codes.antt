-- Words as numbers: two bits for the kind of a place's word, six for a seat, 24 for an event and 12 for a segment.
use Rattle.std.specs.Prelude.{ℕ, zero, suc, ◌+◌, ◌*◌, ◌/◌, ◌%◌, ◌<◌, ◌==◌, Bool, if◌then◌else◌, List, ◌∷◌, ◌++◌, map}
use Rattle.shelf_core.specs.declared.plan.Key.{Key}
use Rattle.shelf_core.specs.declared.words.ClaimWord.{ClaimWord}
use Rattle.shelf_core.specs.declared.words.ClaimWord.TheVariants.{Open, Taken}
use Rattle.shelf_core.specs.declared.words.PlaceWord.{PlaceWord}
use Rattle.shelf_core.specs.declared.words.PlaceWord.TheVariants.{Free, Writing, Ready, Lent}
use Rattle.shelf_core.specs.declared.system.System.{System}

-- A key, and a word, whose parts fit.
abbrev pub KeyFits : Key → Type 0
KeyFits key = (key.segment < 4096) × (key.event < 16777216)

abbrev pub WordFits : PlaceWord → Type 0
WordFits Free = Unit {0}
WordFits (Writing n) = n < 64
WordFits (Ready key) = KeyFits key
WordFits (Lent key n) = KeyFits key × (n < 64)

abbrev pub key_code : Key → ℕ
key_code key = key.segment * 16777216 + key.event

abbrev pub place_code : PlaceWord → ℕ
place_code Free = 0
place_code (Writing n) = n * 4 + 1
place_code (Ready key) = key_code key * 256 + 2
place_code (Lent key n) = key_code key * 256 + n * 4 + 3

abbrev pub claim_code : ClaimWord → ℕ
claim_code Open = 0
claim_code (Taken n) = suc n

abbrev pub done_code : ℕ → Bool → ℕ
done_code done stopped = 2 * done + (if stopped then 1 else 0)

-- The word that a number stands for.
abbrev pub key_in : ℕ → Key
key_in n = record { segment = n / 4294967296 % 4096; event = n / 256 % 16777216 }

abbrev pub number_in : ℕ → ℕ
number_in n = n / 4 % 64

abbrev pub place_word_in : ℕ → PlaceWord
place_word_in n =
    if n % 4 == 0 then Free else (if n % 4 == 1 then Writing (number_in n) else (if n % 4 == 2 then Ready (key_in n) else Lent (key_in n) (number_in n)))

abbrev pub claim_word_in : ℕ → ClaimWord
claim_word_in zero = Open
claim_word_in (suc n) = Taken n

-- All words of a system: the done word, those of the places, and those of the segments.
abbrev pub words_of : System → List ℕ
words_of s = (done_code s.done s.stopped ∷ map place_code s.places) ++ map claim_code s.claims
