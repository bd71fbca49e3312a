-- Where a value may be written, and what the steps on the words of places tell. The word p + 1 is that of the place p.
use Rattle.std.specs.Prelude.{◌≡◌, ℕ, suc, ◌+◌, ◌==◌, List, [], ◌∷◌, Option, Some, None, MatchBool}
use Rattle.atomic_table.specs.Table.{Step, Me, rest}
use Rattle.std.specs.declared.sync.Arc.{Arc}
use Rattle.shelf_core.specs.Views.{times, turns_at, other_turns}
use Rattle.shelf_core.specs.After.{with_turn, without_turn, having_published, with_loan, having_returned, having_loaded}
use Rattle.shelf_core.specs.declared.plan.Key.{Key}
use Rattle.shelf_core.specs.declared.words.PlaceWord.{PlaceWord}
use Rattle.shelf_core.specs.declared.words.Word.TheVariants.{Place as place_word}
use Rattle.shelf_core.specs.declared.words.Seen.TheVariants.{Place as place_seen}
use Rattle.shelf_core.specs.declared.event.Event.TheVariants.{Begin, Publish, Abandon, Lend, Return}
use Rattle.checkpoint_shelf.specs.declared.about.About.{About}
use Rattle.checkpoint_shelf.specs.declared.about.View.{View}
use Rattle.checkpoint_shelf.specs.Codes.{place_code, WordFits}
use Rattle.checkpoint_shelf.specs.Fronts.{held}
use Rattle.checkpoint_shelf.specs.Holds.{seeing}
use Rattle.shelf_core.specs.Made.{Makes, Sees}

-- One turn less at a place.
abbrev pub OneLess : ℕ → List (ℕ × Key) → List (ℕ × Key) → Type 0
OneLess place turns others = (p : ℕ) → times p (place ∷ []) + turns_at p others ≡ turns_at p turns

module _ {C Co Z : Type 0} where
  -- The word of a place was found as it was, by a load or by a compare-exchange.
  abbrev pub PlaceFound : About C Co → ℕ → Me (Option (Arc C Z)) (View C Co) → ℕ → Me (Option (Arc C Z)) (View C Co) → PlaceWord → Type 0
  PlaceFound k place me found new word =
      WordFits word × (found ≡ place_code word) × (new.0 ≡ seeing me.0 (having_loaded (Some k.plan) (Some (place_seen place word)) me.0.seen))
      × Sees k.plan (place_word place) (place_seen place word) me.0.seen new.0.seen

  abbrev pub LookTold : Step (Option (Arc C Z)) → Me (Option (Arc C Z)) (View C Co) → ℕ → Me (Option (Arc C Z)) (View C Co) → Type 0
  LookTold st me found new =
      (k : About C Co) → me.0.about ≡ Some k → (place : ℕ) → st.word ≡ suc place → (word : PlaceWord) × PlaceFound k place me found new word × (new.1 ≡ me.1)

  abbrev pub BeginTold : Key → Step (Option (Arc C Z)) → Me (Option (Arc C Z)) (View C Co) → ℕ → Me (Option (Arc C Z)) (View C Co) → Type 0
  BeginTold key st me found new =
      (k : About C Co) → me.0.about ≡ Some k → (place : ℕ) → st.word ≡ suc place → MatchBool (found == st.first)
      ((x : Option (Arc C Z)) × (new.0 ≡ seeing me.0 (with_turn place key me.0.seen)) × (new.1 ≡ (place, x) ∷ me.1) × Makes k.plan (λ n. Begin n key) me.0.seen new.0.seen)
      ((word : PlaceWord) × PlaceFound k place me found new word × (new.1 ≡ me.1))

  -- A load of the word of the place of a turn, by which the place's slot comes to the front.
  abbrev pub BringTold : Step (Option (Arc C Z)) → Me (Option (Arc C Z)) (View C Co) → ℕ → Me (Option (Arc C Z)) (View C Co) → Type 0
  BringTold st me found new =
      (k : About C Co) → me.0.about ≡ Some k → (place : ℕ) → st.word ≡ suc place → (word : PlaceWord) × PlaceFound k place me found new word
      × ((others : List ℕ) × (new.1 ≡ (place, None) ∷ held None others) × ((p : ℕ) → times p (place ∷ []) + times p others ≡ turns_at p me.0.seen.turns))

  abbrev pub PublishTold : Key → Step (Option (Arc C Z)) → Me (Option (Arc C Z)) (View C Co) → ℕ → Me (Option (Arc C Z)) (View C Co) → Type 0
  PublishTold key st me stored new =
      (k : About C Co) → me.0.about ≡ Some k → (place : ℕ) → st.word ≡ suc place →
      (new.0 ≡ seeing me.0 (having_published (Some k.plan) key me.0.seen)) × (new.1 ≡ rest me.1) × OneLess place me.0.seen.turns (other_turns key me.0.seen.turns) × Makes k.plan (λ n. Publish n key) me.0.seen new.0.seen

  abbrev pub AbandonTold : Key → Step (Option (Arc C Z)) → Me (Option (Arc C Z)) (View C Co) → ℕ → Me (Option (Arc C Z)) (View C Co) → Type 0
  AbandonTold key st me stored new =
      (k : About C Co) → me.0.about ≡ Some k → (place : ℕ) → st.word ≡ suc place →
      (new.0 ≡ seeing me.0 (without_turn key me.0.seen)) × (new.1 ≡ rest me.1) × OneLess place me.0.seen.turns (other_turns key me.0.seen.turns) × Makes k.plan (λ n. Abandon n key) me.0.seen new.0.seen

  abbrev pub LendTold : (C → Key) → (C → Co) → Key → Step (Option (Arc C Z)) → Me (Option (Arc C Z)) (View C Co) → ℕ → Me (Option (Arc C Z)) (View C Co) → Type 0
  LendTold key_of course_of key st me found new =
      (k : About C Co) → me.0.about ≡ Some k → (place : ℕ) → st.word ≡ suc place → MatchBool (found == st.first)
      ((a : Arc C Z) × (key_of a.value ≡ key) × (course_of a.value ≡ k.course.value) × (new.0 ≡ seeing me.0 (with_loan (Some k.plan) place key me.0.seen)) × (new.1 ≡ (place, Some a) ∷ me.1)
      × Makes k.plan (λ n. Lend n key) me.0.seen new.0.seen)
      ((word : PlaceWord) × PlaceFound k place me found new word × (new.1 ≡ me.1))

  abbrev pub ReturnTold : Key → Step (Option (Arc C Z)) → Me (Option (Arc C Z)) (View C Co) → ℕ → Me (Option (Arc C Z)) (View C Co) → Type 0
  ReturnTold key st me stored new =
      (k : About C Co) → me.0.about ≡ Some k → (place : ℕ) → st.word ≡ suc place →
      (new.0 ≡ seeing me.0 (having_returned key me.0.seen)) × (new.1 ≡ rest me.1) × Makes k.plan Return me.0.seen new.0.seen
