-- What the steps on the words of segments and on the done word tell. Word 0 is the done word; the places' words follow,
-- and then the segments'.
use Rattle.std.specs.Prelude.{◌≡◌, ℕ, suc, ◌+◌, ◌==◌, Bool, Option, Some, MatchBool}
use Rattle.atomic_table.specs.Table.{Step, Me}
use Rattle.std.specs.declared.sync.Arc.{Arc}
use Rattle.shelf_core.specs.Views.{times}
use Rattle.shelf_core.specs.After.{with_claim, with_count, having_stopped, having_loaded}
use Rattle.shelf_core.specs.declared.words.ClaimWord.TheVariants.{Taken}
use Rattle.shelf_core.specs.declared.words.Word.TheVariants.{Claim as claim_word, Done as done_word}
use Rattle.shelf_core.specs.declared.words.Seen.TheVariants.{Claim as claim_seen, Done as done_seen}
use Rattle.shelf_core.specs.declared.event.Event.TheVariants.{Claim, Count, Stop}
use Rattle.shelf_core.specs.declared.seat.SeatView.{SeatView}
use Rattle.checkpoint_shelf.specs.declared.about.About.{About}
use Rattle.checkpoint_shelf.specs.declared.about.View.{View}
use Rattle.checkpoint_shelf.specs.Codes.{done_code}
use Rattle.checkpoint_shelf.specs.Holds.{seeing}
use Rattle.shelf_core.specs.Made.{Makes, Sees}

module _ {C Co Z : Type 0} where
  -- The seat's view is now w, and it has the slots that it had.
  abbrev pub Becomes : Me (Option (Arc C Z)) (View C Co) → SeatView → Me (Option (Arc C Z)) (View C Co) → Type 0
  Becomes me w new = (new.0 ≡ seeing me.0 w) × (new.1 ≡ me.1)

  abbrev pub ClaimTold : Step (Option (Arc C Z)) → Me (Option (Arc C Z)) (View C Co) → ℕ → Me (Option (Arc C Z)) (View C Co) → Type 0
  ClaimTold st me found new =
      (k : About C Co) → me.0.about ≡ Some k → (segment : ℕ) → st.word ≡ suc (st.slots + segment) → MatchBool (found == 0)
      (Becomes me (with_claim segment me.0.seen) new × (times segment me.0.seen.claims ≡ 0) × Makes k.plan (λ n. Claim n segment) me.0.seen new.0.seen)
      ((m : ℕ) × Becomes me (having_loaded (Some k.plan) (Some (claim_seen segment (Taken m))) me.0.seen) new × Sees k.plan (claim_word segment) (claim_seen segment (Taken m)) me.0.seen new.0.seen)

  abbrev pub DoneTold : Step (Option (Arc C Z)) → Me (Option (Arc C Z)) (View C Co) → ℕ → Me (Option (Arc C Z)) (View C Co) → Type 0
  DoneTold st me found new =
      (k : About C Co) → me.0.about ≡ Some k →
      (done : ℕ) × (stopped : Bool) × (found ≡ done_code done stopped) × Becomes me (having_loaded (Some k.plan) (Some (done_seen done stopped)) me.0.seen) new × Sees k.plan done_word (done_seen done stopped) me.0.seen new.0.seen

  abbrev pub CountTold : Step (Option (Arc C Z)) → Me (Option (Arc C Z)) (View C Co) → ℕ → Me (Option (Arc C Z)) (View C Co) → Type 0
  CountTold st me found new =
      (k : About C Co) → me.0.about ≡ Some k → Becomes me (with_count me.0.seen) new × Makes k.plan Count me.0.seen new.0.seen

  abbrev pub StopTold : Step (Option (Arc C Z)) → Me (Option (Arc C Z)) (View C Co) → ℕ → Me (Option (Arc C Z)) (View C Co) → Type 0
  StopTold st me found new =
      (k : About C Co) → me.0.about ≡ Some k → Becomes me (having_stopped me.0.seen) new × Makes k.plan Stop me.0.seen new.0.seen
