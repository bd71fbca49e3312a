-- A seat stays one by the steps on the words of places.
use Rattle.std.proofs.Common.{◌≡◌, ℕ, ◌+◌, ◌<◌, List, [], ◌∷◌, Option, Some, None, slice_get, sym, refl, ap, ◌∙◌, subst, arith, ⊎_elim, true}
use Rattle.atomic_table.specs.Table.{Me, rest}
use Rattle.std.specs.declared.sync.Arc.{Arc}
use Rattle.shelf_core.specs.Plan.{place_of}
use Rattle.shelf_core.specs.Views.{times, turns_at, other_turns, has_turn}
use Rattle.shelf_core.specs.After.{with_turn, having_loaded}
use Rattle.shelf_core.specs.declared.plan.Key.{Key}
use Rattle.shelf_core.specs.declared.words.PlaceWord.{PlaceWord}
use Rattle.shelf_core.specs.declared.words.Word.TheVariants.{Place as place_word}
use Rattle.shelf_core.specs.declared.words.Seen.TheVariants.{Place as place_seen}
use Rattle.shelf_core.specs.declared.seat.SeatView.{SeatView}
use Rattle.shelf_core.proofs.Lists.{some_same, at_end, times_append, turns_append}
use Rattle.shelf_core.proofs.Moved.{stays, turn_of_key, turn_counts, turns_split}
use Rattle.shelf_core.proofs.Plans.{key_is}
use Rattle.checkpoint_shelf.specs.declared.about.About.{About}
use Rattle.checkpoint_shelf.specs.declared.about.View.{View}
use Rattle.checkpoint_shelf.specs.Codes.{WordFits, place_code, place_word_in}
use Rattle.checkpoint_shelf.specs.Fronts.{held}
use Rattle.checkpoint_shelf.specs.Holds.{IsSeat, seeing}
use Rattle.checkpoint_shelf.specs.Places.{OneLess, PlaceFound}
use Rattle.shelf_core.specs.Made.{Sees}
use Rattle.checkpoint_shelf.proofs.Codes.{word_back}
use Rattle.shelf_core.proofs.Facts.{loaded}
use Rattle.checkpoint_shelf.proofs.Calls.{becomes_loaded}

pub decoded : (found : ℕ) (result word : PlaceWord) → result ≡ place_word_in found → WordFits word → found ≡ place_code word → result ≡ word
decoded found result word is fits e = is ∙ ap place_word_in e ∙ word_back word fits

module _ {C Co Z : Type 0} (k : About C Co) (number : ℕ) (me new : Me (Option (Arc C Z)) (View C Co)) (seat : IsSeat k number me) where
  -- What was found at a place's word, as its word.
  pub found_seat : (place found : ℕ) (word : PlaceWord) → PlaceFound k place me found new word → new.1 ≡ me.1 → IsSeat k number new
  found_seat place found word f kept = becomes_loaded k number me new seat (Some k.plan) (place_seen place word) (f.2, kept)

  pub found_seen : (place found : ℕ) (word result : PlaceWord) → result ≡ place_word_in found → PlaceFound k place me found new word → (result ≡ word) × WordFits result × Sees k.plan (place_word place) (place_seen place result) me.0.seen new.0.seen
  found_seen place found word result is f = let e = decoded found result word is f.0 f.1 in
      (e, subst WordFits (sym e) f.0, subst (λ w. Sees k.plan (place_word place) (place_seen place w) me.0.seen new.0.seen) (sym e) f.3)

  -- A seat with one turn more.
  pub turn_seat : (place : ℕ) (key : Key) → place_of k.plan key ≡ Some place → new.0 ≡ seeing me.0 (with_turn place key me.0.seen) → new.1 ≡ (place, None) ∷ me.1 → IsSeat k number new
  turn_seat place key at v c =
      let made : IsSeat {Z = Z} k number (seeing me.0 (with_turn place key me.0.seen), (place, None) ∷ me.1) = record {
        fits = seat.fits;
        about = seat.about;
        live = seat.live;
        numbers = seat.numbers;
        small = seat.small;
        leads = seat.leads;
        made = seat.made;
        met = seat.met;
        idle = seat.idle;
        places = λ i turn e. ⊎_elim (seat.places i turn)
            (λ (x : (i ≡ Rattle.std.proofs.Common.length me.0.seen.turns) × ((place, key) ≡ turn)). subst (λ (t : ℕ × Key). place_of k.plan t.1 ≡ Some t.0) x.1 at)
            (at_end me.0.seen.turns (place, key) turn i e);
        hands = (place ∷ seat.hands.0, ap (λ l. (place, None) ∷ l) seat.hands.1, λ p. let a = seat.hands.2 p in let b = turns_append p me.0.seen.turns ((place, key) ∷ []) in omega arith);
      } in
      subst (IsSeat {Z = Z} k number) (λ j. (sym v j, sym c j)) made

  -- A seat whose slot at a place came to the front.
  pub front_seat : (place found : ℕ) (word : PlaceWord) (others : List ℕ) → PlaceFound k place me found new word → new.1 ≡ (place, None) ∷ held None others → ((p : ℕ) → times p (place ∷ []) + times p others ≡ turns_at p me.0.seen.turns) → IsSeat k number new
  front_seat place found word others f c counts =
      let s = loaded (Some k.plan) (place_seen place word) me.0.seen in
      let w : SeatView = having_loaded (Some k.plan) (Some (place_seen place word)) me.0.seen in
      let made : IsSeat {Z = Z} k number (seeing me.0 w, (place, None) ∷ held None others) = record {
        fits = seat.fits;
        about = seat.about;
        live = s.spent ∙ seat.live;
        numbers = (seat.numbers.0, s.numbers ∙ seat.numbers.1);
        small = seat.small;
        leads = seat.leads;
        made = seat.made;
        met = seat.met;
        idle = s.loan ∙ seat.idle;
        places = λ i turn e. seat.places i turn (ap (λ l. slice_get l i) (sym s.turns) ∙ e);
        hands = (place ∷ others, refl, λ p. let a = counts p in let b = ap (turns_at p) s.turns in let d = times_append p (place ∷ []) others in omega arith);
      } in
      subst (IsSeat {Z = Z} k number) (λ j. (sym f.2 j, sym c j)) made

  -- A seat whose slot in front went home.
  pub spent_seat : (place : ℕ) (key : Key) (others : List ℕ) (w : SeatView) → me.1 ≡ (place, None) ∷ held None others → ((p : ℕ) → times p (place ∷ []) + times p others ≡ turns_at p me.0.seen.turns) → OneLess place me.0.seen.turns (other_turns key me.0.seen.turns)
      → w.numbers ≡ me.0.seen.numbers → w.spent ≡ me.0.seen.spent → w.loan ≡ me.0.seen.loan → w.turns ≡ other_turns key me.0.seen.turns → new.0 ≡ seeing me.0 w → new.1 ≡ held None others → IsSeat k number new
  spent_seat place key others w was counts less numbers spent loan turns v c =
      let made : IsSeat {Z = Z} k number (seeing me.0 w, held None others) = record {
        fits = seat.fits;
        about = seat.about;
        live = spent ∙ seat.live;
        numbers = (seat.numbers.0, numbers ∙ seat.numbers.1);
        small = seat.small;
        leads = seat.leads;
        made = seat.made;
        met = seat.met;
        idle = loan ∙ seat.idle;
        places = λ i turn e. let r = stays key me.0.seen.turns i turn (ap (λ l. slice_get l i) (sym turns) ∙ e) in seat.places r.0 turn r.1;
        hands = (others, refl, λ p. let a = counts p in let b = less p in let d = ap (turns_at p) turns in omega arith);
      } in
      subst (IsSeat {Z = Z} k number) (λ j. (sym v j, sym c j)) made

-- What the slot in front has.
abbrev head_or : {A : Type 0} → A → List (ℕ × A) → A
head_or d [] = d
head_or d (y ∷ ys) = y.1

pub front_is : {A : Type 0} (m l : List (ℕ × A)) (p : ℕ) (x y : A) → m ≡ (p, x) ∷ rest m → m ≡ (p, y) ∷ l → x ≡ y
front_is m l p x y e f = ap (λ (z : List (ℕ × _)). head_or x z) (sym e ∙ f)

-- A turn of a key is at the key's place.
module _ {C Co Z : Type 0} (k : About C Co) (number : ℕ) (me : Me (Option (Arc C Z)) (View C Co)) (seat : IsSeat k number me) where
  pub turn_placed : (key : Key) (place : ℕ) → place_of k.plan key ≡ Some place → has_turn key me.0.seen.turns ≡ true → 0 < turns_at place me.0.seen.turns
  turn_placed key place at has = let r = turn_of_key key me.0.seen.turns has in
      let is : r.1.0 ≡ place = some_same r.1.0 place (sym (seat.places r.0 r.1 r.2) ∙ ap (place_of k.plan) (key_is r.1.1 key r.3) ∙ at) in
      let c = turn_counts place key me.0.seen.turns r.0 r.1 r.2 is r.3 in let s = turns_split place key me.0.seen.turns in omega arith

  -- The key of a turn has a place.
  pub turn_has_place : (key : Key) → has_turn key me.0.seen.turns ≡ true → (p : ℕ) × (place_of k.plan key ≡ Some p)
  turn_has_place key has = let r = turn_of_key key me.0.seen.turns has in (r.1.0, ap (place_of k.plan) (sym (key_is r.1.1 key r.3)) ∙ seat.places r.0 r.1 r.2)
