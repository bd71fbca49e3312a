-- The last state of the table is the system of the closed shelf.
use Rattle.std.proofs.Common.{◌≡◌, ℕ, zero, suc, ◌+◌, ◌-◌, ◌<◌, true, false, List, [], ◌∷◌, ◌++◌, Option, Some, None, slice_get, map, take, drop, length, replicate, sym, refl, ap, ◌∙◌, subst, ⊎_elim, arith}
use mathlib.Core.Option.{some}
use Rattle.std.specs.List.{remove, slice_index_or}
use lib.ListN.{get_elem?}
use Rattle.atomic_table.specs.Table.{Final, Seen}
use Rattle.std.specs.declared.sync.Arc.{Arc}
use Rattle.shelf_core.specs.Plan.{place_count, place_of}
use Rattle.shelf_core.specs.Possible.{word_in, word_at}
use Rattle.shelf_core.proofs.Plans.{place_below}
use Rattle.shelf_core.proofs.Steps.{ready_is}
use Rattle.shelf_core.specs.Words.{value_under, is_ready}
use Rattle.shelf_core.specs.Views.{spent_view, times, turns_at}
use Rattle.shelf_core.specs.After.{joined_with}
use Rattle.shelf_core.specs.Sound.{ForViews}
use Rattle.shelf_core.specs.Orderly.{Orderly}
use Rattle.shelf_core.specs.Settled.{IsSettled}
use Rattle.shelf_core.proofs.Settled.{settled}
use Rattle.shelf_core.specs.declared.plan.Key.{Key}
use Rattle.shelf_core.specs.declared.plan.ShelfPlan.{ShelfPlan}
use Rattle.shelf_core.specs.declared.words.ClaimWord.{ClaimWord}
use Rattle.shelf_core.specs.declared.words.ClaimWord.TheVariants.{Open, Taken}
use Rattle.shelf_core.specs.declared.words.PlaceWord.{PlaceWord}
use Rattle.shelf_core.specs.declared.words.PlaceWord.TheVariants.{Ready}
use Rattle.shelf_core.specs.declared.seat.SeatView.{SeatView}
use Rattle.shelf_core.specs.declared.system.System.{System}
use Rattle.shelf_core.proofs.Lists.{bool_cases, some_same, not_some}
use Rattle.checkpoint_shelf.specs.declared.about.About.{About}
use Rattle.checkpoint_shelf.specs.declared.about.View.{View}
use Rattle.checkpoint_shelf.specs.Codes.{WordFits, place_code, claim_code, done_code, place_word_in, claim_word_in}
use Rattle.checkpoint_shelf.specs.Closing.{closed_system, places_in, other_words, first_word, IsClosed}
use Rattle.checkpoint_shelf.specs.Fronts.{held}
use Rattle.shelf_core.specs.Views.{live_count}
use Rattle.checkpoint_shelf.specs.Holds.{AboutFits, IsSeat}
use Rattle.std.proofs.lemmas.List.{map-append}
use Rattle.checkpoint_shelf.specs.Told.{ShelfTold, SeatTold}
use Rattle.checkpoint_shelf.specs.Seats.{gathered, AreLater}
use Rattle.checkpoint_shelf.proofs.Rows.{length_map}
use Rattle.checkpoint_shelf.proofs.Codes.{word_back}
use Rattle.checkpoint_shelf.proofs.Calls.{halves}
use Rattle.checkpoint_shelf.proofs.Rule.{St, Rule, view_at, shape_of, words_long, weight}
use Rattle.checkpoint_shelf.proofs.Places.{word_fits}

module _ {A : Type 0} where
  take_front : (xs ys : List A) (n : ℕ) → n ≡ length xs → take n (xs ++ ys) ≡ xs
  take_front [] ys zero e = refl
  take_front [] ys (suc n) e = absurd (omega arith)
  take_front (x ∷ xs) ys zero e = absurd (omega arith)
  take_front (x ∷ xs) ys (suc n) e = ap (λ l. x ∷ l) (take_front xs ys n (omega arith))

  drop_front : (xs ys : List A) (n : ℕ) → n ≡ length xs → drop n (xs ++ ys) ≡ ys
  drop_front [] ys zero e = refl
  drop_front [] ys (suc n) e = absurd (omega arith)
  drop_front (x ∷ xs) ys zero e = absurd (omega arith)
  drop_front (x ∷ xs) ys (suc n) e = drop_front xs ys n (omega arith)

places_back : (ps : List PlaceWord) → ((p : ℕ) (w : PlaceWord) → slice_get ps p ≡ Some w → WordFits w) → map place_word_in (map place_code ps) ≡ ps
places_back [] fits = refl
places_back (w ∷ ps) fits = λ j. word_back w (fits 0 w refl) j ∷ places_back ps (λ p x e. fits (suc p) x e) j

claim_back : (w : ClaimWord) → claim_word_in (claim_code w) ≡ w
claim_back Open = refl
claim_back (Taken n) = refl

claims_back : (cs : List ClaimWord) → map claim_word_in (map claim_code cs) ≡ cs
claims_back [] = refl
claims_back (w ∷ cs) = λ j. claim_back w j ∷ claims_back cs j

all_spent : (views : List SeatView) → live_count views ≡ 0 → ForViews views (λ n view. view.spent ≡ true → view ≡ spent_view) → views ≡ replicate (length views) spent_view
all_spent [] none each = refl
all_spent (x ∷ xs) none each = ⊎_elim
    (λ (yes : x.spent ≡ true). let w : weight x.spent ≡ 0 = ap weight yes in let rest = all_spent xs (omega arith) (λ i v e. each (suc i) v e) in λ j. each 0 x refl yes j ∷ rest j)
    (λ (no : x.spent ≡ false). let w : weight x.spent ≡ 1 = ap weight no in absurd (omega arith))
    (bool_cases x.spent)

only_one : (views : List SeatView) (v : SeatView) → slice_get views 0 ≡ Some v → v.spent ≡ false → live_count views ≡ 1 → ForViews views (λ n view. view.spent ≡ true → view ≡ spent_view) → views ≡ v ∷ replicate (length views - 1) spent_view
only_one [] v e live one each = absurd (not_some v e)
only_one (x ∷ xs) v e live one each = let is = some_same x v e in let w : weight x.spent ≡ 1 = ap (λ (u : SeatView). weight u.spent) is ∙ ap weight live in
    let rest = all_spent xs (omega arith) (λ i u z. each (suc i) u z) in
    let n : length xs ≡ length (x ∷ xs) - 1 = omega arith in (λ j. is j ∷ rest j) ∙ ap (λ m. v ∷ replicate m spent_view) n

module _ {C Co : Type 0} (Z : Type 0) (key_of : C → Key) (course_of : C → Co) (k : About C Co) where
  -- The system of the words and the first seat's view is the system that the table was.
  system_back : (t : St Z key_of course_of k) (h : Rule Z key_of course_of k t) (id : ℕ) (v : View C Co) → AboutFits k → get_elem? t.views id ≡ some v → v.leads ≡ true → v.made ≡ k.seats → v.met + 1 ≡ k.seats
      → closed_system k.plan k.seats t.words v.seen ≡ h.sys
  system_back t h id v fits at leads made met =
      let s : System = h.sys in let shape = shape_of Z key_of course_of k t h in
      let lead = (h.told id v at).leads leads in
      let ps : List ℕ = map place_code s.places in let cs : List ℕ = map claim_code s.claims in
      let n : place_count k.plan ≡ length ps = sym (length_map place_code s.places ∙ shape.places) in
      let others : other_words t.words ≡ ps ++ cs = ap other_words h.words in
      let first : first_word t.words ≡ done_code s.done s.stopped = ap first_word h.words in
      let places : places_in k.plan t.words ≡ s.places = ap (λ l. map place_word_in (take (place_count k.plan) l)) others ∙ ap (map place_word_in) (take_front ps cs (place_count k.plan) n) ∙ places_back s.places (λ p w e. word_fits Z key_of course_of k t h p w fits e) in
      let claims : map claim_word_in (drop (place_count k.plan) (other_words t.words)) ≡ s.claims = ap (λ l. map claim_word_in (drop (place_count k.plan) l)) others ∙ ap (map claim_word_in) (drop_front ps cs (place_count k.plan) n) ∙ claims_back s.claims in
      let done = halves s.done s.stopped (first_word t.words) first in
      let v_at : slice_get s.views 0 ≡ Some v.seen = subst (λ i. slice_get s.views i ≡ Some v.seen) lead.0 (view_at Z key_of course_of k t h id v at) in
      let a = lead.2 in let b = lead.3 in let c : length s.views ≡ length t.views = ap length (sym h.views) ∙ length_map (λ (u : View C Co). u.seen) t.views in
      let views : s.views ≡ v.seen ∷ replicate (length s.views - 1) spent_view = only_one s.views v.seen v_at lead.1 (omega arith) h.orderly.spent in
      let many : length s.views ≡ k.seats = omega arith in
      let views' : v.seen ∷ replicate (k.seats - 1) spent_view ≡ s.views = ap (λ m. v.seen ∷ replicate (m - 1) spent_view) (sym many) ∙ sym views in
      λ j. record {
        plan = sym h.laid j;
        claims = claims j;
        places = places j;
        home = (ap (map value_under) places ∙ sym h.orderly.sound.places.values) j;
        done = done.0 j;
        stopped = done.1 j;
        views = views' j;
      }

  pub closes : (words : List ℕ) (slots : List (Option (Arc C Z))) (id : ℕ) (v : View C Co) → AboutFits k → Final (Seen (Rule Z key_of course_of k) id v) words slots → length slots ≡ place_count k.plan
      → v.leads ≡ true → v.made ≡ k.seats → v.met + 1 ≡ k.seats → IsClosed key_of course_of k words slots v.seen
  closes words slots id v fits final long leads made met =
      let t = final.0 in let h = final.1.0 in let is = final.2 in
      let back : closed_system k.plan k.seats words v.seen ≡ h.sys = ap (λ ws. closed_system k.plan k.seats ws v.seen) (sym is) ∙ system_back t h id v fits final.1.1 leads made met in record {
        fits = fits;
        words_long = ap length (sym is) ∙ words_long Z key_of course_of k t h ∙ omega arith;
        slots_long = long;
        orderly = subst Orderly (sym back) h.orderly;
        values = λ p key e. let a = h.slots p (Ready key) (ap (λ (s : System). slice_get s.places p) (sym back) ∙ e) in (a.0, final.4 p (Some a.0) a.1, a.2, a.3);
      }

-- A seat without turns has no slots.
no_places : (places : List ℕ) → ((p : ℕ) → times p places ≡ 0) → places ≡ []
no_places [] none = refl
no_places (p ∷ ps) none = let n = none p in let t = Rattle.shelf_core.proofs.Lists.times_here p ps in absurd (omega arith)

module _ {C Co Z : Type 0} (k : About C Co) (number : ℕ) (me : Rattle.atomic_table.specs.Table.Me (Option (Arc C Z)) (View C Co)) (seat : IsSeat k number me) where
  pub bare_seat : me.0.seen.turns ≡ [] → me.1 ≡ []
  bare_seat none = let places : List ℕ = seat.hands.0 in let e : places ≡ [] = no_places places (λ p. seat.hands.2 p ∙ ap (turns_at p) none) in seat.hands.1 ∙ ap (held None) e

-- The last of the seats is taken in first.
pub gathered_end : (view other : SeatView) (others : List SeatView) → gathered view (others ++ other ∷ []) ≡ gathered (joined_with other view) others
gathered_end view other [] = refl
gathered_end view other (x ∷ xs) = ap (joined_with x) (gathered_end view other xs)

-- The seat that took in the others has the turns and the loan that it had.
pub gathered_same : (view : SeatView) (others : List SeatView) → ((gathered view others).spent ≡ view.spent) × ((gathered view others).turns ≡ view.turns) × ((gathered view others).loan ≡ view.loan)
gathered_same view [] = (refl, refl, refl)
gathered_same view (x ∷ xs) = gathered_same view xs

none_more : (n : ℕ) → live_count (replicate n spent_view) ≡ 0
none_more zero = refl
none_more (suc n) = let r = none_more n in omega arith

pub back_settled : (s : System) (view : SeatView) (n : ℕ) → Orderly s → s.views ≡ view ∷ replicate n spent_view → view.spent ≡ false → view.turns ≡ [] → view.loan ≡ None → IsSettled s view
back_settled s view n orderly views live turns loan = settled s view orderly (record {
  seat = 0;
  there = ap (λ l. slice_get l 0) views;
  live = live;
  alone = ap live_count views ∙ (let w : weight view.spent ≡ 1 = ap weight live in let r = none_more n in omega arith);
  turns = turns;
  loan = loan;
})

module _ {A : Type 0} where
  last_at : (l : List A) (a : A) → slice_get (l ++ a ∷ []) (length l) ≡ Some a
  last_at [] a = refl
  last_at (x ∷ xs) a = last_at xs a

  longer_at : (l m : List A) (i : ℕ) (a : A) → slice_get l i ≡ Some a → slice_get (l ++ m) i ≡ Some a
  longer_at [] m i a e = absurd (not_some a e)
  longer_at (x ∷ xs) m zero a e = e
  longer_at (x ∷ xs) m (suc i) a e = longer_at xs m i a e

module _ {Co : Type 0} (shelf : ShelfTold Co) (all l : List (SeatTold Co)) (seat : SeatTold Co) (is : all ≡ l ++ seat ∷ []) (later : AreLater shelf all) where
  pub later_last : (seat.shelf ≡ Some shelf) × ((rest : List ℕ) × (seat.view.numbers ≡ (1 + length l) ∷ rest)) × (seat.view.turns ≡ [])
  later_last = later (length l) seat (ap (λ m. slice_get m (length l)) is ∙ last_at l seat)

  pub later_front : AreLater shelf l
  later_front i s e = later i s (ap (λ m. slice_get m i) is ∙ longer_at l (seat ∷ []) i s e)

  pub gathered_last : (view : SeatView) → gathered view (map (λ s. s.view) all) ≡ gathered (joined_with seat.view view) (map (λ s. s.view) l)
  gathered_last view = ap (λ m. gathered view (map (λ (s : SeatTold Co). s.view) m)) is ∙ ap (gathered view) (map-append (λ (s : SeatTold Co). s.view) l (seat ∷ [])) ∙ gathered_end view seat.view (map (λ s. s.view) l)

abbrev pub head_of : List ℕ → ℕ
head_of [] = 0
head_of (n ∷ ns) = n

-- The word of a place of a closed shelf.
place_word_at : (ws : List ℕ) (c p n : ℕ) → p < c → get_elem? ws p ≡ some n → slice_get (map place_word_in (take c ws)) p ≡ Some (place_word_in n)
place_word_at [] c p n lt e = absurd (mathlib.Core.Option.some-ne-none n (sym e))
place_word_at (x ∷ xs) zero p n lt e = absurd (omega arith)
place_word_at (x ∷ xs) (suc c) zero n lt e = ap (λ (y : ℕ). Some (place_word_in y)) (mathlib.Core.Option.some-injective x n e)
place_word_at (x ∷ xs) (suc c) (suc p) n lt e = place_word_at xs c p n (omega arith) e

pub closed_word : (plan : ShelfPlan) (words : List ℕ) (p n : ℕ) → p < place_count plan → get_elem? words (suc p) ≡ some n → slice_get (places_in plan words) p ≡ Some (place_word_in n)
closed_word plan [] p n lt e = absurd (mathlib.Core.Option.some-ne-none n (sym e))
closed_word plan (x ∷ xs) p n lt e = place_word_at xs (place_count plan) p n lt e

pub first_split : {A : Type 0} (l others : List A) (a : A) → 0 < length l → a ≡ slice_index_or l 0 a → others ≡ remove l 0 → l ≡ a ∷ others
first_split [] others a lt e f = absurd (omega arith)
first_split (x ∷ xs) others a lt e f = λ j. sym e j ∷ sym f j

pub closed_word_at : (plan : ShelfPlan) (seats : ℕ) (words : List ℕ) (view : SeatView) (key : Key) (p i n : ℕ) → place_of plan key ≡ Some p → i ≡ suc p → get_elem? words i ≡ some n → word_at (closed_system plan seats words view) key ≡ Some (place_word_in n)
closed_word_at plan seats words view key p i n at i_is e = ap (word_in (places_in plan words)) at ∙ closed_word plan words p n (place_below plan key p at) (ap (get_elem? words) (sym i_is) ∙ e)

elem_or : {A : Type 0} (l : List A) (i : ℕ) (d x : A) → get_elem? l i ≡ some x → slice_index_or l i d ≡ x
elem_or [] i d x e = absurd (mathlib.Core.Option.some-ne-none x (sym e))
elem_or (y ∷ ys) zero d x e = mathlib.Core.Option.some-injective y x e
elem_or (y ∷ ys) (suc i) d x e = elem_or ys i d x e

-- What a closed shelf has of a key whose place is Ready of it.
module _ {C Co Z : Type 0} (key_of : C → Key) (course_of : C → Co) (k : About C Co) (words : List ℕ) (slots : List (Option (Arc C Z))) (view : SeatView) (closed : IsClosed key_of course_of k words slots view) where
  pub ready_value : (key : Key) (p i n : ℕ) (r : Option (Arc C Z)) → place_of k.plan key ≡ Some p → i ≡ suc p → get_elem? words i ≡ some n → is_ready key (Some (place_word_in n)) ≡ true → r ≡ slice_index_or slots p r
      → (a : Arc C Z) × (r ≡ Some a) × (key_of a.value ≡ key) × (course_of a.value ≡ k.course.value)
  ready_value key p i n r at i_is e ready is =
      let w : slice_get (places_in k.plan words) p ≡ Some (place_word_in n) = closed_word k.plan words p n (place_below k.plan key p at) (ap (get_elem? words) (sym i_is) ∙ e) in
      let v = closed.values p key (w ∙ ready_is key (Some (place_word_in n)) ready) in
      (v.0, is ∙ elem_or slots p r (Some v.0) v.1, v.2, v.3)
