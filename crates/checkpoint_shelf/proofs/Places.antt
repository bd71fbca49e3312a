-- The steps on the words of places.
use Rattle.std.proofs.Common.{◌≡◌, ◌≢◌, ℕ, suc, ◌+◌, ◌<◌, ◌≤◌, true, false, true≢false, List, [], ◌∷◌, Option, Some, None, slice_get, length, get_or, set, sym, refl, ap, ◌∙◌, subst, ⊎_elim, arith, eqb, eq-eqb, ne_eqb, option_map, ◌==◌, ◌&&◌, not}
use Rattle.std.specs.List.{list_any}
use mathlib.Core.Logic.{dite}
use native.Mathlib.Decide.{ℕ_discrete}
use mathlib.Core.Option as plain
use mathlib.Core.Option.{some, none}
use lib.ListN.{get_elem?}
use prog.Atomic.{either}
use Rattle.atomic_table.specs.Table.{step, keeps, takes, stepped, Allows}
use Rattle.atomic_table.proofs.Lists.{set_here as set_here?, set_else as set_else?}
use Rattle.std.specs.declared.sync.Arc.{Arc}
use Rattle.shelf_core.specs.Plan.{same_key, place_of, place_in, place_count, is_grid_place}
use Rattle.shelf_core.specs.Views.{times}
use Rattle.shelf_core.specs.Possible.{possible, word_in, word_at, allows_writing, is_replaceable}
use Rattle.shelf_core.specs.After.{after, key_place, with_turn, having_loaded}
use Rattle.shelf_core.specs.Sound.{WordBelongs}
use Rattle.shelf_core.specs.Orderly.{Orderly}
use Rattle.shelf_core.specs.declared.plan.Key.{Key}
use Rattle.shelf_core.specs.declared.words.PlaceWord.{PlaceWord}
use Rattle.shelf_core.specs.declared.words.PlaceWord.TheVariants.{Free, Writing, Ready, Lent}
use Rattle.shelf_core.specs.declared.words.Word.TheVariants.{Place as place_word}
use Rattle.shelf_core.specs.declared.words.Seen.TheVariants.{Place as place_seen}
use Rattle.shelf_core.specs.declared.seat.SeatView.{SeatView}
use Rattle.shelf_core.specs.declared.system.System.{System}
use Rattle.shelf_core.specs.declared.event.Event.TheVariants.{Begin}
use Rattle.shelf_core.proofs.Lists.{bool_cases, there, within, at_set, changed_is_set}
use Rattle.shelf_core.proofs.Plans.{and_both, place_below}
use Rattle.shelf_core.proofs.Steps.{after_orderly, place_is}
use Rattle.checkpoint_shelf.specs.declared.about.About.{About}
use Rattle.checkpoint_shelf.specs.declared.about.View.{View}
use Rattle.checkpoint_shelf.specs.Codes.{WordFits, place_code, words_of}
use Rattle.checkpoint_shelf.specs.Holds.{AboutFits, IsSeat, seeing}
use Rattle.shelf_core.specs.Possible.{allows}
use Rattle.checkpoint_shelf.specs.Places.{PlaceFound, LookTold, BeginTold}
use Rattle.shelf_core.specs.Made.{Makes}
use Rattle.checkpoint_shelf.proofs.Rows.{length_map, place_at, set_place}
use Rattle.checkpoint_shelf.proofs.Codes.{word_same, key_fits}
use Rattle.checkpoint_shelf.proofs.Rule.{St, It, Rule, Stood, Goes, view_at, shape_of, words_long, number_is, about_is, keeps_rule, makes, can_at, sees_it, look_rule}
use Rattle.checkpoint_shelf.proofs.Words.{each}

times_any : (n : ℕ) (ms : List ℕ) → 0 < times n ms → list_any (λ m. m == n) ms ≡ true
times_any n [] pos = absurd (omega arith)
times_any n (m ∷ ms) pos = ⊎_elim
    (λ (y : (m == n) ≡ true). rw y refl)
    (λ (y : (m == n) ≡ false). let p : 0 < times n (m ∷ ms) = pos in let q : 0 < 0 + times n ms = rw y at p in let r = times_any n ms (omega arith) in rw y r)
    (bool_cases (m == n))

module _ {C Co : Type 0} (Z : Type 0) (key_of : C → Key) (course_of : C → Co) (k : About C Co) where
  -- The words of places fit, since their keys are the plan's and the seats are few.
  pub word_fits : (t : St Z key_of course_of k) (h : Rule Z key_of course_of k t) (p : ℕ) (w : PlaceWord) → AboutFits k → slice_get h.sys.places p ≡ Some w → WordFits w
  word_fits t h p w fits is = by w (subst (λ o. WordBelongs o (length h.sys.views) p w) h.laid (h.orderly.sound.places.words p w is))
    where
      few : length h.sys.views ≤ 64
      few = let a = h.seats in let b = fits.seats in let c = b.1 in let d : length h.sys.views ≡ length t.views = ap length (sym h.views) ∙ length_map (λ (u : View C Co). u.seen) t.views in omega arith

      by : (w : PlaceWord) → WordBelongs (Some k.plan) (length h.sys.views) p w → WordFits w
      by Free b = tt
      by (Writing n) b = let f = few in omega arith
      by (Ready key) b = key_fits k.plan key p fits.plan b
      by (Lent key n) b = let f = few in let n_low = b.1 in (key_fits k.plan key p fits.plan b.0, omega arith)

  pub found_at : (t : St Z key_of course_of k) (h : Rule Z key_of course_of k t) (i p : ℕ) (w : PlaceWord) → i ≡ suc p → slice_get h.sys.places p ≡ Some w → get_or t.words i 0 ≡ place_code w
  found_at t h i p w i_is is = ap (λ l. get_or l i 0) h.words ∙ ap (λ j. get_or (words_of h.sys) j 0) i_is ∙ place_at h.sys p w is

  -- The word of a place that the plan has.
  pub word_of : (t : St Z key_of course_of k) (h : Rule Z key_of course_of k t) (p : ℕ) → p < place_count k.plan → (w : PlaceWord) × (slice_get h.sys.places p ≡ Some w)
  word_of t h p lt = let s = shape_of Z key_of course_of k t h in let n = s.places in there h.sys.places p (omega arith)

  pub key_word : (t : St Z key_of course_of k) (h : Rule Z key_of course_of k t) (key : Key) (p : ℕ) (w : PlaceWord) → place_of k.plan key ≡ Some p → slice_get h.sys.places p ≡ Some w → (place_in h.sys.plan key ≡ Some p) × (word_at h.sys key ≡ Some w)
  key_word t h key p w at is = let e : place_in h.sys.plan key ≡ Some p = ap (λ o. place_in o key) h.laid ∙ at in (e, ap (word_in h.sys.places) e ∙ is)

  -- A place's word is found as it was.
  module _ (t : St Z key_of course_of k) (h : Rule Z key_of course_of k t) (id number : ℕ) (me : It Z key_of course_of k) (seat : IsSeat {Z = Z} k number me) (at : get_elem? t.views id ≡ some me.0) (i p : ℕ) (i_is : i ≡ suc p) (w : PlaceWord) (is : slice_get h.sys.places p ≡ Some w) where
    abbrev pub Left : SeatView
    Left = having_loaded (Some k.plan) (Some (place_seen p w)) me.0.seen

    pub left_rule : Rule Z key_of course_of k (stepped t i (place_code w) id me.1 (seeing me.0 Left) keeps)
    left_rule = let s = shape_of Z key_of course_of k t h in let n = s.places in let inside : p < length h.sys.places = within h.sys.places p w is in
        look_rule Z key_of course_of k t h id number me seat at (place_word p) (place_seen p w) (ap (λ o. option_map (place_seen p) o) is) i (place_code w) (let l = words_long Z key_of course_of k t h in omega arith) (found_at t h i p w i_is is)

    pub left_found : (carried : List (ℕ × Option (Arc C Z))) → PlaceFound k p me (place_code w) (seeing me.0 Left, carried) w
    left_found carried = (word_fits t h p w seat.fits is, refl, refl, sees_it Z key_of course_of k t h id number me seat at (place_word p) (place_seen p w) (ap (λ o. option_map (place_seen p) o) is))

  -- The rule after a step by which the word of the place p became another, and its slot has this.
  pub moved : (t : St Z key_of course_of k) (h : Rule Z key_of course_of k t) (id : ℕ) (v : View C Co) (p i n : ℕ) (old new : PlaceWord) (slot : plain.Option (Option (Arc C Z))) (w : SeatView) (z : System)
      → get_elem? t.views id ≡ some v → i ≡ suc p → n ≡ place_code new → slice_get h.sys.places p ≡ Some old → length t.homes ≡ place_count k.plan → w.spent ≡ v.seen.spent → Orderly z → z.plan ≡ h.sys.plan
      → words_of z ≡ words_of (record h.sys { places = set h.sys.places p new }) → z.places ≡ set h.sys.places p new → z.views ≡ set h.sys.views id w → Stood Z key_of course_of k new (some slot)
      → Rule Z key_of course_of k (record { words = set t.words i n; homes = set t.homes p slot; views = set t.views id (seeing v w) })
  moved t h id v p i n old new slot w z at i_is n_is is len sp orderly plan words places views stands =
      let s = shape_of Z key_of course_of k t h in let many = s.places in
      let inside : p < length h.sys.places = within h.sys.places p old is in
      keeps_rule Z key_of course_of k t h id v w z (set t.words i n) (set t.homes p slot) at sp orderly plan
      (ap (λ l. set l i n) h.words ∙ ap (λ c. set (words_of h.sys) i c) n_is ∙ ap (λ j. set (words_of h.sys) j (place_code new)) i_is ∙ set_place h.sys p new inside ∙ sym words)
      views
      (λ q c e. ⊎_elim
      (λ (x : (q ≡ p) × (new ≡ c)). subst (λ (b : ℕ × PlaceWord). Stood Z key_of course_of k b.1 (get_elem? (set t.homes p slot) b.0)) (λ j. (sym x.0 j, x.1 j))
      (subst (λ b. Stood Z key_of course_of k new b) (sym (set_here? t.homes p slot (omega arith))) stands))
      (λ (x : (q ≢ p) × (slice_get h.sys.places q ≡ Some c)). subst (λ b. Stood Z key_of course_of k c b) (sym (set_else? t.homes p q slot x.0)) (h.slots q c x.1))
      (at_set h.sys.places p q new c (ap (λ l. slice_get l q) (sym places) ∙ e)))

  pub looks : (slots id number i p : ℕ) (me : It Z key_of course_of k) → IsSeat {Z = Z} k number me → i ≡ suc p → p < place_count k.plan
      → Allows (Rule Z key_of course_of k) slots id me i (λ n. n) (LookTold {C = C} {Co = Co} {Z = Z} (step slots i 0 0 none) me)
  looks slots id number i p me seat i_is lt t h len at fits = let w = word_of t h p lt in
      subst (λ m. Goes Z key_of course_of k t id me i (λ n. n) (LookTold {C = C} {Co = Co} {Z = Z} (step slots i 0 0 none) me) m) (sym (found_at t h i p w.0 i_is w.1)) (
        seeing me.0 (Left t h id number me seat at i p i_is w.0 w.1),
        keeps,
        tt,
        left_rule t h id number me seat at i p i_is w.0 w.1,
        (λ k' e q q_is. each Z key_of course_of k (λ a b. (word : PlaceWord) × PlaceFound a b me (place_code w.0) (seeing me.0 (Left t h id number me seat at i p i_is w.0 w.1), me.1) word × (me.1 ≡ me.1)) k' p q (about_is Z key_of course_of k number me k' seat e) (omega arith)
            (w.0, left_found t h id number me seat at i p i_is w.0 w.1 me.1, refl)),
      )

  -- A compare-exchange on a place's word that finds another number.
  pub misses : (t : St Z key_of course_of k) (h : Rule Z key_of course_of k t) (id number : ℕ) (me : It Z key_of course_of k) (seat : IsSeat {Z = Z} k number me) (at : get_elem? t.views id ≡ some me.0) (i p old new : ℕ) (i_is : i ≡ suc p) (w : PlaceWord) (is : slice_get h.sys.places p ≡ Some w)
      (told : ℕ → It Z key_of course_of k → Type 0) → place_code w ≢ old → told (place_code w) (seeing me.0 (Left t h id number me seat at i p i_is w is), me.1)
      → Goes Z key_of course_of k t id me i (λ m. either (eqb m old) new m) told (place_code w)
  misses t h id number me seat at i p old new i_is w is told ne x = rw (ne_eqb (place_code w) old ne) (
    seeing me.0 (Left t h id number me seat at i p i_is w is),
    keeps,
    tt,
    left_rule t h id number me seat at i p i_is w is,
    x,
  )

  -- The core says that a value may be written where the plan and the word say so.
  allowed_is : (t : St Z key_of course_of k) (h : Rule Z key_of course_of k t) (key : Key) (p : ℕ) (w : PlaceWord) → place_of k.plan key ≡ Some p → slice_get h.sys.places p ≡ Some w → allows k.plan p key w ≡ true → allows_writing h.sys key (word_at h.sys key) ≡ true
  allowed_is t h key p w at is can = let e = key_word t h key p w at is in ap (allows_writing h.sys key) e.1 ∙ by w can
    where
      by : (w : PlaceWord) → allows k.plan p key w ≡ true → allows_writing h.sys key (Some w) ≡ true
      by Free c = refl
      by (Writing n) c = absurd (true≢false (sym c))
      by (Ready o) c = let e : place_in h.sys.plan key ≡ Some p = ap (λ o. place_in o key) h.laid ∙ at in
          ap (λ a. is_replaceable h.sys key a && not (same_key o key)) e ∙ ap (λ a. is_grid_place a p && not (same_key o key)) h.laid ∙ c
      by (Lent o n) c = absurd (true≢false (sym c))

  -- What is at home where a value may be written.
  at_home : (t : St Z key_of course_of k) (h : Rule Z key_of course_of k t) (key : Key) (p : ℕ) (w : PlaceWord) → slice_get h.sys.places p ≡ Some w → allows k.plan p key w ≡ true → (x : Option (Arc C Z)) × (get_elem? t.homes p ≡ some (some x))
  at_home t h key p Free is c = (None, h.slots p Free is)
  at_home t h key p (Writing n) is c = absurd (true≢false (sym c))
  at_home t h key p (Ready o) is c = let s = h.slots p (Ready o) is in (Some s.0, s.1)
  at_home t h key p (Lent o n) is c = absurd (true≢false (sym c))

  begins_hit : (t : St Z key_of course_of k) (h : Rule Z key_of course_of k t) (slots id number i p new : ℕ) (key : Key) (me : It Z key_of course_of k) → IsSeat {Z = Z} k number me → length t.homes ≡ place_count k.plan → i ≡ suc p → new ≡ place_code (Writing number)
      → place_of k.plan key ≡ Some p → 0 < times key.segment me.0.seen.claims → get_elem? t.views id ≡ some me.0 → (w : PlaceWord) → slice_get h.sys.places p ≡ Some w → allows k.plan p key w ≡ true
      → Goes Z key_of course_of k t id me i (λ m. either (eqb m (place_code w)) new m) (BeginTold {C = C} {Co = Co} {Z = Z} key (step slots i (place_code w) new none) me) (place_code w)
  begins_hit t h slots id number i p new key me seat len i_is new_is key_at claim at w is can =
      let v : SeatView = me.0.seen in let v_at = view_at Z key_of course_of k t h id me.0 at in
      let n_is = number_is Z key_of course_of k t h id number me seat at in
      let e = key_word t h key p w key_at is in
      let pl : key_place h.sys key ≡ p = place_is h.sys key p e.0 in
      let possibly : possible h.sys (Begin id key) ≡ true = can_at h.sys id v (λ view. list_any (λ segment. segment == key.segment) view.claims && allows_writing h.sys key (word_at h.sys key)) v_at seat.live
      (and_both _ _ (times_any key.segment v.claims claim) (allowed_is t h key p w key_at is can)) in
      let z : System = after h.sys (Begin id key) in
      let u : SeatView = with_turn p key v in
      let x = at_home t h key p w is can in
      let same_view : with_turn (key_place h.sys key) key v ≡ u = ap (λ q. with_turn q key v) pl in
      rw (eq-eqb (place_code w) (place_code w) refl) (
        seeing me.0 u,
        takes p x.0,
        x.1,
        moved t h id me.0 p i new w (Writing id) none u z at i_is (new_is ∙ ap (λ n. place_code (Writing n)) n_is) is len refl (after_orderly h.sys (Begin id key) h.orderly possibly) refl
            (ap (λ q. words_of (record h.sys { places = set h.sys.places q (Writing id) })) pl) (ap (λ q. set h.sys.places q (Writing id)) pl)
            (changed_is_set (with_turn (key_place h.sys key) key) h.sys.views id v v_at ∙ ap (λ w. set h.sys.views id w) same_view) refl,
        (λ k' ke q q_is. each Z key_of course_of k (λ a b. (y : Option (Arc C Z)) × (seeing me.0 u ≡ seeing me.0 (with_turn b key v)) × ((p, x.0) ∷ me.1 ≡ (b, y) ∷ me.1) × Makes a.plan (λ n. Begin n key) v u) k' p q
            (about_is Z key_of course_of k number me k' seat ke) (omega arith)
            (x.0, refl, refl, makes Z key_of course_of k t h id v u (λ n. Begin n key) (with_turn (key_place h.sys key) key) v_at possibly refl same_view)),
      )

  pub begins : (slots id number i p old new : ℕ) (key : Key) (want : PlaceWord) (me : It Z key_of course_of k) → IsSeat {Z = Z} k number me → slots ≡ place_count k.plan → i ≡ suc p → old ≡ place_code want → new ≡ place_code (Writing number)
      → place_of k.plan key ≡ Some p → 0 < times key.segment me.0.seen.claims → WordFits want → allows k.plan p key want ≡ true
      → Allows (Rule Z key_of course_of k) slots id me i (λ m. either (eqb m old) new m) (BeginTold {C = C} {Co = Co} {Z = Z} key (step slots i old new none) me)
  begins slots id number i p old new key want me seat many i_is old_is new_is key_at claim fits can t h len at low =
      let w = word_of t h p (place_below k.plan key p key_at) in
      subst (λ m. Goes Z key_of course_of k t id me i (λ m. either (eqb m old) new m) (BeginTold {C = C} {Co = Co} {Z = Z} key (step slots i old new none) me) m) (sym (found_at t h i p w.0 i_is w.1))
      (dite (ℕ_discrete (place_code w.0) old)
      (λ hit. let same : w.0 ≡ want = word_same w.0 want (word_fits t h p w.0 seat.fits w.1) fits (hit ∙ old_is) in
      subst (λ o. Goes Z key_of course_of k t id me i (λ m. either (eqb m o) new m) (BeginTold {C = C} {Co = Co} {Z = Z} key (step slots i o new none) me) (place_code w.0)) hit
      (begins_hit t h slots id number i p new key me seat (len ∙ many) i_is new_is key_at claim at w.0 w.1 (ap (allows k.plan p key) same ∙ can)))
      (λ miss. misses t h id number me seat at i p old new i_is w.0 w.1 (BeginTold {C = C} {Co = Co} {Z = Z} key (step slots i old new none) me) miss
      (rw (ne_eqb (place_code w.0) old miss) (λ k' e q q_is. each Z key_of course_of k (λ a b. (word : PlaceWord) × PlaceFound a b me (place_code w.0) (seeing me.0 (Left t h id number me seat at i p i_is w.0 w.1), me.1) word × (me.1 ≡ me.1)) k' p q (about_is Z key_of course_of k number me k' seat e) (omega arith)
      (w.0, left_found t h id number me seat at i p i_is w.0 w.1 me.1, refl)))))
