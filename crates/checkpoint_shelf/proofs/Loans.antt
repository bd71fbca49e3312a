-- The steps of a loan.
use Rattle.std.proofs.Common.{◌≡◌, ℕ, suc, true, false, ◌∷◌, Some, slice_get, length, set, sym, refl, ap, ◌∙◌, subst, arith, eqb, eq-eqb, ne_eqb, is_some, is_none, ◌&&◌}
use mathlib.Core.Logic.{dite}
use native.Mathlib.Decide.{ℕ_discrete}
use mathlib.Core.Option.{some, none}
use lib.ListN.{get_elem?}
use prog.Atomic.{either}
use Rattle.atomic_table.specs.Table.{step, takes, gives, stepped, Allows, rest}
use Rattle.std.specs.declared.sync.Arc.{Arc}
use Rattle.shelf_core.specs.Plan.{place_of, place_count}
use Rattle.shelf_core.specs.Words.{is_ready}
use Rattle.shelf_core.specs.Views.{live_view}
use Rattle.shelf_core.specs.Possible.{possible, word_at}
use Rattle.shelf_core.specs.After.{after, key_place, with_loan, having_returned, after_return, loan_of}
use Rattle.shelf_core.specs.Orderly.{Orderly}
use Rattle.shelf_core.specs.declared.plan.Key.{Key}
use Rattle.shelf_core.specs.declared.words.PlaceWord.{PlaceWord}
use Rattle.shelf_core.specs.declared.words.PlaceWord.TheVariants.{Ready, Lent}
use Rattle.shelf_core.specs.declared.seat.SeatView.{SeatView}
use Rattle.shelf_core.specs.declared.system.System.{System}
use Rattle.shelf_core.specs.declared.event.Event.TheVariants.{Lend, Return}
use Rattle.shelf_core.proofs.Lists.{changed_is_set}
use Rattle.shelf_core.proofs.Plans.{and_both, key_self, place_below}
use Rattle.shelf_core.proofs.Steps.{after_orderly, place_is, live_is}
use Rattle.checkpoint_shelf.specs.declared.about.About.{About}
use Rattle.checkpoint_shelf.specs.declared.about.View.{View}
use Rattle.checkpoint_shelf.specs.Codes.{place_code, words_of}
use Rattle.checkpoint_shelf.specs.Holds.{IsSeat, seeing}
use Rattle.checkpoint_shelf.specs.Places.{PlaceFound, LendTold, ReturnTold}
use Rattle.shelf_core.specs.Made.{Makes}
use Rattle.checkpoint_shelf.proofs.Codes.{word_same, key_fits}
use Rattle.checkpoint_shelf.proofs.Rule.{St, It, Rule, Goes, view_at, number_is, about_is, makes, can_at}
use Rattle.checkpoint_shelf.proofs.Words.{each}
use Rattle.checkpoint_shelf.proofs.Places.{word_fits, word_of, key_word, found_at, Left, left_found, moved, misses}

module _ {C Co : Type 0} (Z : Type 0) (key_of : C → Key) (course_of : C → Co) (k : About C Co) where
  lends_hit : (t : St Z key_of course_of k) (h : Rule Z key_of course_of k t) (slots id number i p new : ℕ) (key : Key) (me : It Z key_of course_of k) → IsSeat {Z = Z} k number me → length t.homes ≡ place_count k.plan → i ≡ suc p → new ≡ place_code (Lent key number)
      → place_of k.plan key ≡ Some p → get_elem? t.views id ≡ some me.0 → slice_get h.sys.places p ≡ Some (Ready key)
      → Goes Z key_of course_of k t id me i (λ m. either (eqb m (place_code (Ready key))) new m) (LendTold {C = C} {Co = Co} {Z = Z} key_of course_of key (step slots i (place_code (Ready key)) new none) me) (place_code (Ready key))
  lends_hit t h slots id number i p new key me seat len i_is new_is key_at at is =
      let v : SeatView = me.0.seen in let v_at = view_at Z key_of course_of k t h id me.0 at in
      let n_is = number_is Z key_of course_of k t h id number me seat at in
      let e = key_word Z key_of course_of k t h key p (Ready key) key_at is in
      let pl : key_place h.sys key ≡ p = place_is h.sys key p e.0 in
      let can : possible h.sys (Lend id key) ≡ true = can_at h.sys id v (λ view. is_ready key (word_at h.sys key) && is_none view.loan) v_at seat.live
      (and_both _ _ (ap (is_ready key) e.1 ∙ key_self key) (ap is_none seat.idle)) in
      let u : SeatView = with_loan (Some k.plan) p key v in
      let a = h.slots p (Ready key) is in
      let same_view : with_loan h.sys.plan (key_place h.sys key) key v ≡ u = ap (λ o. with_loan o (key_place h.sys key) key v) h.laid ∙ ap (λ q. with_loan (Some k.plan) q key v) pl in
      rw (eq-eqb (place_code (Ready key)) (place_code (Ready key)) refl) (
        seeing me.0 u,
        takes p (Some a.0),
        a.1,
        moved Z key_of course_of k t h id me.0 p i new (Ready key) (Lent key id) none u (after h.sys (Lend id key)) at i_is (new_is ∙ ap (λ n. place_code (Lent key n)) n_is) is len refl (after_orderly h.sys (Lend id key) h.orderly can) refl
            (ap (λ q. words_of (record h.sys { places = set h.sys.places q (Lent key id) })) pl) (ap (λ q. set h.sys.places q (Lent key id)) pl)
            (changed_is_set (with_loan h.sys.plan (key_place h.sys key) key) h.sys.views id v v_at ∙ ap (λ w. set h.sys.views id w) same_view) refl,
        (λ k' ke q q_is. each Z key_of course_of k
            (λ b c. (y : Arc C Z) × (key_of y.value ≡ key) × (course_of y.value ≡ b.course.value) × (seeing me.0 u ≡ seeing me.0 (with_loan (Some b.plan) c key v)) × ((p, Some a.0) ∷ me.1 ≡ (c, Some y) ∷ me.1) × Makes b.plan (λ n. Lend n key) v u) k' p q
            (about_is Z key_of course_of k number me k' seat ke) (omega arith)
            (a.0, a.2, a.3, refl, refl, makes Z key_of course_of k t h id v u (λ n. Lend n key) (with_loan h.sys.plan (key_place h.sys key) key) v_at can refl same_view)),
      )

  pub lends : (slots id number i p old new : ℕ) (key : Key) (me : It Z key_of course_of k) → IsSeat {Z = Z} k number me → slots ≡ place_count k.plan → i ≡ suc p → old ≡ place_code (Ready key) → new ≡ place_code (Lent key number)
      → place_of k.plan key ≡ Some p
      → Allows (Rule Z key_of course_of k) slots id me i (λ m. either (eqb m old) new m) (LendTold {C = C} {Co = Co} {Z = Z} key_of course_of key (step slots i old new none) me)
  lends slots id number i p old new key me seat many i_is old_is new_is key_at t h len at low =
      let w = word_of Z key_of course_of k t h p (place_below k.plan key p key_at) in
      subst (λ m. Goes Z key_of course_of k t id me i (λ m. either (eqb m old) new m) (LendTold {C = C} {Co = Co} {Z = Z} key_of course_of key (step slots i old new none) me) m) (sym (found_at Z key_of course_of k t h i p w.0 i_is w.1))
      (dite (ℕ_discrete (place_code w.0) old)
      (λ hit. let same : w.0 ≡ Ready key = word_same w.0 (Ready key) (word_fits Z key_of course_of k t h p w.0 seat.fits w.1) (key_fits k.plan key p seat.fits.plan key_at) (hit ∙ old_is) in
      let G : ℕ → ℕ → Type 0 = λ o m. Goes Z key_of course_of k t id me i (λ m. either (eqb m o) new m) (LendTold {C = C} {Co = Co} {Z = Z} key_of course_of key (step slots i o new none) me) m in
      subst (λ (x : ℕ × ℕ). G x.0 x.1) (λ j. (sym old_is j, ap place_code (sym same) j))
      (lends_hit t h slots id number i p new key me seat (len ∙ many) i_is new_is key_at at (w.1 ∙ ap Some same)))
      (λ miss. misses Z key_of course_of k t h id number me seat at i p old new i_is w.0 w.1 (LendTold {C = C} {Co = Co} {Z = Z} key_of course_of key (step slots i old new none) me) miss
      (rw (ne_eqb (place_code w.0) old miss) (λ k' e q q_is. each Z key_of course_of k (λ a b. (word : PlaceWord) × PlaceFound a b me (place_code w.0) (seeing me.0 (Left Z key_of course_of k t h id number me seat at i p i_is w.0 w.1), me.1) word × (me.1 ≡ me.1)) k' p q (about_is Z key_of course_of k number me k' seat e) (omega arith)
      (w.0, left_found Z key_of course_of k t h id number me seat at i p i_is w.0 w.1 me.1, refl)))))

  -- The seat's view before the loan stands for what is known of it.
  pub returns : (slots id number i p n new : ℕ) (key : Key) (a : Arc C Z) (me was : It Z key_of course_of k) → IsSeat {Z = Z} k number was → me.0 ≡ seeing was.0 (with_loan (Some k.plan) p key was.0.seen) → slots ≡ place_count k.plan → i ≡ suc p → new ≡ place_code (Ready key)
      → place_of k.plan key ≡ Some p → me.1 ≡ (p, Some a) ∷ rest me.1 → key_of a.value ≡ key → course_of a.value ≡ k.course.value
      → Allows (Rule Z key_of course_of k) slots id me i (λ _. new) (λ _. ReturnTold {C = C} {Co = Co} {Z = Z} key (step slots i new 0 none) me n)
  returns slots id number i p n new key a me was seat lent many i_is new_is key_at hand keyed course t h len at low =
      let v : SeatView = me.0.seen in let v_at = view_at Z key_of course_of k t h id me.0 at in
      let about : me.0.about ≡ Some k = ap (λ (w : View C Co). w.about) lent ∙ seat.about in
      let live : v.spent ≡ false = ap (λ (w : View C Co). w.seen.spent) lent ∙ seat.live in
      let loan : v.loan ≡ Some (p, key) = ap (λ (w : View C Co). w.seen.loan) lent in
      let o = word_of Z key_of course_of k t h p (place_below k.plan key p key_at) in
      let u : SeatView = having_returned key v in
      let can : possible h.sys (Return id) ≡ true = can_at h.sys id v (λ view. is_some view.loan) v_at live (ap is_some loan) in
      let of : loan_of (live_view h.sys.views id) ≡ Some (p, key) = ap loan_of (live_is h.sys.views id v v_at live) ∙ loan in
      let z : System = after_return h.sys id (Some (p, key)) in
      let is : after h.sys (Return id) ≡ z = ap (after_return h.sys id) of in
      let orderly : Orderly z = subst Orderly is (after_orderly h.sys (Return id) h.orderly can) in (
        seeing me.0 u,
        gives,
        tt,
        subst (λ c. Rule Z key_of course_of k (stepped t i new id c (seeing me.0 u) gives)) (sym hand)
            (moved Z key_of course_of k t h id me.0 p i new o.0 (Ready key) (some (Some a)) u z at i_is new_is o.1 (len ∙ many) refl orderly refl refl refl
            (changed_is_set (having_returned key) h.sys.views id v v_at) (a, refl, keyed, course)),
        (λ k' e q q_is. each Z key_of course_of k
            (λ b c. (seeing me.0 u ≡ seeing me.0 u) × (rest me.1 ≡ rest me.1) × Makes b.plan Return v u) k' p q (Rattle.shelf_core.proofs.Lists.some_same k k' (sym about ∙ e)) (omega arith)
            (refl, refl, makes Z key_of course_of k t h id v u (λ n. Return n) (having_returned key) v_at can (ap (λ s. s.views) is) refl)),
      )
