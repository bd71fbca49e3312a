-- What no event undoes.
use Rattle.std.proofs.Common.{◌≡◌, ℕ, zero, suc, ◌+◌, Bool, true, false, List, [], ◌∷◌, ◌++◌, Option, Some, None, slice_get, length, set, take, sym, refl, ap, ◌∙◌, subst, ⊎_elim, arith, true≢false, ◌==◌, ◌&&◌, is_some, is_none, if◌then◌else◌}
use Rattle.std.specs.List.{list_any, fold}
use mathlib.Core.Logic.{dite}
use native.Mathlib.Decide.{ℕ_discrete}
use Rattle.shelf_core.specs.Plan.{same_key, place_in, sole_in, are_distinct}
use Rattle.shelf_core.specs.Words.{is_open, is_ready, is_filled}
use Rattle.shelf_core.specs.Views.{live_view, live_views, has_turn}
use Rattle.shelf_core.specs.Possible.{possible, word_in, word_at, allows_writing}
use Rattle.shelf_core.specs.After.{after, step_of, after_return, after_join, loan_of, key_place, opening, left_by}
use Rattle.shelf_core.specs.Orderly.{Orderly, HasShape, IsBare}
use Rattle.shelf_core.specs.Law.{Keeps, Law}
use Rattle.shelf_core.specs.declared.plan.Key.{Key}
use Rattle.shelf_core.specs.declared.plan.ShelfPlan.{ShelfPlan}
use Rattle.shelf_core.specs.declared.words.ClaimWord.{ClaimWord}
use Rattle.shelf_core.specs.declared.words.ClaimWord.TheVariants.{Open, Taken}
use Rattle.shelf_core.specs.declared.words.PlaceWord.{PlaceWord}
use Rattle.shelf_core.specs.declared.words.PlaceWord.TheVariants.{Free, Writing, Ready, Lent}
use Rattle.shelf_core.specs.declared.seat.SeatView.{SeatView}
use Rattle.shelf_core.specs.declared.system.System.{System}
use Rattle.shelf_core.specs.declared.event.Event.{Event}
use Rattle.shelf_core.specs.declared.event.Event.TheVariants.{Lay, Claim, Begin, Publish, Abandon, Lend, Return, Count, Stop, Load, Split, Join}
use Rattle.shelf_core.proofs.Lists.{bool_cases, some_same, not_some, set_here, set_else}
use Rattle.shelf_core.proofs.Plans.{and_left, and_right, key_self, alone_in}
use Rattle.shelf_core.proofs.Parts.{word_cases}
use Rattle.shelf_core.proofs.Moved.{turn_word}
use Rattle.shelf_core.proofs.Laid.{opening_orderly}
use Rattle.shelf_core.proofs.Steps.{live_seat, live_is, open_is, ready_is, allowed, none_of, word_there, place_is, turn_place, step_orderly, left_orderly}

keeps_self : (s : System) → Keeps s s
keeps_self s = record { stopped = λ f. f; done = omega arith; taken = λ g n e. e; filled = λ key sole f. f }

-- The word of one place changes: of a sole key's it is filled where it was.
fills : (plan : Option ShelfPlan) (places : List PlaceWord) (p : ℕ) (old new : PlaceWord) (key : Key) → slice_get places p ≡ Some old
    → (place_in plan key ≡ Some p → is_filled (Some old) ≡ true → is_filled (Some new) ≡ true)
    → is_filled (word_in places (place_in plan key)) ≡ true → is_filled (word_in (set places p new) (place_in plan key)) ≡ true
fills plan places p old new key is keeps f = go (place_in plan key) refl f
  where
    go : (o : Option ℕ) → place_in plan key ≡ o → is_filled (word_in places o) ≡ true → is_filled (word_in (set places p new) o) ≡ true
    go None eq f = f
    go (Some q) eq f = dite (ℕ_discrete q p)
        (λ same. let g : is_filled (slice_get places p) ≡ true = subst (λ x. is_filled (slice_get places x) ≡ true) same f in
        let k = keeps (eq ∙ ap Some same) (subst (λ o. is_filled o ≡ true) is g) in
        subst (λ x. is_filled (slice_get (set places p new) x) ≡ true) (sym same) (subst (λ o. is_filled o ≡ true) (sym (set_here places p new old is)) k))
        (λ ne. subst (λ o. is_filled o ≡ true) (sym (set_else places p q new ne)) f)

-- At the place of a key.
fills_at : (s : System) (p : ℕ) (old new : PlaceWord) (mine : Key) → place_in s.plan mine ≡ Some p → slice_get s.places p ≡ Some old
    → ((key : Key) → sole_in s.plan key ≡ true → place_in s.plan key ≡ Some p → is_filled (Some old) ≡ true → is_filled (Some new) ≡ true)
    → (key : Key) → sole_in s.plan key ≡ true → is_filled (word_at s key) ≡ true → is_filled (word_in (set s.places (key_place s mine) new) (place_in s.plan key)) ≡ true
fills_at s p old new mine at is keeps key sole f = subst (λ q. is_filled (word_in (set s.places q new) (place_in s.plan key)) ≡ true) (sym (place_is s mine p at)) (fills s.plan s.places p old new key is (keeps key sole) f)

pub after_keeps : (s : System) (e : Event) → Orderly s → possible s e ≡ true → Keeps s (after s e)
after_keeps s (Lay plan) h can =
    let none : s.plan ≡ None = none_of s.plan (and_left (is_none s.plan) (length (live_views s.views) == 1) (and_left (is_none s.plan && (length (live_views s.views) == 1)) (are_distinct (plan.forks ++ plan.grid)) can)) in
    let bare : IsBare s = subst (λ (p : Option ShelfPlan). HasShape p s) none h.shape in record {
      stopped = λ f. absurd (true≢false (sym f ∙ bare.stopped));
      done = (let d = bare.done in omega arith);
      taken = λ g n e. absurd (not_some (Taken n) (sym (ap (λ (l : List ClaimWord). slice_get l g) bare.claims) ∙ e));
      filled = λ key sole f. absurd (true≢false (sym sole ∙ ap (λ p. sole_in p key) none));
    }
after_keeps s (Claim n g) h can =
    let r = live_seat s n (λ view. is_open (slice_get s.claims g)) can in
    let is = open_is (slice_get s.claims g) r.3 in record {
      stopped = λ f. f;
      done = omega arith;
      taken = λ g' m e. dite (ℕ_discrete g' g)
          (λ same. let x : Open ≡ Taken m = some_same Open (Taken m) (sym is ∙ ap (slice_get s.claims) (sym same) ∙ e) in absurd cc)
          (λ ne. set_else s.claims g g' (Taken n) ne ∙ e);
      filled = λ key sole f. f;
    }
after_keeps s (Begin n key) h can =
    let r = live_seat s n (λ view. list_any (λ segment. segment == key.segment) view.claims && allows_writing s key (word_at s key)) can in
    record {
      stopped = λ f. f;
      done = omega arith;
      taken = λ g m e. e;
      filled = ⊎_elim
          (λ (free : word_at s key ≡ Some Free). let w = word_cases s.places (place_in s.plan key) Free free in
          fills_at s w.0 Free (Writing n) key w.1 w.2 (λ k sole at f. f))
          (λ (other : (k : Key) × (word_at s key ≡ Some (Ready k)) × (same_key k key ≡ false)). let w = word_cases s.places (place_in s.plan key) (Ready other.0) other.1 in
          fills_at s w.0 (Ready other.0) (Writing n) key w.1 w.2 (λ k sole at f.
          let a : other.0 ≡ k = alone_in s.plan k other.0 w.0 sole at (h.sound.places.words w.0 (Ready other.0) w.2) in
          let b : key ≡ k = alone_in s.plan k key w.0 sole at w.1 in
          absurd (true≢false (sym (subst (λ (x : Key). same_key other.0 x ≡ true) (a ∙ sym b) (key_self other.0)) ∙ other.2))))
          (allowed s key (word_at s key) (and_right (list_any (λ segment. segment == key.segment) r.0.claims) (allows_writing s key (word_at s key)) r.3));
    }
after_keeps s (Publish n key) h can =
    let r = live_seat s n (λ view. has_turn key view.turns) can in
    let t = turn_place s n key r.0 h r.1 r.3 in
    let w = word_there s key t.0 h t.1 in record {
      stopped = λ f. f;
      done = omega arith;
      taken = λ g m e. e;
      filled = fills_at s t.0 w.0 (Ready key) key t.1 w.1 (λ k sole at f. refl);
    }
after_keeps s (Abandon n key) h can =
    let r = live_seat s n (λ view. has_turn key view.turns) can in
    let t = turn_place s n key r.0 h r.1 r.3 in
    let w = word_there s key t.0 h t.1 in
    let m = turn_word s n t.0 key w.0 r.0 h r.1 w.1 t.1 r.3 in record {
      stopped = λ f. f;
      done = omega arith;
      taken = λ g m e. e;
      filled = fills_at s t.0 w.0 Free key t.1 w.1 (λ k sole at f. absurd (true≢false (sym f ∙ ap (λ (o : PlaceWord). is_filled (Some o)) m.1)));
    }
after_keeps s (Lend n key) h can =
    let r = live_seat s n (λ view. is_ready key (word_at s key) && is_none view.loan) can in
    let w = word_cases s.places (place_in s.plan key) (Ready key) (ready_is key (word_at s key) (and_left (is_ready key (word_at s key)) (is_none r.0.loan) r.3)) in record {
      stopped = λ f. f;
      done = omega arith;
      taken = λ g m e. e;
      filled = fills_at s w.0 (Ready key) (Lent key n) key w.1 w.2 (λ k sole at f. refl);
    }
after_keeps s (Return n) h can = returned (loan_of (live_view s.views n)) (λ l e. h_at l e)
  where
    h_at : (l : ℕ × Key) → loan_of (live_view s.views n) ≡ Some l → place_in s.plan l.1 ≡ Some l.0
    h_at l e = let r = live_seat s n (λ view. is_some view.loan) can in
        let has : r.0.loan ≡ Some l = sym (ap loan_of (live_is s.views n r.0 r.1 r.2)) ∙ e in h.sound.places.loan_keys n r.0 r.1 l has

    returned : (o : Option (ℕ × Key)) → ((l : ℕ × Key) → o ≡ Some l → place_in s.plan l.1 ≡ Some l.0) → Keeps s (after_return s n o)
    returned None at = keeps_self s
    returned (Some l) at = let w = word_there s l.1 l.0 h (at l refl) in record {
      stopped = λ f. f;
      done = omega arith;
      taken = λ g m e. e;
      filled = λ key sole f. fills s.plan s.places l.0 w.0 (Ready l.1) key w.1 (λ at f. refl) f;
    }
after_keeps s (Count n) h can = record { stopped = λ f. f; done = omega arith; taken = λ g m e. e; filled = λ key sole f. f }
after_keeps s (Stop n) h can = record { stopped = λ f. refl; done = omega arith; taken = λ g m e. e; filled = λ key sole f. f }
after_keeps s (Load n word) h can = record { stopped = λ f. f; done = omega arith; taken = λ g m e. e; filled = λ key sole f. f }
after_keeps s (Split n) h can = record { stopped = λ f. f; done = omega arith; taken = λ g m e. e; filled = λ key sole f. f }
after_keeps s (Join n m) h can = joins (live_view s.views m)
  where
    joins : (o : Option SeatView) → Keeps s (after_join s n m o)
    joins None = keeps_self s
    joins (Some w) = record { stopped = λ f. f; done = omega arith; taken = λ g k e. e; filled = λ key sole f. f }

pub step_keeps : (s : System) (e : Event) → Orderly s → Keeps s (step_of s e)
step_keeps s e h = ⊎_elim
    (λ (can : possible s e ≡ true). subst (λ (b : Bool). Keeps s (if b then after s e else s)) (sym can) (after_keeps s e h can))
    (λ (cannot : possible s e ≡ false). subst (λ (b : Bool). Keeps s (if b then after s e else s)) (sym cannot) (keeps_self s))
    (bool_cases (possible s e))

-- One event more, or none where the list has ended.
next_keeps : (events : List Event) (i : ℕ) (s : System) → Orderly s → Keeps (fold step_of s (take i events)) (fold step_of s (take (suc i) events))
next_keeps [] zero s h = keeps_self s
next_keeps [] (suc i) s h = keeps_self s
next_keeps (e ∷ events) zero s h = step_keeps s e h
next_keeps (e ∷ events) (suc i) s h = next_keeps events i (step_of s e) (step_orderly s e h)

pub law_holds : (events : List Event) → Law events
law_holds events = record {
  orderly = λ i. left_orderly (take i events);
  keeps = λ i. let next : suc i ≡ i + 1 = omega arith in subst (λ j. Keeps (left_by (take i events)) (left_by (take j events))) next (next_keeps events i opening opening_orderly);
}
