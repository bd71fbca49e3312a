-- The events that change which seats there are.
use Rattle.std.proofs.Common.{◌≡◌, ◌≢◌, ℕ, suc, ◌+◌, ◌<◌, ◌≤◌, Bool, ◌||◌, true, false, List, [], ◌∷◌, ◌++◌, Option, Some, None, slice_get, length, set, sym, refl, ap, ◌∙◌, subst, ⊎_elim, arith, true≢false, length-append}
use Rattle.std.proofs.lemmas.List.Folds.{list_any-append}
use mathlib.Core.Logic.{dite}
use native.Mathlib.Decide.{dec_le, ℕ_discrete}
use Rattle.shelf_core.specs.Plan.{is_in, same_key}
use Rattle.shelf_core.specs.Views.{times, turns_at, new_view, spent_view}
use Rattle.shelf_core.specs.After.{joined_with}
use Rattle.shelf_core.specs.Sound.{IsKept, TakerStands, WordBelongs, claimed_by, turned_by, lent_by, loans_at}
use Rattle.shelf_core.specs.Orderly.{Orderly, SomeStopped}
use Rattle.shelf_core.specs.declared.plan.Key.{Key}
use Rattle.shelf_core.specs.declared.plan.ShelfPlan.{ShelfPlan}
use Rattle.shelf_core.specs.declared.words.ClaimWord.{ClaimWord}
use Rattle.shelf_core.specs.declared.words.ClaimWord.TheVariants.{Open, Taken}
use Rattle.shelf_core.specs.declared.words.PlaceWord.{PlaceWord}
use Rattle.shelf_core.specs.declared.words.PlaceWord.TheVariants.{Free, Writing, Ready, Lent}
use Rattle.shelf_core.specs.declared.seat.SeatView.{SeatView}
use Rattle.shelf_core.specs.declared.system.System.{System}
use Rattle.shelf_core.proofs.Lists.{bool_cases, some_same, not_some, set_here, set_else, still_at, times_else, times_append, total_end, for_end}
use Rattle.shelf_core.proofs.Plans.{or_either}
use Rattle.shelf_core.proofs.Numbers.{seats_end, seats_join, for_both, both_total, same_length}
use Rattle.shelf_core.proofs.Parts.{orderly_of, seats_of, TurnKeys, LoanKeys}
use Rattle.shelf_core.proofs.Quiet.{shape_keeps}

named_less : (k n : ℕ) → n < k → times n (k ∷ []) ≡ 0
named_less k n lt = times_else n k [] (λ e. omega arith)

-- A new seat has none of the numbers that words name.
claimed_new : (k : ℕ) (c : ClaimWord) → TakerStands k c → 0 ≡ claimed_by c (k ∷ [])
claimed_new k Open t = refl
claimed_new k (Taken n) lt = sym (named_less k n lt)

taker_more : (k : ℕ) (c : ClaimWord) → TakerStands k c → TakerStands (suc k) c
taker_more k Open t = tt
taker_more k (Taken n) lt = omega arith

turned_new : (plan : Option ShelfPlan) (k p : ℕ) (c : PlaceWord) → WordBelongs plan k p c → 0 ≡ turned_by c (k ∷ [])
turned_new plan k p Free t = refl
turned_new plan k p (Writing n) lt = sym (named_less k n lt)
turned_new plan k p (Ready key) t = refl
turned_new plan k p (Lent key n) t = refl

lent_new : (plan : Option ShelfPlan) (k p : ℕ) (c : PlaceWord) (x : Key) → WordBelongs plan k p c → 0 ≡ lent_by c x (k ∷ [])
lent_new plan k p Free x t = refl
lent_new plan k p (Writing n) x t = refl
lent_new plan k p (Ready key) x t = refl
lent_new plan k p (Lent key n) x t = let z = named_less k n t.1 in ⊎_elim (λ (y : same_key key x ≡ true). rw y (sym z)) (λ (y : same_key key x ≡ false). rw y refl) (bool_cases (same_key key x))

belongs_more : (plan : Option ShelfPlan) (k p : ℕ) (c : PlaceWord) → WordBelongs plan k p c → WordBelongs plan (suc k) p c
belongs_more plan k p Free t = tt
belongs_more plan k p (Writing n) lt = omega arith
belongs_more plan k p (Ready key) t = t
belongs_more plan k p (Lent key n) t = (t.0, (let lt = t.1 in omega arith))

pub split_orderly : (s : System) → Orderly s → Orderly (record s { views = s.views ++ new_view (length s.views) ∷ [] })
split_orderly s h =
    let k : ℕ = length s.views in
    let new : SeatView = new_view k in
    let vs : List SeatView = s.views ++ new ∷ [] in
    let longer : suc k ≡ length vs = omega (arith, length-append s.views (new ∷ [])) in
    let s' : System = record s { views = vs } in
    orderly_of s'
    (seats_end s.views (seats_of s h))
    (record {
      claimed = λ g c x. for_end (λ i u. times g u.claims ≡ claimed_by c u.numbers) s.views new (claimed_new k c (h.sound.claims.takers g c x)) (h.sound.claims.claimed g c x);
      takers = λ g c x. subst (λ l. TakerStands l c) longer (taker_more k c (h.sound.claims.takers g c x));
    })
    (record {
      values = h.sound.places.values;
      words = λ p c x. subst (λ l. WordBelongs s.plan l p c) longer (belongs_more s.plan k p c (h.sound.places.words p c x));
      turns = λ p c x. for_end (λ i u. turns_at p u.turns ≡ turned_by c u.numbers) s.views new (turned_new s.plan k p c (h.sound.places.words p c x)) (h.sound.places.turns p c x);
      loans = λ p c y x. for_end (λ i u. loans_at p y u.loan ≡ lent_by c y u.numbers) s.views new (lent_new s.plan k p c y (h.sound.places.words p c x)) (h.sound.places.loans p c y x);
      turn_keys = for_end (λ i u. TurnKeys s.plan u) s.views new (λ i t x. absurd (not_some t x)) h.sound.places.turn_keys;
      loan_keys = for_end (λ i u. LoanKeys s.plan u) s.views new (λ l x. absurd (not_some l x)) h.sound.places.loan_keys;
    })
    (record {
      sum = let t = total_end (λ u. u.counts) s.views new in let d = h.sound.counts.sum in omega arith;
      within = for_end (λ i u. u.counts ≤ length u.claims) s.views new (omega arith) h.sound.counts.within;
    })
    (record {
      bit = for_end (λ i u. u.stopped ≡ true → s.stopped ≡ true) s.views new (λ f. absurd (true≢false (sym f))) h.sound.seen.bit;
      number = for_end (λ i u. u.done_seen ≤ s.done) s.views new (omega arith) h.sound.seen.number;
    })
    (λ f. let some = h.stopped f in (some.0, some.1, still_at s.views new some.1 some.0 some.2, some.3, some.4))
    (for_end (λ i u. (key : Key) → is_in key u.known ≡ true → IsKept s.plan s.places key) s.views new (λ key f. absurd (true≢false (sym f))) h.sound.known)
    (for_end (λ i u. (g : ℕ) → 0 < times g u.claims → g < length s.claims) s.views new (λ g pos. absurd (omega arith)) h.segments)
    (let t = total_end (λ u. length u.claims) s.views new in let d = h.taken in omega arith)
    (shape_keeps s.plan s s' refl refl refl (λ f. (refl, refl)) h.shape)

claimed_append : (c : ClaimWord) (xs ys : List ℕ) → claimed_by c (xs ++ ys) ≡ claimed_by c xs + claimed_by c ys
claimed_append Open xs ys = refl
claimed_append (Taken k) xs ys = times_append k xs ys

claimed_none : (c : ClaimWord) → 0 ≡ claimed_by c []
claimed_none Open = refl
claimed_none (Taken k) = refl

turned_append : (c : PlaceWord) (xs ys : List ℕ) → turned_by c (xs ++ ys) ≡ turned_by c xs + turned_by c ys
turned_append Free xs ys = refl
turned_append (Writing k) xs ys = times_append k xs ys
turned_append (Ready key) xs ys = refl
turned_append (Lent key k) xs ys = refl

turned_none : (c : PlaceWord) → 0 ≡ turned_by c []
turned_none Free = refl
turned_none (Writing k) = refl
turned_none (Ready key) = refl
turned_none (Lent key k) = refl

lent_append : (c : PlaceWord) (x : Key) (xs ys : List ℕ) → lent_by c x (xs ++ ys) ≡ lent_by c x xs + lent_by c x ys
lent_append Free x xs ys = refl
lent_append (Writing k) x xs ys = refl
lent_append (Ready key) x xs ys = refl
lent_append (Lent key k) x xs ys = let a = times_append k xs ys in ⊎_elim (λ (y : same_key key x ≡ true). rw y a) (λ (y : same_key key x ≡ false). rw y refl) (bool_cases (same_key key x))

lent_none : (c : PlaceWord) (x : Key) → 0 ≡ lent_by c x []
lent_none Free x = refl
lent_none (Writing k) x = refl
lent_none (Ready key) x = refl
lent_none (Lent key k) x = ⊎_elim (λ (y : same_key key x ≡ true). rw y refl) (λ (y : same_key key x ≡ false). rw y refl) (bool_cases (same_key key x))

or_right : (a b : Bool) → b ≡ true → (a || b) ≡ true
or_right true b e = refl
or_right false b e = e

-- A view that takes in one that has stopped, or that has stopped itself, has stopped.
stopped_join : (views : List SeatView) (n m : ℕ) (v w : SeatView) → v.spent ≡ false → m ≢ n → slice_get views n ≡ Some v → slice_get views m ≡ Some w
    → SomeStopped views → SomeStopped (set (set views n (joined_with w v)) m spent_view)
stopped_join views n m v w live two e e' some =
    let J : SeatView = joined_with w v in
    let here : J.stopped ≡ true → SomeStopped (set (set views n J) m spent_view) = λ f. (n, J, set_else (set views n J) m n spent_view (λ x. two (sym x)) ∙ set_here views n J v e, live, f) in
    let same : (i : ℕ) (u : SeatView) → some.0 ≡ i → slice_get views i ≡ Some u → u.stopped ≡ true = λ i u is x.
    ap (λ (y : SeatView). y.stopped) (some_same u some.1 (sym x ∙ ap (slice_get views) (sym is) ∙ some.2)) ∙ some.4 in
    dite (ℕ_discrete some.0 n)
    (λ is. here (ap (λ b. b || w.stopped) (same n v is e)))
    (λ ne. dite (ℕ_discrete some.0 m)
    (λ is. here (or_right v.stopped w.stopped (same m w is e')))
    (λ ne'. (some.0, some.1, set_else (set views n J) m some.0 spent_view ne' ∙ set_else views n some.0 J ne ∙ some.2, some.3, some.4)))

-- A seat m without turn or loan is taken in by a seat n.
pub join_orderly : (s : System) (n m : ℕ) (v w : SeatView) → Orderly s → v.spent ≡ false → w.spent ≡ false → m ≢ n → slice_get s.views n ≡ Some v → slice_get s.views m ≡ Some w
    → w.turns ≡ [] → w.loan ≡ None → Orderly (record s { views = set (set s.views n (joined_with w v)) m spent_view })
join_orderly s n m v w h live live' two e e' no_turn no_loan =
    let seats = seats_of s h in
    let J : SeatView = joined_with w v in
    let vs : List SeatView = set (set s.views n J) m spent_view in
    let s' : System = record s { views = vs } in
    let long : length vs ≡ length s.views = same_length s.views seats n m v w live live' two e e' in
    let both = for_both s.views seats n m v w live live' two e e' in
    let sums = both_total s.views seats n m v w live live' two e e' in
    orderly_of s'
    (seats_join s.views seats n m v w live live' two e e')
    (record {
      claimed = λ g c x. both (λ i u. times g u.claims ≡ claimed_by c u.numbers)
          (let a : times g v.claims ≡ claimed_by c v.numbers = h.sound.claims.claimed g c x n v e in let b : times g w.claims ≡ claimed_by c w.numbers = h.sound.claims.claimed g c x m w e' in
          let p = times_append g v.claims w.claims in let q = claimed_append c v.numbers w.numbers in omega arith)
          (claimed_none c) (λ i u ne ne' y. h.sound.claims.claimed g c x i u y);
      takers = λ g c x. subst (λ l. TakerStands l c) (sym long) (h.sound.claims.takers g c x);
    })
    (record {
      values = h.sound.places.values;
      words = λ p c x. subst (λ l. WordBelongs s.plan l p c) (sym long) (h.sound.places.words p c x);
      turns = λ p c x. both (λ i u. turns_at p u.turns ≡ turned_by c u.numbers)
          (let a : turns_at p v.turns ≡ turned_by c v.numbers = h.sound.places.turns p c x n v e in let b : turns_at p w.turns ≡ turned_by c w.numbers = h.sound.places.turns p c x m w e' in
          let z : turns_at p w.turns ≡ 0 = ap (turns_at p) no_turn in let q = turned_append c v.numbers w.numbers in omega arith)
          (turned_none c) (λ i u ne ne' y. h.sound.places.turns p c x i u y);
      loans = λ p c k x. both (λ i u. loans_at p k u.loan ≡ lent_by c k u.numbers)
          (let a : loans_at p k v.loan ≡ lent_by c k v.numbers = h.sound.places.loans p c k x n v e in let b : loans_at p k w.loan ≡ lent_by c k w.numbers = h.sound.places.loans p c k x m w e' in
          let z : loans_at p k w.loan ≡ 0 = ap (loans_at p k) no_loan in let q = lent_append c k v.numbers w.numbers in omega arith)
          (lent_none c k) (λ i u ne ne' y. h.sound.places.loans p c k x i u y);
      turn_keys = both (λ i u. TurnKeys s.plan u)
          (λ i t x. let r = h.sound.places.turn_keys n v e i t x in let a = times_append t.1.segment v.claims w.claims in let pos = r.1 in (r.0, omega arith))
          (λ i t x. absurd (not_some t x)) (λ i u ne ne' y. h.sound.places.turn_keys i u y);
      loan_keys = both (λ i u. LoanKeys s.plan u) (h.sound.places.loan_keys n v e) (λ l x. absurd (not_some l x)) (λ i u ne ne' y. h.sound.places.loan_keys i u y);
    })
    (record {
      sum = let t = sums (λ u. u.counts) in let d = h.sound.counts.sum in omega arith;
      within = both (λ i u. u.counts ≤ length u.claims)
          (let a = h.sound.counts.within n v e in let b = h.sound.counts.within m w e' in let l = length-append v.claims w.claims in omega arith)
          (omega arith) (λ i u ne ne' y. h.sound.counts.within i u y);
    })
    (record {
      bit = both (λ i u. u.stopped ≡ true → s.stopped ≡ true)
          (λ f. ⊎_elim (h.sound.seen.bit n v e) (h.sound.seen.bit m w e') (or_either v.stopped w.stopped f))
          (λ f. absurd (true≢false (sym f))) (λ i u ne ne' y. h.sound.seen.bit i u y);
      number = both (λ i u. u.done_seen ≤ s.done)
          (let a = h.sound.seen.number n v e in let b = h.sound.seen.number m w e' in omega arith)
          (omega arith) (λ i u ne ne' y. h.sound.seen.number i u y);
    })
    (λ f. stopped_join s.views n m v w live two e e' (h.stopped f))
    (both (λ i u. (key : Key) → is_in key u.known ≡ true → IsKept s.plan s.places key)
    (λ key f. ⊎_elim (h.sound.known n v e key) (h.sound.known m w e' key) (or_either (is_in key v.known) (is_in key w.known) (sym (list_any-append (λ x. same_key x key) v.known w.known) ∙ f)))
    (λ key f. absurd (true≢false (sym f))) (λ i u ne ne' y. h.sound.known i u y))
    (both (λ i u. (g : ℕ) → 0 < times g u.claims → g < length s.claims)
    (λ g pos. let a = times_append g v.claims w.claims in dite (dec_le (times g v.claims) 0) (λ z. h.segments m w e' g (omega arith)) (λ z. h.segments n v e g (omega arith)))
    (λ g pos. absurd (omega arith)) (λ i u ne ne' y. h.segments i u y))
    (let a = sums (λ u. length u.claims) in let b = h.taken in let l = length-append v.claims w.claims in omega arith)
    (shape_keeps s.plan s s' refl refl refl (λ f. (refl, refl)) h.shape)
