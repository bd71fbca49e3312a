-- The rule holds of the shelf as it is laid, and where the first seat makes a seat or takes one in.
use Rattle.std.proofs.Common.{◌≡◌, ◌≢◌, ℕ, zero, suc, ◌+◌, ◌<◌, true, false, true≢false, List, [], ◌∷◌, ◌++◌, Some, None, slice_get, map, length, set, sym, refl, ap, ◌∙◌, subst, ⊎_elim, arith, replicate, zero-add, length-append, ◌==◌, ◌&&◌, not, is_none, ne_eqb, ◌⊎◌, inl, inr, All, slice_index_or}
use Rattle.std.proofs.Math.ListN.{length-set}
use Rattle.std.proofs.lemmas.List.{map-append}
use mathlib.Core.Option.{some, some-ne-none, some-injective}
use lib.ListN.{get_elem?}
use Rattle.atomic_table.specs.Table.{opening as first_state, Splits, Joins}
use Rattle.atomic_table.proofs.Lists.{at_set as at_set?}
use Rattle.shelf_core.specs.Plan.{place_count}
use Rattle.shelf_core.specs.Views.{new_view, spent_view}
use Rattle.shelf_core.specs.Possible.{possible, through}
use Rattle.shelf_core.specs.After.{after, opening, joined_with, after_join}
use Rattle.shelf_core.specs.Views.{changed_at}
use Rattle.shelf_core.specs.Orderly.{Orderly}
use Rattle.shelf_core.specs.declared.plan.Key.{Key}
use Rattle.shelf_core.specs.declared.plan.ShelfPlan.{ShelfPlan}
use Rattle.shelf_core.specs.declared.words.ClaimWord.TheVariants.{Open}
use Rattle.shelf_core.specs.declared.words.PlaceWord.TheVariants.{Free}
use Rattle.shelf_core.specs.declared.seat.SeatView.{SeatView}
use Rattle.shelf_core.specs.declared.system.System.{System}
use Rattle.shelf_core.specs.declared.event.Event.TheVariants.{Lay, Split, Join}
use Rattle.shelf_core.proofs.Lists.{some_same, not_some, changed_is_set, total_set, total_end, set_else, at_end as at_end! }
use Rattle.shelf_core.proofs.Laid.{opening_orderly}
use Rattle.shelf_core.proofs.Plans.{and_both}
use Rattle.shelf_core.proofs.Steps.{after_orderly, live_is}
use Rattle.checkpoint_shelf.specs.declared.about.About.{About}
use Rattle.checkpoint_shelf.specs.declared.about.View.{View}
use Rattle.checkpoint_shelf.specs.Codes.{place_code, claim_code, words_of}
use Rattle.shelf_core.specs.Views.{live_count}
use Rattle.checkpoint_shelf.specs.Holds.{AboutFits, IsSeat, led, follower, Knows, leader, leads_on, newcomer, both, nobody}
use Rattle.checkpoint_shelf.specs.Told.{ShelfTold, SeatTold}
use Rattle.checkpoint_shelf.specs.Seats.{NewFrom}
use Rattle.checkpoint_shelf.proofs.Rows.{length_map, set_map}
use Rattle.checkpoint_shelf.proofs.Rule.{Rule, Stood, view_at, can_at, weight}

module _ {A : Type 0} where
  at_replicate : (n : ℕ) (a w : A) (p : ℕ) → slice_get (replicate n a) p ≡ Some w → (a ≡ w) × (p < n)
  at_replicate zero a w p e = absurd (not_some w e)
  at_replicate (suc n) a w zero e = (some_same a w e, omega arith)
  at_replicate (suc n) a w (suc p) e = let r = at_replicate n a w p e in let s = r.1 in (r.0, omega arith)

  elem_replicate : (n : ℕ) (a : A) (p : ℕ) → p < n → get_elem? (replicate n a) p ≡ some a
  elem_replicate zero a p h = absurd (omega arith)
  elem_replicate (suc n) a zero h = refl
  elem_replicate (suc n) a (suc p) h = elem_replicate n a p (omega arith)

  map_replicate : {B : Type 0} (f : A → B) (n : ℕ) (a : A) → map f (replicate n a) ≡ replicate n (f a)
  map_replicate f zero a = refl
  map_replicate f (suc n) a = ap (λ l. f a ∷ l) (map_replicate f n a)

  replicate_more : (m n : ℕ) (a : A) → replicate (m + n) a ≡ replicate m a ++ replicate n a
  replicate_more zero n a = ap (λ k. replicate k a) (zero-add n)
  replicate_more (suc m) n a = let e : suc m + n ≡ suc (m + n) = omega arith in ap (λ k. replicate k a) e ∙ ap (λ l. a ∷ l) (replicate_more m n a)

  pub at_end? : (l : List A) (a b : A) (j : ℕ) → get_elem? (l ++ a ∷ []) j ≡ some b → (get_elem? l j ≡ some b) ⊎ ((j ≡ length l) × (a ≡ b))
  at_end? [] a b zero e = inr (refl, some-injective a b e)
  at_end? [] a b (suc j) e = absurd (some-ne-none b (sym e))
  at_end? (x ∷ xs) a b zero e = inl e
  at_end? (x ∷ xs) a b (suc j) e = ⊎_elim inl (λ (z : (j ≡ length xs) × (a ≡ b)). inr (ap suc z.0, z.1)) (at_end? xs a b j e)

set_back : {A : Type 0} (l : List A) (i : ℕ) (a : A) → slice_get l i ≡ Some a → set l i a ≡ l
set_back [] i a e = refl
set_back (x ∷ xs) zero a e = ap (λ y. y ∷ xs) (sym (some_same x a e))
set_back (x ∷ xs) (suc i) a e = ap (λ l. x ∷ l) (set_back xs i a e)

-- The system as it is laid.
abbrev laid_system : ShelfPlan → System
laid_system plan = after opening (Lay plan)

laid_words : (plan : ShelfPlan) → replicate (1 + place_count plan + plan.segments) 0 ≡ words_of (laid_system plan)
laid_words plan = let n : ℕ = place_count plan in let e : 1 + n + plan.segments ≡ suc (n + plan.segments) = omega arith in
    ap (λ k. replicate k 0) e
    ∙ ap (λ l. 0 ∷ l) (replicate_more n plan.segments 0 ∙ ap (λ l. l ++ replicate plan.segments 0) (sym (map_replicate place_code n Free)) ∙ ap (λ l. map place_code (replicate n Free) ++ l) (sym (map_replicate claim_code plan.segments Open)))

module _ {C Co : Type 0} (Z : Type 0) (key_of : C → Key) (course_of : C → Co) (k : About C Co) where
  pub opens : (words : List ℕ) → AboutFits k → words ≡ replicate (1 + place_count k.plan + k.plan.segments) 0
      → Rule Z key_of course_of k (first_state words (replicate (place_count k.plan) None) (leader k))
  opens words fits e = record {
    sys = laid_system k.plan;
    orderly = after_orderly opening (Lay k.plan) opening_orderly fits.plan.distinct;
    laid = refl;
    words = e ∙ laid_words k.plan;
    views = refl;
    seats = (let s = fits.seats in let t = s.0 in omega arith);
    slots = λ p w at. let r = at_replicate (place_count k.plan) Free w p at in
        subst (λ c. Stood Z key_of course_of k c (get_elem? (map some (replicate (place_count k.plan) None)) p)) r.0
        (ap (λ l. get_elem? l p) (map_replicate some (place_count k.plan) None) ∙ elem_replicate (place_count k.plan) (some None) p r.1);
    told = first_told;
  }
    where
      first_told : (i : ℕ) (v : View C Co) → get_elem? (leader k ∷ []) i ≡ some v → Knows k 1 1 i v
      first_told zero v e = subst (Knows k 1 1 0) (some-injective (leader k) v e) (record { about = λ f. refl; leads = λ f. (refl, refl, refl, refl) })
      first_told (suc i) v e = absurd (some-ne-none v (sym e))

  pub opens_at : (words : List ℕ) (count : ℕ) → AboutFits k → count ≡ place_count k.plan → words ≡ replicate (1 + count + k.plan.segments) 0
      → Rule Z key_of course_of k (first_state words (replicate count None) (leader k))
  opens_at words count fits is e = subst (λ n. Rule Z key_of course_of k (first_state words (replicate n None) (leader k))) (sym is) (opens words fits (e ∙ ap (λ n. replicate (1 + n + k.plan.segments) 0) is))

  pub splits : (id : ℕ) (v : View C Co) → v.leads ≡ true → v.made < k.seats → Splits (Rule Z key_of course_of k) id v (leads_on v) (newcomer v)
  splits id v leads more t h at =
      let q = h.told id v at in let lead = q.leads leads in
      let v_at = view_at Z key_of course_of k t h id v at in
      let left : View C Co = leads_on v in let right : View C Co = newcomer v in
      let many : length h.sys.views ≡ length t.views = ap length (sym h.views) ∙ length_map (λ (u : View C Co). u.seen) t.views in
      let long : length (set t.views id left ++ right ∷ []) ≡ suc (length t.views) = omega (arith, length-append (set t.views id left) (right ∷ []), length-set t.views id left) in
      let can = can_at h.sys id v.seen (λ view. true) v_at lead.1 refl in
      let made_is : v.made ≡ length t.views = lead.2 in
      let live : live_count (h.sys.views ++ new_view (length h.sys.views) ∷ []) ≡ suc (live_count h.sys.views) = (let x = total_end (λ u. weight u.spent) h.sys.views (new_view (length h.sys.views)) in omega arith) in
      record {
        sys = after h.sys (Split id);
        orderly = after_orderly h.sys (Split id) h.orderly can;
        laid = h.laid;
        words = h.words;
        views = map-append (λ (u : View C Co). u.seen) (set t.views id left) (right ∷ [])
            ∙ ap (λ l. l ++ new_view v.made ∷ []) (sym (set_map (λ (u : View C Co). u.seen) t.views id left) ∙ ap (λ l. set l id v.seen) h.views ∙ set_back h.sys.views id v.seen v_at)
            ∙ ap (λ n. h.sys.views ++ new_view n ∷ []) (made_is ∙ sym many);
        seats = (let s = h.seats in omega arith);
        slots = h.slots;
        told = λ i u e. subst (λ (n : ℕ × ℕ). Knows k n.0 n.1 i u) (λ j. (sym long j, sym live j)) (⊎_elim
            (λ (old : get_elem? (set t.views id left) i ≡ some u). ⊎_elim
            (λ (x : (i ≡ id) × (left ≡ u)). subst (λ (y : ℕ × View C Co). Knows k (suc (length t.views)) (suc (live_count h.sys.views)) y.0 y.1) (λ j. (sym x.0 j, x.1 j))
            (record { about = q.about; leads = λ f. (lead.0, lead.1, (let a = made_is in omega arith), (let a = lead.3 in omega arith)) }))
            (λ (x : (i ≢ id) × (get_elem? t.views i ≡ some u)). let r = h.told i u x.1 in record { about = r.about; leads = λ f. absurd (x.0 ((r.leads f).0 ∙ sym lead.0)) })
            (at_set? t.views id i left u old))
            (λ (x : (i ≡ length (set t.views id left)) × (right ≡ u)). subst (Knows k (suc (length t.views)) (suc (live_count h.sys.views)) i) x.1 (record { about = λ f. q.about lead.1; leads = λ f. absurd (true≢false (sym f)) }))
            (at_end? (set t.views id left) right u i e));
      }

  pub joins : (id : ℕ) (v : View C Co) (other : ℕ) (w : View C Co) → v.leads ≡ true → w.leads ≡ false → w.seen.spent ≡ false → w.seen.turns ≡ [] → w.seen.loan ≡ None → Joins (Rule Z key_of course_of k) id v other w (both v w) nobody
  joins id v other w leads follows live bare idle t h at two at' =
      let q = h.told id v at in let lead = q.leads leads in
      let v_at = view_at Z key_of course_of k t h id v at in
      let was : get_elem? t.views other ≡ some w = ⊎_elim (λ (x : (other ≡ id) × (both v w ≡ w)). absurd (two x.0)) (λ (x : (other ≢ id) × (get_elem? t.views other ≡ some w)). x.1) (at_set? t.views id other (both v w) w at') in
      let w_at = view_at Z key_of course_of k t h other w was in
      let J : SeatView = joined_with w.seen v.seen in
      let vs : List (View C Co) = set (set t.views id (both v w)) other nobody in
      let long : length vs ≡ length t.views = omega (arith, length-set (set t.views id (both v w)) other nobody, length-set t.views id (both v w)) in
      let can : possible h.sys (Join id other) ≡ true = can_at h.sys id v.seen (λ view. not (other == id) && through h.sys other (λ o. (length o.turns == 0) && is_none o.loan)) v_at lead.1
      (and_both _ _ (ap not (ne_eqb other id two)) (can_at h.sys other w.seen (λ o. (length o.turns == 0) && is_none o.loan) w_at live (and_both _ _ (ap (λ (l : List (ℕ × Key)). length l == 0) bare) (ap is_none idle)))) in
      let z : System = after_join h.sys id other (Some w.seen) in
      let is : after h.sys (Join id other) ≡ z = ap (after_join h.sys id other) (live_is h.sys.views other w.seen w_at live) in
      let first : changed_at (joined_with w.seen) h.sys.views id ≡ set h.sys.views id J = changed_is_set (joined_with w.seen) h.sys.views id v.seen v_at in
      let views : z.views ≡ set (set h.sys.views id J) other spent_view = ap (λ (l : List SeatView). set l other spent_view) first in
      let fewer : suc (live_count z.views) ≡ live_count h.sys.views = ap (λ l. suc (live_count l)) views ∙ less h.sys.views id other v.seen w.seen v_at w_at live two in
      record {
        sys = z;
        orderly = subst Orderly is (after_orderly h.sys (Join id other) h.orderly can);
        laid = h.laid;
        words = h.words;
        views = sym (set_map (λ (u : View C Co). u.seen) (set t.views id (both v w)) other nobody)
            ∙ ap (λ (l : List SeatView). set l other spent_view) (sym (set_map (λ (u : View C Co). u.seen) t.views id (both v w)) ∙ ap (λ (l : List SeatView). set l id J) h.views)
            ∙ sym views;
        seats = (let s = h.seats in omega arith);
        slots = h.slots;
        told = λ i u e. subst (λ n. Knows k n (live_count z.views) i u) (sym long) (⊎_elim
            (λ (x : (i ≡ other) × (nobody ≡ u)). subst (Knows k (length t.views) (live_count z.views) i) x.1 (record { about = λ f. absurd (true≢false f); leads = λ f. absurd (true≢false (sym f)) }))
            (λ (x : (i ≢ other) × (get_elem? (set t.views id (both v w)) i ≡ some u)). ⊎_elim
            (λ (y : (i ≡ id) × (both v w ≡ u)). subst (λ (z' : ℕ × View C Co). Knows k (length t.views) (live_count z.views) z'.0 z'.1) (λ j. (sym y.0 j, y.1 j))
            (record { about = q.about; leads = λ f. (lead.0, lead.1, lead.2, (let a = lead.3 in omega arith)) }))
            (λ (y : (i ≢ id) × (get_elem? t.views i ≡ some u)). let r = h.told i u y.1 in record { about = r.about; leads = λ f. absurd (y.0 ((r.leads f).0 ∙ sym lead.0)) })
            (at_set? t.views id i (both v w) u x.1))
            (at_set? (set t.views id (both v w)) other i nobody u e));
      }
    where
      less : (views : List SeatView) (id other : ℕ) (v w : SeatView) → slice_get views id ≡ Some v → slice_get views other ≡ Some w → w.spent ≡ false → other ≢ id → suc (live_count (set (set views id (joined_with w v)) other spent_view)) ≡ live_count views
      less views id other v w e e' live two =
          let J : SeatView = joined_with w v in
          let a : live_count (set views id J) + weight v.spent ≡ live_count views + weight v.spent = total_set (λ u. weight u.spent) views id v J e in
          let b : live_count (set (set views id J) other spent_view) + weight w.spent ≡ live_count (set views id J) + 0 = total_set (λ u. weight u.spent) (set views id J) other w spent_view (set_else views id other J two ∙ e') in
          let c : weight w.spent ≡ 1 = ap weight live in omega arith

-- The seats that are made.
module _ {C Co : Type 0} (Z : Type 0) where
  pub led_seat : (k : About C Co) → AboutFits k → IsSeat {Z = Z} k 0 (led k k.seats, [])
  led_seat k fits = record {
    fits = fits;
    about = refl;
    live = refl;
    numbers = ([], refl);
    small = fits.seats.0;
    leads = refl;
    made = λ f. refl;
    met = refl;
    idle = refl;
    places = λ i turn e. absurd (not_some turn e);
    hands = ([], refl, λ p. refl);
  }

  pub follower_seat : (k : About C Co) (n : ℕ) → AboutFits k → 0 < n → n < k.seats → IsSeat {Z = Z} k n (follower k n, [])
  follower_seat k n fits more low = record {
    fits = fits;
    about = refl;
    live = refl;
    numbers = ([], refl);
    small = low;
    leads = sym (ne_eqb n 0 (λ z. omega arith));
    made = λ f. absurd (true≢false (sym f));
    met = refl;
    idle = refl;
    places = λ i turn e. absurd (not_some turn e);
    hands = ([], refl, λ p. refl);
  }

module _ {Co : Type 0} where
  pub new_end : (shelf : ShelfTold Co) (first : ℕ) (seats : List (SeatTold Co)) (seat : SeatTold Co) → NewFrom shelf first seats → seat.shelf ≡ Some shelf → seat.view ≡ new_view (first + length seats) → NewFrom shelf first (seats ++ seat ∷ [])
  new_end shelf first seats seat each here view i s e = ⊎_elim
      (λ (x : slice_get seats i ≡ Some s). each i s x)
      (λ (x : (i ≡ length seats) × (seat ≡ s)). subst (λ (y : ℕ × SeatTold Co). (y.1.shelf ≡ Some shelf) × (y.1.view ≡ new_view (first + y.0))) (λ j. (sym x.0 j, x.1 j)) (here, view))
      (at_end! seats seat s i e)

  pub new_first : (shelf : ShelfTold Co) (seats : List (SeatTold Co)) (seat : SeatTold Co) → NewFrom shelf 1 seats → seat.shelf ≡ Some shelf → seat.view ≡ new_view 0 → NewFrom shelf 0 (seat ∷ seats)
  new_first shelf seats seat each here view zero s e = subst (λ y. (y.shelf ≡ Some shelf) × (y.view ≡ new_view 0)) (some_same seat s e) (here, view)
  new_first shelf seats seat each here view (suc i) s e = let r = each i s e in let n : 1 + i ≡ 0 + suc i = omega arith in (r.0, r.1 ∙ ap new_view n)

  pub all_of_shelf : (shelf : ShelfTold Co) (first : ℕ) (seats : List (SeatTold Co)) → NewFrom shelf first seats → All (λ seat. seat.shelf ≡ Some shelf) seats
  all_of_shelf shelf first seats each k d lt = (each k (slice_index_or seats k d) (there_at seats k d lt)).0
    where
      there_at : (l : List (SeatTold Co)) (k : ℕ) (d : SeatTold Co) → k < length l → slice_get l k ≡ Some (slice_index_or l k d)
      there_at [] k d h = absurd (omega arith)
      there_at (x ∷ xs) zero d h = refl
      there_at (x ∷ xs) (suc k) d h = there_at xs k d (omega arith)
