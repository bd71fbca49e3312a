-- Each part of Sound, where the view of one seat changes.
use Rattle.std.proofs.Common.{◌≡◌, ◌≢◌, ℕ, zero, suc, ◌+◌, ◌<◌, ◌≤◌, Bool, true, false, List, [], ◌∷◌, ◌++◌, Option, Some, None, slice_get, length, set, sym, refl, ap, ◌∙◌, subst, ⊎_elim, arith, true≢false}
use Rattle.std.proofs.lemmas.List.Folds.{list_any-append}
use mathlib.Core.Logic.{dite}
use native.Mathlib.Decide.{ℕ_discrete}
use Rattle.std.proofs.Math.ListN.{length-set}
use Rattle.shelf_core.specs.Plan.{same_key, is_in, place_in, sole_in}
use Rattle.shelf_core.specs.Words.{is_held, value_under, taken_count}
use Rattle.shelf_core.specs.Views.{times, total, turns_at, has_turn}
use Rattle.shelf_core.specs.Possible.{word_in}
use Rattle.shelf_core.specs.After.{knowing}
use Rattle.shelf_core.specs.Sound.{ForViews, ClaimsStand, PlacesStand, CountsStand, SeenStands, IsKept, KnownStands, WritersStand, TakerStands, WordBelongs, claimed_by, turned_by, lent_by, loans_at}
use Rattle.shelf_core.specs.Orderly.{Orderly, HasShape, SomeStopped}
use Rattle.shelf_core.specs.declared.plan.Key.{Key}
use Rattle.shelf_core.specs.declared.plan.ShelfPlan.{ShelfPlan}
use Rattle.shelf_core.specs.declared.words.ClaimWord.{ClaimWord}
use Rattle.shelf_core.specs.declared.words.ClaimWord.TheVariants.{Open, Taken}
use Rattle.shelf_core.specs.declared.words.PlaceWord.{PlaceWord}
use Rattle.shelf_core.specs.declared.words.PlaceWord.TheVariants.{Writing}
use Rattle.shelf_core.specs.declared.seat.SeatView.{SeatView}
use Rattle.shelf_core.specs.declared.system.System.{System}
use Rattle.shelf_core.proofs.Lists.{bool_cases, some_same, not_some, within, there, at_set, set_here, set_else, map_set, for_set, times_here, times_else, times_append, total_set}
use Rattle.shelf_core.proofs.Plans.{key_is, key_self, or_either, alone_in}
use Rattle.shelf_core.proofs.Numbers.{Seats, apart, mine, holder, same_holder}

-- The word of a key's place is that of the place.
pub word_cases : (places : List PlaceWord) (o : Option ℕ) (w : PlaceWord) → word_in places o ≡ Some w → (p : ℕ) × (o ≡ Some p) × (slice_get places p ≡ Some w)
word_cases places None w e = absurd (not_some w e)
word_cases places (Some p) w e = (p, refl, e)

-- A turn at a place is one of the turns.
pub turn_there : (p : ℕ) (turns : List (ℕ × Key)) → 0 < turns_at p turns → (i : ℕ) × (turn : ℕ × Key) × (slice_get turns i ≡ Some turn) × (turn.0 ≡ p)
turn_there p [] pos = absurd (omega arith)
turn_there p (t ∷ ts) pos = dite (ℕ_discrete t.0 p)
    (λ same. (0, t, refl, same))
    (λ ne. let e : turns_at p (t ∷ ts) ≡ turns_at p ts = turn_else p t ts ne in let r = turn_there p ts (omega arith) in (suc r.0, r.1, r.2, r.3))
  where
    turn_else : (p : ℕ) (t : ℕ × Key) (ts : List (ℕ × Key)) → t.0 ≢ p → turns_at p (t ∷ ts) ≡ turns_at p ts
    turn_else p t ts ne = rw (Rattle.std.proofs.Common.ne_eqb t.0 p ne) (omega arith)

pub has_of : (key : Key) (turns : List (ℕ × Key)) (i : ℕ) (turn : ℕ × Key) → slice_get turns i ≡ Some turn → turn.1 ≡ key → has_turn key turns ≡ true
has_of key [] i turn e is = absurd (not_some turn e)
has_of key (t ∷ ts) zero turn e is = let k : same_key t.1 key ≡ true = subst (λ (x : Key). same_key t.1 x ≡ true) (ap (λ (y : ℕ × Key). y.1) (some_same t turn e) ∙ is) (key_self t.1) in rw k refl
has_of key (t ∷ ts) (suc i) turn e is = let r = has_of key ts i turn e is in ⊎_elim
    (λ (y : same_key t.1 key ≡ true). rw y refl) (λ (y : same_key t.1 key ≡ false). rw y r) (bool_cases (same_key t.1 key))

taken_of : (c : ClaimWord) (numbers : List ℕ) → 0 < claimed_by c numbers → (q : ℕ) × (c ≡ Taken q)
taken_of Open numbers pos = absurd (omega arith)
taken_of (Taken q) numbers pos = (q, refl)

-- Part 7 follows from the parts before it.
pub writers_stand : (plan : Option ShelfPlan) (claims : List ClaimWord) (places : List PlaceWord) (home : List (Option Key)) (views : List SeatView) → Seats views → ClaimsStand claims views
    → ForViews views (λ n view. (segment : ℕ) → 0 < times segment view.claims → segment < length claims) → PlacesStand plan places home views → WritersStand plan places views
writers_stand plan claims places home views seats stand segments h n v e key m sole pos is =
    let w = word_cases places (place_in plan key) (Writing m) is in
    let p : ℕ = w.0 in
    let r = holder views seats m (h.words p (Writing m) w.2) in
    let u : SeatView = r.1 in
    let one : times m u.numbers ≡ 1 = r.3 in
    let at : turns_at p u.turns ≡ times m u.numbers = h.turns p (Writing m) w.2 r.0 u r.2 in
    let t = turn_there p u.turns (omega arith) in
    let k = h.turn_keys r.0 u r.2 t.0 t.1 t.2 in
    let same : t.1.1 ≡ key = alone_in plan key t.1.1 p sole w.1 (k.0 ∙ ap Some t.3) in
    let claim : 0 < times key.segment u.claims = subst (λ (x : Key). 0 < times x.segment u.claims) same k.1 in
    let c = there claims key.segment (segments n v e key.segment pos) in
    let a : times key.segment v.claims ≡ claimed_by c.0 v.numbers = stand.claimed key.segment c.0 c.1 n v e in
    let b : times key.segment u.claims ≡ claimed_by c.0 u.numbers = stand.claimed key.segment c.0 c.1 r.0 u r.2 in
    let q = taken_of c.0 v.numbers (omega arith) in
    let a' : claimed_by c.0 v.numbers ≡ times q.0 v.numbers = ap (λ x. claimed_by x v.numbers) q.1 in
    let b' : claimed_by c.0 u.numbers ≡ times q.0 u.numbers = ap (λ x. claimed_by x u.numbers) q.1 in
    let vu : v ≡ u = same_holder views seats n r.0 q.0 v u e r.2 (omega arith) (omega arith) in
    subst (λ (x : SeatView). (times m x.numbers ≡ 1) × (has_turn key x.turns ≡ true)) (sym vu) (one, has_of key u.turns t.0 t.1 t.2 same)

-- A system of which the other parts hold is orderly.
pub orderly_of : (s : System) → Seats s.views → ClaimsStand s.claims s.views → PlacesStand s.plan s.places s.home s.views → CountsStand s.done s.views → SeenStands s.done s.stopped s.views
    → (s.stopped ≡ true → SomeStopped s.views) → KnownStands s.plan s.places s.views → ForViews s.views (λ n view. (segment : ℕ) → 0 < times segment view.claims → segment < length s.claims)
    → total (λ view. length view.claims) s.views ≡ taken_count s.claims → HasShape s.plan s → Orderly s
orderly_of s seats claims places counts seen stopped known segments taken shape = record {
  sound = record {
    numbers = seats.numbers;
    claims = claims;
    places = places;
    counts = counts;
    seen = seen;
    known = known;
    writers = writers_stand s.plan s.claims s.places s.home s.views seats claims segments places;
  };
  shape = shape;
  segments = segments;
  spent = seats.spent;
  stopped = stopped;
  own = seats.own;
  taken = taken;
}

pub seats_of : (s : System) → Orderly s → Seats s.views
seats_of s h = record { numbers = h.sound.numbers; spent = h.spent; own = h.own }

abbrev pub Apart : List ℕ → List ℕ → Type 0
Apart ns ms = (m : ℕ) → 0 < times m ns → times m ms ≡ 0

-- How turns and loans change where the word of the place p does, through a seat with the view v.
pub record Moves (old new : PlaceWord) (p : ℕ) (v w : SeatView) : Type 0 where
  pub turns_here : turns_at p v.turns ≡ turned_by old v.numbers → turns_at p w.turns ≡ turned_by new v.numbers
  pub turns_else : (q : ℕ) → q ≢ p → turns_at q w.turns ≡ turns_at q v.turns
  pub turns_others : (ms : List ℕ) → Apart v.numbers ms → turned_by old ms ≡ turned_by new ms
  pub loans_here : (k : Key) → loans_at p k v.loan ≡ lent_by old k v.numbers → loans_at p k w.loan ≡ lent_by new k v.numbers
  pub loans_else : (q : ℕ) (k : Key) → q ≢ p → loans_at q k w.loan ≡ loans_at q k v.loan
  pub loans_others : (k : Key) (ms : List ℕ) → Apart v.numbers ms → lent_by old k ms ≡ lent_by new k ms

abbrev pub TurnKeys : Option ShelfPlan → SeatView → Type 0
TurnKeys plan view = (i : ℕ) (turn : ℕ × Key) → slice_get view.turns i ≡ Some turn → (place_in plan turn.1 ≡ Some turn.0) × (0 < times turn.1.segment view.claims)

abbrev pub LoanKeys : Option ShelfPlan → SeatView → Type 0
LoanKeys plan view = (loan : ℕ × Key) → view.loan ≡ Some loan → place_in plan loan.1 ≡ Some loan.0

module _ (views : List SeatView) (seats : Seats views) (n : ℕ) (v w : SeatView) (e : slice_get views n ≡ Some v) where
  pub claims_same : (claims : List ClaimWord) → w.claims ≡ v.claims → w.numbers ≡ v.numbers → ClaimsStand claims views → ClaimsStand claims (set views n w)
  claims_same claims same num h = record {
    claimed = λ g c x. for_set (λ i u. times g u.claims ≡ claimed_by c u.numbers) views n w (ap (times g) same ∙ h.claimed g c x n v e ∙ ap (claimed_by c) (sym num)) (λ i u ne y. h.claimed g c x i u y);
    takers = λ g c x. subst (λ k. TakerStands k c) (sym (length-set views n w)) (h.takers g c x);
  }

  pub claims_taken : (claims : List ClaimWord) (g : ℕ) → v.spent ≡ false → slice_get claims g ≡ Some Open → w.claims ≡ v.claims ++ g ∷ [] → w.numbers ≡ v.numbers
      → ClaimsStand claims views → ClaimsStand (set claims g (Taken n)) (set views n w)
  claims_taken claims g live is_open one_more num h = record {
    claimed = λ g' c x. ⊎_elim
        (λ (y : (g' ≡ g) × (Taken n ≡ c)).
        let G : (ℕ × ClaimWord) → Type 0 = λ z. ForViews (set views n w) (λ i u. times z.0 u.claims ≡ claimed_by z.1 u.numbers) in
        subst G (λ j. (sym y.0 j, y.1 j))
        (for_set (λ i u. times g u.claims ≡ times n u.numbers) views n w
        (let o : times g v.claims ≡ 0 = h.claimed g Open is_open n v e in let a = times_append g v.claims (g ∷ []) in let t = times_here g [] in let m = mine views seats n v e live in
        let c1 : times g w.claims ≡ 1 = ap (times g) one_more ∙ omega arith in let c2 : times n w.numbers ≡ 1 = ap (times n) num ∙ m in c1 ∙ sym c2)
        (λ i u ne x'. let o : times g u.claims ≡ 0 = h.claimed g Open is_open i u x' in let m = mine views seats n v e live in let a : times n u.numbers ≡ 0 = apart views seats n i n v u e x' ne (omega arith) in omega arith)))
        (λ (y : (g' ≢ g) × (slice_get claims g' ≡ Some c)). for_set (λ i u. times g' u.claims ≡ claimed_by c u.numbers) views n w
        (let a = times_append g' v.claims (g ∷ []) in let t = times_else g' g [] (λ z. y.0 (sym z)) in
        let c1 : times g' w.claims ≡ times g' v.claims = ap (times g') one_more ∙ omega arith in c1 ∙ h.claimed g' c y.1 n v e ∙ ap (claimed_by c) (sym num))
        (λ i u ne x'. h.claimed g' c y.1 i u x'))
        (at_set claims g g' (Taken n) c x);
    takers = λ g' c x. subst (λ k. TakerStands k c) (sym (length-set views n w)) (⊎_elim
        (λ (y : (g' ≡ g) × (Taken n ≡ c)). subst (TakerStands (length views)) y.1 (within views n v e))
        (λ (y : (g' ≢ g) × (slice_get claims g' ≡ Some c)). h.takers g' c y.1)
        (at_set claims g g' (Taken n) c x));
  }

  belongs_set : (plan : Option ShelfPlan) (p : ℕ) (c : PlaceWord) → WordBelongs plan (length views) p c → WordBelongs plan (length (set views n w)) p c
  belongs_set plan p c h = subst (λ k. WordBelongs plan k p c) (sym (length-set views n w)) h

  pub places_same : (plan : Option ShelfPlan) (places : List PlaceWord) (home : List (Option Key)) → w.turns ≡ v.turns → w.loan ≡ v.loan → w.numbers ≡ v.numbers
      → ((g : ℕ) → 0 < times g v.claims → 0 < times g w.claims) → PlacesStand plan places home views → PlacesStand plan places home (set views n w)
  places_same plan places home turns loan num claims h = record {
    values = h.values;
    words = λ p c x. belongs_set plan p c (h.words p c x);
    turns = λ p c x. for_set (λ i u. turns_at p u.turns ≡ turned_by c u.numbers) views n w (ap (turns_at p) turns ∙ h.turns p c x n v e ∙ ap (turned_by c) (sym num)) (λ i u ne y. h.turns p c x i u y);
    loans = λ p c k x. for_set (λ i u. loans_at p k u.loan ≡ lent_by c k u.numbers) views n w (ap (loans_at p k) loan ∙ h.loans p c k x n v e ∙ ap (lent_by c k) (sym num)) (λ i u ne y. h.loans p c k x i u y);
    turn_keys = for_set (λ i u. TurnKeys plan u) views n w
        (λ i t x. let r = h.turn_keys n v e i t (ap (λ l. slice_get l i) (sym turns) ∙ x) in (r.0, claims t.1.segment r.1))
        (λ i u ne y. h.turn_keys i u y);
    loan_keys = for_set (λ i u. LoanKeys plan u) views n w (λ l x. h.loan_keys n v e l (sym loan ∙ x)) (λ i u ne y. h.loan_keys i u y);
  }

  pub places_move : (plan : Option ShelfPlan) (places : List PlaceWord) (home : List (Option Key)) (p : ℕ) (old new : PlaceWord) → slice_get places p ≡ Some old → w.numbers ≡ v.numbers
      → WordBelongs plan (length views) p new → Moves old new p v w → TurnKeys plan w → LoanKeys plan w → PlacesStand plan places home views
      → PlacesStand plan (set places p new) (set home p (value_under new)) (set views n w)
  places_move plan places home p old new is num belongs moves turn_keys loan_keys h = record {
    values = ap (λ l. set l p (value_under new)) h.values ∙ sym (map_set value_under places p new);
    words = λ q c x. belongs_set plan q c (⊎_elim
        (λ (y : (q ≡ p) × (new ≡ c)). subst (λ (z : ℕ × PlaceWord). WordBelongs plan (length views) z.0 z.1) (λ j. (sym y.0 j, y.1 j)) belongs)
        (λ (y : (q ≢ p) × (slice_get places q ≡ Some c)). h.words q c y.1)
        (at_set places p q new c x));
    turns = λ q c x. ⊎_elim
        (λ (y : (q ≡ p) × (new ≡ c)).
        let G : (ℕ × PlaceWord) → Type 0 = λ z. ForViews (set views n w) (λ i u. turns_at z.0 u.turns ≡ turned_by z.1 u.numbers) in
        subst G (λ j. (sym y.0 j, y.1 j)) (for_set (λ i u. turns_at p u.turns ≡ turned_by new u.numbers) views n w
        (moves.turns_here (h.turns p old is n v e) ∙ ap (turned_by new) (sym num))
        (λ i u ne x'. h.turns p old is i u x' ∙ moves.turns_others u.numbers (λ m pos. apart views seats n i m v u e x' ne pos))))
        (λ (y : (q ≢ p) × (slice_get places q ≡ Some c)). for_set (λ i u. turns_at q u.turns ≡ turned_by c u.numbers) views n w
        (moves.turns_else q y.0 ∙ h.turns q c y.1 n v e ∙ ap (turned_by c) (sym num))
        (λ i u ne x'. h.turns q c y.1 i u x'))
        (at_set places p q new c x);
    loans = λ q c k x. ⊎_elim
        (λ (y : (q ≡ p) × (new ≡ c)).
        let G : (ℕ × PlaceWord) → Type 0 = λ z. ForViews (set views n w) (λ i u. loans_at z.0 k u.loan ≡ lent_by z.1 k u.numbers) in
        subst G (λ j. (sym y.0 j, y.1 j)) (for_set (λ i u. loans_at p k u.loan ≡ lent_by new k u.numbers) views n w
        (moves.loans_here k (h.loans p old k is n v e) ∙ ap (lent_by new k) (sym num))
        (λ i u ne x'. h.loans p old k is i u x' ∙ moves.loans_others k u.numbers (λ m pos. apart views seats n i m v u e x' ne pos))))
        (λ (y : (q ≢ p) × (slice_get places q ≡ Some c)). for_set (λ i u. loans_at q k u.loan ≡ lent_by c k u.numbers) views n w
        (moves.loans_else q k y.0 ∙ h.loans q c k y.1 n v e ∙ ap (lent_by c k) (sym num))
        (λ i u ne x'. h.loans q c k y.1 i u x'))
        (at_set places p q new c x);
    turn_keys = for_set (λ i u. TurnKeys plan u) views n w turn_keys (λ i u ne y. h.turn_keys i u y);
    loan_keys = for_set (λ i u. LoanKeys plan u) views n w loan_keys (λ i u ne y. h.loan_keys i u y);
  }

  pub counts_set : (done done' : ℕ) → done' + v.counts ≡ done + w.counts → w.counts ≤ length w.claims → CountsStand done views → CountsStand done' (set views n w)
  counts_set done done' sum low h = record {
    sum = let t = total_set (λ u. u.counts) views n v w e in let s = h.sum in omega arith;
    within = for_set (λ i u. u.counts ≤ length u.claims) views n w low (λ i u ne x. h.within i u x);
  }

  pub seen_set : (done done' : ℕ) (bit bit' : Bool) → done ≤ done' → (bit ≡ true → bit' ≡ true) → (w.stopped ≡ true → bit' ≡ true) → w.done_seen ≤ done' → SeenStands done bit views → SeenStands done' bit' (set views n w)
  seen_set done done' bit bit' more keeps stopped low h = record {
    bit = for_set (λ i u. u.stopped ≡ true → bit' ≡ true) views n w stopped (λ i u ne x f. keeps (h.bit i u x f));
    number = for_set (λ i u. u.done_seen ≤ done') views n w low (λ i u ne x. let a = h.number i u x in omega arith);
  }

  pub stopped_set : w.spent ≡ v.spent → (v.stopped ≡ true → w.stopped ≡ true) → SomeStopped views → SomeStopped (set views n w)
  stopped_set sp keeps some = dite (ℕ_discrete some.0 n)
      (λ (same : some.0 ≡ n). let is : v ≡ some.1 = some_same v some.1 (sym e ∙ ap (slice_get views) (sym same) ∙ some.2) in
      (n, w, set_here views n w v e, sp ∙ ap (λ (u : SeatView). u.spent) is ∙ some.3, keeps (ap (λ (u : SeatView). u.stopped) is ∙ some.4)))
      (λ ne. (some.0, some.1, set_else views n some.0 w ne ∙ some.2, some.3, some.4))

  pub known_set : (plan : Option ShelfPlan) (places places' : List PlaceWord) → ((key : Key) → IsKept plan places key → IsKept plan places' key)
      → ((key : Key) → is_in key w.known ≡ true → IsKept plan places' key) → KnownStands plan places views → KnownStands plan places' (set views n w)
  known_set plan places places' keeps mine' h = for_set (λ i u. (key : Key) → is_in key u.known ≡ true → IsKept plan places' key) views n w mine' (λ i u ne x key f. keeps key (h i u x key f))

  pub segments_set : (claims claims' : List ClaimWord) → length claims' ≡ length claims → ((g : ℕ) → 0 < times g w.claims → g < length claims')
      → ForViews views (λ i u. (g : ℕ) → 0 < times g u.claims → g < length claims) → ForViews (set views n w) (λ i u. (g : ℕ) → 0 < times g u.claims → g < length claims')
  segments_set claims claims' long low h = for_set (λ i u. (g : ℕ) → 0 < times g u.claims → g < length claims') views n w low (λ i u ne x g pos. let a = h i u x g pos in omega arith)

-- What a seat knows once a key of which a value is there joined it.
pub knowing_kept : (plan : Option ShelfPlan) (places : List PlaceWord) (key : Key) (known : List Key) → is_held key (word_in places (place_in plan key)) ≡ true
    → ((k : Key) → is_in k known ≡ true → IsKept plan places k) → (k : Key) → is_in k (knowing plan key known) ≡ true → IsKept plan places k
knowing_kept plan places key known held old k f = ⊎_elim
    (λ (sole : sole_in plan key ≡ true).
    let f' : is_in k (known ++ key ∷ []) ≡ true = rw sole at f in
    ⊎_elim (old k)
    (λ (last : is_in k (key ∷ []) ≡ true). ⊎_elim
    (λ (same : same_key key k ≡ true). subst (IsKept plan places) (key_is key k same) (record { sole = sole; there = held }))
    (λ (no : false ≡ true). absurd (true≢false (sym no)))
    (or_either (same_key key k) false last))
    (or_either (is_in k known) (is_in k (key ∷ [])) (sym (list_any-append (λ x. same_key x k) known (key ∷ [])) ∙ f')))
    (λ (no : sole_in plan key ≡ false). let f' : is_in k known ≡ true = rw no at f in old k f')
    (bool_cases (sole_in plan key))

-- A kept key stays kept where the word of a place changes to one that holds what sole key the old one held.
pub kept_move : (plan : Option ShelfPlan) (places : List PlaceWord) (p : ℕ) (old new : PlaceWord) → slice_get places p ≡ Some old
    → ((key : Key) → sole_in plan key ≡ true → place_in plan key ≡ Some p → is_held key (Some old) ≡ true → is_held key (Some new) ≡ true)
    → (key : Key) → IsKept plan places key → IsKept plan (set places p new) key
kept_move plan places p old new is keeps key h = record { sole = h.sole; there = there' (place_in plan key) refl h.there }
  where
    there' : (o : Option ℕ) → place_in plan key ≡ o → is_held key (word_in places o) ≡ true → is_held key (word_in (set places p new) o) ≡ true
    there' None eq f = absurd (true≢false (sym f))
    there' (Some q) eq f = dite (ℕ_discrete q p)
        (λ same. let eq' : place_in plan key ≡ Some p = eq ∙ ap Some same in
        let g : is_held key (slice_get places p) ≡ true = subst (λ x. is_held key (slice_get places x) ≡ true) same f in
        let k = keeps key h.sole eq' (subst (λ o. is_held key o ≡ true) is g) in
        subst (λ x. is_held key (slice_get (set places p new) x) ≡ true) (sym same) (subst (λ o. is_held key o ≡ true) (sym (set_here places p new old is)) k))
        (λ ne. subst (λ o. is_held key o ≡ true) (sym (set_else places p q new ne)) f)
