-- Each event that is possible leaves an orderly system.
use Rattle.std.proofs.Common.{◌≡◌, ◌≢◌, ℕ, ◌+◌, ◌<◌, Bool, true, false, List, [], ◌∷◌, ◌++◌, Option, Some, None, slice_get, length, set, sym, refl, ap, ◌∙◌, subst, ⊎_elim, arith, true≢false, ◌==◌, ◌&&◌, not, unwrap_or, is_some, is_none, inl, inr, ◌⊎◌, if◌then◌else◌, option_map, nat_lt, eq-eqb}
use Rattle.std.specs.List.{list_any, fold}
use Rattle.shelf_core.specs.Plan.{same_key, place_in, are_distinct}
use Rattle.shelf_core.specs.Words.{is_open, is_ready}
use Rattle.shelf_core.specs.Views.{times, live_view, unspent, live_views, changed_at, has_turn, spent_view}
use Rattle.shelf_core.specs.Possible.{possible, passes, through, word_at, is_replaceable, allows_writing, seen_at}
use Rattle.shelf_core.specs.After.{after, step_of, seat, put, key_place, after_join, after_return, loan_of, with_claim, with_turn, without_turn, having_published, with_loan, having_returned, with_count, having_stopped, having_loaded, joined_with, opening, left_by}
use Rattle.shelf_core.specs.Orderly.{Orderly, HasShape}
use Rattle.shelf_core.specs.declared.plan.Key.{Key}
use Rattle.shelf_core.specs.declared.plan.ShelfPlan.{ShelfPlan}
use Rattle.shelf_core.specs.declared.words.ClaimWord.{ClaimWord}
use Rattle.shelf_core.specs.declared.words.ClaimWord.TheVariants.{Open, Taken}
use Rattle.shelf_core.specs.declared.words.PlaceWord.{PlaceWord}
use Rattle.shelf_core.specs.declared.words.PlaceWord.TheVariants.{Free, Writing, Ready, Lent}
use Rattle.shelf_core.specs.declared.words.Word.{Word}
use Rattle.shelf_core.specs.declared.words.Word.TheVariants.{Claim as claim_word, Place as place_word, Done as done_word}
use Rattle.shelf_core.specs.declared.words.Seen.{Seen}
use Rattle.shelf_core.specs.declared.words.Seen.TheVariants.{Claim as claim_seen, Place as place_seen, Done as done_seen}
use Rattle.shelf_core.specs.declared.seat.SeatView.{SeatView}
use Rattle.shelf_core.specs.declared.system.System.{System}
use Rattle.shelf_core.specs.declared.event.Event.{Event}
use Rattle.shelf_core.specs.declared.event.Event.TheVariants.{Lay, Claim, Begin, Publish, Abandon, Lend, Return, Count, Stop, Load, Split, Join}
use Rattle.shelf_core.proofs.Lists.{bool_cases, some_same, not_some, there, changed_is_set}
use Rattle.shelf_core.proofs.Plans.{and_left, and_right, key_is, not_true, eq_true, place_below}
use Rattle.shelf_core.proofs.Parts.{word_cases}
use Rattle.shelf_core.proofs.Quiet.{empty_of, claim_orderly, count_orderly, stop_orderly, seen_orderly}
use Rattle.shelf_core.proofs.Moved.{begin_free, begin_other, publish_orderly, abandon_orderly, lend_orderly, return_orderly, turn_of_key}
use Rattle.shelf_core.proofs.Crowd.{split_orderly, join_orderly}
use Rattle.shelf_core.proofs.Laid.{lay_orderly, opening_orderly}

-- The seat of an event that is possible.
picked : (spent : Bool) (v : SeatView) (test : SeatView → Bool) → passes (if spent then None else Some v) test ≡ true → (spent ≡ false) × (test v ≡ true)
picked true v test e = absurd (true≢false (sym e))
picked false v test e = (refl, e)

passing : (o : Option SeatView) (test : SeatView → Bool) → passes (unspent o) test ≡ true → (v : SeatView) × (o ≡ Some v) × (v.spent ≡ false) × (test v ≡ true)
passing None test e = absurd (true≢false (sym e))
passing (Some v) test e = let r = picked v.spent v test e in (v, refl, r.0, r.1)

pub live_seat : (s : System) (n : ℕ) (test : SeatView → Bool) → through s n test ≡ true → (v : SeatView) × (slice_get s.views n ≡ Some v) × (v.spent ≡ false) × (test v ≡ true)
live_seat s n test e = passing (slice_get s.views n) test e

pub live_is : (views : List SeatView) (n : ℕ) (v : SeatView) → slice_get views n ≡ Some v → v.spent ≡ false → live_view views n ≡ Some v
live_is views n v e live = ap unspent e ∙ ap (λ (b : Bool). if b then None else Some v) live

pub open_is : (o : Option ClaimWord) → is_open o ≡ true → o ≡ Some Open
open_is None e = absurd (true≢false (sym e))
open_is (Some Open) e = refl
open_is (Some (Taken n)) e = absurd (true≢false (sym e))

pub ready_is : (key : Key) (o : Option PlaceWord) → is_ready key o ≡ true → o ≡ Some (Ready key)
ready_is key None e = absurd (true≢false (sym e))
ready_is key (Some Free) e = absurd (true≢false (sym e))
ready_is key (Some (Writing n)) e = absurd (true≢false (sym e))
ready_is key (Some (Ready k)) e = ap (λ x. Some (Ready x)) (key_is k key e)
ready_is key (Some (Lent k n)) e = absurd (true≢false (sym e))

pub allowed : (s : System) (key : Key) (o : Option PlaceWord) → allows_writing s key o ≡ true → (o ≡ Some Free) ⊎ ((k : Key) × (o ≡ Some (Ready k)) × (same_key k key ≡ false))
allowed s key None e = absurd (true≢false (sym e))
allowed s key (Some Free) e = inl refl
allowed s key (Some (Writing n)) e = absurd (true≢false (sym e))
allowed s key (Some (Ready k)) e = inr (k, refl, not_true (same_key k key) (and_right (is_replaceable s key (place_in s.plan key)) (not (same_key k key)) e))
allowed s key (Some (Lent k n)) e = absurd (true≢false (sym e))

pub any_times : (n : ℕ) (ms : List ℕ) → list_any (λ m. m == n) ms ≡ true → 0 < times n ms
any_times n [] e = absurd (true≢false (sym e))
any_times n (m ∷ ms) e = ⊎_elim
    (λ (y : (m == n) ≡ true). rw y (omega arith))
    (λ (y : (m == n) ≡ false). let x : list_any (λ m. m == n) ms ≡ true = rw y at e in let r = any_times n ms x in omega arith)
    (bool_cases (m == n))

pub some_of : {A : Type 0} (o : Option A) → is_some o ≡ true → (a : A) × (o ≡ Some a)
some_of None e = absurd (true≢false (sym e))
some_of (Some a) e = (a, refl)

pub none_of : {A : Type 0} (o : Option A) → is_none o ≡ true → o ≡ None
none_of None e = refl
none_of (Some a) e = absurd (true≢false (sym e))

pub less_of : (a b : ℕ) → nat_lt a b ≡ true → a < b
less_of a b e = grind (arith, e)

-- A key's place has a word.
pub word_there : (s : System) (key : Key) (p : ℕ) → Orderly s → place_in s.plan key ≡ Some p → (word : PlaceWord) × (slice_get s.places p ≡ Some word)
word_there s key p h at = there s.places p (low s.plan h.shape at)
  where
    low : (plan : Option ShelfPlan) → HasShape plan s → place_in plan key ≡ Some p → p < length s.places
    low None shape e = absurd (not_some p e)
    low (Some plan) shape e = let a = place_below plan key p e in let b = shape.places in omega arith

pub place_is : (s : System) (key : Key) (p : ℕ) → place_in s.plan key ≡ Some p → key_place s key ≡ p
place_is s key p at = ap (λ o. unwrap_or o 0) at

-- The place of a turn's key.
pub turn_place : (s : System) (n : ℕ) (key : Key) (v : SeatView) → Orderly s → slice_get s.views n ≡ Some v → has_turn key v.turns ≡ true → (p : ℕ) × (place_in s.plan key ≡ Some p)
turn_place s n key v h e has = let r = turn_of_key key v.turns has in let k = h.sound.places.turn_keys n v e r.0 r.1 r.2 in
    (r.1.0, ap (λ x. place_in s.plan x) (sym (key_is r.1.1 key r.3)) ∙ k.0)

pub seen_place : (s : System) (word : Word) (seen : Seen) → seen_at s word ≡ Some seen → (p : ℕ) (w : PlaceWord) → seen ≡ place_seen p w → slice_get s.places p ≡ Some w
seen_place s (claim_word g) seen e p w is = claim (slice_get s.claims g) (e ∙ ap Some is)
  where
    claim : (o : Option ClaimWord) → option_map (claim_seen g) o ≡ Some (place_seen p w) → slice_get s.places p ≡ Some w
    claim None x = absurd (not_some _ x)
    claim (Some c) x = let y : claim_seen g c ≡ place_seen p w = some_same _ _ x in cc
seen_place s (place_word q) seen e p w is = place (slice_get s.places q) refl (e ∙ ap Some is)
  where
    place : (o : Option PlaceWord) → slice_get s.places q ≡ o → option_map (place_seen q) o ≡ Some (place_seen p w) → slice_get s.places p ≡ Some w
    place None y x = absurd (not_some _ x)
    place (Some c) y x = let z : place_seen q c ≡ place_seen p w = some_same _ _ x in
        let a : q ≡ p = ap number z in let b : c ≡ w = ap (under c) z in ap (slice_get s.places) (sym a) ∙ y ∙ ap Some b
      where
        number : Seen → ℕ
        number (claim_seen i x) = 0
        number (place_seen i x) = i
        number (done_seen d b) = 0

        under : PlaceWord → Seen → PlaceWord
        under c (claim_seen i x) = c
        under c (place_seen i x) = x
        under c (done_seen d b) = c
seen_place s done_word seen e p w is = done s.plan (e ∙ ap Some is)
  where
    done : (o : Option ShelfPlan) → option_map (λ (plan : ShelfPlan). done_seen s.done s.stopped) o ≡ Some (place_seen p w) → slice_get s.places p ≡ Some w
    done None x = absurd (not_some _ x)
    done (Some plan) x = let y : done_seen s.done s.stopped ≡ place_seen p w = some_same _ _ x in cc

pub seen_done : (s : System) (word : Word) (seen : Seen) → seen_at s word ≡ Some seen → (d : ℕ) (b : Bool) → seen ≡ done_seen d b → (d ≡ s.done) × (b ≡ s.stopped)
seen_done s (claim_word g) seen e d b is = claim (slice_get s.claims g) (e ∙ ap Some is)
  where
    claim : (o : Option ClaimWord) → option_map (claim_seen g) o ≡ Some (done_seen d b) → (d ≡ s.done) × (b ≡ s.stopped)
    claim None x = absurd (not_some _ x)
    claim (Some c) x = let y : claim_seen g c ≡ done_seen d b = some_same _ _ x in absurd cc
seen_done s (place_word q) seen e d b is = place (slice_get s.places q) (e ∙ ap Some is)
  where
    place : (o : Option PlaceWord) → option_map (place_seen q) o ≡ Some (done_seen d b) → (d ≡ s.done) × (b ≡ s.stopped)
    place None x = absurd (not_some _ x)
    place (Some c) x = let y : place_seen q c ≡ done_seen d b = some_same _ _ x in absurd cc
seen_done s done_word seen e d b is = done s.plan (e ∙ ap Some is)
  where
    done : (o : Option ShelfPlan) → option_map (λ (plan : ShelfPlan). done_seen s.done s.stopped) o ≡ Some (done_seen d b) → (d ≡ s.done) × (b ≡ s.stopped)
    done None x = absurd (not_some _ x)
    done (Some plan) x = let y : done_seen s.done s.stopped ≡ done_seen d b = some_same _ _ x in (sym (ap number y), sym (ap bit y))
      where
        number : Seen → ℕ
        number (claim_seen i x) = 0
        number (place_seen i x) = 0
        number (done_seen k c) = k

        bit : Seen → Bool
        bit (claim_seen i x) = false
        bit (place_seen i x) = false
        bit (done_seen k c) = c

-- Views that change at one seat, as a list in which its view is set.
module _ (s : System) (n : ℕ) (v : SeatView) (e : slice_get s.views n ≡ Some v) where
  pub at_seat : (Fact : List SeatView → Type 0) (change : SeatView → SeatView) → Fact (set s.views n (change v)) → Fact (changed_at change s.views n)
  at_seat Fact change h = subst Fact (sym (changed_is_set change s.views n v e)) h

-- A key's place, in what an event makes of a view and a word there.
at_place : (s : System) (key : Key) (p : ℕ) (Fact : ℕ → Type 0) → place_in s.plan key ≡ Some p → Fact p → Fact (key_place s key)
at_place s key p Fact at h = subst Fact (sym (place_is s key p at)) h

pub after_orderly : (s : System) (e : Event) → Orderly s → possible s e ≡ true → Orderly (after s e)
after_orderly s (Lay plan) h can =
    let a = and_left (is_none s.plan && (length (live_views s.views) == 1)) (are_distinct (plan.forks ++ plan.grid)) can in
    lay_orderly s plan h (none_of s.plan (and_left (is_none s.plan) (length (live_views s.views) == 1) a)) (and_right (is_none s.plan && (length (live_views s.views) == 1)) (are_distinct (plan.forks ++ plan.grid)) can)
after_orderly s (Claim n g) h can =
    let r = live_seat s n (λ view. is_open (slice_get s.claims g)) can in
    at_seat s n r.0 r.1 (λ l. Orderly (record s { claims = set s.claims g (Taken n); views = l })) (with_claim g)
    (claim_orderly s n g r.0 h r.1 r.2 (open_is (slice_get s.claims g) r.3))
after_orderly s (Begin n key) h can =
    let r = live_seat s n (λ view. list_any (λ segment. segment == key.segment) view.claims && allows_writing s key (word_at s key)) can in
    let claim = any_times key.segment r.0.claims (and_left (list_any (λ segment. segment == key.segment) r.0.claims) (allows_writing s key (word_at s key)) r.3) in
    let word = allowed s key (word_at s key) (and_right (list_any (λ segment. segment == key.segment) r.0.claims) (allows_writing s key (word_at s key)) r.3) in
    let whole : (p : ℕ) → place_in s.plan key ≡ Some p → Orderly (record s { places = set s.places p (Writing n); home = set s.home p None; views = set s.views n (with_turn p key r.0) }) → Orderly (after s (Begin n key)) =
    λ p at x. at_place s key p (λ q. Orderly (put (seat s n (with_turn q key)) q (Writing n) None)) at
    (at_seat s n r.0 r.1 (λ l. Orderly (record s { places = set s.places p (Writing n); home = set s.home p None; views = l })) (with_turn p key) x) in
    ⊎_elim
    (λ (free : word_at s key ≡ Some Free). let w = word_cases s.places (place_in s.plan key) Free free in whole w.0 w.1 (begin_free s n w.0 key r.0 h r.1 r.2 w.2 w.1 claim))
    (λ (other : (k : Key) × (word_at s key ≡ Some (Ready k)) × (same_key k key ≡ false)). let w = word_cases s.places (place_in s.plan key) (Ready other.0) other.1 in
    whole w.0 w.1 (begin_other s n w.0 key other.0 r.0 h r.1 r.2 w.2 w.1 claim other.2))
    word
after_orderly s (Publish n key) h can =
    let r = live_seat s n (λ view. has_turn key view.turns) can in
    let t = turn_place s n key r.0 h r.1 r.3 in
    let w = word_there s key t.0 h t.1 in
    at_place s key t.0 (λ q. Orderly (put (seat s n (having_published s.plan key)) q (Ready key) (Some key))) t.1
    (at_seat s n r.0 r.1 (λ l. Orderly (record s { places = set s.places t.0 (Ready key); home = set s.home t.0 (Some key); views = l })) (having_published s.plan key)
    (publish_orderly s n t.0 key w.0 r.0 h r.1 r.2 w.1 t.1 r.3))
after_orderly s (Abandon n key) h can =
    let r = live_seat s n (λ view. has_turn key view.turns) can in
    let t = turn_place s n key r.0 h r.1 r.3 in
    let w = word_there s key t.0 h t.1 in
    at_place s key t.0 (λ q. Orderly (put (seat s n (without_turn key)) q Free None)) t.1
    (at_seat s n r.0 r.1 (λ l. Orderly (record s { places = set s.places t.0 Free; home = set s.home t.0 None; views = l })) (without_turn key)
    (abandon_orderly s n t.0 key w.0 r.0 h r.1 r.2 w.1 t.1 r.3))
after_orderly s (Lend n key) h can =
    let r = live_seat s n (λ view. is_ready key (word_at s key) && is_none view.loan) can in
    let word = ready_is key (word_at s key) (and_left (is_ready key (word_at s key)) (is_none r.0.loan) r.3) in
    let none = none_of r.0.loan (and_right (is_ready key (word_at s key)) (is_none r.0.loan) r.3) in
    let w = word_cases s.places (place_in s.plan key) (Ready key) word in
    at_place s key w.0 (λ q. Orderly (put (seat s n (with_loan s.plan q key)) q (Lent key n) None)) w.1
    (at_seat s n r.0 r.1 (λ l. Orderly (record s { places = set s.places w.0 (Lent key n); home = set s.home w.0 None; views = l })) (with_loan s.plan w.0 key)
    (lend_orderly s n w.0 key r.0 h r.1 r.2 w.2 w.1 none))
after_orderly s (Return n) h can =
    let r = live_seat s n (λ view. is_some view.loan) can in
    let l = some_of r.0.loan r.3 in
    let at = h.sound.places.loan_keys n r.0 r.1 l.0 l.1 in
    let w = word_there s l.0.1 l.0.0 h at in
    let has : loan_of (live_view s.views n) ≡ Some l.0 = ap loan_of (live_is s.views n r.0 r.1 r.2) ∙ l.1 in
    subst (λ o. Orderly (after_return s n o)) (sym has)
    (at_seat s n r.0 r.1 (λ x. Orderly (record s { places = set s.places l.0.0 (Ready l.0.1); home = set s.home l.0.0 (Some l.0.1); views = x })) (having_returned l.0.1)
    (return_orderly s n l.0.0 l.0.1 w.0 r.0 h r.1 r.2 w.1 l.1))
after_orderly s (Count n) h can =
    let r = live_seat s n (λ view. nat_lt view.counts (length view.claims)) can in
    at_seat s n r.0 r.1 (λ l. Orderly (record s { done = s.done + 1; views = l })) with_count (count_orderly s n r.0 h r.1 r.2 (less_of r.0.counts (length r.0.claims) r.3))
after_orderly s (Stop n) h can =
    let r = live_seat s n (λ view. is_some s.plan) can in
    let laid = some_of s.plan r.3 in
    at_seat s n r.0 r.1 (λ l. Orderly (record s { stopped = true; views = l })) having_stopped (stop_orderly s n r.0 h r.1 r.2 (λ none. not_some laid.0 (sym none ∙ laid.1)))
after_orderly s (Load n word) h can =
    let r = live_seat s n (λ view. is_some (seen_at s word)) can in
    let seen = some_of (seen_at s word) r.3 in
    subst (λ o. Orderly (seat s n (having_loaded s.plan o))) (sym seen.1)
    (at_seat s n r.0 r.1 (λ l. Orderly (record s { views = l })) (having_loaded s.plan (Some seen.0))
    (seen_orderly s n r.0 seen.0 h r.1 r.2 (seen_place s word seen.0 seen.1) (seen_done s word seen.0 seen.1)))
after_orderly s (Split n) h can = split_orderly s h
after_orderly s (Join n m) h can =
    let test : SeatView → Bool = λ view. not (m == n) && through s m (λ other. (length other.turns == 0) && is_none other.loan) in
    let r = live_seat s n test can in
    let two : m ≢ n = λ same. true≢false (sym (eq-eqb m n same) ∙ not_true (m == n) (and_left (not (m == n)) (through s m (λ other. (length other.turns == 0) && is_none other.loan)) r.3)) in
    let q = live_seat s m (λ other. (length other.turns == 0) && is_none other.loan) (and_right (not (m == n)) (through s m (λ other. (length other.turns == 0) && is_none other.loan)) r.3) in
    let empty : length q.0.turns ≡ 0 = eq_true (length q.0.turns) 0 (and_left (length q.0.turns == 0) (is_none q.0.loan) q.3) in
    let none = none_of q.0.loan (and_right (length q.0.turns == 0) (is_none q.0.loan) q.3) in
    subst (λ o. Orderly (after_join s n m o)) (sym (live_is s.views m q.0 q.1 q.2))
    (at_seat s n r.0 r.1 (λ l. Orderly (record s { views = set l m spent_view })) (joined_with q.0)
    (join_orderly s n m r.0 q.0 h r.2 q.2 two r.1 q.1 (empty_of q.0.turns empty) none))

pub step_orderly : (s : System) (e : Event) → Orderly s → Orderly (step_of s e)
step_orderly s e h = ⊎_elim
    (λ (can : possible s e ≡ true). subst (λ (b : Bool). Orderly (if b then after s e else s)) (sym can) (after_orderly s e h can))
    (λ (cannot : possible s e ≡ false). subst (λ (b : Bool). Orderly (if b then after s e else s)) (sym cannot) h)
    (bool_cases (possible s e))

pub fold_orderly : (events : List Event) (s : System) → Orderly s → Orderly (fold step_of s events)
fold_orderly [] s h = h
fold_orderly (e ∷ events) s h = fold_orderly events (step_of s e) (step_orderly s e h)

pub left_orderly : (events : List Event) → Orderly (left_by events)
left_orderly events = fold_orderly events opening opening_orderly
