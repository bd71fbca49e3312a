-- What the code of each event makes is what the event leaves.
use Rattle.std.proofs.Common.{◌≡◌, ◌≢◌, ℕ, zero, suc, ◌+◌, ◌<◌, ◌≤◌, Bool, true, false, List, [], ◌∷◌, Option, Some, None, slice_get, length, set, sym, refl, ap, ◌∙◌, subst, ⊎_elim, arith, ◌==◌, ◌&&◌, not, is_some, is_none, nat_lt, true≢false, eq-eqb}
use Rattle.std.specs.List.{list_any}
use lib.ListN.{length-map}
use Rattle.shelf_core.specs.Plan.{same_key, place_in, segments_in}
use Rattle.shelf_core.specs.Words.{is_open, is_ready, value_under}
use Rattle.shelf_core.specs.Views.{total, changed_at, has_turn, live_view}
use Rattle.shelf_core.specs.Possible.{possible, through, word_at, allows_writing}
use Rattle.shelf_core.specs.After.{seat, put, key_place, loan_of}
use Rattle.shelf_core.specs.Orderly.{Orderly, HasShape}
use Rattle.shelf_core.specs.declared.plan.Key.{Key}
use Rattle.shelf_core.specs.declared.plan.ShelfPlan.{ShelfPlan}
use Rattle.shelf_core.specs.declared.words.ClaimWord.TheVariants.{Open}
use Rattle.shelf_core.specs.declared.words.PlaceWord.{PlaceWord}
use Rattle.shelf_core.specs.declared.words.PlaceWord.TheVariants.{Free, Ready}
use Rattle.shelf_core.specs.declared.seat.SeatView.{SeatView}
use Rattle.shelf_core.specs.declared.system.System.{System}
use Rattle.shelf_core.specs.declared.event.Event.TheVariants.{Claim, Begin, Publish, Lend, Return, Count, Join}
use Rattle.shelf_core.proofs.Lists.{some_same, not_some, within, changed_is_set, total_one, total_two, total_le}
use Rattle.shelf_core.proofs.Plans.{and_left, and_right, not_true}
use Rattle.shelf_core.proofs.Parts.{word_cases}
use Rattle.shelf_core.proofs.Quiet.{taken_le}
use Rattle.shelf_core.proofs.Steps.{live_seat, live_is, open_is, allowed, ready_is, word_there, place_is, turn_place, less_of}

-- the views once the view of a seat is replaced
pub replaced : (change : SeatView → SeatView) (views new : List SeatView) (n : ℕ) (v w : SeatView) → slice_get views n ≡ Some v → w ≡ change v → new ≡ set views n w → new ≡ changed_at change views n
replaced change views new n v w e is made = made ∙ ap (set views n) is ∙ sym (changed_is_set change views n v e)

-- and the word and value of a key's place
pub placed : (s t : System) (n p q : ℕ) (word : PlaceWord) (value : Option Key) (change : ℕ → SeatView → SeatView) (v w : SeatView) (views : List SeatView)
    → slice_get s.views n ≡ Some v → w ≡ change p v → views ≡ set s.views n w → p ≡ q → t ≡ put (record s { views = views }) p word value → t ≡ put (seat s n (change q)) q word value
placed s t n p q word value change v w views e is made at put_is =
    put_is ∙ ap (λ l. put (record s { views = l }) p word value) (replaced (change p) s.views views n v w e is made) ∙ ap (λ r. put (seat s n (change r)) r word value) at

-- a key's place is one of the words and values
pub key_low : (s : System) (key : Key) (p : ℕ) → Orderly s → place_in s.plan key ≡ Some p → (p < length s.places) × (p < length s.home)
key_low s key p h at = let w = word_there s key p h at in let a = within s.places p w.0 w.1 in
    let l : length s.home ≡ length s.places = ap length h.sound.places.values ∙ length-map s.places value_under in (a, omega arith)

pub begin_at : (s : System) (n : ℕ) (key : Key) → possible s (Begin n key) ≡ true → (p : ℕ) × (place_in s.plan key ≡ Some p)
begin_at s n key can =
    let r = live_seat s n (λ view. list_any (λ segment. segment == key.segment) view.claims && allows_writing s key (word_at s key)) can in
    ⊎_elim
    (λ (free : word_at s key ≡ Some Free). let w = word_cases s.places (place_in s.plan key) Free free in (w.0, w.1))
    (λ (other : (k : Key) × (word_at s key ≡ Some (Ready k)) × (same_key k key ≡ false)). let w = word_cases s.places (place_in s.plan key) (Ready other.0) other.1 in (w.0, w.1))
    (allowed s key (word_at s key) (and_right (list_any (λ segment. segment == key.segment) r.0.claims) (allows_writing s key (word_at s key)) r.3))

pub lend_at : (s : System) (n : ℕ) (key : Key) → possible s (Lend n key) ≡ true → (p : ℕ) × (place_in s.plan key ≡ Some p)
lend_at s n key can =
    let r = live_seat s n (λ view. is_ready key (word_at s key) && is_none view.loan) can in
    let w = word_cases s.places (place_in s.plan key) (Ready key) (ready_is key (word_at s key) (and_left (is_ready key (word_at s key)) (is_none r.0.loan) r.3)) in (w.0, w.1)

pub turn_at : (s : System) (n : ℕ) (key : Key) → Orderly s → possible s (Publish n key) ≡ true → (p : ℕ) × (place_in s.plan key ≡ Some p)
turn_at s n key h can = let r = live_seat s n (λ view. has_turn key view.turns) can in turn_place s n key r.0 h r.1 r.3

pub place_low : (s : System) (key : Key) (q : ℕ) → Orderly s → ((p : ℕ) × (place_in s.plan key ≡ Some p)) → q ≡ key_place s key → (q < length s.places) × (q < length s.home)
place_low s key q h at is = let a = key_low s key at.0 h at.1 in let e : q ≡ at.0 = is ∙ place_is s key at.0 at.1 in
    let b = a.0 in let c = a.1 in (omega arith, omega arith)

-- Counts stay within the number of segments.
pub count_low : (s : System) (n : ℕ) (v : SeatView) → Orderly s → slice_get s.views n ≡ Some v → v.counts < length v.claims → (s.done < length s.claims) × (v.counts < length s.claims)
count_low s n v h e less = (above, (let a = total_one (λ u. u.counts) s.views n v e in let b = h.sound.counts.sum in let c = above in omega arith))
  where
    above : s.done < length s.claims
    above = let a = total_less s.views n v h.sound.counts.within e less in let b = h.sound.counts.sum in let c = h.taken in let d = taken_le s.claims in omega arith
      where
        total_less : (views : List SeatView) (n : ℕ) (v : SeatView) → ((i : ℕ) (u : SeatView) → slice_get views i ≡ Some u → u.counts ≤ length u.claims) → slice_get views n ≡ Some v → v.counts < length v.claims
            → total (λ u. u.counts) views < total (λ u. length u.claims) views
        total_less [] n v all e less = absurd (not_some v e)
        total_less (x ∷ xs) zero v all e less = let p : x ≡ v = some_same x v e in let a : x.counts < length x.claims = subst (λ (u : SeatView). u.counts < length u.claims) (sym p) less in
            let b : total (λ u. u.counts) xs ≤ total (λ u. length u.claims) xs = total_le (λ u. u.counts) (λ u. length u.claims) xs (λ i u x'. all (suc i) u x') in omega arith
        total_less (x ∷ xs) (suc n) v all e less = let a = all 0 x refl in
            let b : total (λ u. u.counts) xs < total (λ u. length u.claims) xs = total_less xs n v (λ i u x'. all (suc i) u x') e less in omega arith

-- There are as many segments' words as the plan has segments.
pub claim_count : (s : System) → Orderly s → length s.claims ≡ segments_in s.plan
claim_count s h = of_shape s.plan h.shape
  where
    of_shape : (plan : Option ShelfPlan) → HasShape plan s → length s.claims ≡ segments_in plan
    of_shape None shape = ap length shape.claims
    of_shape (Some plan) shape = shape.claims

-- The counts of two seats are within the done number.
pub counts_low : (s : System) (n m : ℕ) (v w : SeatView) → Orderly s → m ≢ n → slice_get s.views n ≡ Some v → slice_get s.views m ≡ Some w → v.counts + w.counts ≤ s.done
counts_low s n m v w h two e e' = let a = total_two (λ u. u.counts) s.views n m v w two e e' in let b = h.sound.counts.sum in omega arith

pub count_words : (s : System) (n : ℕ) (v : SeatView) → Orderly s → slice_get s.views n ≡ Some v → possible s (Count n) ≡ true → (s.done < segments_in s.plan) × (v.counts < segments_in s.plan)
count_words s n v h e can =
    let r = live_seat s n (λ view. nat_lt view.counts (length view.claims)) can in
    let same : r.0 ≡ v = some_same r.0 v (sym r.1 ∙ e) in
    let less : v.counts < length v.claims = subst (λ (u : SeatView). u.counts < length u.claims) same (less_of r.0.counts (length r.0.claims) r.3) in
    let low = count_low s n v h e less in let c = claim_count s h in let a = low.0 in let b = low.1 in (omega arith, omega arith)

pub loan_low : (s : System) (n : ℕ) (v : SeatView) (loan : ℕ × Key) → Orderly s → slice_get s.views n ≡ Some v → v.loan ≡ Some loan → (loan.0 < length s.places) × (loan.0 < length s.home)
loan_low s n v loan h e is = key_low s loan.1 loan.0 h (h.sound.places.loan_keys n v e loan is)

pub loan_there : (s : System) (n : ℕ) (v : SeatView) (loan : ℕ × Key) → slice_get s.views n ≡ Some v → possible s (Return n) ≡ true → v.loan ≡ Some loan → loan_of (live_view s.views n) ≡ Some loan
loan_there s n v loan e can is =
    let r = live_seat s n (λ view. is_some view.loan) can in
    let same : r.0 ≡ v = some_same r.0 v (sym r.1 ∙ e) in
    ap loan_of (live_is s.views n r.0 r.1 r.2 ∙ ap Some same) ∙ is

pub seat_low : (s : System) (n : ℕ) (v : SeatView) → slice_get s.views n ≡ Some v → n < length s.views
seat_low s n v e = within s.views n v e

-- a seat for which a test holds is one of the views
pub seat_there : (s : System) (n : ℕ) (test : SeatView → Bool) → through s n test ≡ true → n < length s.views
seat_there s n test can = let r = live_seat s n test can in seat_low s n r.0 r.1

-- and so is a seat that another may take in
pub other_there : (s : System) (n m : ℕ) → possible s (Join n m) ≡ true → m < length s.views
other_there s n m can =
    let others : Bool = through s m (λ other. (length other.turns == 0) && is_none other.loan) in
    let r = live_seat s n (λ view. not (m == n) && others) can in
    seat_there s m (λ other. (length other.turns == 0) && is_none other.loan) (and_right (not (m == n)) others r.3)

-- a segment that a seat may claim has a word
pub claim_there : (s : System) (n segment : ℕ) → possible s (Claim n segment) ≡ true → segment < length s.claims
claim_there s n segment can =
    let r = live_seat s n (λ view. is_open (slice_get s.claims segment)) can in
    within s.claims segment Open (open_is (slice_get s.claims segment) r.3)

-- What the test of Join says of the two seats.
pub join_seats : (s : System) (n m : ℕ) (v w : SeatView) → slice_get s.views n ≡ Some v → slice_get s.views m ≡ Some w → possible s (Join n m) ≡ true → (m ≢ n) × (live_view s.views m ≡ Some w)
join_seats s n m v w e e' can =
    let others : Bool = through s m (λ other. (length other.turns == 0) && is_none other.loan) in
    let r = live_seat s n (λ view. not (m == n) && others) can in
    let two : m ≢ n = λ same. true≢false (sym (eq-eqb m n same) ∙ not_true (m == n) (and_left (not (m == n)) others r.3)) in
    let q = live_seat s m (λ other. (length other.turns == 0) && is_none other.loan) (and_right (not (m == n)) others r.3) in
    (two, live_is s.views m q.0 q.1 q.2 ∙ ap Some (some_same q.0 w (sym q.1 ∙ e')))
