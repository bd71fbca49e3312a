-- Lemmas on what a match, a change and an order that comes to rest keep.
use Rattle.std.proofs.Common.{◌≡◌, ◌≢◌, ◌⊎◌, ℕ, suc, zero, ◌+◌, ◌-◌, ◌<◌, ◌≤◌, Bool, true, false, not, cond, ◌&&◌, eqb, List, [], ◌∷◌, ◌++◌, Option, Some, None, All, length, get_or, sym, ap, refl, ◌∙◌, arith, inl, inr, find, filter, subst, sum_by, count_by, Contains, append_assoc, length-append}
use Rattle.std.specs.Prelude.{min, bytes_eq}
use Rattle.std.specs.List.{AllByRecursion, AllPass}
use Rattle.std.proofs.lemmas.Bool.{cases_Bool, cases_eq, cases_lt, eq-eqb, ne_eqb}
use Rattle.std.proofs.lemmas.List.Elements.{All-from_recursion, recursion_from_All, Contains-get_or}
use Rattle.std.proofs.lemmas.List.Sums.{sum_by-append, sum_by-cons}
use Rattle.market_types.specs.declared.order.Side.{Side}
use Rattle.market_types.specs.declared.order.Side.TheVariants.{Buy, Sell}
use Rattle.market_types.specs.declared.order.Token.{Token}
use Rattle.price_time_book.specs.declared.resting.Fill.{Fill}
use Rattle.price_time_book.specs.declared.resting.Resting.{Resting}
use Rattle.price_time_book.specs.Kept.{WasIn}
use Rattle.price_time_book.specs.Matched.{Matching, after_fill, completed, fill_of, matched, matched_by, with_fill, with_next}
use Rattle.price_time_book.specs.Next.{crosses, crossing_of, next_of}
use Rattle.price_time_book.specs.Orders.{changed, order_of, order_with, reduced, with_order, without}
use Rattle.price_time_book.specs.Sides.{depth_of, is_on, is_same_side, is_within, opposite_of}
use Rattle.price_time_book.proofs.Changes.{each-filter, each-push, each-with, keep_all, leave_all, length-changed, orderly-changed, orderly-push}
use Rattle.price_time_book.specs.Orderly.{IsOrderly, IsRising}
use Rattle.std.proofs.lemmas.Bool.Decides.{nat_tests}
use Rattle.price_time_book.proofs.Matching.{IsAmong, among-filter, completed_goes, first_among, still}
use Rattle.price_time_book.proofs.Places.{each_found, found_by_reference}

-- ---- the way of an incoming order
going_on : (o : Resting) (m : Matching) → m.shares ≢ 0 → with_next (Some o) m ≡ with_fill (fill_of m.shares o) m
going_on o m some = let b : eqb m.shares 0 ≡ false = ne_eqb m.shares 0 some in ap (λ c. cond c m (with_fill (fill_of m.shares o) m)) b

-- what each fill keeps, the whole way keeps
pub along : (I : Matching → Type 0) (side : Side) (limit : ℕ) → ((m : Matching) (o : Resting) → next_of m.book side limit ≡ Some o → m.shares ≢ 0 → I m → I (with_fill (fill_of m.shares o) m)) → (n : ℕ) (m : Matching) → I m → I (matched_by n side limit m)
along I side limit f zero m i = i
along I side limit f (suc n) m i = along I side limit f n (with_next (next_of m.book side limit) m) (by_next (next_of m.book side limit) refl)
  where
    by_next : (next : Option Resting) → next_of m.book side limit ≡ next → I (with_next next m)
    by_next None e = i
    by_next (Some o) e =
        elim (cases_eq m.shares 0) [
          | inl h ↦ subst I (sym (still (Some o) m h)) i
          | inr h ↦ subst I (sym (going_on o m h)) (f m o e h i)
        ]

-- ---- the next order
next_among : (side : Side) (limit : ℕ) (w : List Resting) (o : Resting) → next_of w side limit ≡ Some o → IsAmong o w
next_among side limit w o e = among-filter (crosses side limit) o w (first_among (opposite_of side) o (filter (crosses side limit) w) e)

passes_kept : (p : Resting → Bool) (o x : Resting) (w : List Resting) → p x ≡ true → (IsAmong o (filter p w) → p o ≡ true) → IsAmong o (x ∷ filter p w) → p o ≡ true
passes_kept p o x w h f (inl k) = subst (λ (y : Resting). p y ≡ true) k h
passes_kept p o x w h f (inr k) = f k

among_passes : (p : Resting → Bool) (o : Resting) (w : List Resting) → IsAmong o (filter p w) → p o ≡ true
among_passes p o [] a = absurd a
among_passes p o (x ∷ w) a =
    elim (cases_Bool (p x)) [
      | inl h ↦ passes_kept p o x w h (among_passes p o w) (subst (λ b. IsAmong o (cond b (x ∷ filter p w) (filter p w))) h a)
      | inr h ↦ among_passes p o w (subst (λ b. IsAmong o (cond b (x ∷ filter p w) (filter p w))) h a)
    ]

pub next_crosses : (side : Side) (limit : ℕ) (w : List Resting) (o : Resting) → next_of w side limit ≡ Some o → crosses side limit o ≡ true
next_crosses side limit w o e = among_passes (crosses side limit) o w (first_among (opposite_of side) o (filter (crosses side limit) w) e)

each_among : (P : Resting → Type 0) (o : Resting) (w : List Resting) → AllByRecursion P w → IsAmong o w → P o
each_among P o [] a h = absurd h
each_among P o (x ∷ w) a (inl k) = subst P k a.0
each_among P o (x ∷ w) a (inr k) = each_among P o w a.1 k

pub next_each : (P : Resting → Type 0) (side : Side) (limit : ℕ) (w : List Resting) (o : Resting) → next_of w side limit ≡ Some o → AllByRecursion P w → P o
next_each P side limit w o e a = each_among P o w a (next_among side limit w o e)

pub next_held : (side : Side) (limit : ℕ) (w : List Resting) (o : Resting) → next_of w side limit ≡ Some o → Contains w o
next_held side limit w o e = held o w (next_among side limit w o e)
  where
    held : (o : Resting) (w : List Resting) → IsAmong o w → Contains w o
    held o [] a = absurd a
    held o (x ∷ w) (inl k) = (zero, omega arith, k)
    held o (x ∷ w) (inr k) = let c = held o w k in (suc c.0, omega (arith, c.1), c.2)

pub next_passes : (p : Resting → Bool) (w : List Resting) (side : Side) (limit : ℕ) (o : Resting) → next_of w side limit ≡ Some o → AllPass p w → p o ≡ true
next_passes p w side limit o e a = next_each (λ (x : Resting). p x ≡ true) side limit w o e (recursion_from_All (λ (x : Resting). p x ≡ true) w a)

-- ---- what holds of all orders
-- it stays true of an order that has fewer open shares
abbrev StaysByFills : (Resting → Type 0) → Type 0
StaysByFills P = (o : Resting) (left : ℕ) → left ≤ o.left → P o → P (record o { left = left })

-- it stays true of an order that is lowered with its intended size
abbrev StaysByReduce : (Resting → Type 0) → Type 0
StaysByReduce P = (o : Resting) (left : ℕ) → left ≤ o.left → P o → P (reduced left o)

pub each-changed : (P : Resting → Type 0) (o : Resting) (w : List Resting) → P o → AllByRecursion P w → AllByRecursion P (changed o w)
each-changed P o w p a = elim (eqb o.left 0) as (λ b. AllByRecursion P (cond b (without o.reference w) (with_order o w))) [
  | true ↦ each-filter P (λ (x : Resting). not (eqb x.reference o.reference)) w a
  | false ↦ each-with P o w p a
]

each-fill : (P : Resting → Type 0) → StaysByFills P → (side : Side) (limit shares : ℕ) (w : List Resting) (o : Resting) → next_of w side limit ≡ Some o → AllByRecursion P w → AllByRecursion P (after_fill (fill_of shares o) w)
each-fill P g side limit shares w o e a =
    each-changed P (record o { left = o.left - min o.left shares }) w (g o (o.left - min o.left shares) (omega arith) (next_each P side limit w o e a)) a

each-matched : (P : Resting → Type 0) → StaysByFills P → (side : Side) (limit : ℕ) (m : Matching) → AllByRecursion P m.book → AllByRecursion P (completed side limit m).book
each-matched P g side limit m a =
    along (λ (k : Matching). AllByRecursion P k.book) side limit (λ k o e some i. each-fill P g side limit k.shares k.book o e i) (length m.book) m a

pub all-fill : (P : Resting → Type 0) → StaysByFills P → (side : Side) (limit shares : ℕ) (w : List Resting) (o : Resting) → next_of w side limit ≡ Some o → All P w → All P (after_fill (fill_of shares o) w)
all-fill P g side limit shares w o e a = All-from_recursion P (after_fill (fill_of shares o) w) (each-fill P g side limit shares w o e (recursion_from_All P w a))

pub all-matched : (P : Resting → Type 0) → StaysByFills P → (side : Side) (limit : ℕ) (m : Matching) → All P m.book → All P (completed side limit m).book
all-matched P g side limit m a = All-from_recursion P (completed side limit m).book (each-matched P g side limit m (recursion_from_All P m.book a))

pub all-reduced : (P : Resting → Type 0) → StaysByReduce P → (reference left : ℕ) (w : List Resting) (o : Resting) → order_with reference w ≡ Some o → left ≤ o.left → All P w → All P (changed (reduced left o) w)
all-reduced P g reference left w o e le a =
    let r = recursion_from_All P w a in
    All-from_recursion P (changed (reduced left o) w) (each-changed P (reduced left o) w (g o left le (each_found P (λ (x : Resting). eqb x.reference reference) w o r e)) r)

pub all-rested : (P : Resting → Type 0) (w : List Resting) (o : Resting) → P o → All P w → All P (w ++ o ∷ [])
all-rested P w o p a = All-from_recursion P (w ++ o ∷ []) (each-push P w o (recursion_from_All P w a) p)

pub all-changed : (p : Resting → Bool) (o : Resting) (w : List Resting) → p o ≡ true → AllPass p w → AllPass p (changed o w)
all-changed p o w h a = All-from_recursion (λ (x : Resting). p x ≡ true) (changed o w) (each-changed (λ (x : Resting). p x ≡ true) o w h (recursion_from_All (λ (x : Resting). p x ≡ true) w a))

-- ---- where an order was
was_itself : (w : List Resting) → All (WasIn w) w
was_itself w = λ k d h. record { order = get_or w k d; held = Contains-get_or w k d h; same = refl; left = omega arith; intended = omega arith }

was-lower : (w : List Resting) → StaysByFills (WasIn w)
was-lower w o left le h = record {
  order = h.order;
  held = h.held;
  same = ap (λ (y : Resting). record y { left = left }) h.same;
  left = omega (arith, le, h.left);
  intended = h.intended;
}

was-reduced : (w : List Resting) → StaysByReduce (WasIn w)
was-reduced w o left le h = record {
  order = h.order;
  held = h.held;
  same = ap (λ (y : Resting). record y { left = left; intended = o.intended - (o.left - left) }) h.same;
  left = omega (arith, le, h.left);
  intended = omega (arith, h.intended);
}

pub was-fill : (side : Side) (limit shares : ℕ) (w : List Resting) (o : Resting) → next_of w side limit ≡ Some o → All (WasIn w) (after_fill (fill_of shares o) w)
was-fill side limit shares w o e = all-fill (WasIn w) (was-lower w) side limit shares w o e (was_itself w)

pub was-matched : (side : Side) (limit : ℕ) (m : Matching) → All (WasIn m.book) (completed side limit m).book
was-matched side limit m = all-matched (WasIn m.book) (was-lower m.book) side limit m (was_itself m.book)

pub was-reduced_to : (reference left : ℕ) (w : List Resting) (o : Resting) → order_with reference w ≡ Some o → left ≤ o.left → All (WasIn w) (changed (reduced left o) w)
was-reduced_to reference left w o e le = all-reduced (WasIn w) (was-reduced w) reference left w o e le (was_itself w)

-- ---- what holds of all fills
each_fill-push : (Q : Fill → Type 0) (w : List Fill) (f : Fill) → AllByRecursion Q w → Q f → AllByRecursion Q (w ++ f ∷ [])
each_fill-push Q [] f a q = (q, tt)
each_fill-push Q (x ∷ w) f a q = (a.0, each_fill-push Q w f a.1 q)

-- of orders that have P in a book of such, each fill has Q
pub all-fills : (P : Resting → Type 0) (Q : Fill → Type 0) → StaysByFills P → (side : Side) (limit : ℕ) (m : Matching) → ((o : Resting) (shares : ℕ) → crosses side limit o ≡ true → shares ≢ 0 → shares ≤ m.shares → P o → Q (fill_of shares o)) → All P m.book → All Q m.fills → All Q (completed side limit m).fills
all-fills P Q g side limit m q a b =
    All-from_recursion Q (completed side limit m).fills (along (λ (k : Matching). (k.shares ≤ m.shares) × (AllByRecursion P k.book × AllByRecursion Q k.fills)) side limit (λ k o e some i. (omega (arith, i.0), (each-fill P g side limit k.shares k.book o e i.1.0, each_fill-push Q k.fills (fill_of k.shares o) i.1.1 (q o k.shares (next_crosses side limit k.book o e) some i.0 (next_each P side limit k.book o e i.1.0))))) (length m.book) m (omega arith, (recursion_from_All P m.book a, recursion_from_All Q m.fills b))).1.1

-- ---- counts
pub length-matched : (side : Side) (limit : ℕ) (m : Matching) → ((o : Resting) (w : List Resting) → length (changed o w) ≤ length w) → length (completed side limit m).book ≤ length m.book
length-matched side limit m less =
    along (λ (k : Matching). length k.book ≤ length m.book) side limit (λ k o e some i. omega (arith, i, less (record o { left = o.left - min o.left k.shares }) k.book)) (length m.book) m (omega arith)

count-cons : (p : Resting → Bool) (x : Resting) (w : List Resting) → count_by p (x ∷ w) ≡ cond (p x) 1 0 + count_by p w
count-cons p x w = sum_by-cons (λ (o : Resting). cond (p o) 1 0) x w

count_le-without : (p : Resting → Bool) (n : ℕ) (w : List Resting) → count_by p (without n w) ≤ count_by p w
count_le-without p n [] = omega arith
count_le-without p n (x ∷ w) = elim (not (eqb x.reference n)) as (λ b. count_by p (cond b (x ∷ without n w) (without n w)) ≤ count_by p (x ∷ w)) [
  | true ↦ omega (arith, count-cons p x (without n w), count-cons p x w, count_le-without p n w)
  | false ↦ omega (arith, count-cons p x w, count_le-without p n w)
]

abbrev counted : (Resting → Bool) → Resting → ℕ
counted p x = cond (p x) 1 0

one_of : (p : Resting → Bool) (x o : Resting) → x ≡ o → p o ≡ true → counted p x ≡ 1
one_of p x o k on = ap (counted p) k ∙ ap (λ b. cond b 1 0) on

count_lt-without : (p : Resting → Bool) (o : Resting) (w : List Resting) → IsAmong o w → p o ≡ true → count_by p (without o.reference w) < count_by p w
count_lt-without p o [] a on = absurd a
count_lt-without p o (x ∷ w) (inl k) on =
    let b : eqb x.reference o.reference ≡ true = eq-eqb x.reference o.reference (ap (λ (y : Resting). y.reference) k) in
    rw b (omega (arith, count-cons p x w, count_le-without p o.reference w, one_of p x o k on))
count_lt-without p o (x ∷ w) (inr k) on = elim (not (eqb x.reference o.reference)) as (λ b. count_by p (cond b (x ∷ without o.reference w) (without o.reference w)) < count_by p (x ∷ w)) [
  | true ↦ omega (arith, count-cons p x (without o.reference w), count-cons p x w, count_lt-without p o w k on)
  | false ↦ omega (arith, count-cons p x w, count_lt-without p o w k on)
]

first_true : (a b : Bool) → (a && b) ≡ true → a ≡ true
first_true true b e = refl
first_true false b e = e

-- a fill ends an order or takes one that passes a test out of the book
count-progress : (p : Resting → Bool) (side : Side) (limit : ℕ) (m : Matching) (o : Resting) → next_of m.book side limit ≡ Some o → p o ≡ true → o.left ≤ m.shares → count_by p (with_fill (fill_of m.shares o) m).book < count_by p m.book
count-progress p side limit m o e on le =
    let none : o.left - min o.left m.shares ≡ 0 = omega arith in
    let b : eqb (o.left - min o.left m.shares) 0 ≡ true = eq-eqb (o.left - min o.left m.shares) 0 none in
    rw b (count_lt-without p o m.book (next_among side limit m.book o e) on)

count_left : (p : Resting → Bool) (o : Resting) (w : List Resting) → IsAmong o w → p o ≡ true → 0 < count_by p w
count_left p o w a on = omega (arith, count_lt-without p o w a on)

-- where a way wants shares, its fills and the orders left that pass a test are at most so many
abbrev IsFew : (Resting → Bool) → ℕ → Matching → Type 0
IsFew p most m = (length m.fills ≤ most) × ((m.shares ≡ 0) ⊎ (length m.fills + count_by p m.book ≤ most))

few-fill : (p : Resting → Bool) (side : Side) (limit most : ℕ) → ((o : Resting) → crosses side limit o ≡ true → p o ≡ true) → (k : Matching) (o : Resting) → next_of k.book side limit ≡ Some o → k.shares ≢ 0 → IsFew p most k → IsFew p most (with_fill (fill_of k.shares o) k)
few-fill p side limit most passes k o e some (a, inl none) = absurd (some none)
few-fill p side limit most passes k o e some (a, inr i) =
    let on : p o ≡ true = passes o (next_crosses side limit k.book o e) in
    let one : length (k.fills ++ fill_of k.shares o ∷ []) ≡ length k.fills + 1 = length-append k.fills (fill_of k.shares o ∷ []) in (
      omega (arith, one, count_left p o k.book (next_among side limit k.book o e) on, i),
      elim (cases_lt k.shares o.left) [
        | inl h ↦ inl (omega arith)
        | inr h ↦ inr (omega (arith, one, i, count-progress p side limit k o e on h))
      ],
    )

few_by : (p : Resting → Bool) (side : Side) (limit : ℕ) (m : Matching) → ((o : Resting) → crosses side limit o ≡ true → p o ≡ true) → length (completed side limit m).fills ≤ length m.fills + count_by p m.book
few_by p side limit m passes =
    (along (IsFew p (length m.fills + count_by p m.book)) side limit (few-fill p side limit (length m.fills + count_by p m.book) passes) (length m.book) m (omega arith, inr (omega arith))).0

-- an incoming order has no more fills than there are orders that cross it
pub crossing_fills : (side : Side) (limit : ℕ) (m : Matching) → length (completed side limit m).fills ≤ length m.fills + crossing_of side limit m.book
crossing_fills side limit m = few_by (crosses side limit) side limit m (λ o h. h)

-- nor than there are orders on the other side
pub few_fills : (side : Side) (limit : ℕ) (m : Matching) → length (completed side limit m).fills ≤ length m.fills + depth_of (opposite_of side) m.book
few_fills side limit m = few_by (is_on (opposite_of side)) side limit m (λ o h. first_true _ _ h)

-- those that cross are some of the other side
pub few_cross : (side : Side) (limit : ℕ) (w : List Resting) → crossing_of side limit w ≤ depth_of (opposite_of side) w
few_cross side limit [] = omega arith
few_cross side limit (x ∷ w) = omega (arith, count-cons (crosses side limit) x w, count-cons (is_on (opposite_of side)) x w, few_cross side limit w, both (is_on (opposite_of side) x) (is_within side limit x.price))
  where
    both : (a b : Bool) → cond (a && b) 1 0 ≤ cond a 1 0
    both true true = omega arith
    both true false = omega arith
    both false b = omega arith

-- the fills so far stay
pub fills_grow : (side : Side) (limit : ℕ) (m : Matching) → length m.fills ≤ length (completed side limit m).fills
fills_grow side limit m =
    along (λ (k : Matching). length m.fills ≤ length k.fills) side limit (λ k o e some i. omega (arith, i, length-append k.fills (fill_of k.shares o ∷ []))) (length m.book) m (omega arith)

-- the shares of the fills and those still wanted are those wanted at first
pub shares_add_up : (side : Side) (limit : ℕ) (m : Matching) → sum_by (λ (f : Fill). f.shares) (completed side limit m).fills + (completed side limit m).shares ≡ sum_by (λ (f : Fill). f.shares) m.fills + m.shares
shares_add_up side limit m =
    along (λ (k : Matching). sum_by (λ (f : Fill). f.shares) k.fills + k.shares ≡ sum_by (λ (f : Fill). f.shares) m.fills + m.shares) side limit (λ k o e some i. step k o i) (length m.book) m refl
  where
    step : (k : Matching) (o : Resting) → sum_by (λ (f : Fill). f.shares) k.fills + k.shares ≡ sum_by (λ (f : Fill). f.shares) m.fills + m.shares → sum_by (λ (f : Fill). f.shares) (k.fills ++ fill_of k.shares o ∷ []) + (k.shares - min o.left k.shares) ≡ sum_by (λ (f : Fill). f.shares) m.fills + m.shares
    step k o i =
        let more : sum_by (λ (f : Fill). f.shares) (k.fills ++ fill_of k.shares o ∷ []) ≡ sum_by (λ (f : Fill). f.shares) k.fills + (0 + min o.left k.shares) = sum_by-append (λ (f : Fill). f.shares) k.fills (fill_of k.shares o ∷ []) in
        omega (arith, more, i)

-- ---- the way without the fills before it
abbrev prepend : List Fill → Matching → Matching
prepend fs m = record m { fills = fs ++ m.fills }

prepend-next : (next : Option Resting) (fs : List Fill) (m : Matching) → with_next next (prepend fs m) ≡ prepend fs (with_next next m)
prepend-next None fs m = refl
prepend-next (Some o) fs m = elim (eqb m.shares 0) as (λ b. cond b (prepend fs m) (with_fill (fill_of m.shares o) (prepend fs m)) ≡ prepend fs (cond b m (with_fill (fill_of m.shares o) m))) [
  | true ↦ refl
  | false ↦ ap (λ (v : List Fill). record (with_fill (fill_of m.shares o) m) { fills = v }) (append_assoc fs m.fills (fill_of m.shares o ∷ []))
]

prepend-by : (n : ℕ) (side : Side) (limit : ℕ) (fs : List Fill) (m : Matching) → matched_by n side limit (prepend fs m) ≡ prepend fs (matched_by n side limit m)
prepend-by zero side limit fs m = refl
prepend-by (suc n) side limit fs m = ap (matched_by n side limit) (prepend-next (next_of m.book side limit) fs m) ∙ prepend-by n side limit fs (with_next (next_of m.book side limit) m)

append-nil : (fs : List Fill) → fs ++ [] ≡ fs
append-nil [] = refl
append-nil (f ∷ fs) = ap (λ v. f ∷ v) (append-nil fs)

pub continues : (side : Side) (limit : ℕ) (m : Matching) → completed side limit m ≡ record { fills = m.fills ++ (matched m.book side limit m.shares).fills; book = (matched m.book side limit m.shares).book; shares = (matched m.book side limit m.shares).shares }
continues side limit m =
    ap (λ (v : List Fill). completed side limit (record m { fills = v })) (sym (append-nil m.fills)) ∙ prepend-by (length m.book) side limit m.fills (record m { fills = [] })

pub begins : (book : List Resting) (side : Side) (limit shares : ℕ) (o : Resting) → next_of book side limit ≡ Some o → shares ≢ 0 → matched book side limit shares ≡ record { fills = fill_of shares o ∷ (matched (after_fill (fill_of shares o) book) side limit (shares - min o.left shares)).fills; book = (matched (after_fill (fill_of shares o) book) side limit (shares - min o.left shares)).book; shares = (matched (after_fill (fill_of shares o) book) side limit (shares - min o.left shares)).shares }
begins book side limit shares o e some =
    completed_goes side limit (record { fills = []; book = book; shares = shares }) o e some ∙ continues side limit (with_fill (fill_of shares o) (record { fills = []; book = book; shares = shares }))

-- ---- tokens
pub all_differ : (p : Resting → Bool) (w : List Resting) → find p w ≡ None → All (λ (o : Resting). p o ≡ false) w
all_differ p w e = All-from_recursion (λ (o : Resting). p o ≡ false) w (each w e)
  where
    each : (w : List Resting) → find p w ≡ None → AllByRecursion (λ (o : Resting). p o ≡ false) w
    each [] e = tt
    each (x ∷ w) e = elim (cases_Bool (p x)) [
      | inl h ↦ absurd (taken h)
      | inr h ↦ (h, each w (left h))
    ]
      where
        taken : p x ≡ true → ⊥
        taken h = let k : cond (p x) (Some x) (find p w) ≡ None = e in (let m : cond true (Some x) (find p w) ≡ None = rw h at k in cc)

        left : p x ≡ false → find p w ≡ None
        left h = let k : cond (p x) (Some x) (find p w) ≡ None = e in (let m : cond false (Some x) (find p w) ≡ None = rw h at k in m)

pub none_found : (p : Resting → Bool) (w : List Resting) → All (λ (o : Resting). p o ≡ false) w → find p w ≡ None
none_found p w a = each w (recursion_from_All (λ (o : Resting). p o ≡ false) w a)
  where
    each : (w : List Resting) → AllByRecursion (λ (o : Resting). p o ≡ false) w → find p w ≡ None
    each [] a = refl
    each (x ∷ w) a = rw a.0 (each w a.1)

-- ---- sides
pub both_sides : (w : List Resting) → depth_of Buy w + depth_of Sell w ≡ length w
both_sides [] = refl
both_sides (x ∷ w) = omega (arith, count-cons (is_on Buy) x w, count-cons (is_on Sell) x w, both_sides w, one_side x.side)
  where
    one_side : (s : Side) → cond (is_same_side s Buy) 1 0 + cond (is_same_side s Sell) 1 0 ≡ 1
    one_side Buy = refl
    one_side Sell = refl

-- ---- the other orders
pub others_stay : (o : Resting) (w : List Resting) → without o.reference (changed o w) ≡ without o.reference w
others_stay o w = elim (eqb o.left 0) as (λ b. without o.reference (cond b (without o.reference w) (with_order o w)) ≡ without o.reference w) [ true ↦ twice w | false ↦ instead w ]
  where
    twice : (w : List Resting) → without o.reference (without o.reference w) ≡ without o.reference w
    twice [] = refl
    twice (x ∷ w) = elim (cases_Bool (not (eqb x.reference o.reference))) [
      | inl h ↦ rw (h, h) (ap (λ v. x ∷ v) (twice w))
      | inr h ↦ rw h (twice w)
    ]

    instead : (w : List Resting) → without o.reference (with_order o w) ≡ without o.reference w
    instead [] = refl
    instead (x ∷ w) = elim (cases_eq x.reference o.reference) [
      | inl h ↦ (let b : eqb x.reference o.reference ≡ true = eq-eqb x.reference o.reference h in let s : eqb o.reference o.reference ≡ true = eq-eqb o.reference o.reference refl in rw (b, s) (instead w))
      | inr h ↦ (let b : eqb x.reference o.reference ≡ false = ne_eqb x.reference o.reference h in rw (b, b) (ap (λ v. x ∷ v) (instead w)))
    ]

-- ---- the laws at known properties
pub references-fill : (n : ℕ) (side : Side) (limit shares : ℕ) (w : List Resting) (o : Resting) → next_of w side limit ≡ Some o → All (λ (x : Resting). x.reference < n) w → All (λ (x : Resting). x.reference < n) (after_fill (fill_of shares o) w)
references-fill n = all-fill (λ (x : Resting). x.reference < n) (λ o left le h. h)

pub references-matched : (n : ℕ) (side : Side) (limit : ℕ) (m : Matching) → All (λ (x : Resting). x.reference < n) m.book → All (λ (x : Resting). x.reference < n) (completed side limit m).book
references-matched n = all-matched (λ (x : Resting). x.reference < n) (λ o left le h. h)

pub references-reduced : (n reference left : ℕ) (w : List Resting) (o : Resting) → order_with reference w ≡ Some o → left ≤ o.left → All (λ (x : Resting). x.reference < n) w → All (λ (x : Resting). x.reference < n) (changed (reduced left o) w)
references-reduced n = all-reduced (λ (x : Resting). x.reference < n) (λ o left le h. h)

abbrev is_of : ℕ → Token → Resting → Bool
is_of agent token o = eqb o.agent agent && bytes_eq o.token.0 token.0

pub token-fill : (agent : ℕ) (token : Token) (side : Side) (limit shares : ℕ) (w : List Resting) (o : Resting) → next_of w side limit ≡ Some o → order_of agent token w ≡ None → order_of agent token (after_fill (fill_of shares o) w) ≡ None
token-fill agent token side limit shares w o e f =
    none_found (is_of agent token) (after_fill (fill_of shares o) w) (all-fill (λ (x : Resting). is_of agent token x ≡ false) (λ o left le h. h) side limit shares w o e (all_differ (is_of agent token) w f))

pub token-matched : (agent : ℕ) (token : Token) (side : Side) (limit : ℕ) (m : Matching) → order_of agent token m.book ≡ None → order_of agent token (completed side limit m).book ≡ None
token-matched agent token side limit m f =
    none_found (is_of agent token) (completed side limit m).book (all-matched (λ (x : Resting). is_of agent token x ≡ false) (λ o left le h. h) side limit m (all_differ (is_of agent token) m.book f))

pub token-reduced : (agent : ℕ) (token : Token) (reference left : ℕ) (w : List Resting) (o : Resting) → order_with reference w ≡ Some o → left ≤ o.left → order_of agent token w ≡ None → order_of agent token (changed (reduced left o) w) ≡ None
token-reduced agent token reference left w o e le f =
    none_found (is_of agent token) (changed (reduced left o) w) (all-reduced (λ (x : Resting). is_of agent token x ≡ false) (λ o left le h. h) reference left w o e le (all_differ (is_of agent token) w f))

pub token-rested : (agent : ℕ) (token : Token) (w : List Resting) (o : Resting) → is_of agent token o ≡ false → order_of agent token w ≡ None → order_of agent token (w ++ o ∷ []) ≡ None
token-rested agent token w o n f =
    none_found (is_of agent token) (w ++ o ∷ []) (all-rested (λ (x : Resting). is_of agent token x ≡ false) w o n (all_differ (is_of agent token) w f))

pub length_le-matched : (side : Side) (limit : ℕ) (m : Matching) → length (completed side limit m).book ≤ length m.book
length_le-matched side limit m = length-matched side limit m length-changed

-- each fill is of an order that crosses, and gives no more than its open shares and those wanted
pub fills-cross : (book : List Resting) (side : Side) (limit shares : ℕ) → All (λ (f : Fill). crosses side limit f.resting ≡ true) (matched book side limit shares).fills
fills-cross book side limit shares =
    all-fills (λ _. Unit {0}) (λ (f : Fill). crosses side limit f.resting ≡ true) (λ o left le h. h) side limit (record { fills = []; book = book; shares = shares }) (λ o k c some le p. c) (λ k d h. tt) (λ k d h. absurd (omega arith))

pub fills-within : (book : List Resting) (side : Side) (limit shares : ℕ) → All (λ (f : Fill). (f.shares ≤ f.resting.left) × (f.shares ≤ shares)) (matched book side limit shares).fills
fills-within book side limit shares =
    all-fills (λ _. Unit {0}) (λ (f : Fill). (f.shares ≤ f.resting.left) × (f.shares ≤ shares)) (λ o left le h. h) side limit (record { fills = []; book = book; shares = shares }) (λ o k c some le p. (omega arith, omega arith)) (λ k d h. tt) (λ k d h. absurd (omega arith))

-- what a test says of all orders, whatever shares they have, it says of each that gives
pub fills-tested : (p : Resting → Bool) → ((o : Resting) (left : ℕ) → left ≤ o.left → p o ≡ true → p (record o { left = left }) ≡ true) → (book : List Resting) (side : Side) (limit shares : ℕ) → All (λ (o : Resting). p o ≡ true) book → All (λ (f : Fill). p f.resting ≡ true) (matched book side limit shares).fills
fills-tested p g book side limit shares a =
    all-fills (λ (o : Resting). p o ≡ true) (λ (f : Fill). p f.resting ≡ true) g side limit (record { fills = []; book = book; shares = shares }) (λ o k c some le h. h) a (λ k d h. absurd (omega arith))

pub fills-was : (book : List Resting) (side : Side) (limit shares : ℕ) → All (λ (f : Fill). WasIn book f.resting) (matched book side limit shares).fills
fills-was book side limit shares =
    all-fills (WasIn book) (λ (f : Fill). WasIn book f.resting) (was-lower book) side limit (record { fills = []; book = book; shares = shares }) (λ o k c some le h. h) (was_itself book) (λ k d h. absurd (omega arith))

-- ---- the shares of the book
abbrev open_shares : List Resting → ℕ
open_shares w = sum_by (λ (o : Resting). o.left) w

open-cons : (x : Resting) (w : List Resting) → open_shares (x ∷ w) ≡ x.left + open_shares w
open-cons x w = sum_by-cons (λ (o : Resting). o.left) x w

apart : (x o : Resting) (w : List Resting) → AllByRecursion (λ (y : Resting). x.reference < y.reference) w → IsAmong o w → eqb x.reference o.reference ≡ false
apart x o w a k = let more : x.reference < o.reference = each_among (λ (y : Resting). x.reference < y.reference) o w a k in grind (arith, nat_tests)

open-without : (o : Resting) (w : List Resting) → IsRising w → IsAmong o w → open_shares (without o.reference w) + o.left ≡ open_shares w
open-without o [] r a = absurd a
open-without o (x ∷ w) r (inl k) =
    let b : eqb x.reference o.reference ≡ true = eq-eqb x.reference o.reference (ap (λ (y : Resting). y.reference) k) in
    let none : without o.reference w ≡ w = keep_all o.reference w (subst (λ (y : Resting). AllByRecursion (λ (z : Resting). y.reference < z.reference) w) k r.0) in
    rw b (omega (arith, open-cons x w, ap open_shares none, ap (λ (y : Resting). y.left) k))
open-without o (x ∷ w) r (inr k) =
    let b : eqb x.reference o.reference ≡ false = apart x o w r.0 k in
    rw b (omega (arith, open-cons x w, open-cons x (without o.reference w), open-without o w r.1 k))

open-with : (x o : Resting) (w : List Resting) → x.reference ≡ o.reference → IsRising w → IsAmong o w → open_shares (with_order x w) + o.left ≡ open_shares w + x.left
open-with x o [] e r a = absurd a
open-with x o (y ∷ w) e r (inl k) =
    let same : y.reference ≡ x.reference = ap (λ (z : Resting). z.reference) k ∙ sym e in
    let b : eqb y.reference x.reference ≡ true = eq-eqb y.reference x.reference same in
    let none : with_order x w ≡ w = leave_all x w (subst (λ (n : ℕ). AllByRecursion (λ (z : Resting). n < z.reference) w) same r.0) in
    rw b (omega (arith, open-cons y w, open-cons x (with_order x w), ap open_shares none, ap (λ (z : Resting). z.left) k))
open-with x o (y ∷ w) e r (inr k) =
    let b : eqb y.reference x.reference ≡ false = subst (λ (n : ℕ). eqb y.reference n ≡ false) (sym e) (apart y o w r.0 k) in
    rw b (omega (arith, open-cons y w, open-cons y (with_order x w), open-with x o w e r.1 k))

open-changed : (x o : Resting) (w : List Resting) → x.reference ≡ o.reference → IsRising w → IsAmong o w → open_shares (changed x w) + o.left ≡ open_shares w + x.left
open-changed x o w e r a =
    elim (cases_eq x.left 0) [
      | inl h ↦
          let b : eqb x.left 0 ≡ true = eq-eqb x.left 0 h in
          let gone : open_shares (without x.reference w) + o.left ≡ open_shares w = subst (λ (n : ℕ). open_shares (without n w) + o.left ≡ open_shares w) (sym e) (open-without o w r a) in
          rw b (omega (arith, gone, h))
      | inr h ↦ (let b : eqb x.left 0 ≡ false = ne_eqb x.left 0 h in rw b (open-with x o w e r a))
    ]

pub open-fill : (side : Side) (limit shares : ℕ) (w : List Resting) (o : Resting) → IsOrderly w → next_of w side limit ≡ Some o → open_shares (after_fill (fill_of shares o) w) + min o.left shares ≡ open_shares w
open-fill side limit shares w o h e =
    omega (arith, open-changed (record o { left = o.left - min o.left shares }) o w refl h.rising (next_among side limit w o e))

pub orderly-fill : (side : Side) (limit shares : ℕ) (w : List Resting) (o : Resting) → IsOrderly w → next_of w side limit ≡ Some o → IsOrderly (after_fill (fill_of shares o) w)
orderly-fill side limit shares w o h e =
    let within : o.left ≤ o.intended = next_each (λ (x : Resting). x.left ≤ x.intended) side limit w o e h.within in
    orderly-changed (record o { left = o.left - min o.left shares }) w (omega arith) h

pub orderly-matched : (side : Side) (limit : ℕ) (m : Matching) → IsOrderly m.book → IsOrderly (completed side limit m).book
orderly-matched side limit m h = along (λ (k : Matching). IsOrderly k.book) side limit (λ k o e some i. orderly-fill side limit k.shares k.book o i e) (length m.book) m h

-- what the fills took is what the book has less
pub book_adds_up : (side : Side) (limit : ℕ) (m : Matching) → IsOrderly m.book → open_shares (completed side limit m).book + sum_by (λ (f : Fill). f.shares) (completed side limit m).fills ≡ open_shares m.book + sum_by (λ (f : Fill). f.shares) m.fills
book_adds_up side limit m h =
    (along (λ (k : Matching). IsOrderly k.book × (open_shares k.book + sum_by (λ (f : Fill). f.shares) k.fills ≡ open_shares m.book + sum_by (λ (f : Fill). f.shares) m.fills)) side limit (λ k o e some i. (orderly-fill side limit k.shares k.book o i.0 e, step k o e i.0 i.1)) (length m.book) m (h, refl)).1
  where
    step : (k : Matching) (o : Resting) → next_of k.book side limit ≡ Some o → IsOrderly k.book → open_shares k.book + sum_by (λ (f : Fill). f.shares) k.fills ≡ open_shares m.book + sum_by (λ (f : Fill). f.shares) m.fills → open_shares (after_fill (fill_of k.shares o) k.book) + sum_by (λ (f : Fill). f.shares) (k.fills ++ fill_of k.shares o ∷ []) ≡ open_shares m.book + sum_by (λ (f : Fill). f.shares) m.fills
    step k o e h i =
        let more : sum_by (λ (f : Fill). f.shares) (k.fills ++ fill_of k.shares o ∷ []) ≡ sum_by (λ (f : Fill). f.shares) k.fills + (0 + min o.left k.shares) = sum_by-append (λ (f : Fill). f.shares) k.fills (fill_of k.shares o ∷ []) in
        omega (arith, more, i, open-fill side limit k.shares k.book o h e)

-- each fill of an orderly book gives some shares
pub fills-give : (book : List Resting) (side : Side) (limit shares : ℕ) → IsOrderly book → All (λ (f : Fill). 0 < f.shares) (matched book side limit shares).fills
fills-give book side limit shares h =
    All-from_recursion (λ (f : Fill). 0 < f.shares) (matched book side limit shares).fills (along (λ (k : Matching). IsOrderly k.book × AllByRecursion (λ (f : Fill). 0 < f.shares) k.fills) side limit (λ k o e some i. (orderly-fill side limit k.shares k.book o i.0 e, each_fill-push (λ (f : Fill). 0 < f.shares) k.fills (fill_of k.shares o) i.1 (omega (arith, next_each (λ (x : Resting). 0 < x.left) side limit k.book o e i.0.live, some)))) (length book) (record { fills = []; book = book; shares = shares }) (h, tt)).1

few_gifts : (w : List Fill) → AllByRecursion (λ (f : Fill). 0 < f.shares) w → length w ≤ sum_by (λ (f : Fill). f.shares) w
few_gifts [] a = omega arith
few_gifts (f ∷ w) a = omega (arith, sum_by-cons (λ (g : Fill). g.shares) f w, a.0, few_gifts w a.1)

-- so there are no more fills than shares wanted
pub fills-few : (book : List Resting) (side : Side) (limit shares : ℕ) → IsOrderly book → length (matched book side limit shares).fills ≤ shares
fills-few book side limit shares h =
    omega (
      arith,
      few_gifts (matched book side limit shares).fills (recursion_from_All (λ (f : Fill). 0 < f.shares) (matched book side limit shares).fills (fills-give book side limit shares h)),
      shares_add_up side limit (record { fills = []; book = book; shares = shares }),
    )

-- nor than the lesser of those and the orders of the other side
pub fills-least : (book : List Resting) (side : Side) (limit shares : ℕ) → IsOrderly book → length (matched book side limit shares).fills ≤ min (depth_of (opposite_of side) book) shares
fills-least book side limit shares h = omega (arith, fills-few book side limit shares h, few_fills side limit (record { fills = []; book = book; shares = shares }))

-- nor than the orders that cross
pub fills-crossing : (book : List Resting) (side : Side) (limit shares : ℕ) → length (matched book side limit shares).fills ≤ crossing_of side limit book
fills-crossing book side limit shares = omega (arith, crossing_fills side limit (record { fills = []; book = book; shares = shares }))

-- ---- a lowered order
found_among : (p : Resting → Bool) (w : List Resting) (o : Resting) → find p w ≡ Some o → IsAmong o w
found_among p [] o e = absurd (cc e)
found_among p (x ∷ w) o e = elim (cases_Bool (p x)) [
  | inl h ↦ inl (head h)
  | inr h ↦ inr (found_among p w o (tail h))
]
  where
    head : p x ≡ true → x ≡ o
    head h = let k : cond (p x) (Some x) (find p w) ≡ Some o = e in (let m : cond true (Some x) (find p w) ≡ Some o = rw h at k in cc)

    tail : p x ≡ false → find p w ≡ Some o
    tail h = let k : cond (p x) (Some x) (find p w) ≡ Some o = e in (let m : cond false (Some x) (find p w) ≡ Some o = rw h at k in m)

abbrev has : ℕ → Resting → Bool
has reference o = eqb o.reference reference

pub orderly-lowered : (reference left : ℕ) (w : List Resting) (o : Resting) → IsOrderly w → order_with reference w ≡ Some o → left < o.left → IsOrderly (changed (reduced left o) w)
orderly-lowered reference left w o h e less =
    let within : o.left ≤ o.intended = each_found (λ (x : Resting). x.left ≤ x.intended) (has reference) w o h.within e in
    orderly-changed (reduced left o) w (omega arith) h

pub open-lowered : (reference left : ℕ) (w : List Resting) (o : Resting) → IsOrderly w → order_with reference w ≡ Some o → left < o.left → open_shares (changed (reduced left o) w) + (o.left - left) ≡ open_shares w
open-lowered reference left w o h e less = omega (arith, open-changed (reduced left o) o w refl h.rising (found_among (has reference) w o e))

pub orderly-rested : (w : List Resting) (o : Resting) → IsOrderly w → All (λ (x : Resting). x.reference < o.reference) w → 0 < o.left → o.left ≤ o.intended → length w < 4294967296 → IsOrderly (w ++ o ∷ [])
orderly-rested w o h later some le few = orderly-push w o h some le few later

pub by_reference : (agent : ℕ) (token : Token) (w : List Resting) (o : Resting) → IsOrderly w → order_of agent token w ≡ Some o → order_with o.reference w ≡ Some o
by_reference agent token w o h e = found_by_reference (is_of agent token) w o h.rising e
