-- Lemmas on the changes that are due at a time.
use Rattle.std.proofs.Common.{◌≡◌, ℕ, ◌+◌, ◌<◌, ◌≤◌, Bool, true, false, cond, leb, ltb, List, [], ◌∷◌, Some, None, Option, option_map, length, get_or, count_by, refl, arith, suc, zero}
use Rattle.std.proofs.lemmas.Bool.Decides.{nat_tests}
use Rattle.std.proofs.lemmas.List.Sums.{count_by-le-length, sum_by-cons}
use Rattle.market_rules.specs.declared.changes.Dated.{Dated}
use Rattle.market_rules.specs.declared.error.RuleError.TheVariants.{DatesNotRising}
use Rattle.market_rules.specs.Breaks.{break_after, first_break}
use Rattle.market_rules.specs.Changes.{dates_refusal, is_due, dated_by}

-- whether a change may follow another
abbrev follows : Dated → Dated → Bool
follows x y = leb x.time y.time

-- each change of a list that never leaves its order follows the one before it, and so does the rest of the list
no_earlier : (b x : Dated) (k : ℕ) (xs : List Dated) → break_after follows b k (x ∷ xs) ≡ None → b.time ≤ x.time
no_earlier b x k xs e = first (leb b.time x.time) refl e
  where
    first : (t : Bool) → leb b.time x.time ≡ t → cond t (break_after follows x (k + 1) xs) (Some k) ≡ None → b.time ≤ x.time
    first true h e = grind (arith, nat_tests)
    first false h e = cc

rest : (b x : Dated) (k : ℕ) (xs : List Dated) → break_after follows b k (x ∷ xs) ≡ None → break_after follows x (k + 1) xs ≡ None
rest b x k xs e = elim (leb b.time x.time) as (λ t. cond t (break_after follows x (k + 1) xs) (Some k) ≡ None → break_after follows x (k + 1) xs ≡ None) [ true ↦ λ h. h | false ↦ λ h. cc ] e

-- after a change that isn't due none is
none_due : (time : ℕ) (b : Dated) (k : ℕ) (xs : List Dated) → break_after follows b k xs ≡ None → time < b.time → count_by (is_due time) xs ≡ 0
none_due time b k [] e h = refl
none_due time b k (x ∷ xs) e h =
    let later : b.time ≤ x.time = no_earlier b x k xs e in
    let off : leb x.time time ≡ false = grind (arith, nat_tests) in
    rw off (none_due time x (k + 1) xs (rest b x k xs e) (omega arith))

-- how many are due of a list that begins with a change
counted : (time : ℕ) (x : Dated) (xs : List Dated) → count_by (is_due time) (x ∷ xs) ≡ cond (leb x.time time) 1 0 + count_by (is_due time) xs
counted time x xs = sum_by-cons (λ (d : Dated). cond (is_due time d) 1 0) x xs

-- what is due of the rest is due of the whole
due_step : (t : Bool) (time : ℕ) (x : Dated) (xs : List Dated) → leb x.time time ≡ t → (time < x.time → count_by (is_due time) xs ≡ 0) → ((j : ℕ) (d : Dated) → j < count_by (is_due time) xs → (get_or xs j d).time ≤ time) → (j : ℕ) (d : Dated) → j < cond t 1 0 + count_by (is_due time) xs → (get_or (x ∷ xs) j d).time ≤ time
due_step true time x xs e none h zero d l = grind (arith, nat_tests)
due_step true time x xs e none h (suc j) d l = h j d (omega arith)
due_step false time x xs e none h j d l =
    let after : time < x.time = grind (arith, nat_tests) in
    absurd (omega (arith, none after))

later_step : (t : Bool) (time : ℕ) (x : Dated) (xs : List Dated) → leb x.time time ≡ t → (time < x.time → count_by (is_due time) xs ≡ 0) → ((j : ℕ) (d : Dated) → count_by (is_due time) xs ≤ j → j < length xs → time < (get_or xs j d).time) → (j : ℕ) (d : Dated) → cond t 1 0 + count_by (is_due time) xs ≤ j → j < length (x ∷ xs) → time < (get_or (x ∷ xs) j d).time
later_step true time x xs e none h zero d m l = absurd (omega arith)
later_step true time x xs e none h (suc j) d m l = h j d (omega arith) (omega arith)
later_step false time x xs e none h zero d m l = grind (arith, nat_tests)
later_step false time x xs e none h (suc j) d m l =
    let after : time < x.time = grind (arith, nat_tests) in
    h j d (omega (arith, none after)) (omega arith)

due_after : (time : ℕ) (b : Dated) (k : ℕ) (xs : List Dated) → break_after follows b k xs ≡ None → (j : ℕ) (d : Dated) → j < count_by (is_due time) xs → (get_or xs j d).time ≤ time
due_after time b k [] e j d l = absurd (omega arith)
due_after time b k (x ∷ xs) e j d l =
    let r = rest b x k xs e in
    due_step (leb x.time time) time x xs refl (none_due time x (k + 1) xs r) (due_after time x (k + 1) xs r) j d (omega (arith, counted time x xs))

later_after : (time : ℕ) (b : Dated) (k : ℕ) (xs : List Dated) → break_after follows b k xs ≡ None → (j : ℕ) (d : Dated) → count_by (is_due time) xs ≤ j → j < length xs → time < (get_or xs j d).time
later_after time b k [] e j d m l = absurd (omega arith)
later_after time b k (x ∷ xs) e j d m l =
    let r = rest b x k xs e in
    later_step (leb x.time time) time x xs refl (none_due time x (k + 1) xs r) (later_after time x (k + 1) xs r) j d (omega (arith, counted time x xs)) l

in_order : (list : List Dated) → dates_refusal list ≡ None → first_break follows list ≡ None
in_order list e = elim (first_break follows list) as (λ (r : Option ℕ). option_map DatesNotRising r ≡ None → r ≡ None) [ None ↦ λ h. refl | Some i ↦ λ h. cc ] e

-- in a list in order the changes that are due are the first ones
pub due_first : (list : List Dated) (time k : ℕ) (d : Dated) → dates_refusal list ≡ None → k < dated_by list time → (get_or list k d).time ≤ time
due_first [] time k d e l = absurd (omega arith)
due_first (x ∷ xs) time k d e l =
    let r = in_order (x ∷ xs) e in
    due_step (leb x.time time) time x xs refl (none_due time x 1 xs r) (due_after time x 1 xs r) k d (omega (arith, counted time x xs))

pub later_rest : (list : List Dated) (time k : ℕ) (d : Dated) → dates_refusal list ≡ None → dated_by list time ≤ k → k < length list → time < (get_or list k d).time
later_rest [] time k d e m l = absurd (omega arith)
later_rest (x ∷ xs) time k d e m l =
    let r = in_order (x ∷ xs) e in
    later_step (leb x.time time) time x xs refl (none_due time x 1 xs r) (later_after time x 1 xs r) k d (omega (arith, counted time x xs)) l

-- the change after the first so many tells whether more than those are due
tells : (dated time k n : ℕ) → (k < n → dated ≤ time) → (n ≤ k → time < dated) → leb dated time ≡ ltb k n
tells dated time k n due later = grind (arith, nat_tests, due, later)

pub next-tells : (list : List Dated) (time k : ℕ) (d : Dated) → dates_refusal list ≡ None → k < length list → leb (get_or list k d).time time ≡ ltb k (dated_by list time)
next-tells list time k d e l = tells (get_or list k d).time time k (dated_by list time) (due_first list time k d e) (λ m. later_rest list time k d e m l)

none-more : (k n m : ℕ) → n ≤ m → m ≤ k → false ≡ ltb k n
none-more k n m h g = grind (arith, nat_tests)

pub past-none : (list : List Dated) (time k : ℕ) → length list ≤ k → false ≡ ltb k (dated_by list time)
past-none list time k h = none-more k (dated_by list time) (length list) (count_by-le-length (is_due time) list) h

-- no fewer are due later
no_fewer : (t earlier later : ℕ) → earlier ≤ later → cond (leb t earlier) 1 0 ≤ cond (leb t later) 1 0
no_fewer t earlier later h = grind (arith, nat_tests)

pub rising : (list : List Dated) (earlier later : ℕ) → earlier ≤ later → dated_by list earlier ≤ dated_by list later
rising [] earlier later h = omega arith
rising (x ∷ xs) earlier later h = omega (arith, counted earlier x xs, counted later x xs, no_fewer x.time earlier later h, rising xs earlier later h)
