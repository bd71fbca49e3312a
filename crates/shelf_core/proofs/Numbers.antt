-- Which seat has which number.
use Rattle.std.proofs.Common.{◌≡◌, ◌≢◌, ℕ, suc, ◌+◌, ◌<◌, ◌≤◌, true, false, List, [], ◌∷◌, ◌++◌, Some, slice_get, length, set, sym, refl, ap, ◌∙◌, subst, ⊎_elim, arith, if◌then◌else◌, true≢false, length-append, nat_lt}
use mathlib.Core.Logic.{dite}
use native.Mathlib.Decide.{dec_le, ℕ_discrete}
use Rattle.std.proofs.Math.ListN.{length-set}
use Rattle.shelf_core.specs.Views.{times, total, new_view, spent_view}
use Rattle.shelf_core.specs.After.{joined_with}
use Rattle.shelf_core.specs.Sound.{ForViews, standing, NumbersStand}
use Rattle.shelf_core.specs.declared.seat.SeatView.{SeatView}
use Rattle.shelf_core.proofs.Lists.{bool_cases, some_same, at_set, set_else, times_here, times_else, times_append, for_set, for_end, total_set, total_end, total_two, total_one, total_some}

abbrev pub Spent : ℕ → SeatView → Type 0
Spent n view = view.spent ≡ true → view ≡ spent_view

abbrev pub Own : ℕ → SeatView → Type 0
Own n view = view.spent ≡ false → (rest : List ℕ) × (view.numbers ≡ n ∷ rest)

-- What is known of the seats' numbers.
pub record Seats (views : List SeatView) : Type 0 where
  pub numbers : NumbersStand views
  pub spent : ForViews views Spent
  pub own : ForViews views Own

one_at_most : (n k : ℕ) → (if nat_lt n k then 1 else 0) ≤ 1
one_at_most n k = ⊎_elim (λ (y : nat_lt n k ≡ true). rw y (omega arith)) (λ (y : nat_lt n k ≡ false). rw y (omega arith)) (bool_cases (nat_lt n k))

abbrev pub given : ℕ → ℕ → ℕ
given n k = if nat_lt n k then 1 else 0

pub is_below : (n k : ℕ) → n < k → given n k ≡ 1
is_below n k h = let e : nat_lt n k ≡ true = grind (arith, h) in rw e refl

pub not_below : (n k : ℕ) → k ≤ n → given n k ≡ 0
not_below n k h = let e : nat_lt n k ≡ false = grind (arith, h) in rw e refl

pub standing_live : (n : ℕ) (v : SeatView) → v.spent ≡ false → standing n v ≡ times n v.numbers
standing_live n v live = rw live refl

pub standing_times : (n : ℕ) (v : SeatView) → (v.spent ≡ true → v ≡ spent_view) → standing n v ≡ times n v.numbers
standing_times n v empty = ⊎_elim
    (λ (yes : v.spent ≡ true). rw yes (sym (ap (λ (u : SeatView). times n u.numbers) (empty yes))))
    (λ (no : v.spent ≡ false). standing_live n v no)
    (bool_cases v.spent)

module _ (views : List SeatView) (seats : Seats views) where
  pub once : (i n : ℕ) (v : SeatView) → slice_get views i ≡ Some v → times n v.numbers ≤ 1
  once i n v e = let a = total_one (standing n) views i v e in let b = seats.numbers n in let c = one_at_most n (length views) in let d = standing_times n v (seats.spent i v e) in omega arith

  pub apart : (i j n : ℕ) (v u : SeatView) → slice_get views i ≡ Some v → slice_get views j ≡ Some u → j ≢ i → 0 < times n v.numbers → times n u.numbers ≡ 0
  apart i j n v u e e' ne pos = let a = total_two (standing n) views i j v u ne e e' in let b = seats.numbers n in let c = one_at_most n (length views) in
      let d = standing_times n v (seats.spent i v e) in let f = standing_times n u (seats.spent j u e') in omega arith

  pub mine : (i : ℕ) (v : SeatView) → slice_get views i ≡ Some v → v.spent ≡ false → times i v.numbers ≡ 1
  mine i v e live = let r = seats.own i v e live in let a : times i v.numbers ≡ times i (i ∷ r.0) = ap (times i) r.1 in let b = times_here i r.0 in let c = once i i v e in omega arith

  pub known : (i n : ℕ) (v : SeatView) → slice_get views i ≡ Some v → 0 < times n v.numbers → n < length views
  known i n v e pos = dite (dec_le (length views) n)
      (λ z. let a = total_one (standing n) views i v e in let b = seats.numbers n in let c = not_below n (length views) z in let d = standing_times n v (seats.spent i v e) in absurd (omega arith))
      (λ z. omega arith)

  pub holder : (n : ℕ) → n < length views → (i : ℕ) × (v : SeatView) × (slice_get views i ≡ Some v) × (times n v.numbers ≡ 1)
  holder n low = let b = seats.numbers n in let c = is_below n (length views) low in let r = total_some (standing n) views (omega arith) in
      let d = standing_times n r.1 (seats.spent r.0 r.1 r.2) in let o = once r.0 n r.1 r.2 in let pos = r.3 in (r.0, r.1, r.2, omega arith)

  pub same_holder : (i j n : ℕ) (v u : SeatView) → slice_get views i ≡ Some v → slice_get views j ≡ Some u → 0 < times n v.numbers → 0 < times n u.numbers → v ≡ u
  same_holder i j n v u e e' p q = dite (ℕ_discrete j i)
      (λ (same : j ≡ i). some_same v u (sym e ∙ ap (λ k. slice_get views k) (sym same) ∙ e'))
      (λ ne. let a = apart i j n v u e e' ne p in absurd (omega arith))

  -- a view that keeps its numbers
  pub seats_set : (n : ℕ) (v w : SeatView) → slice_get views n ≡ Some v → v.spent ≡ false → w.spent ≡ v.spent → w.numbers ≡ v.numbers → Seats (set views n w)
  seats_set n v w e live sp same = let live' : w.spent ≡ false = sp ∙ live in record {
    numbers = λ m. let a = total_set (standing m) views n v w e in let b = seats.numbers m in let c = standing_live m v live in let d = standing_live m w live' in
        let s : times m w.numbers ≡ times m v.numbers = ap (times m) same in let l = length-set views n w in
        (let t : total (standing m) (set views n w) ≡ total (standing m) views = omega arith in t ∙ b ∙ ap (λ k. if nat_lt m k then 1 else 0) (sym l));
    spent = for_set' Spent (λ f. absurd (true≢false (sym f ∙ live'))) (λ i u x. seats.spent i u x);
    own = for_set' Own (λ f. let r = seats.own n v e live in (r.0, same ∙ r.1)) (λ i u x. seats.own i u x);
  }
    where
      for_set' : (Fact : ℕ → SeatView → Type 0) → Fact n w → ((i : ℕ) (u : SeatView) → slice_get views i ≡ Some u → Fact i u) → ForViews (set views n w) Fact
      for_set' Fact here others i u x = ⊎_elim
          (λ (y : (i ≡ n) × (w ≡ u)). subst (λ (z : ℕ × SeatView). Fact z.0 z.1) (λ j. (sym y.0 j, y.1 j)) here)
          (λ (y : (i ≢ n) × (slice_get views i ≡ Some u)). others i u y.1)
          (at_set views n i w u x)

-- a new seat
named_less : (k n : ℕ) → n < k → times n (k ∷ []) ≡ 0
named_less k n lt = times_else n k [] (λ e. omega arith)

module _ (views : List SeatView) (seats : Seats views) where
  pub seats_end : Seats (views ++ new_view (length views) ∷ [])
  seats_end = let k : ℕ = length views in let new : SeatView = new_view k in let vs : List SeatView = views ++ new ∷ [] in
      let longer : length vs ≡ suc k = omega (arith, length-append views (new ∷ [])) in record {
        numbers = λ m. let a : total (standing m) vs ≡ total (standing m) views + times m (k ∷ []) = total_end (standing m) views new in let b : total (standing m) views ≡ given m k = seats.numbers m in
            let g : given m (suc k) ≡ given m k + times m (k ∷ []) = dite (dec_le (suc m) k)
            (λ z. let x = is_below m k z in let y = is_below m (suc k) (omega arith) in let t = named_less k m z in omega arith)
            (λ z. dite (ℕ_discrete k m)
            (λ same. let x = not_below m k (omega arith) in let y = is_below m (suc k) (omega arith) in let t : times m (k ∷ []) ≡ 1 = subst (λ q. times q (k ∷ []) ≡ suc (times q [])) same (times_here k []) in omega arith)
            (λ ne. let x = not_below m k (omega arith) in let y = not_below m (suc k) (omega arith) in let t = times_else m k [] ne in omega arith)) in
            (let t : total (standing m) vs ≡ given m (suc k) = omega arith in t ∙ ap (given m) (sym longer));
        spent = for_end Spent views new (λ f. absurd (true≢false (sym f))) seats.spent;
        own = for_end Own views new (λ f. ([], refl)) seats.own;
      }

-- a seat that took in another
module _ (views : List SeatView) (seats : Seats views) (n m : ℕ) (v w : SeatView) (live : v.spent ≡ false) (live' : w.spent ≡ false) (two : m ≢ n)
    (e : slice_get views n ≡ Some v) (e' : slice_get views m ≡ Some w) where
  abbrev pub J : SeatView
  J = joined_with w v

  abbrev pub vs : List SeatView
  vs = set (set views n J) m spent_view

  pub same_length : length vs ≡ length views
  same_length = omega (arith, length-set (set views n J) m spent_view, length-set views n J)

  pub for_both : (Fact : ℕ → SeatView → Type 0) → Fact n J → Fact m spent_view → ((i : ℕ) (u : SeatView) → i ≢ n → i ≢ m → slice_get views i ≡ Some u → Fact i u) → ForViews vs Fact
  for_both Fact a b c = for_set Fact (set views n J) m spent_view b (λ i u ne x. ⊎_elim
      (λ (y : (i ≡ n) × (J ≡ u)). subst (λ (z : ℕ × SeatView). Fact z.0 z.1) (λ j. (sym y.0 j, y.1 j)) a)
      (λ (y : (i ≢ n) × (slice_get views i ≡ Some u)). c i u y.0 ne y.1)
      (at_set views n i J u x))

  pub both_total : (f : SeatView → ℕ) → (total f vs + f w) + f v ≡ ((total f views) + f J) + f spent_view
  both_total f = let a = total_set f views n v J e in let still : slice_get (set views n J) m ≡ Some w = set_else views n m J two ∙ e' in
      let b = total_set f (set views n J) m w spent_view still in omega arith

  pub seats_join : Seats vs
  seats_join = record {
    numbers = λ k. let a = both_total (standing k) in let b : total (standing k) views ≡ given k (length views) = seats.numbers k in let c = standing_live k v live in let d = standing_live k w live' in
        let f : standing k J ≡ times k (v.numbers ++ w.numbers) = standing_live k J live in let g = times_append k v.numbers w.numbers in
        (let t : total (standing k) vs ≡ given k (length views) = omega arith in t ∙ ap (given k) (sym same_length));
    spent = for_both Spent (λ f. absurd (true≢false (sym f ∙ live))) (λ f. refl) (λ i u ne ne' x. seats.spent i u x);
    own = for_both Own (λ f. let r = seats.own n v e live in (r.0 ++ w.numbers, ap (λ l. l ++ w.numbers) r.1)) (λ f. absurd (true≢false f)) (λ i u ne ne' x. seats.own i u x);
  }
