-- What holds once all seats are back.
use Rattle.std.proofs.Common.{◌≡◌, ℕ, zero, suc, ◌<◌, Bool, true, false, List, [], ◌∷◌, Some, slice_get, length, sym, refl, ap, ◌∙◌, arith, if◌then◌else◌, nat_lt, ⊎_elim}
use Rattle.shelf_core.specs.Views.{times, total, turns_at, live_count}
use Rattle.shelf_core.specs.Sound.{standing, lent_by, loans_at}
use Rattle.shelf_core.specs.Orderly.{Orderly}
use Rattle.shelf_core.specs.Settled.{IsBack, IsSettled, is_at_rest}
use Rattle.shelf_core.specs.declared.words.ClaimWord.TheVariants.{Taken}
use Rattle.shelf_core.specs.declared.words.PlaceWord.{PlaceWord}
use Rattle.shelf_core.specs.declared.words.PlaceWord.TheVariants.{Free, Writing, Ready, Lent}
use Rattle.shelf_core.specs.declared.seat.SeatView.{SeatView}
use Rattle.shelf_core.specs.declared.system.System.{System}
use Rattle.shelf_core.proofs.Lists.{some_same, not_some, bool_cases}
use Rattle.shelf_core.proofs.Plans.{key_self}

abbrev weight : Bool → ℕ
weight b = if b then 0 else 1

-- A number that is 0 of each spent view adds up to that of the one view that isn't spent.
none_live : (f : SeatView → ℕ) (views : List SeatView) → ((i : ℕ) (u : SeatView) → slice_get views i ≡ Some u → u.spent ≡ true → f u ≡ 0) → live_count views ≡ 0 → total f views ≡ 0
none_live f [] zeros none = refl
none_live f (u ∷ views) zeros none = ⊎_elim
    (λ (e : u.spent ≡ true). let a = zeros 0 u refl e in let w : weight u.spent ≡ 0 = ap weight e in
    let r : total f views ≡ 0 = none_live f views (λ i v x. zeros (suc i) v x) (omega arith) in omega arith)
    (λ (e : u.spent ≡ false). let w : weight u.spent ≡ 1 = ap weight e in absurd (omega arith))
    (bool_cases u.spent)

some_live : (views : List SeatView) (n : ℕ) (v : SeatView) → slice_get views n ≡ Some v → v.spent ≡ false → 0 < live_count views
some_live [] n v e live = absurd (not_some v e)
some_live (x ∷ xs) zero v e live = let s = some_same x v e in let w : weight x.spent ≡ 1 = ap weight (ap (λ (y : SeatView). y.spent) s ∙ live) in omega arith
some_live (x ∷ xs) (suc n) v e live = let r = some_live xs n v e live in omega arith

total_alone : (f : SeatView → ℕ) (views : List SeatView) (n : ℕ) (v : SeatView) → slice_get views n ≡ Some v → v.spent ≡ false
    → ((i : ℕ) (u : SeatView) → slice_get views i ≡ Some u → u.spent ≡ true → f u ≡ 0) → live_count views ≡ 1 → total f views ≡ f v
total_alone f [] n v e live zeros one = absurd (not_some v e)
total_alone f (u ∷ views) zero v e live zeros one = let s = some_same u v e in
    let w : weight u.spent ≡ 1 = ap weight (ap (λ (x : SeatView). x.spent) s ∙ live) in
    let r : total f views ≡ 0 = none_live f views (λ i x y. zeros (suc i) x y) (omega arith) in let a = ap f s in omega arith
total_alone f (u ∷ views) (suc n) v e live zeros one = ⊎_elim
    (λ (e' : u.spent ≡ true). let a = zeros 0 u refl e' in let w : weight u.spent ≡ 0 = ap weight e' in
    let r : total f views ≡ f v = total_alone f views n v e live (λ i x y. zeros (suc i) x y) (omega arith) in omega arith)
    (λ (e' : u.spent ≡ false). let w : weight u.spent ≡ 1 = ap weight e' in let r = some_live views n v e live in absurd (omega arith))
    (bool_cases u.spent)

module _ (s : System) (v : SeatView) (h : Orderly s) (b : IsBack s v) where
  -- Each number that was given is among those of the seat.
  has_number : (n : ℕ) → n < length s.views → times n v.numbers ≡ 1
  has_number n low =
      let zeros : (i : ℕ) (u : SeatView) → slice_get s.views i ≡ Some u → u.spent ≡ true → standing n u ≡ 0 = λ i u e spent. rw spent refl in
      let t = total_alone (standing n) s.views b.seat v b.there b.live zeros b.alone in
      let mine : standing n v ≡ times n v.numbers = rw b.live refl in
      let below : (if nat_lt n (length s.views) then 1 else 0) ≡ 1 = rw (is_below n (length s.views) low) refl in
      sym mine ∙ sym t ∙ h.sound.numbers n ∙ below
    where
      is_below : (a b : ℕ) → a < b → nat_lt a b ≡ true
      is_below a b low = grind (arith, low)

  at_rest : (place : ℕ) (word : PlaceWord) → slice_get s.places place ≡ Some word → is_at_rest word ≡ true
  at_rest place Free e = refl
  at_rest place (Writing m) e =
      let n = has_number m (h.sound.places.words place (Writing m) e) in
      let t : turns_at place v.turns ≡ times m v.numbers = h.sound.places.turns place (Writing m) e b.seat v b.there in
      let z : turns_at place v.turns ≡ 0 = ap (turns_at place) b.turns in absurd (omega arith)
  at_rest place (Ready key) e = refl
  at_rest place (Lent key m) e =
      let n = has_number m (h.sound.places.words place (Lent key m) e).1 in
      let t : loans_at place key v.loan ≡ lent_by (Lent key m) key v.numbers = h.sound.places.loans place (Lent key m) key e b.seat v b.there in
      let l : lent_by (Lent key m) key v.numbers ≡ times m v.numbers = ap (λ (b : Bool). if b then times m v.numbers else 0) (key_self key) in
      let z : loans_at place key v.loan ≡ 0 = ap (loans_at place key) b.loan in absurd (omega arith)

  number_of : (segment n : ℕ) → slice_get s.claims segment ≡ Some (Taken n) → times n v.numbers ≡ 1
  number_of segment n e = has_number n (h.sound.claims.takers segment (Taken n) e)

  pub settled : IsSettled s v
  settled = record {
    places = at_rest;
    claims = λ segment n e. h.sound.claims.claimed segment (Taken n) e b.seat v b.there ∙ number_of segment n e;
    numbers = number_of;
    done = h.sound.counts.sum ∙ total_alone (λ u. u.counts) s.views b.seat v b.there b.live (λ i u e spent. ap (λ (x : SeatView). x.counts) (h.spent i u e spent)) b.alone;
  }
