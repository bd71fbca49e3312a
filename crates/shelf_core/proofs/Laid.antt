-- The shelf is laid out.
use Rattle.std.proofs.Common.{◌≡◌, ℕ, zero, suc, true, false, List, [], ◌∷◌, ◌++◌, Option, Some, None, slice_get, length, map, replicate, sym, refl, ap, ◌∙◌, subst, arith, true≢false}
use mathlib.Core.Logic.{dite}
use native.Mathlib.Decide.{dec_le}
use Rattle.shelf_core.specs.Plan.{sole_in, place_in, are_distinct, place_count}
use Rattle.shelf_core.specs.Words.{value_under, taken_count}
use Rattle.shelf_core.specs.Views.{times, total, turns_at, new_view}
use Rattle.shelf_core.specs.After.{opening}
use Rattle.shelf_core.specs.Sound.{ForViews, NumbersStand, TakerStands, standing, WordBelongs, claimed_by, turned_by, lent_by, loans_at}
use Rattle.shelf_core.specs.Orderly.{Orderly, HasShape, IsBare}
use Rattle.shelf_core.specs.declared.plan.Key.{Key}
use Rattle.shelf_core.specs.declared.plan.ShelfPlan.{ShelfPlan}
use Rattle.shelf_core.specs.declared.words.ClaimWord.{ClaimWord}
use Rattle.shelf_core.specs.declared.words.ClaimWord.TheVariants.{Open}
use Rattle.shelf_core.specs.declared.words.PlaceWord.{PlaceWord}
use Rattle.shelf_core.specs.declared.words.PlaceWord.TheVariants.{Free}
use Rattle.shelf_core.specs.declared.seat.SeatView.{SeatView}
use Rattle.shelf_core.specs.declared.system.System.{System}
use Rattle.shelf_core.proofs.Lists.{some_same, not_some, times_else}
use Rattle.shelf_core.proofs.Numbers.{not_below}
use Rattle.shelf_core.proofs.Parts.{orderly_of, seats_of}

module _ {A : Type 0} where
  length_copies : (n : ℕ) (a : A) → length (replicate n a) ≡ n
  length_copies zero a = refl
  length_copies (suc n) a = ap suc (length_copies n a)

  at_copies : (n i : ℕ) (a b : A) → slice_get (replicate n a) i ≡ Some b → a ≡ b
  at_copies zero i a b e = absurd (not_some b e)
  at_copies (suc n) zero a b e = some_same a b e
  at_copies (suc n) (suc i) a b e = at_copies n i a b e

values_free : (n : ℕ) → replicate n None ≡ map value_under (replicate n Free)
values_free zero = refl
values_free (suc n) = ap (λ l. None ∷ l) (values_free n)

taken_none : (n : ℕ) → taken_count (replicate n Open) ≡ 0
taken_none zero = refl
taken_none (suc n) = taken_none n

no_turns : (turns : List (ℕ × Key)) → ((i : ℕ) (t : ℕ × Key) → slice_get turns i ≡ Some t → ⊥) → (p : ℕ) → turns_at p turns ≡ 0
no_turns [] h p = refl
no_turns (t ∷ ts) h p = absurd (h 0 t refl)

no_loans : (loan : Option (ℕ × Key)) → ((l : ℕ × Key) → loan ≡ Some l → ⊥) → (p : ℕ) (k : Key) → loans_at p k loan ≡ 0
no_loans None h p k = refl
no_loans (Some l) h p k = absurd (h l refl)

pub lay_orderly : (s : System) (plan : ShelfPlan) → Orderly s → s.plan ≡ None → are_distinct (plan.forks ++ plan.grid) ≡ true
    → Orderly (record s { plan = Some plan; claims = replicate plan.segments Open; places = replicate (place_count plan) Free; home = replicate (place_count plan) None; done = 0; stopped = false })
lay_orderly s plan h none distinct =
    let bare : IsBare s = subst (λ (p : Option ShelfPlan). HasShape p s) none h.shape in
    let s' : System = record s { plan = Some plan; claims = replicate plan.segments Open; places = replicate (place_count plan) Free; home = replicate (place_count plan) None; done = 0; stopped = false } in
    let no_claim : ForViews s.views (λ n v. (g : ℕ) → times g v.claims ≡ 0) = λ n v e g. (let l : length s.claims ≡ 0 = ap length bare.claims in
    dite (dec_le (times g v.claims) 0) (λ z. omega arith) (λ z. let a = h.segments n v e g (omega arith) in absurd (omega arith))) in
    let no_turn : ForViews s.views (λ n v. (p : ℕ) → turns_at p v.turns ≡ 0) = λ n v e. no_turns v.turns (λ i t x. let r = h.sound.places.turn_keys n v e i t x in
    not_some t.0 (sym (ap (λ p. place_in p t.1) none) ∙ r.0)) in
    let no_loan : ForViews s.views (λ n v. (p : ℕ) (k : Key) → loans_at p k v.loan ≡ 0) = λ n v e. no_loans v.loan (λ l x. let r = h.sound.places.loan_keys n v e l x in
    not_some l.0 (sym (ap (λ p. place_in p l.1) none) ∙ r)) in
    orderly_of s' (seats_of s h)
    (record {
      claimed = λ g c x n v e. let is : Open ≡ c = at_copies plan.segments g Open c x in no_claim n v e g ∙ ap (λ y. claimed_by y v.numbers) is;
      takers = λ g c x. let is : Open ≡ c = at_copies plan.segments g Open c x in subst (λ y. TakerStands (length s.views) y) is tt;
    })
    (record {
      values = values_free (place_count plan);
      words = λ p c x. subst (WordBelongs (Some plan) (length s.views) p) (at_copies (place_count plan) p Free c x) tt;
      turns = λ p c x n v e. let is : Free ≡ c = at_copies (place_count plan) p Free c x in no_turn n v e p ∙ ap (λ y. turned_by y v.numbers) is;
      loans = λ p c k x n v e. let is : Free ≡ c = at_copies (place_count plan) p Free c x in no_loan n v e p k ∙ ap (λ y. lent_by y k v.numbers) is;
      turn_keys = λ n v e i t x. let r = h.sound.places.turn_keys n v e i t x in absurd (not_some t.0 (sym (ap (λ p. place_in p t.1) none) ∙ r.0));
      loan_keys = λ n v e l x. absurd (not_some l.0 (sym (ap (λ p. place_in p l.1) none) ∙ h.sound.places.loan_keys n v e l x));
    })
    (record { sum = sym bare.done ∙ h.sound.counts.sum; within = h.sound.counts.within })
    (record {
      bit = λ n v e f. sym bare.stopped ∙ h.sound.seen.bit n v e f;
      number = λ n v e. let a = h.sound.seen.number n v e in let b = bare.done in omega arith;
    })
    (λ f. absurd (true≢false (sym f)))
    (λ n v e key f. let k = h.sound.known n v e key f in absurd (true≢false (sym k.sole ∙ ap (λ p. sole_in p key) none)))
    (λ n v e g pos. let a = no_claim n v e g in absurd (omega arith))
    (h.taken ∙ ap taken_count bare.claims ∙ sym (taken_none plan.segments))
    (record { claims = length_copies plan.segments Open; places = length_copies (place_count plan) Free; home = length_copies (place_count plan) None; distinct = distinct })

one_view : (n : ℕ) (v : SeatView) → slice_get (new_view 0 ∷ []) n ≡ Some v → (n ≡ 0) × (new_view 0 ≡ v)
one_view zero v e = (refl, some_same (new_view 0) v e)
one_view (suc n) v e = absurd (not_some v e)

opening_for : (Fact : ℕ → SeatView → Type 0) → Fact 0 (new_view 0) → ForViews (new_view 0 ∷ []) Fact
opening_for Fact h n v e = let r = one_view n v e in subst (λ (z : ℕ × SeatView). Fact z.0 z.1) (λ j. (sym r.0 j, r.1 j)) h

pub opening_orderly : Orderly opening
opening_orderly = orderly_of opening
    (record {
      numbers = numbers;
      spent = opening_for _ (λ f. absurd (true≢false (sym f)));
      own = opening_for _ (λ f. ([], refl));
    })
    (record { claimed = λ g c x. absurd (not_some c x); takers = λ g c x. absurd (not_some c x) })
    (record {
      values = refl;
      words = λ p c x. absurd (not_some c x);
      turns = λ p c x. absurd (not_some c x);
      loans = λ p c k x. absurd (not_some c x);
      turn_keys = opening_for _ (λ i t x. absurd (not_some t x));
      loan_keys = opening_for _ (λ l x. absurd (not_some l x));
    })
    (record { sum = refl; within = opening_for _ (omega arith) })
    (record { bit = opening_for _ (λ f. absurd (true≢false (sym f))); number = opening_for _ (omega arith) })
    (λ f. absurd (true≢false (sym f)))
    (opening_for _ (λ key f. absurd (true≢false (sym f))))
    (opening_for _ (λ g pos. absurd (omega arith)))
    refl
    (record { claims = refl; places = refl; home = refl; done = refl; stopped = refl })
  where
    numbers : NumbersStand (new_view 0 ∷ [])
    numbers zero = refl
    numbers (suc n) = let t : times (suc n) (0 ∷ []) ≡ 0 = times_else (suc n) 0 [] (λ e. omega arith) in
        let x : total (standing (suc n)) (new_view 0 ∷ []) ≡ 0 = omega arith in x ∙ sym (not_below (suc n) 1 (omega arith))

-- a system in which nothing stands but the view of seat 0
pub opened : (claims : List ClaimWord) (places : List PlaceWord) (home : List (Option Key)) (views : List SeatView) → claims ≡ [] → places ≡ [] → home ≡ [] → views ≡ new_view 0 ∷ []
    → ◌≡◌ {A = System} (record opening { claims = claims; places = places; home = home; views = views }) opening
opened claims places home views a b d e =
    ap (λ (x : List ClaimWord). record opening { claims = x; places = places; home = home; views = views }) a
    ∙ ap (λ (x : List PlaceWord). record opening { places = x; home = home; views = views }) b
    ∙ ap (λ (x : List (Option Key)). record opening { home = x; views = views }) d
    ∙ ap (λ (x : List SeatView). record opening { views = x }) e
