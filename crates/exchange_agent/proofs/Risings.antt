-- Tokens in order: where a search ends, and what one more token makes of them.
use Rattle.std.proofs.Common.{◌≡◌, ◌≢◌, ℕ, zero, suc, ◌-◌, ◌<◌, ◌≤◌, Bool, true, false, ◌||◌, List, [], ◌∷◌, length, get_or, refl, sym, ap, ◌∙◌, arith, inl, inr}
use Rattle.std.specs.Cmp.Lexicographic.{nat_list_cmp_total}
use Rattle.std.specs.List.{AllByRecursion, insert, list_any}
use Rattle.std.specs.Ordering.{is_eq, is_lt, match_ordering, ordering_reverse}
use Rattle.std.specs.BTreeMap.{is_at}
use Rattle.std.specs.BTreeSet.{insert_key}
use Rattle.std.specs.declared.cmp.Ordering.{Ordering}
use Rattle.std.specs.declared.cmp.Ordering.TheVariants.{Less, Equal, Greater}
use Rattle.std.proofs.lemmas.Bool.{cases_eq, cases_lt}
use Rattle.exchange_agent.specs.Remembered.{AreRising, by_bytes}
use Rattle.exchange_agent.proofs.Pairs.{or-right}

-- ---- two tokens
turned_less : (t u : List ℕ) → by_bytes t u ≡ Less → by_bytes u t ≡ Greater
turned_less t u e = nat_list_cmp_total.antisymm u t ∙ ap ordering_reverse e

turned_equal : (t u : List ℕ) → by_bytes t u ≡ Equal → by_bytes u t ≡ Equal
turned_equal t u e = nat_list_cmp_total.antisymm u t ∙ ap ordering_reverse e

turned_greater : (t u : List ℕ) → by_bytes t u ≡ Greater → by_bytes u t ≡ Less
turned_greater t u e = nat_list_cmp_total.antisymm u t ∙ ap ordering_reverse e

self_reverse : (o : Ordering) → o ≡ ordering_reverse o → o ≡ Equal
self_reverse Less h = absurd (cc h)
self_reverse Equal h = refl
self_reverse Greater h = absurd (cc h)

pub same_bytes : (t : List ℕ) → by_bytes t t ≡ Equal
same_bytes t = self_reverse (by_bytes t t) (nat_list_cmp_total.antisymm t t)

lt_is : (o : Ordering) → is_lt o ≡ true → o ≡ Less
lt_is Less e = refl
lt_is Equal e = absurd (cc e)
lt_is Greater e = absurd (cc e)

neither : (o : Ordering) → is_lt o ≡ false → o ≢ Equal → o ≡ Greater
neither Less e f = absurd (cc e)
neither Equal e f = absurd (f refl)
neither Greater e f = refl

-- ---- tokens that rise
all-at : (P : List ℕ → Type 0) (ts : List (List ℕ)) (k : ℕ) (d : List ℕ) → AllByRecursion P ts → k < length ts → P (get_or ts k d)
all-at P [] k d a lt = absurd (omega arith)
all-at P (t ∷ ts) zero d a lt = a.0
all-at P (t ∷ ts) (suc k) d a lt = all-at P ts k d a.1 (omega arith)

rising-at : (ts : List (List ℕ)) (i j : ℕ) (d : List ℕ) → AreRising ts → i < j → j < length ts → by_bytes (get_or ts i d) (get_or ts j d) ≡ Less
rising-at [] i j d r lt within = absurd (omega arith)
rising-at (t ∷ ts) zero zero d r lt within = absurd (omega arith)
rising-at (t ∷ ts) (suc i) zero d r lt within = absurd (omega arith)
rising-at (t ∷ ts) zero (suc j) d r lt within = all-at (λ (u : List ℕ). by_bytes t u ≡ Less) ts j d r.0 (omega arith)
rising-at (t ∷ ts) (suc i) (suc j) d r lt within = rising-at ts i j d r.1 (omega arith) (omega arith)

-- what a search by halving gives: the tokens before a place are below this one, the one there is not
pub record IsPlace (ts : List (List ℕ)) (t : List ℕ) (at : ℕ) : Type 0 where
  pub within : at ≤ length ts
  pub below : (d : List ℕ) → 0 < at → is_lt (by_bytes (get_or ts (at - 1) d) t) ≡ true
  pub above : (d : List ℕ) → at < length ts → is_lt (by_bytes (get_or ts at d) t) ≡ false

-- all tokens before a place are below this one, and all from it on above
pub record IsParted (ts : List (List ℕ)) (t : List ℕ) (at : ℕ) : Type 0 where
  pub within : at ≤ length ts
  pub below : (k : ℕ) (d : List ℕ) → k < at → by_bytes (get_or ts k d) t ≡ Less
  pub above : (k : ℕ) (d : List ℕ) → at ≤ k → k < length ts → by_bytes (get_or ts k d) t ≡ Greater

all_below : (ts : List (List ℕ)) (t : List ℕ) (at : ℕ) → AreRising ts → IsPlace ts t at → (k : ℕ) (d : List ℕ) → k < at → by_bytes (get_or ts k d) t ≡ Less
all_below ts t at r p k d lt =
    let last : by_bytes (get_or ts (at - 1) d) t ≡ Less = lt_is (by_bytes (get_or ts (at - 1) d) t) (p.below d (omega arith)) in
    elim (cases_eq k (at - 1)) [
      | inl s ↦ ap (λ (n : ℕ). by_bytes (get_or ts n d) t) s ∙ last
      | inr n ↦ nat_list_cmp_total.trans (get_or ts k d) (get_or ts (at - 1) d) t (rising-at ts k (at - 1) d r (omega arith) (omega (arith, p.within))) last
    ]

all_above : (ts : List (List ℕ)) (t : List ℕ) (at : ℕ) → AreRising ts → IsPlace ts t at → ((d : List ℕ) → at < length ts → by_bytes (get_or ts at d) t ≢ Equal) → (k : ℕ) (d : List ℕ) → at ≤ k → k < length ts → by_bytes (get_or ts k d) t ≡ Greater
all_above ts t at r p free k d from within =
    let here : by_bytes (get_or ts at d) t ≡ Greater = neither (by_bytes (get_or ts at d) t) (p.above d (omega arith)) (free d (omega arith)) in
    elim (cases_eq k at) [
      | inl s ↦ ap (λ (n : ℕ). by_bytes (get_or ts n d) t) s ∙ here
      | inr n ↦ turned_less t (get_or ts k d) (nat_list_cmp_total.trans t (get_or ts at d) (get_or ts k d) (turned_greater (get_or ts at d) t here) (rising-at ts at k d r (omega arith) within))
    ]

pub parted : (ts : List (List ℕ)) (t : List ℕ) (at : ℕ) → AreRising ts → IsPlace ts t at → ((d : List ℕ) → at < length ts → by_bytes (get_or ts at d) t ≢ Equal) → IsParted ts t at
parted ts t at r p free = record { within = p.within; below = all_below ts t at r p; above = all_above ts t at r p free }

-- ---- a token that is not there
none-is : (t : List ℕ) (ts : List (List ℕ)) → ((k : ℕ) → k < length ts → is_eq (by_bytes t (get_or ts k t)) ≡ false) → list_any (is_at (by_bytes t)) ts ≡ false
none-is t [] h = refl
none-is t (u ∷ us) h = ap (λ (b : Bool). b || list_any (is_at (by_bytes t)) us) (h 0 (omega arith)) ∙ none-is t us (λ k lt. h (suc k) (omega arith))

pub absent-any : (ts : List (List ℕ)) (t : List ℕ) (at : ℕ) → IsParted ts t at → list_any (is_at (by_bytes t)) ts ≡ false
absent-any ts t at p = none-is t ts (λ k lt. elim (cases_lt k at) [
  | inl a ↦ ap is_eq (turned_less (get_or ts k t) t (p.below k t a))
  | inr a ↦ ap is_eq (turned_greater (get_or ts k t) t (p.above k t a lt))
])

by-order : (t u : List ℕ) (us : List (List ℕ)) (o : Ordering) → by_bytes t u ≡ o → insert_key by_bytes (u ∷ us) t ≡ match_ordering o (t ∷ u ∷ us) (u ∷ us) (u ∷ insert_key by_bytes us t)
by-order t u us o e = ap (λ (p : Ordering). match_ordering p (t ∷ u ∷ us) (u ∷ us) (u ∷ insert_key by_bytes us t)) e

pub absent-with : (ts : List (List ℕ)) (t : List ℕ) (at : ℕ) → IsParted ts t at → insert_key by_bytes ts t ≡ insert ts at t
absent-with [] t zero p = refl
absent-with [] t (suc k) p = absurd (omega (arith, p.within))
absent-with (u ∷ us) t zero p = by-order t u us Less (turned_greater u t (p.above 0 t (omega arith) (omega arith)))
absent-with (u ∷ us) t (suc k) p =
    by-order t u us Greater (turned_less u t (p.below 0 t (omega arith)))
    ∙ ap (λ (vs : List (List ℕ)). u ∷ vs) (absent-with us t k (record {
      within = omega (arith, p.within);
      below = λ j d lt. p.below (suc j) d (omega arith);
      above = λ j d from lt. p.above (suc j) d (omega arith) (omega arith);
    }))

-- ---- a token that is there
later : (u t : List ℕ) (us : List (List ℕ)) (k : ℕ) → AllByRecursion (λ (v : List ℕ). by_bytes u v ≡ Less) us → k < length us → by_bytes (get_or us k t) t ≡ Equal → by_bytes t u ≡ Greater
later u t us k a lt e = sym (nat_list_cmp_total.congr (get_or us k t) t u e) ∙ turned_less u (get_or us k t) (all-at (λ (v : List ℕ). by_bytes u v ≡ Less) us k t a lt)

pub present-with : (ts : List (List ℕ)) (t : List ℕ) (at : ℕ) → AreRising ts → at < length ts → by_bytes (get_or ts at t) t ≡ Equal → insert_key by_bytes ts t ≡ ts
present-with [] t at r lt e = absurd (omega arith)
present-with (u ∷ us) t zero r lt e = by-order t u us Equal (turned_equal u t e)
present-with (u ∷ us) t (suc k) r lt e =
    by-order t u us Greater (later u t us k r.0 (omega arith) e)
    ∙ ap (λ (vs : List (List ℕ)). u ∷ vs) (present-with us t k r.1 (omega arith) e)

pub present-any : (ts : List (List ℕ)) (t : List ℕ) (at : ℕ) → at < length ts → by_bytes (get_or ts at t) t ≡ Equal → list_any (is_at (by_bytes t)) ts ≡ true
present-any [] t at lt e = absurd (omega arith)
present-any (u ∷ us) t zero lt e = ap (λ (o : Ordering). is_eq o || list_any (is_at (by_bytes t)) us) (turned_equal u t e)
present-any (u ∷ us) t (suc k) lt e = or-right (is_eq (by_bytes t u)) (list_any (is_at (by_bytes t)) us) (present-any us t k (omega arith) e)

-- ---- with one more token they rise
above-all : (t u : List ℕ) (us : List (List ℕ)) → by_bytes t u ≡ Less → AllByRecursion (λ (v : List ℕ). by_bytes u v ≡ Less) us → AllByRecursion (λ (v : List ℕ). by_bytes t v ≡ Less) us
above-all t u [] e a = tt
above-all t u (v ∷ vs) e a = (nat_list_cmp_total.trans t u v e a.0, above-all t u vs e a.1)

all-step : (P : List ℕ → Type 0) (o : Ordering) (t u : List ℕ) (us vs : List (List ℕ)) → P t → AllByRecursion P (u ∷ us) → AllByRecursion P vs → AllByRecursion P (match_ordering o (t ∷ u ∷ us) (u ∷ us) (u ∷ vs))
all-step P Less t u us vs p a b = (p, a)
all-step P Equal t u us vs p a b = a
all-step P Greater t u us vs p a b = (a.0, b)

all-with : (P : List ℕ → Type 0) (t : List ℕ) (ts : List (List ℕ)) → P t → AllByRecursion P ts → AllByRecursion P (insert_key by_bytes ts t)
all-with P t [] p a = (p, tt)
all-with P t (u ∷ us) p a = all-step P (by_bytes t u) t u us (insert_key by_bytes us t) p a (all-with P t us p a.1)

rising-step : (o : Ordering) (t u : List ℕ) (us : List (List ℕ)) → by_bytes t u ≡ o → AreRising (u ∷ us) → AreRising (insert_key by_bytes us t) → AreRising (match_ordering o (t ∷ u ∷ us) (u ∷ us) (u ∷ insert_key by_bytes us t))
rising-step Less t u us e r s = ((e, above-all t u us e r.0), r)
rising-step Equal t u us e r s = r
rising-step Greater t u us e r s = (all-with (λ (v : List ℕ). by_bytes u v ≡ Less) t us (turned_greater t u e) r.0, s)

pub rising-with : (t : List ℕ) (ts : List (List ℕ)) → AreRising ts → AreRising (insert_key by_bytes ts t)
rising-with t [] r = (tt, tt)
rising-with t (u ∷ us) r = rising-step (by_bytes t u) t u us refl r (rising-with t us r.1)
