-- Lemmas on the rows that aren't later than a time.
use Rattle.std.proofs.Common.{◌≡◌, ℕ, suc, zero, ◌-◌, ◌<◌, ◌≤◌, Bool, true, false, leb, All, List, [], ◌∷◌, length, get_or, take, map, filter, refl, sym, ap, subst, ◌∙◌, arith}
use Rattle.std.specs.List.{AllByRecursion}
use Rattle.std.specs.List.Sorted.{IsNonDecreasingBy}
use Rattle.std.proofs.lemmas.Bool.{le-leb, lt-leb}
use Rattle.std.proofs.lemmas.List.{get_or-map, get_or-take, length-map, length-take}
use Rattle.fundamental_series.specs.declared.rule.SeriesRow.{SeriesRow}
use Rattle.fundamental_series.specs.Made.{first_time, last_of, row_value}
use Rattle.fundamental_series.specs.Ranges.{IsPrice, IsRising}

each_at : (P : SeriesRow → Type 0) (rows : List SeriesRow) (i : ℕ) (d : SeriesRow) → AllByRecursion P rows → i < length rows → P (get_or rows i d)
each_at P [] i d a h = absurd (omega arith)
each_at P (r ∷ rows) zero d a h = a.0
each_at P (r ∷ rows) (suc i) d a h = each_at P rows i d a.1 (omega arith)

-- rows that rise are in order
pub rising_in_order : (rows : List SeriesRow) → IsRising rows → IsNonDecreasingBy (λ (r : SeriesRow). r.time) rows
rising_in_order [] h i j d le lt = absurd (omega arith)
rising_in_order (r ∷ rows) h zero zero d le lt = omega arith
rising_in_order (r ∷ rows) h zero (suc j) d le lt = omega (arith, each_at (λ (s : SeriesRow). r.time < s.time) rows j d h.0 (omega arith))
rising_in_order (r ∷ rows) h (suc i) zero d le lt = absurd (omega arith)
rising_in_order (r ∷ rows) h (suc i) (suc j) d le lt = rising_in_order rows h.1 i j d (omega arith) (omega arith)

-- where a test passes at the first k and fails later, the first k pass
front : (p : SeriesRow → Bool) (rows : List SeriesRow) (k : ℕ) → k ≤ length rows → ((j : ℕ) (d : SeriesRow) → j < k → p (get_or rows j d) ≡ true) → ((j : ℕ) (d : SeriesRow) → k ≤ j → j < length rows → p (get_or rows j d) ≡ false) → filter p rows ≡ take k rows
front p [] zero h f g = refl
front p [] (suc k) h f g = refl
front p (r ∷ rows) zero h f g = rw (g zero r (omega arith) (omega arith)) (front p rows zero (omega arith) (λ j d k. absurd (omega arith)) (λ j d k l. g (suc j) d (omega arith) (omega arith)))
front p (r ∷ rows) (suc k) h f g = rw (f zero r (omega arith)) (ap (λ v. r ∷ v) (front p rows k (omega arith) (λ j d l. f (suc j) d (omega arith)) (λ j d l m. g (suc j) d (omega arith) (omega arith))))

-- the value of the last of the first k rows
pub front_value : (rows : List SeriesRow) (time k : ℕ) (d : SeriesRow) → 0 < k → k ≤ length rows → ((j : ℕ) (d : SeriesRow) → j < k → (get_or rows j d).time ≤ time) → ((j : ℕ) (d : SeriesRow) → k ≤ j → j < length rows → time < (get_or rows j d).time) → row_value rows time ≡ (get_or rows (k - 1) d).value
front_value rows time k d some le low high =
    let these = front (λ (r : SeriesRow). leb r.time time) rows k le (λ j e l. le-leb (get_or rows j e).time time (low j e l)) (λ j e l m. lt-leb (get_or rows j e).time time (high j e l m)) in
    let long : length (map (λ (r : SeriesRow). r.value) (take k rows)) ≡ k = omega (arith, length-map (take k rows) (λ (r : SeriesRow). r.value), length-take k rows) in
    ap (λ (v : List SeriesRow). last_of (map (λ (r : SeriesRow). r.value) v)) these
    ∙ ap (λ (n : ℕ). get_or (map (λ (r : SeriesRow). r.value) (take k rows)) (n - 1) 0) long
    ∙ last_mapped k some le
  where
    last_mapped : (k : ℕ) → 0 < k → k ≤ length rows → get_or (map (λ (r : SeriesRow). r.value) (take k rows)) (k - 1) 0 ≡ (get_or rows (k - 1) d).value
    last_mapped k some le =
        let within : k - 1 < length (take k rows) = omega (arith, length-take k rows) in
        get_or-map (λ (r : SeriesRow). r.value) (take k rows) (k - 1) d 0 within ∙ ap (λ (r : SeriesRow). r.value) (get_or-take k rows (k - 1) d (omega arith))

-- the first row isn't later than a time that isn't before it
pub first_passes : (rows : List SeriesRow) (time : ℕ) (d : SeriesRow) → 0 < length rows → first_time rows ≤ time → (get_or rows 0 d).time ≤ time
first_passes [] time d h le = absurd (omega arith)
first_passes (r ∷ rows) time d h le = le

-- some row isn't later, where a slice s shows the rows w, whose second name is v
pub some_front : (s w v : List SeriesRow) (time k : ℕ) → s ≡ w → w ≡ v → 1 ≤ length w → first_time v ≤ time → ((j : ℕ) (d : SeriesRow) → k ≤ j → j < length s → time < (get_or s j d).time) → 1 ≤ k
some_front s w v time zero seen same some le high =
    let d : SeriesRow = record { time = 0; value = 0 } in
    let long : length s ≡ length w = ap (λ (u : List SeriesRow). length u) seen in
    let first : first_time s ≤ time = subst (λ (u : List SeriesRow). first_time u ≤ time) (sym (seen ∙ same)) le in
    absurd (omega (arith, high zero d (omega arith) (omega arith), first_passes s time d (omega arith) first))
some_front s w v time (suc k) seen same some le high = omega arith

-- the last of the rows that aren't later has the value
pub value_here : (s w v : List SeriesRow) (time k : ℕ) (row : SeriesRow) → s ≡ w → w ≡ v → 1 ≤ k → k ≤ length s → ((j : ℕ) (d : SeriesRow) → j < k → (get_or s j d).time ≤ time) → ((j : ℕ) (d : SeriesRow) → k ≤ j → j < length s → time < (get_or s j d).time) → row ≡ get_or w (k - 1) row → row.value ≡ row_value v time
value_here s w v time k row seen same some le low high read =
    ap (λ (r : SeriesRow). r.value) (read ∙ ap (λ (u : List SeriesRow). get_or u (k - 1) row) (sym seen)) ∙ sym (front_value s time k row some le low high) ∙ ap (λ (u : List SeriesRow). row_value u time) (seen ∙ same)

-- the value of a row is a price
pub price_here : (w : List SeriesRow) (k : ℕ) (row : SeriesRow) → 1 ≤ k → k ≤ length w → All (λ (r : SeriesRow). IsPrice r.value) w → row ≡ get_or w (k - 1) row → IsPrice row.value
price_here w k row some le prices read =
    subst (λ (r : SeriesRow). IsPrice r.value) (sym read) (prices (k - 1) row (omega arith))
