-- The rows of each stock that a series file says are in order.
use Rattle.std.proofs.Common.{◌≡◌, ◌∙◌, ◌<◌, ◌+◌, ◌-◌, ◌&&◌, ◌==◌, nat_lt, nat_le, Bool, true, false, ℕ, suc, List, [], ◌∷◌, ◌++◌, length, set, replicate, Option, Some, None, Result, Ok, Err, All, if◌then◌else◌, refl, sym, ap, subst, inl, inr, arith}
use Rattle.std.specs.Prelude.{position}
use Rattle.std.specs.List.{AllByRecursion}
use Rattle.std.specs.Int.{is_in_range}
use Rattle.std.proofs.lemmas.Bool.{and_parts, cases_eq, cases_lt, ltb-true}
use Rattle.std.proofs.lemmas.Bool.Decides.{nat_tests}
use Rattle.std.proofs.lemmas.List.{get_or-set_same, get_or-set_other, set_past, get_or-replicate, get_or_past, length-replicate}
use Rattle.std.proofs.lemmas.List.Elements.{All-nil, All-push}
use Rattle.std.proofs.lemmas.Option.{same_Some}
use Rattle.toml.specs.Data.{Data, Members}
use Rattle.study_market.specs.StockRules.{stocks}
use Rattle.study_market.specs.FirstOfMarket.{tables_of}
use Rattle.fundamental_series.specs.declared.rule.SeriesRow.{SeriesRow}
use Rattle.fundamental_series.specs.Ranges.{IsPrice, IsRising}
use Rattle.study_market.specs.declared.row.FileRow.{FileRow}
use Rattle.study_market.specs.Records.{is_header, is_stock_of, is_time, is_value, number_of, timed_row, row_of, row_in, field_of, records_of}
use Rattle.study_market.specs.Rows.{last_row, is_later, rows_of, with_row, with_record, after_record, rows_from, no_rows, read_rows}

-- the values are prices, and the times rise
pub record AreOrdered (rows : List SeriesRow) : Type 0 where
  pub prices : All (λ (r : SeriesRow). IsPrice r.value) rows
  pub rising : IsRising rows

-- all rows are earlier than one that is later than the last
all-earlier : (rows : List SeriesRow) (row : SeriesRow) → IsRising rows → is_later rows row ≡ true → AllByRecursion (λ (s : SeriesRow). s.time < row.time) rows
all-earlier [] row h later = tt
all-earlier (r ∷ []) row h later = (ltb-true r.time row.time later, tt)
all-earlier (r ∷ (s ∷ ss)) row h later =
    let e : length (r ∷ (s ∷ ss)) - 1 ≡ suc (length (s ∷ ss) - 1) = omega arith in
    let same : last_row (r ∷ (s ∷ ss)) ≡ last_row (s ∷ ss) = rw e refl in
    let rest : AllByRecursion (λ (x : SeriesRow). x.time < row.time) (s ∷ ss)
    = all-earlier (s ∷ ss) row h.1 (ap (λ (o : Option SeriesRow). elim o [ None ↦ true | Some before ↦ nat_lt before.time row.time ]) (sym same) ∙ later) in
    (omega (arith, h.0.0, rest.0), rest)

all-push : (P : SeriesRow → Type 0) (rows : List SeriesRow) (row : SeriesRow) → AllByRecursion P rows → P row → AllByRecursion P (rows ++ row ∷ [])
all-push P [] row h p = (p, tt)
all-push P (r ∷ rows) row h p = (h.0, all-push P rows row h.1 p)

rising-push : (rows : List SeriesRow) (row : SeriesRow) → IsRising rows → AllByRecursion (λ (s : SeriesRow). s.time < row.time) rows → IsRising (rows ++ row ∷ [])
rising-push [] row h earlier = (tt, tt)
rising-push (r ∷ rows) row h earlier =
    (all-push (λ (s : SeriesRow). r.time < s.time) rows row h.0 earlier.0, rising-push rows row h.1 earlier.1)

ordered-push : (rows : List SeriesRow) (row : SeriesRow) → AreOrdered rows → IsPrice row.value → is_later rows row ≡ true → AreOrdered (rows ++ row ∷ [])
ordered-push rows row h price later = record {
  prices = All-push (λ (r : SeriesRow). IsPrice r.value) rows row h.prices price;
  rising = rising-push rows row h.rising (all-earlier rows row h.rising later);
}

-- the rows of each stock are in order
AllOrdered : List (List SeriesRow) → Type 0
AllOrdered tables = (k : ℕ) → AreOrdered (rows_of tables k)

ordered-set : (tables : List (List SeriesRow)) (stock : ℕ) (rows : List SeriesRow) → AllOrdered tables → AreOrdered rows → AllOrdered (set tables stock rows)
unfolding AllOrdered
ordered-set tables stock rows h new = λ k.
    elim (cases_eq k stock) [
      | inl e ↦ elim (cases_lt stock (length tables)) [
        | inl within ↦ rw e (subst AreOrdered (sym (get_or-set_same tables stock rows [] within)) new)
        | inr past ↦ subst (λ (ts : List (List SeriesRow)). AreOrdered (rows_of ts k)) (sym (set_past tables stock rows past)) (h k)
      ]
      | inr other ↦ subst AreOrdered (sym (get_or-set_other tables stock k rows [] other)) (h k)
    ]

with-if : (b : Bool) (tables more : List (List SeriesRow)) (r : FileRow) → is_later (rows_of tables r.stock) r.row ≡ b → AllOrdered tables → IsPrice r.row.value
    → (if b then Some (set tables r.stock (rows_of tables r.stock ++ r.row ∷ [])) else None) ≡ Some more → AllOrdered more
unfolding AllOrdered
with-if true tables more r e h price same =
    subst AllOrdered (same_Some _ _ same) (ordered-set tables r.stock (rows_of tables r.stock ++ r.row ∷ []) h (ordered-push (rows_of tables r.stock) r.row (h r.stock) price e))
with-if false tables more r e h price same = absurd (cc same)

price-if : (b : Bool) (stock : ℕ) (time value : List ℕ) (r : FileRow) → (is_time time && is_value value) ≡ b
    → (if b then Some (record { stock = stock; row = record { time = number_of time; value = number_of value } }) else None) ≡ Some r → IsPrice r.row.value
price-if true stock time value r e same =
    let parts : (is_time time ≡ true) × (is_value value ≡ true) = and_parts (is_time time) (is_value value) e in
    let range = and_parts (nat_le 1 (number_of value)) (nat_le (number_of value) 1999999900) (and_parts _ (is_in_range 1 1999999900 (number_of value)) parts.1).1 in
    let value-of : number_of value ≡ r.row.value = ap (λ (x : FileRow). x.row.value) (same_Some _ _ same) in
    subst IsPrice value-of (record { low = grind (arith, nat_tests, range.0); high = grind (arith, nat_tests, range.1) })
price-if false stock time value r e same = absurd (cc same)

price-at : (o : Option ℕ) (time value : List ℕ) (r : FileRow) → elim o [ None ↦ None | Some stock ↦ timed_row stock time value ] ≡ Some r → IsPrice r.row.value
price-at None time value r same = absurd (cc same)
price-at (Some stock) time value r same = price-if (is_time time && is_value value) stock time value r refl same

price-in : (b : Bool) (stocks : List Data) (symbol time value : List ℕ) (r : FileRow) → (if b then row_of stocks symbol time value else None) ≡ Some r → IsPrice r.row.value
price-in true stocks symbol time value r same = price-at (position (is_stock_of symbol) stocks) time value r same
price-in false stocks symbol time value r same = absurd (cc same)

row-price : (stocks : List Data) (fields : List (List ℕ)) (r : FileRow) → row_in stocks fields ≡ Some r → IsPrice r.row.value
row-price stocks fields r same = price-in (length fields == 3) stocks (field_of fields 0) (field_of fields 1) (field_of fields 2) r same

with-found : (o : Option FileRow) (stocks : List Data) (tables more : List (List SeriesRow)) (fields : List (List ℕ)) → row_in stocks fields ≡ o → AllOrdered tables
    → elim o [ None ↦ None | Some row ↦ with_row tables row ] ≡ Some more → AllOrdered more
with-found None stocks tables more fields e h same = absurd (cc same)
with-found (Some r) stocks tables more fields e h same =
    with-if (is_later (rows_of tables r.stock) r.row) tables more r refl h (row-price stocks fields r e) same

header-if : (b : Bool) (tables more : List (List SeriesRow)) → AllOrdered tables → (if b then Some tables else None) ≡ Some more → AllOrdered more
header-if true tables more h same = subst AllOrdered (same_Some _ _ same) h
header-if false tables more h same = absurd (cc same)

later-if : (b : Bool) (stocks : List Data) (tables more : List (List SeriesRow)) (fields : List (List ℕ)) → AllOrdered tables
    → (if b then with_record stocks tables fields else None) ≡ Some more → AllOrdered more
later-if true stocks tables more fields h same = with-found (row_in stocks fields) stocks tables more fields refl h same
later-if false stocks tables more fields h same = absurd (cc same)

after-if : (b : Bool) (stocks : List Data) (number : ℕ) (tables more : List (List SeriesRow)) (fields : List (List ℕ)) → AllOrdered tables
    → (if b then (if is_header fields then Some tables else None) else (if nat_le number 1000000 then with_record stocks tables fields else None)) ≡ Some more → AllOrdered more
after-if true stocks number tables more fields h same = header-if (is_header fields) tables more h same
after-if false stocks number tables more fields h same = later-if (nat_le number 1000000) stocks tables more fields h same

after-ordered : (stocks : List Data) (number : ℕ) (tables more : List (List SeriesRow)) (fields : List (List ℕ)) → AllOrdered tables
    → after_record stocks number tables fields ≡ Some more → AllOrdered more
after-ordered stocks number tables more fields h same = after-if (number == 0) stocks number tables more fields h same

end-if : (b : Bool) (tables more : List (List SeriesRow)) → AllOrdered tables → ◌≡◌ {A = Result (List (List SeriesRow)) ℕ} (if b then Err 0 else Ok tables) (Ok more) → AllOrdered more
end-if true tables more h same = absurd (cc same)
end-if false tables more h same = let e : tables ≡ more = cc same in subst AllOrdered e h

from-step : (o : Option (List (List SeriesRow))) (stocks : List Data) (number : ℕ) (tables last : List (List SeriesRow)) (fields : List (List ℕ)) (rest : List (List (List ℕ)))
    → after_record stocks number tables fields ≡ o → AllOrdered tables
    → ((more : List (List SeriesRow)) → AllOrdered more → rows_from stocks (number + 1) more rest ≡ Ok last → AllOrdered last)
    → ◌≡◌ {A = Result (List (List SeriesRow)) ℕ} (elim o [ None ↦ Err number | Some more ↦ rows_from stocks (number + 1) more rest ]) (Ok last) → AllOrdered last
from-step None stocks number tables last fields rest e h go same = absurd (cc same)
from-step (Some more) stocks number tables last fields rest e h go same = go more (after-ordered stocks number tables more fields h e) same

from-ordered : (stocks : List Data) (number : ℕ) (tables last : List (List SeriesRow)) (records : List (List (List ℕ))) → AllOrdered tables
    → rows_from stocks number tables records ≡ Ok last → AllOrdered last
from-ordered stocks number tables last [] h same = end-if (number == 0) tables last h same
from-ordered stocks number tables last (fields ∷ rest) h same =
    from-step (after_record stocks number tables fields) stocks number tables last fields rest refl h
    (λ more ordered e. from-ordered stocks (number + 1) more last rest ordered e) same

no-rows : AreOrdered []
no-rows = record { prices = All-nil (λ (r : SeriesRow). IsPrice r.value); rising = tt }

none-ordered : (n : ℕ) → AllOrdered (replicate n [])
unfolding AllOrdered
none-ordered n = λ k.
    elim (cases_lt k n) [
      | inl within ↦ subst AreOrdered (sym (get_or-replicate n k [] [] within)) no-rows
      | inr past ↦ subst AreOrdered (sym (get_or_past (replicate n []) k [] (omega (arith, past, length-replicate {A = List SeriesRow} n [])))) no-rows
    ]

read-ordered : (entries : List Data) (text : List ℕ) (tables : List (List SeriesRow)) → read_rows entries text ≡ Ok tables → AllOrdered tables
read-ordered entries text tables h = from-ordered entries 0 (no_rows entries) tables (records_of text) (none-ordered (length entries)) h

empty-ordered : (n : ℕ) (tables : List (List SeriesRow)) → ◌≡◌ {A = Result (List (List SeriesRow)) ℕ} (Ok (replicate n [])) (Ok tables) → AllOrdered tables
empty-ordered n tables h = let same : replicate n [] ≡ tables = cc h in subst AllOrdered same (none-ordered n)

-- the rows of each stock of a study
pub are-ordered : (t : Members) (series : Option (List ℕ)) (tables : List (List SeriesRow)) → tables_of t series ≡ Ok tables
    → (k : ℕ) → AreOrdered (rows_of tables k)
unfolding AllOrdered
are-ordered t None tables h k = empty-ordered (length (stocks t)) tables h k
are-ordered t (Some text) tables h k = read-ordered (stocks t) text tables h k
