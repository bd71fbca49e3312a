-- The values of an accepted study's stocks.
use Rattle.std.proofs.Common.{◌≡◌, ◌∙◌, ◌<◌, ◌≤◌, ◌+◌, ◌/◌, ◌&&◌, nat_le, Bool, true, false, not, ℕ, pos, unsigned_abs, List, [], ◌∷◌, ◌++◌, take, length, get_or, map, Option, None, Some, Ok, All, unwrap_or, refl, sym, ap, subst, inl, inr, arith, codes, bytes_eq, if◌then◌else◌}
use Rattle.std.specs.Prelude.{◌||◌, is_some, int_le}
use Rattle.std.specs.Cmp.Lexicographic.{bytes_decides}
use Rattle.std.specs.List.{list_any, enumerate_from, AllByRecursion}
use Rattle.std.proofs.lemmas.Bool.{and_parts, or_cases, false≢true, leb-true, not-false}
use Rattle.std.proofs.lemmas.List.{get_or-map, length-map, take_more, take_all}
use Rattle.std.proofs.lemmas.List.FromFn.{length-enumerate_from}
use Rattle.toml.specs.View.{view}
use Rattle.toml.specs.declared.value.Value.{Value}
use Rattle.toml.specs.Data.{Data, Members, no_members, as_table, table}
use Rattle.fundamental_series.specs.Made.{Made, by_rule, by_rows, first_time}
use Rattle.fundamental_series.specs.Ranges.{AreRows, IsPrice, IsRising, IsInRange}
use Rattle.fundamental_series.specs.declared.rule.SeriesRow.{SeriesRow}
use Rattle.market_floor.specs.Opening.{IsSeriesFor, AreSeries, no_series}
use Rattle.study_file.specs.Keys.{passes, has_form, has_keys}
use Rattle.study_file.specs.Tables.{is_named, text_at}
use Rattle.study_file.specs.Values.{number_at, has_between}
use Rattle.study_market.specs.Forms.{stock_form}
use Rattle.study_market.specs.MarketRules.{start_of, span_of}
use Rattle.study_market.specs.StockRules.{stocks, goes_by, is_by_rows, has_prices, has_pace, stock_keys_broken, prices_broken, pace_broken}
use Rattle.study_market.specs.Late.{is_late, first_late}
use Rattle.study_market.specs.Rows.{rows_of}
use Rattle.study_market.specs.FirstOfMarket.{tables_of}
use Rattle.study_market.specs.Entries.{entry_of, natural_at}
use Rattle.study_market.specs.Stocks.{series_rule_of, rule_made_of, series_in, series_of, stock_of, HaveRows}
use Rattle.study_market.specs.Opening.{opening_of}
use Rattle.study_market.proofs.Ordered.{AreOrdered, are-ordered}
use Rattle.study_market.proofs.Lists.{position-none, each-passes, each-kept, is-entry, numbered}
use Rattle.study_market.proofs.Numbers.{Within, natural-between, at-least}

early-after : (a start : ℕ) (rows : List SeriesRow) → AllByRecursion (λ (s : SeriesRow). a < s.time) rows
    → list_any (λ (s : SeriesRow). nat_le s.time start) rows ≡ true → a ≤ start
early-after a start [] h any = absurd (cc any)
early-after a start (r ∷ rows) h any =
    elim (or_cases (nat_le r.time start) (list_any (λ (s : SeriesRow). nat_le s.time start) rows) any) [
      | inl e ↦ omega (arith, h.0, leb-true r.time start e)
      | inr e ↦ early-after a start rows h.1 e
    ]

-- rows of which some is not later than the start
early-row : (start : ℕ) (rows : List SeriesRow) → IsRising rows → list_any (λ (s : SeriesRow). nat_le s.time start) rows ≡ true
    → (1 ≤ length rows) × (first_time rows ≤ start)
early-row start [] h any = absurd (cc any)
early-row start (r ∷ rows) h any =
    elim (or_cases (nat_le r.time start) (list_any (λ (s : SeriesRow). nat_le s.time start) rows) any) [
      | inl e ↦ (omega arith, leb-true r.time start e)
      | inr e ↦ (omega arith, early-after r.time start rows h.0 e)
    ]

same-text : (a b : List ℕ) → bytes_eq a b ≡ true → bytes_eq b a ≡ true
same-text a b h = (bytes_decides b a).1 (sym ((bytes_decides a b).0 h))

by-word : (o : Option (List ℕ)) (rest : List ℕ → Bool) → passes (λ (word : List ℕ). is_named (codes "rule" ∷ codes "rows" ∷ []) word && rest word) o ≡ true
    → bytes_eq (unwrap_or o []) (codes "rule") ≡ false → bytes_eq (unwrap_or o []) (codes "rows") ≡ true
by-word None rest h other = absurd (cc h)
by-word (Some word) rest h other =
    let named : is_named (codes "rule" ∷ codes "rows" ∷ []) word ≡ true = (and_parts (is_named (codes "rule" ∷ codes "rows" ∷ []) word) (rest word) h).0 in
    elim (or_cases (bytes_eq (codes "rule") word) (bytes_eq (codes "rows") word || false) named) [
      | inl e ↦ absurd (false≢true (sym other ∙ same-text (codes "rule") word e))
      | inr e ↦ elim (or_cases (bytes_eq (codes "rows") word) false e) [
        | inl f ↦ same-text (codes "rows") word f
        | inr f ↦ absurd (false≢true f)
      ]
    ]

by-rows : (t : Members) → has_form stock_form t ≡ true → goes_by (codes "rule") t ≡ false → goes_by (codes "rows") t ≡ true
by-rows t h other = by-word (text_at (codes "series") t) (λ (word : List ℕ). has_keys word stock_form.keys t) h other

passing-entry : (test : Members → Bool) (o : Option Members) → is_some o ≡ true → test (unwrap_or o no_members) ≡ true → passes test o ≡ true
passing-entry test None some h = absurd (cc some)
passing-entry test (Some t) some h = h

passed-form : (o : Option Members) → passes (has_form stock_form) o ≡ true → has_form stock_form (unwrap_or o no_members) ≡ true
passed-form None h = absurd (cc h)
passed-form (Some t) h = h

-- a stock by rows has rows, of which the first is not later than the start
record Rows (start : ℕ) (rows : List SeriesRow) : Type 0 where
  rows_in_order : AreRows rows
  first_early : first_time rows ≤ start

have-rows : (start : ℕ) (ds : List Data) (tables : List (List SeriesRow)) → ((k : ℕ) → AreOrdered (rows_of tables k))
    → All (λ (d : Data). passes (has_form stock_form) (as_table d) ≡ true) ds → first_late start ds tables ≡ None
    → (k : ℕ) (d : Data) → k < length ds → goes_by (codes "rule") (entry_of (get_or ds k d)) ≡ false → Rows start (rows_of tables k)
have-rows start ds tables order forms late k d within other =
    let entry : Data = get_or ds k d in
    let form : has_form stock_form (entry_of entry) ≡ true = passed-form (as_table entry) (forms k d within) in
    let rows : is_by_rows entry ≡ true
    = passing-entry (goes_by (codes "rows")) (as_table entry) (is-entry (has_form stock_form) (as_table entry) (forms k d within)) (by-rows (entry_of entry) form other) in
    let found : get_or (enumerate_from 0 ds) k (0, d) ≡ (k, entry) = numbered ds k (0, d) within in
    let long : k < length (enumerate_from 0 ds) = omega (arith, within, length-enumerate_from 0 ds) in
    let none = position-none (λ (p : ℕ × Data). is_by_rows p.1 && is_late start (rows_of tables p.0)) (enumerate_from 0 ds) late k (0, d) long in
    let early : (is_by_rows entry && is_late start (rows_of tables k)) ≡ false
    = ap (λ (p : ℕ × Data). is_by_rows p.1 && is_late start (rows_of tables p.0)) (sym found) ∙ none in
    let in-time : is_late start (rows_of tables k) ≡ false = sym (ap (λ (b : Bool). b && is_late start (rows_of tables k)) rows) ∙ early in
    let any : list_any (λ (s : SeriesRow). nat_le s.time start) (rows_of tables k) ≡ true
    = not-false (list_any (λ (s : SeriesRow). nat_le s.time start) (rows_of tables k)) in-time in
    let first = early-row start (rows_of tables k) (order k).rising any in record {
      rows_in_order = record { some_row = first.0; prices = (order k).prices; rising = (order k).rising };
      first_early = first.1;
    }

pub implied : (a b : Bool) → (not a || b) ≡ true → a ≡ true → b ≡ true
implied true b h e = h
implied false b h e = absurd (cc e)

price : (key : List ℕ) (t : Members) → has_between (pos 1) (pos 1999999900) key t ≡ true → IsPrice (natural_at key t)
price key t h =
    let within : Within 1 1999999900 (natural_at key t) = natural-between 1 1999999900 (number_at key t) h in record { low = within.not_below; high = within.not_above }

-- a stock's rule is in its ranges, and takes few steps
pub is-series-rule : (span : ℕ) (t : Members) → goes_by (codes "rule") t ≡ true → has_prices t ≡ true → has_pace span t ≡ true
    → IsInRange (series_rule_of t) × (span / (series_rule_of t).every ≤ 65535)
is-series-rule span t goes prices pace =
    let two = and_parts (has_between (pos 1) (pos 1999999900) (codes "start") t) (has_between (pos 1) (pos 1999999900) (codes "mean") t)
    (implied (goes_by (codes "rule") t) (has_between (pos 1) (pos 1999999900) (codes "start") t && has_between (pos 1) (pos 1999999900) (codes "mean") t) prices goes) in
    let pull : Bool = has_between (pos 0) (pos 1000000) (codes "pull") t in
    let shock : Bool = has_between (pos 0) (pos 1000000000) (codes "shock") t in
    let some : Bool = int_le (pos 1) (number_at (codes "every") t) in
    let few : Bool = nat_le (span / unsigned_abs (number_at (codes "every") t)) 65535 in
    let four = and_parts (pull && shock && some) few (implied (goes_by (codes "rule") t) (pull && shock && some && few) pace goes) in
    let three = and_parts (pull && shock) some four.0 in
    let both = and_parts pull shock three.0 in (
      record {
        start = price (codes "start") t two.0;
        mean = price (codes "mean") t two.1;
        pull = (natural-between 0 1000000 (number_at (codes "pull") t) both.0).not_above;
        shock = (natural-between 0 1000000000 (number_at (codes "shock") t) both.1).not_above;
        every = at-least 1 (number_at (codes "every") t) three.1;
      },
      leb-true (span / unsigned_abs (number_at (codes "every") t)) 65535 four.1,
    )

series-if : (b : Bool) (t : Members) (tables : List (List SeriesRow)) (k : ℕ) (stock : Members) → goes_by (codes "rule") stock ≡ b
    → has_prices stock ≡ true → has_pace (span_of t) stock ≡ true → (goes_by (codes "rule") stock ≡ false → Rows (start_of t) (rows_of tables k))
    → IsSeriesFor (opening_of t tables) k (if b then by_rule (rule_made_of t k stock) else by_rows (rows_of tables k))
series-if true t tables k stock goes prices pace rows =
    let rule = is-series-rule (span_of t) stock goes prices pace in record {
      key = refl;
      stock = refl;
      start = refl;
      close = refl;
      rule = rule.0;
      steps = rule.1;
    }
series-if false t tables k stock goes prices pace rows = record { rows = (rows goes).rows_in_order; first = (rows goes).first_early }

no-entry : Data
no-entry = table no_members

pub are-series : (t : Members) (series : Option (List ℕ)) (tables : List (List SeriesRow)) → tables_of t series ≡ Ok tables
    → stock_keys_broken t ≡ None → prices_broken t ≡ None → pace_broken t ≡ None → first_late (start_of t) (stocks t) tables ≡ None
    → AreSeries (opening_of t tables)
are-series t series tables read forms prices pace late =
    let count : length (series_of t tables) ≡ length (stocks t)
    = length-map (enumerate_from 0 (stocks t)) (λ (p : ℕ × Data). series_in t tables p.0 (entry_of p.1)) ∙ length-enumerate_from 0 (stocks t) in record {
      count = count ∙ sym (length-map (stocks t) (λ (d : Data). stock_of (entry_of d)));
      each = λ k within.
          let few : k < length (stocks t) = omega (arith, within, count) in
          let long : k < length (enumerate_from 0 (stocks t)) = omega (arith, few, length-enumerate_from 0 (stocks t)) in
          let entry : Data = get_or (stocks t) k no-entry in
          let found : get_or (series_of t tables) k no_series ≡ series_in t tables k (entry_of entry)
          = get_or-map (λ (p : ℕ × Data). series_in t tables p.0 (entry_of p.1)) (enumerate_from 0 (stocks t)) k (0, no-entry) no_series long
          ∙ ap (λ (p : ℕ × Data). series_in t tables p.0 (entry_of p.1)) (numbered (stocks t) k (0, no-entry) few) in
          subst (IsSeriesFor (opening_of t tables) k) (sym found)
          (series-if (goes_by (codes "rule") (entry_of entry)) t tables k (entry_of entry) refl (each-kept has_prices (stocks t) prices k no-entry few)
          (each-kept (has_pace (span_of t)) (stocks t) pace k no-entry few)
          (have-rows (start_of t) (stocks t) tables (are-ordered t series tables read) (each-passes (has_form stock_form) (stocks t) forms) late k no-entry few));
    }

-- the rows of the stocks that go by rows
pub rows-there : (t : Members) (series : Option (List ℕ)) (tables : List (List SeriesRow)) → tables_of t series ≡ Ok tables
    → stock_keys_broken t ≡ None → first_late (start_of t) (stocks t) tables ≡ None → HaveRows (stocks t) tables
rows-there t series tables read forms late = λ k d within other.
    (have-rows (start_of t) (stocks t) tables (are-ordered t series tables read) (each-passes (has_form stock_form) (stocks t) forms) late k d within other).rows_in_order

-- the values of a stock are those at its place
pub series-more : (t : Members) (tables : List (List SeriesRow)) (vs : List Value) (i : ℕ) (d : Value) → i < length vs
    → take (i + 1) (map (λ (p : ℕ × Data). series_in t tables p.0 (entry_of p.1)) (enumerate_from 0 (map view vs)))
    ≡ take i (map (λ (p : ℕ × Data). series_in t tables p.0 (entry_of p.1)) (enumerate_from 0 (map view vs)))
    ++ series_in t tables i (entry_of (view (get_or vs i d))) ∷ []
series-more t tables vs i d within =
    let f : ℕ × Data → Made = λ p. series_in t tables p.0 (entry_of p.1) in
    let few : i < length (map view vs) = omega (arith, within, length-map vs view) in
    let long : i < length (enumerate_from 0 (map view vs)) = omega (arith, few, length-enumerate_from 0 (map view vs)) in
    let found : get_or (map f (enumerate_from 0 (map view vs))) i no_series ≡ series_in t tables i (entry_of (view (get_or vs i d)))
    = get_or-map f (enumerate_from 0 (map view vs)) i (0, view d) no_series long
    ∙ ap f (numbered (map view vs) i (0, view d) few)
    ∙ ap (λ (e : Data). series_in t tables i (entry_of e)) (get_or-map view vs i d (view d) within) in
    take_more (map f (enumerate_from 0 (map view vs))) i no_series (omega (arith, long, length-map (enumerate_from 0 (map view vs)) f))
    ∙ ap (λ (m : Made). take i (map f (enumerate_from 0 (map view vs))) ++ m ∷ []) found

pub all-series : (t : Members) (tables : List (List SeriesRow)) (vs : List Value) (n : ℕ) → length vs ≤ n
    → take n (map (λ (p : ℕ × Data). series_in t tables p.0 (entry_of p.1)) (enumerate_from 0 (map view vs)))
    ≡ map (λ (p : ℕ × Data). series_in t tables p.0 (entry_of p.1)) (enumerate_from 0 (map view vs))
all-series t tables vs n enough =
    let f : ℕ × Data → Made = λ p. series_in t tables p.0 (entry_of p.1) in
    take_all n (map f (enumerate_from 0 (map view vs)))
    (omega (arith, enough, length-map vs view, length-enumerate_from 0 (map view vs), length-map (enumerate_from 0 (map view vs)) f))

-- the rows of the stock at a place
pub value-rows : (vs : List Value) (tables : List (List SeriesRow)) (i : ℕ) (d : Value) → i < length vs → HaveRows (map view vs) tables
    → goes_by (codes "rule") (entry_of (view (get_or vs i d))) ≡ false → AreRows (rows_of tables i)
value-rows vs tables i d within h other =
    h i (view d) (omega (arith, within, length-map vs view))
    (ap (λ (e : Data). goes_by (codes "rule") (entry_of e)) (get_or-map view vs i d (view d) within) ∙ other)
