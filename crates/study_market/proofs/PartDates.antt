-- The dated changes of an accepted study are those of an opening.
use Rattle.std.proofs.Common.{◌≡◌, ◌<◌, ◌≤◌, ◌+◌, nat_le, Bool, true, false, not, ℕ, ℤ, pos, unsigned_abs, List, [], ◌∷◌, length, get_or, map, None, Some, All, refl, ap, arith, codes, bytes_eq, if◌then◌else◌}
use Rattle.std.specs.Prelude.{◌||◌, option_map}
use Rattle.std.proofs.lemmas.Bool.{and_parts, le-leb}
use Rattle.std.proofs.lemmas.List.{length-map}
use Rattle.std.proofs.lemmas.List.Elements.{All-nil, All-cons, All-map, All-weaker}
use Rattle.toml.specs.Data.{Data, Members}
use Rattle.market_rules.specs.Breaks.{break_after}
use Rattle.market_rules.specs.Changes.{dates_refusal}
use Rattle.market_rules.specs.EditRanges.{is_modest_fee}
use Rattle.market_rules.specs.declared.changes.Change.TheVariants.{Tick, Fee, Halt, Resume}
use Rattle.market_rules.specs.declared.changes.Dated.{Dated}
use Rattle.market_rules.specs.declared.error.RuleError.TheVariants.{DatesNotRising}
use Rattle.market_rules.specs.declared.fees.FeeTable.{FeeTable}
use Rattle.fundamental_series.specs.declared.rule.SeriesRow.{SeriesRow}
use Rattle.market_floor.specs.Opening.{IsChange, IsDated, AreDated, IsTickTable}
use Rattle.study_file.specs.Values.{string_at, list_at, is_between}
use Rattle.study_market.specs.MarketRules.{start_of, close_of}
use Rattle.study_market.specs.StockRules.{stocks, symbols, symbol_in, band_in, has_bands, has_fees}
use Rattle.study_market.specs.ChangeRules.{changes, is_kind, names_stock, time_in, first_before, has_new_rules, change_keys_broken, dates_broken, change_stock_broken, change_rules_broken}
use Rattle.study_market.proofs.Few.{few-changes}
use Rattle.study_market.specs.Entries.{entry_of, place_of}
use Rattle.study_market.specs.Stocks.{fees_of, stock_of}
use Rattle.study_market.specs.Changes.{change_of, dated_of}
use Rattle.study_market.specs.Opening.{opening_of}
use Rattle.study_market.proofs.Lists.{each-kept, found-place}
use Rattle.study_market.proofs.Numbers.{Within, natural-between}
use Rattle.study_market.proofs.StockRanges.{is-tick-table, is-fee}
use Rattle.study_market.proofs.SeriesRanges.{implied}

-- a known symbol has its place among the stocks
pub known-place : (known : List (List ℕ)) (t : Members) → names_stock known t ≡ true → place_of known (string_at (codes "stock") t) < length known
known-place known t h = found-place (λ (name : List ℕ). bytes_eq name (string_at (codes "stock") t)) known h

pub known-stock : (t entry : Members) → names_stock (symbols t) entry ≡ true → place_of (symbols t) (string_at (codes "stock") entry) < length (map (λ (d : Data). stock_of (entry_of d)) (stocks t))
known-stock t entry h =
    omega (arith, known-place (symbols t) entry h, length-map (stocks t) symbol_in, length-map (stocks t) (λ (d : Data). stock_of (entry_of d)))

change-if : (tick fee halt : Bool) (bands : List Data) (fees : FeeTable) → (tick ≡ true → IsTickTable (map band_in bands)) → (fee ≡ true → is_modest_fee fees ≡ true)
    → IsChange (if tick then Tick (map band_in bands) else if fee then Fee fees else if halt then Halt else Resume)
change-if true fee halt bands fees ticks charges = ticks refl
change-if false true halt bands fees ticks charges = charges refl
change-if false false true bands fees ticks charges = omega arith
change-if false false false bands fees ticks charges = omega arith

is-change : (t : Members) → has_new_rules t ≡ true → IsChange (change_of t)
is-change t h =
    let parts = and_parts (not (is_kind (codes "tick") t) || has_bands t) (not (is_kind (codes "fee") t) || has_fees t) h in
    change-if (is_kind (codes "tick") t) (is_kind (codes "fee") t) (is_kind (codes "halt") t) (list_at (codes "bands") t) (fees_of t)
    (λ e. is-tick-table (list_at (codes "bands") t) (implied (is_kind (codes "tick") t) (has_bands t) parts.0 e))
    (λ e. is-fee t (implied (is_kind (codes "fee") t) (has_fees t) parts.1 e))

-- the first date is in its range, and the others follow
next-if : (b : Bool) (earliest close place : ℕ) (z : ℤ) (zs : List ℤ) → is_between (pos earliest) (pos close) z ≡ b
    → (if b then first_before (unsigned_abs z) close (place + 1) zs else Some place) ≡ None
    → (is_between (pos earliest) (pos close) z ≡ true) × (first_before (unsigned_abs z) close (place + 1) zs ≡ None)
next-if true earliest close place z zs e h = (e, h)
next-if false earliest close place z zs e h = absurd (cc h)

in-hours : (earliest close place : ℕ) (ds : List Data) → first_before earliest close place (map time_in ds) ≡ None
    → All (λ (d : Data). Within earliest close (unsigned_abs (time_in d))) ds
in-hours earliest close place [] h = All-nil (λ (d : Data). Within earliest close (unsigned_abs (time_in d)))
in-hours earliest close place (d ∷ ds) h =
    let next = next-if (is_between (pos earliest) (pos close) (time_in d)) earliest close place (time_in d) (map time_in ds) refl h in
    let here : Within earliest close (unsigned_abs (time_in d)) = natural-between earliest close (time_in d) next.0 in
    All-cons (λ (e : Data). Within earliest close (unsigned_abs (time_in e))) d ds here
    (All-weaker (λ (e : Data). Within (unsigned_abs (time_in d)) close (unsigned_abs (time_in e))) (λ (e : Data). Within earliest close (unsigned_abs (time_in e)))
    (λ e w. record { not_below = omega (arith, here.not_below, w.not_below); not_above = w.not_above }) ds
    (in-hours (unsigned_abs (time_in d)) close (place + 1) ds next.1))

break-if : (b : Bool) (before x : Dated) (k : ℕ) (xs : List Dated) → nat_le before.time x.time ≡ b → b ≡ true
    → break_after (λ (p q : Dated). nat_le p.time q.time) x (k + 1) xs ≡ None
    → (if b then break_after (λ (p q : Dated). nat_le p.time q.time) x (k + 1) xs else Some k) ≡ None
break-if true before x k xs e b h = h
break-if false before x k xs e b h = absurd (cc b)

rising-after : (known : List (List ℕ)) (earliest close place : ℕ) (ds : List Data) (before : Dated) (k : ℕ) → first_before earliest close place (map time_in ds) ≡ None
    → before.time ≤ earliest → break_after (λ (p q : Dated). nat_le p.time q.time) before k (map (λ (d : Data). dated_of known (entry_of d)) ds) ≡ None
rising-after known earliest close place [] before k h le = refl
rising-after known earliest close place (d ∷ ds) before k h le =
    let next = next-if (is_between (pos earliest) (pos close) (time_in d)) earliest close place (time_in d) (map time_in ds) refl h in
    let here : Within earliest close (unsigned_abs (time_in d)) = natural-between earliest close (time_in d) next.0 in
    break-if (nat_le before.time (unsigned_abs (time_in d))) before (dated_of known (entry_of d)) k (map (λ (e : Data). dated_of known (entry_of e)) ds) refl
    (le-leb before.time (unsigned_abs (time_in d)) (omega (arith, le, here.not_below)))
    (rising-after known (unsigned_abs (time_in d)) close (place + 1) ds (dated_of known (entry_of d)) (k + 1) next.1 (omega arith))

pub dates-rise : (known : List (List ℕ)) (earliest close : ℕ) (ds : List Data) → first_before earliest close 0 (map time_in ds) ≡ None
    → dates_refusal (map (λ (d : Data). dated_of known (entry_of d)) ds) ≡ None
dates-rise known earliest close [] h = refl
dates-rise known earliest close (d ∷ ds) h =
    let next = next-if (is_between (pos earliest) (pos close) (time_in d)) earliest close 0 (time_in d) (map time_in ds) refl h in
    ap (option_map DatesNotRising) (rising-after known (unsigned_abs (time_in d)) close 1 ds (dated_of known (entry_of d)) 1 next.1 (omega arith))

pub are-dated : (t : Members) (tables : List (List SeriesRow)) → change_keys_broken t ≡ None → dates_broken t ≡ None → change_stock_broken t ≡ None
    → change_rules_broken t ≡ None → AreDated (opening_of t tables)
are-dated t tables keys dates named rules = record {
  few = omega (arith, few-changes t keys, length-map (changes t) (λ (d : Data). dated_of (symbols t) (entry_of d)));
  rising = dates-rise (symbols t) (start_of t) (close_of t) (changes t) dates;
  each = All-map (IsDated (opening_of t tables)) (λ (d : Data). dated_of (symbols t) (entry_of d)) (changes t)
      (λ k d within.
      let hours : Within (start_of t) (close_of t) (unsigned_abs (time_in (get_or (changes t) k d))) = in-hours (start_of t) (close_of t) 0 (changes t) dates k d within in record {
        start = hours.not_below;
        close = hours.not_above;
        stock = known-stock t (entry_of (get_or (changes t) k d)) (each-kept (names_stock (symbols t)) (changes t) named k d within);
        change = is-change (entry_of (get_or (changes t) k d)) (each-kept has_new_rules (changes t) rules k d within);
      });
}
