use Rattle.std.proofs.Common.{◌≡◌, ◌≤◌, ◌+◌, ◌∙◌, ap, sym, map, length, List, ℕ, Option, None, Some, arith}
use Rattle.toml.specs.Data.{Data, Members}
use Rattle.toml.specs.View.{table_view, view}
use Rattle.toml.specs.declared.value.Value.{Value}
use Rattle.study_file.proofs.KeyLists.{length-mapped}
use Rattle.study_market.specs.MarketRules.{start_of, close_of}
use Rattle.study_market.specs.StockRules.{symbols, symbol_in}
use Rattle.study_market.specs.ChangeRules.{changes, time_in, first_no_change, first_before, change_keys_broken, dates_broken}
use Rattle.study_market.specs.Entries.{entry_of}
use Rattle.study_market.specs.Changes.{dated_of}
use Rattle.study_market.proofs.EntryOrder.{changes-in-order, flat-one}
use Rattle.study_market.proofs.Few.{few-changes}
use Rattle.study_market.proofs.Judging.{if-ok, if-err}
use Rattle.study_market.proofs.change_parts.read_list.Goals as goal

keys-same : (t : Members) (ds : List Data) (o : Option ℕ) → ds ≡ changes t → o ≡ first_no_change 0 ds → o ≡ change_keys_broken t
keys-same t ds o e f = f ∙ ap (first_no_change 0) e

dates-same : (t : Members) (ds : List Data) (start close : ℕ) (o : Option ℕ) → ds ≡ changes t → start ≡ start_of t → close ≡ close_of t
    → o ≡ first_before start close 0 (map time_in ds) → o ≡ dates_broken t
dates-same t ds start close o e s c f =
    f
    ∙ ap (λ (n : ℕ). first_before n close 0 (map time_in ds)) s
    ∙ ap (λ (n : ℕ). first_before (start_of t) n 0 (map time_in ds)) c
    ∙ ap (λ (es : List Data). first_before (start_of t) (close_of t) 0 (map time_in es)) e

few : (t : Members) (vs : List Value) (o : Option ℕ) → map view vs ≡ changes t → o ≡ first_no_change 0 (map view vs) → o ≡ None → length vs ≤ 1024
few t vs o e f none =
    let keys : change_keys_broken t ≡ None = sym (keys-same t (map view vs) o e f) ∙ none in
    let count : length (map view vs) ≡ length (changes t) = ap length e in
    omega (arith, few-changes t keys, count, length-mapped view vs)

pub first_before-requires : goal.first_before-requires
first_before-requires c =
    let fewer : length c.list_at-entries.result.now ≤ 1024
    = few (table_view c.args.table.now) c.list_at-entries.result.now c.first_no_change.result c.list_at-entries.ensures c.first_no_change.ensures c.in_ok-unbroken.ensures.kept in
    record { few = omega (arith, fewer) }

pub read_entries-requires : goal.read_entries-requires
read_entries-requires c = record {
  few = few (table_view c.args.table.now) c.list_at-entries.result.now c.first_no_change.result c.list_at-entries.ensures c.first_no_change.ensures c.in_ok-unbroken.ensures.kept;
}

pub returns-clause-kept : goal.returns-clause-kept
returns-clause-kept c =
    let t = table_view c.args.table.now in
    let ds = map view c.list_at-entries.result.now in
    let keys : change_keys_broken t ≡ None = sym (keys-same t ds c.first_no_change.result c.list_at-entries.ensures c.first_no_change.ensures) ∙ c.in_ok-unbroken.ensures.kept in
    let dates : dates_broken t ≡ None
    = sym (dates-same t ds c.start.result c.close.result c.first_before.result c.list_at-entries.ensures c.start.ensures c.close.ensures c.first_before.ensures) ∙ c.in_ok-unbroken-2.ensures.kept in
    let order = changes-in-order t (map symbol_in (map view c.few_stocks.result.now)) ds (ap (map symbol_in) c.few_stocks.ensures.stocks) c.list_at-entries.ensures keys dates in
    if-ok c.read_entries.result _ _ (λ list none. sym order ∙ none) c.read_entries.ensures.kept

pub returns-clause-said : goal.returns-clause-said
returns-clause-said c =
    let t = table_view c.args.table.now in
    let ds = map view c.list_at-entries.result.now in
    let known = map symbol_in (map view c.few_stocks.result.now) in
    if-ok c.read_entries.result _ _
    (λ list said. said
    ∙ flat-one (λ (d : Data). dated_of known (entry_of d)) ds
    ∙ ap (λ (names : List (List ℕ)). map (λ (d : Data). dated_of names (entry_of d)) ds) (ap (map symbol_in) c.few_stocks.ensures.stocks)
    ∙ ap (map (λ (d : Data). dated_of (symbols t) (entry_of d))) c.list_at-entries.ensures) c.read_entries.ensures.said

pub returns-clause-refused : goal.returns-clause-refused
returns-clause-refused c =
    let t = table_view c.args.table.now in
    let ds = map view c.list_at-entries.result.now in
    let keys : change_keys_broken t ≡ None = sym (keys-same t ds c.first_no_change.result c.list_at-entries.ensures c.first_no_change.ensures) ∙ c.in_ok-unbroken.ensures.kept in
    let dates : dates_broken t ≡ None
    = sym (dates-same t ds c.start.result c.close.result c.first_before.result c.list_at-entries.ensures c.start.ensures c.close.ensures c.first_before.ensures) ∙ c.in_ok-unbroken-2.ensures.kept in
    let order = changes-in-order t (map symbol_in (map view c.few_stocks.result.now)) ds (ap (map symbol_in) c.few_stocks.ensures.stocks) c.list_at-entries.ensures keys dates in
    if-err c.read_entries.result _ _ (λ e told r same. sym order ∙ told r same) c.read_entries.ensures.refused
