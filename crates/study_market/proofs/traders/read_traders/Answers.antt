use Rattle.std.proofs.Common.{◌≡◌, ◌≤◌, ◌==◌, ◌∙◌, ap, sym, map, length, List, ℕ, Option, None, Some, arith, if◌then◌else◌}
use Rattle.std.specs.List.{flat_map}
use Rattle.toml.specs.Data.{Data, Members}
use Rattle.toml.specs.View.{table_view, view}
use Rattle.toml.specs.declared.value.Value.{Value}
use Rattle.study_file.proofs.KeyLists.{length-mapped}
use Rattle.study_market.specs.MarketRules.{size_of}
use Rattle.study_market.specs.StockRules.{symbols, symbol_in}
use Rattle.study_market.specs.AgentRules.{agents, first_too_many, counts_broken}
use Rattle.study_market.specs.Entries.{entry_of}
use Rattle.study_market.specs.Traders.{traders_in}
use Rattle.study_market.proofs.EntryOrder.{agents-in-order}
use Rattle.study_market.proofs.Few.{few-agents}
use Rattle.study_market.proofs.Judging.{if-ok, if-err}
use Rattle.study_market.proofs.Squares.{squares}
use Rattle.study_market.proofs.traders.read_traders.Goals as goal

counts-same : (t : Members) (ds : List Data) (o : Option ℕ) → ds ≡ agents t → o ≡ (if length ds == 0 then Some 0 else first_too_many 511 0 ds) → o ≡ counts_broken t
counts-same t ds o e f = f ∙ ap (λ (es : List Data). if length es == 0 then Some 0 else first_too_many 511 0 es) e

pub invariant_of-reading-clause-square : goal.invariant_of-reading-clause-square
invariant_of-reading-clause-square c =
    let few : size_of (table_view c.args.table.now) ≤ 32 = (squares (table_view c.args.table.now) c.requires.square).0 in
    omega (arith, few, c.group_number.ensures)

pub read_entries-requires : goal.read_entries-requires
read_entries-requires c =
    let t = table_view c.args.table.now in
    let vs = c.list_at-entries.result.now in
    let counts : counts_broken t ≡ None = sym (counts-same t (map view vs) c.counts_broken.result c.list_at-entries.ensures c.counts_broken.ensures) ∙ c.in_ok-unbroken.ensures.kept in
    let count : length (map view vs) ≡ length (agents t) = ap length c.list_at-entries.ensures in
    record { few = omega (arith, few-agents t counts, count, length-mapped view vs) }

pub returns-clause-kept : goal.returns-clause-kept
returns-clause-kept c =
    let t = table_view c.args.table.now in
    let ds = map view c.list_at-entries.result.now in
    let counts : counts_broken t ≡ None = sym (counts-same t ds c.counts_broken.result c.list_at-entries.ensures c.counts_broken.ensures) ∙ c.in_ok-unbroken.ensures.kept in
    let order = agents-in-order t c.group_number.result c.start.result (map symbol_in (map view c.few_stocks.result.now)) ds c.group_number.ensures c.start.ensures
    (ap (map symbol_in) c.few_stocks.ensures.stocks) c.list_at-entries.ensures counts in
    if-ok c.read_entries.result _ _ (λ list none. sym order ∙ none) c.read_entries.ensures.kept

pub returns-clause-said : goal.returns-clause-said
returns-clause-said c =
    let t = table_view c.args.table.now in
    let ds = map view c.list_at-entries.result.now in
    if-ok c.read_entries.result _ _
    (λ list said. said
    ∙ ap (λ (names : List (List ℕ)). flat_map (λ (d : Data). traders_in names (entry_of d)) ds) (ap (map symbol_in) c.few_stocks.ensures.stocks)
    ∙ ap (flat_map (λ (d : Data). traders_in (symbols t) (entry_of d))) c.list_at-entries.ensures) c.read_entries.ensures.said

pub returns-clause-refused : goal.returns-clause-refused
returns-clause-refused c =
    let t = table_view c.args.table.now in
    let ds = map view c.list_at-entries.result.now in
    let counts : counts_broken t ≡ None = sym (counts-same t ds c.counts_broken.result c.list_at-entries.ensures c.counts_broken.ensures) ∙ c.in_ok-unbroken.ensures.kept in
    let order = agents-in-order t c.group_number.result c.start.result (map symbol_in (map view c.few_stocks.result.now)) ds c.group_number.ensures c.start.ensures
    (ap (map symbol_in) c.few_stocks.ensures.stocks) c.list_at-entries.ensures counts in
    if-err c.read_entries.result _ _ (λ e told r same. sym order ∙ told r same) c.read_entries.ensures.refused
