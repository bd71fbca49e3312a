-- What edits may speak of beside an opening, and that it is what an accepted study's entries say.
use Rattle.std.proofs.Common.{◌≡◌, ◌∙◌, ◌==◌, ◌++◌, ◌<◌, ◌≤◌, ◌&&◌, nat_lt, ℕ, zero, suc, Bool, true, false, cond, List, [], ◌∷◌, length, map, take, replicate, Option, None, Some, Ok, Err, All, refl, sym, ap, arith, codes, if◌then◌else◌}
use Rattle.std.specs.Prelude.{Result, not, is_none, is_some, position, slice_index_or}
use Rattle.std.specs.Option.{option_or}
use Rattle.std.specs.Result.{result_unwrap_or}
use Rattle.std.specs.Char.{is_ascii_graphic}
use Rattle.std.specs.Int.{is_in_range}
use Rattle.std.specs.List.{filter_map, list_all, before_first, position_or_len, take_while}
use Rattle.std.proofs.lemmas.Bool.{and_parts}
use Rattle.std.proofs.lemmas.Bool.Decides.{nat_tests}
use Rattle.std.proofs.lemmas.Option.{same_Some}
use Rattle.std.proofs.lemmas.List.{length-map, take_all}
use Rattle.std.proofs.lemmas.List.Elements.{All-head, All-tail}
use Rattle.std.proofs.lemmas.List.Sums.{take_while-cons}
use Rattle.toml.specs.Data.{Data, Members}
use Rattle.latency_model.specs.Tables.{group_count}
use Rattle.market_rules.specs.declared.edit.Edit.{Edit}
use Rattle.fundamental_series.specs.declared.rule.SeriesRow.{SeriesRow}
use Rattle.agent_shell.specs.declared.setting.TraderSetting.{TraderSetting}
use Rattle.exchange_agent.specs.declared.told.StockRules.{StockRules}
use Rattle.market_floor.specs.declared.opening.Opening.{Opening}
use Rattle.market_floor.specs.Opening.{IsOpening}
use Rattle.kernel_copy.specs.Courses.{AreEdits}
use Rattle.study_file.specs.Values.{string_at}
use Rattle.study_file.proofs.KeyLists.{length-mapped}
use Rattle.study_market.specs.declared.early_refusal.Refusal.{Refusal}
use Rattle.study_market.specs.Entries.{entry_of as entry_in}
use Rattle.study_market.specs.FirstBroken.{first_of_rules}
use Rattle.study_market.specs.FirstOfMarket.{first_broken, early_refusal, series_refusal, last_refusal, late_refusal, tables_of}
use Rattle.study_market.specs.Market.{numbers_in}
use Rattle.study_market.specs.MarketRules.{bases, size_of}
use Rattle.study_market.specs.Opening.{opening_of, IsAccepted}
use Rattle.study_market.specs.StockRules.{stocks, symbols, symbol_in, has_symbol}
use Rattle.study_market.specs.AgentRules.{agents}
use Rattle.study_market.specs.Stocks.{stock_of}
use Rattle.study_market.proofs.Held.{are-held, both-none}
use Rattle.study_market.proofs.Lists.{each-kept}
use Rattle.study_rules.specs.Entries.{entry_of}
use Rattle.study_rules.specs.BranchRules.{forms_broken}
use Rattle.study_rules.specs.FirstBroken.{branch_rules}
use Rattle.study_rules.specs.Fitting.{word_of}
use Rattle.study_rules.specs.Scope.{Scope, IsSmall, kinds_of, kinds_in, written_symbol, scope_of, scope_of_opening}
use Rattle.study_rules.specs.EditRules.{edit_in}
use Rattle.study_rules.specs.Accepted.{StudyTold, first_refusal, rows_in, told_of, study_of}
use Rattle.study_rules.proofs.Walks.{few-edits}
use Rattle.study_rules.proofs.Making.{fewer, all-fit}
use Rattle.study_rules.proofs.Editing.{edits-of, kinds-said}

-- there are no more stocks, traders and groups at an opening than a study may have

pub small_opening : (o : Opening) (rs : List StockRules) (ss : List TraderSetting) (n : ℕ) → IsOpening o → rs ≡ o.stocks → ss ≡ o.traders → n ≡ group_count o.groups
    → IsSmall (record { stocks = map written_symbol rs; kinds = map word_of (kinds_in ss); groups = n })
small_opening o rs ss n h stocks-are traders-are is =
    let listed : length rs ≡ length o.stocks = ap length stocks-are in
    let acting : length ss ≡ length o.traders = ap length traders-are in
    record {
      stocks = omega (arith, h.market.few, listed, length-mapped written_symbol rs);
      traders = omega (arith, h.market.traders, acting, length-mapped (λ (s : TraderSetting). s.cash) o.traders, length-mapped word_of (kinds_in ss), length-mapped (λ (s : TraderSetting). s.kind) ss);
      groups = omega (arith, is, h.groups.few_groups);
    }

-- the edits that a list of entries says can be made at the opening

pub list-fits : (o : Opening) (ds : List Data) → forms_broken ds ≡ None → AreEdits o (filter_map (λ d. edit_in (scope_of_opening o) (entry_of d)) ds)
list-fits o ds h =
    let scope : Scope = scope_of_opening o in
    let less = fewer (λ d. edit_in scope (entry_of d)) ds in
    let few = few-edits ds h in
    edits-of o (length scope.stocks) scope.groups (filter_map (λ d. edit_in scope (entry_of d)) ds) (length-mapped written_symbol o.stocks) refl
    (record { few = omega (arith, less, few); fit = all-fit scope (kinds_in o.traders) refl ds })

-- the answer on a list of entries

pub none-left : (o : Option ℕ) → is_some o ≡ false → o ≡ None
none-left None h = refl
none-left (Some n) h = absurd (cc h)

abbrev pub listed_edits : Option ℕ → Option ℕ → List Edit → Option (List Edit)
listed_edits forms edits es = if is_none forms && is_none edits then Some es else None

pub bad-edit : (o p : Option ℕ) (es : List Edit) → is_some p ≡ true → None ≡ listed_edits o p es
bad-edit None None es h = absurd (cc h)
bad-edit None (Some n) es h = refl
bad-edit (Some n) p es h = refl

pub good-edits : (o p : Option ℕ) (es : List Edit) → is_some o ≡ false → is_some p ≡ false → Some es ≡ listed_edits o p es
good-edits None None es h e = refl
good-edits None (Some n) es h e = absurd (cc e)
good-edits (Some n) p es h e = absurd (cc h)

-- the word of the kind of a trader

pub word-of-item : (ss : List TraderSetting) (n : ℕ) (s : TraderSetting) → n < length ss → s ≡ slice_index_or ss n s
    → word_of s.kind ≡ slice_index_or (map word_of (kinds_in ss)) n []
word-of-item [] n s h e = absurd (omega (arith, h))
word-of-item (x ∷ xs) zero s h e = ap (λ (y : TraderSetting). word_of y.kind) e
word-of-item (x ∷ xs) (suc n) s h e = word-of-item xs n s (omega (arith, h)) e

-- the bytes before the first space

pub found-if : (b : Bool) (n at : ℕ) → cond b (Some n) None ≡ Some at → (b ≡ true) × (n ≡ at)
found-if true n at h = (refl, same_Some _ _ h)
found-if false n at h = absurd (cc h)

none-if : (b : Bool) (n : ℕ) → ◌≡◌ {A = Option ℕ} (cond b (Some n) None) None → b ≡ false
none-if true n h = absurd (cc h)
none-if false n h = refl

pub space-found : (p : ℕ → Bool) (xs : List ℕ) (at : ℕ) → position p xs ≡ Some at → (at < length xs) × (take at xs ≡ before_first p xs)
space-found p xs at h =
    let found = found-if (nat_lt (position_or_len p xs) (length xs)) (position_or_len p xs) at h in
    (grind (arith, nat_tests, found.0, found.1), ap (λ n. take n xs) (sym found.1))

pub no-space-found : (p : ℕ → Bool) (xs : List ℕ) → position p xs ≡ None → xs ≡ before_first p xs
no-space-found p xs h =
    let past : nat_lt (position_or_len p xs) (length xs) ≡ false = none-if (nat_lt (position_or_len p xs) (length xs)) (position_or_len p xs) h in
    let long : length xs ≤ position_or_len p xs = grind (arith, nat_tests, past) in
    sym (take_all (position_or_len p xs) xs long)

-- a symbol is written as the study says it

no-space : (c : ℕ) → is_ascii_graphic c ≡ true → (c == 32) ≡ false
no-space c h = grind (arith, nat_tests, h)

before-spaces : (text : List ℕ) (n : ℕ) → list_all is_ascii_graphic text ≡ true → before_first (λ c. c == 32) (text ++ replicate n 32) ≡ text
before-spaces [] zero h = refl
before-spaces [] (suc n) h = refl
before-spaces (c ∷ cs) n h =
    let parts : (is_ascii_graphic c ≡ true) × (list_all is_ascii_graphic cs ≡ true) = and_parts (is_ascii_graphic c) (list_all is_ascii_graphic cs) h in
    take_while-cons (λ x. not (x == 32)) c (cs ++ replicate n 32)
    ∙ ap (λ (b : Bool). cond (not b) (c ∷ take_while (λ x. not (x == 32)) (cs ++ replicate n 32)) []) (no-space c parts.0)
    ∙ ap (λ (xs : List ℕ). c ∷ xs) (before-spaces cs n parts.1)

stocks-said : (ds : List Data) → All (λ (d : Data). has_symbol (entry_in d) ≡ true) ds
    → map written_symbol (map (λ (d : Data). stock_of (entry_in d)) ds) ≡ map symbol_in ds
stocks-said [] h = refl
stocks-said (d ∷ ds) h =
    let P : Data → Type 0 = λ x. has_symbol (entry_in x) ≡ true in
    let text : List ℕ = string_at (codes "symbol") (entry_in d) in
    let parts = and_parts (is_in_range 1 8 (length text)) (list_all is_ascii_graphic text) (All-head P d ds h) in
    ap (λ (xs : List (List ℕ)). written_symbol (stock_of (entry_in d)) ∷ xs) (stocks-said ds (All-tail P d ds h))
    ∙ ap (λ (x : List ℕ). x ∷ map symbol_in ds) (before-spaces text _ parts.1)

-- both scopes agree

rows-read : (r : Result (List (List SeriesRow)) ℕ) (t : Members)
    → ◌≡◌ {A = Option Refusal} (elim r [ Err number ↦ Some (record { rule = 19; place = number }) | Ok rows ↦ late_refusal t rows ]) None
    → r ≡ Ok (result_unwrap_or r [])
rows-read (Ok rows) t h = refl
rows-read (Err number) t h = absurd (cc h)

accepted : (t : Members) (series : Option (List ℕ)) → first_broken t series ≡ None → IsAccepted t (rows_in t series)
accepted t series h =
    let late = both-none (early_refusal t) (option_or (series_refusal t series) (last_refusal t)) h in
    let rows = both-none (series_refusal t series) (last_refusal t) late.1 in
    record { series = series; accepted = h; rows = rows-read (tables_of t series) t rows.0 }

abbrev scope_with : List (List ℕ) → List (List ℕ) → ℕ → Scope
scope_with names kinds groups = record { stocks = names; kinds = kinds; groups = groups }

agree-at : (t : Members) (rows : List (List SeriesRow)) → IsAccepted t rows → scope_of_opening (opening_of t rows) ≡ scope_of t
agree-at t rows h =
    let o : Opening = opening_of t rows in
    let listed : map written_symbol o.stocks ≡ symbols t = stocks-said (stocks t) (each-kept has_symbol (stocks t) (are-held t rows h).symbol_texts) in
    let acting : map word_of (kinds_in o.traders) ≡ kinds_of (agents t) = kinds-said t rows h in
    let linked : group_count o.groups ≡ size_of t = length-map (bases t) numbers_in in
    ap (λ (xs : List (List ℕ)). scope_with xs (map word_of (kinds_in o.traders)) (group_count o.groups)) listed
    ∙ ap (λ (xs : List (List ℕ)). scope_with (symbols t) xs (group_count o.groups)) acting
    ∙ ap (λ (n : ℕ). scope_with (symbols t) (kinds_of (agents t)) n) linked

accepted-if : (o : Option Refusal) (told s : StudyTold) → ◌≡◌ {A = Result StudyTold Refusal} (elim o [ Some r ↦ Err r | None ↦ Ok told ]) (Ok s) → (o ≡ None) × (told ≡ s)
accepted-if None told s h = (refl, cc h)
accepted-if (Some r) told s h = absurd (cc h)

pub scopes-agree : (t : Members) (series : Option (List ℕ)) (s : StudyTold) → study_of t series ≡ Ok s → scope_of_opening s.course.opening ≡ scope_of t
unfolding study_of
scopes-agree t series s h =
    let found = accepted-if (first_refusal t series) (told_of t (rows_in t series)) s h in
    let kept = both-none (first_broken t series) (first_of_rules branch_rules t) found.0 in
    ap (λ (x : StudyTold). scope_of_opening x.course.opening) (sym found.1) ∙ agree-at t (rows_in t series) (accepted t series kept.0)
