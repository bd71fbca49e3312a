-- From the parts of the rules to the first broken one.
use Rattle.std.proofs.Common.{◌≡◌, ℕ, List, Option, None, Some, Ok, Err, IfOk, refl, ap, ◌∙◌}
use Rattle.std.specs.Prelude.{Result, IfErr}
use Rattle.std.specs.Option.{option_or}
use Rattle.toml.specs.Data.{Members}
use Rattle.fundamental_series.specs.declared.rule.SeriesRow.{SeriesRow}
use Rattle.study_market.specs.declared.early_refusal.Refusal.{Refusal}
use Rattle.study_market.specs.FirstBroken.{market_rules, stock_rules, first_of_rules}
use Rattle.study_market.specs.FirstOfMarket.{change_rules, agent_rules, tables_of, late_refusal, series_refusal, first_broken}

whole : Option Refusal → Option Refusal → Option Refusal → Option Refusal → Option Refusal → Option Refusal
whole market stocks series changes agents = option_or (option_or market stocks) (option_or series (option_or changes agents))

-- what is broken first, by what is of each part
pub by-parts : (t : Members) (text : Option (List ℕ)) (market stocks series changes agents : Option Refusal) → first_of_rules market_rules t ≡ market
    → first_of_rules stock_rules t ≡ stocks → series_refusal t text ≡ series → first_of_rules change_rules t ≡ changes → first_of_rules agent_rules t ≡ agents
    → first_broken t text ≡ option_or (option_or market stocks) (option_or series (option_or changes agents))
unfolding whole
by-parts t text market stocks series changes agents m s r c a =
    ap (λ (o : Option Refusal). whole o (first_of_rules stock_rules t) (series_refusal t text) (first_of_rules change_rules t) (first_of_rules agent_rules t)) m
    ∙ ap (λ (o : Option Refusal). whole market o (series_refusal t text) (first_of_rules change_rules t) (first_of_rules agent_rules t)) s
    ∙ ap (λ (o : Option Refusal). whole market stocks o (first_of_rules change_rules t) (first_of_rules agent_rules t)) r
    ∙ ap (λ (o : Option Refusal). whole market stocks series o (first_of_rules agent_rules t)) c
    ∙ ap (λ (o : Option Refusal). whole market stocks series changes o) a

pub of-tables : (t : Members) (series : Option (List ℕ)) (tables : List (List SeriesRow)) → tables_of t series ≡ Ok tables
    → series_refusal t series ≡ late_refusal t tables
of-tables t series tables f = rw (series_refusal, f)

-- the part that breaks a rule first

pub market_refused : (t : Members) (text : Option (List ℕ)) (r : Refusal) → first_of_rules market_rules t ≡ Some r → first_broken t text ≡ Some r
market_refused t text r m = by-parts t text (Some r) (first_of_rules stock_rules t) (series_refusal t text) (first_of_rules change_rules t) (first_of_rules agent_rules t) m refl refl refl refl

pub stocks_refused : (t : Members) (text : Option (List ℕ)) (r : Refusal) → first_of_rules market_rules t ≡ None → first_of_rules stock_rules t ≡ Some r
    → first_broken t text ≡ Some r
stocks_refused t text r m s = by-parts t text None (Some r) (series_refusal t text) (first_of_rules change_rules t) (first_of_rules agent_rules t) m s refl refl refl

pub series_refused : (t : Members) (text : Option (List ℕ)) (r : Refusal) → first_of_rules market_rules t ≡ None → first_of_rules stock_rules t ≡ None
    → series_refusal t text ≡ Some r → first_broken t text ≡ Some r
series_refused t text r m s f = by-parts t text None None (Some r) (first_of_rules change_rules t) (first_of_rules agent_rules t) m s f refl refl

pub late_refused : (t : Members) (text : Option (List ℕ)) (tables : List (List SeriesRow)) (r : Refusal) → first_of_rules market_rules t ≡ None
    → first_of_rules stock_rules t ≡ None → tables_of t text ≡ Ok tables → late_refusal t tables ≡ Some r → first_broken t text ≡ Some r
late_refused t text tables r m s f l = series_refused t text r m s (of-tables t text tables f ∙ l)

pub changes_refused : (t : Members) (text : Option (List ℕ)) (tables : List (List SeriesRow)) (r : Refusal) → first_of_rules market_rules t ≡ None
    → first_of_rules stock_rules t ≡ None → tables_of t text ≡ Ok tables → late_refusal t tables ≡ None → first_of_rules change_rules t ≡ Some r
    → first_broken t text ≡ Some r
changes_refused t text tables r m s f l c = by-parts t text None None None (Some r) (first_of_rules agent_rules t) m s (of-tables t text tables f ∙ l) c refl

pub agents_refused : (t : Members) (text : Option (List ℕ)) (tables : List (List SeriesRow)) (r : Refusal) → first_of_rules market_rules t ≡ None
    → first_of_rules stock_rules t ≡ None → tables_of t text ≡ Ok tables → late_refusal t tables ≡ None → first_of_rules change_rules t ≡ None
    → first_of_rules agent_rules t ≡ Some r → first_broken t text ≡ Some r
agents_refused t text tables r m s f l c a = by-parts t text None None None None (Some r) m s (of-tables t text tables f ∙ l) c a

pub none_refused : (t : Members) (text : Option (List ℕ)) (tables : List (List SeriesRow)) → first_of_rules market_rules t ≡ None
    → first_of_rules stock_rules t ≡ None → tables_of t text ≡ Ok tables → late_refusal t tables ≡ None → first_of_rules change_rules t ≡ None
    → first_of_rules agent_rules t ≡ None → first_broken t text ≡ None
none_refused t text tables m s f l c a = by-parts t text None None None None None m s (of-tables t text tables f ∙ l) c a

pub if-ok : {A E : Type 0} (r : Result A E) (P Q : A → Type 0) → ((a : A) → P a → Q a) → IfOk r P → IfOk r Q
if-ok (Ok a) P Q f h = f a h
if-ok (Err e) P Q f h = h

pub if-err : {A E : Type 0} (r : Result A E) (P Q : E → Type 0) → ((e : E) → P e → Q e) → IfErr r P → IfErr r Q
if-err (Ok a) P Q f h = h
if-err (Err e) P Q f h = f e h
