-- Each rule is kept by an accepted study.
use Rattle.std.proofs.Common.{◌≡◌, ℕ, Bool, true, false, List, [], ◌∷◌, Option, None, Some, Ok, Err, refl, ap, sym, ◌∙◌}
use Rattle.std.specs.Prelude.{Result, option_map}
use Rattle.std.specs.Option.{option_or}
use Rattle.toml.specs.Data.{Members}
use Rattle.study_file.specs.Values.{broken_unless}
use Rattle.study_market.specs.declared.early_refusal.Refusal.{Refusal}
use Rattle.study_market.specs.FirstBroken.{Rule, market_rules, stock_rules, first_of_rules}
use Rattle.study_market.specs.MarketRules.{start_of, key_broken, day_broken, limits_broken, squares_broken, cells_broken, exchange_broken}
use Rattle.study_market.specs.StockRules.{stocks, stock_count_broken, stock_keys_broken, symbol_broken, repeat_broken, bands_broken, fees_broken, prices_broken, pace_broken}
use Rattle.fundamental_series.specs.declared.rule.SeriesRow.{SeriesRow}
use Rattle.study_market.specs.Late.{first_late}
use Rattle.study_market.specs.ChangeRules.{change_keys_broken, dates_broken, change_stock_broken, change_rules_broken}
use Rattle.study_market.specs.AgentRules.{counts_broken, agent_keys_broken, timing_broken, agent_stock_broken, own_broken}
use Rattle.study_market.specs.FirstOfMarket.{change_rules, agent_rules, tables_of, late_refusal, series_refusal, early_refusal, last_refusal}
use Rattle.study_market.specs.Opening.{IsAccepted}

-- each of these rules is kept
abbrev pub Held : Members → List Rule → Type 0
Held t [] = Unit {0}
Held t (r ∷ rs) = (r.broken t ≡ None) × Held t rs

rule-held : (o : Option ℕ) (n : ℕ) (others : Option Refusal)
    → ◌≡◌ {A = Option Refusal} (elim o [ None ↦ others | Some place ↦ Some (record { rule = n; place = place }) ]) None
    → (o ≡ None) × (others ≡ None)
rule-held None n others h = (refl, h)
rule-held (Some place) n others h = absurd (cc h)

held : (rs : List Rule) (t : Members) → first_of_rules rs t ≡ None → Held t rs
held [] t h = tt
held (r ∷ rs) t h =
    let parts : (r.broken t ≡ None) × (first_of_rules rs t ≡ None) = rule-held (r.broken t) r.number (first_of_rules rs t) h in
    (parts.0, held rs t parts.1)

-- the latencies are square, and there are 1 to 16 stocks
pub square-held : (t : Members) → first_of_rules market_rules t ≡ None → squares_broken t ≡ None
square-held t h = (held market_rules t h).1.1.1.1.1.1.0

pub counted-held : (t : Members) → first_of_rules stock_rules t ≡ None → stock_count_broken t ≡ None
counted-held t h = (held stock_rules t h).0

pub dates-held : (t : Members) → first_of_rules change_rules t ≡ None → dates_broken t ≡ None
dates-held t h = (held change_rules t h).1.0

pub both-none : {A : Type 0} (o p : Option A) → option_or o p ≡ None → (o ≡ None) × (p ≡ None)
both-none None p h = (refl, h)
both-none (Some x) p h = absurd (cc h)

none-mapped : {A B : Type 0} (f : A → B) (o : Option A) → option_map f o ≡ None → o ≡ None
none-mapped f None h = refl
none-mapped f (Some x) h = absurd (cc h)

pub held-unless : (b : Bool) (place : ℕ) → broken_unless b place ≡ None → b ≡ true
held-unless true place h = refl
held-unless false place h = absurd (cc h)

-- what an accepted study keeps
pub record AreHeld (t : Members) (tables : List (List SeriesRow)) : Type 0 where
  pub key : key_broken t ≡ None
  pub day : day_broken t ≡ None
  pub limits : limits_broken t ≡ None
  pub squares : squares_broken t ≡ None
  pub cells : cells_broken t ≡ None
  pub exchange : exchange_broken t ≡ None
  pub stock_count : stock_count_broken t ≡ None
  pub stock_keys : stock_keys_broken t ≡ None
  pub symbol_texts : symbol_broken t ≡ None
  pub repeats : repeat_broken t ≡ None
  pub bands : bands_broken t ≡ None
  pub fees : fees_broken t ≡ None
  pub prices : prices_broken t ≡ None
  pub pace : pace_broken t ≡ None
  pub late : first_late (start_of t) (stocks t) tables ≡ None
  pub change_keys : change_keys_broken t ≡ None
  pub dates : dates_broken t ≡ None
  pub change_stocks : change_stock_broken t ≡ None
  pub new_rules : change_rules_broken t ≡ None
  pub counts : counts_broken t ≡ None
  pub agent_keys : agent_keys_broken t ≡ None
  pub timing : timing_broken t ≡ None
  pub agent_stocks : agent_stock_broken t ≡ None
  pub own : own_broken t ≡ None

of-rows : (r : Result (List (List SeriesRow)) ℕ) (t : Members) (tables : List (List SeriesRow)) → r ≡ Ok tables
    → ◌≡◌ {A = Option Refusal} (elim r [ Err number ↦ Some (record { rule = 19; place = number }) | Ok rows ↦ late_refusal t rows ]) None
    → late_refusal t tables ≡ None
of-rows (Ok rows) t tables e h = let same : rows ≡ tables = cc e in ap (late_refusal t) (sym same) ∙ h
of-rows (Err number) t tables e h = absurd (cc h)

pub are-held : (t : Members) (tables : List (List SeriesRow)) → IsAccepted t tables → AreHeld t tables
are-held t tables h =
    let early = both-none (early_refusal t) (option_or (series_refusal t h.series) (last_refusal t)) h.accepted in
    let late = both-none (series_refusal t h.series) (last_refusal t) early.1 in
    let first = both-none (first_of_rules market_rules t) (first_of_rules stock_rules t) early.0 in
    let last = both-none (first_of_rules change_rules t) (first_of_rules agent_rules t) late.1 in
    let market : Held t market_rules = held market_rules t first.0 in
    let listed : Held t stock_rules = held stock_rules t first.1 in
    let dated : Held t change_rules = held change_rules t last.0 in
    let acting : Held t agent_rules = held agent_rules t last.1 in
    let hours = market.1.1.1 in
    let tables_held = hours.1.1.1 in
    let names = listed.1.1 in
    let numbers = names.1.1.1 in record {
      key = market.1.1.0;
      day = hours.0;
      limits = hours.1.0;
      squares = tables_held.0;
      cells = tables_held.1.0;
      exchange = tables_held.1.1.0;
      stock_count = listed.0;
      stock_keys = listed.1.0;
      symbol_texts = names.0;
      repeats = names.1.0;
      bands = names.1.1.0;
      fees = numbers.0;
      prices = numbers.1.0;
      pace = numbers.1.1.0;
      late = none-mapped {A = ℕ} {B = Refusal} (λ (place : ℕ). record { rule = 20; place = place }) (first_late (start_of t) (stocks t) tables) (of-rows (tables_of t h.series) t tables h.rows late.0);
      change_keys = dated.0;
      dates = dated.1.0;
      change_stocks = dated.1.1.0;
      new_rules = dated.1.1.1.0;
      counts = acting.0;
      agent_keys = acting.1.0;
      timing = acting.1.1.0;
      agent_stocks = acting.1.1.1.0;
      own = acting.1.1.1.1.0;
    }
