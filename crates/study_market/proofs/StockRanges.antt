-- The stocks of an accepted study are those of an opening.
use Rattle.std.proofs.Common.{◌≡◌, ◌∙◌, ◌&&◌, nat_le, Bool, true, false, ℕ, List, [], ◌∷◌, length, get_or, map, Option, None, Some, Ok, Err, All, refl, ap, if◌then◌else◌, codes}
use Rattle.std.specs.Prelude.{is_none, Result}
use Rattle.std.specs.Int.{is_in_range}
use Rattle.std.specs.List.{list_all}
use Rattle.std.proofs.lemmas.Bool.{and_parts, and_from, le-leb}
use Rattle.std.proofs.lemmas.List.Elements.{All-map}
use Rattle.toml.specs.Data.{Data, Members}
use Rattle.market_types.specs.Limits.{highest_price}
use Rattle.market_types.specs.Readers.{is_symbol, padded}
use Rattle.market_types.specs.declared.error.TypeError.{TypeError}
use Rattle.market_types.specs.declared.error.TypeError.TheVariants.{BadSymbol}
use Rattle.market_types.specs.declared.order.Symbol.{Symbol}
use Rattle.market_rules.specs.declared.bands.Band.{Band}
use Rattle.market_rules.specs.declared.error.RuleError.{RuleError}
use Rattle.market_rules.specs.EditRanges.{is_modest_fee, is_near_zero, is_within}
use Rattle.market_rules.specs.Refusals.{table_refusal}
use Rattle.market_floor.specs.Opening.{IsStock, IsTickTable}
use Rattle.study_file.proofs.KeyLists.{length-mapped}
use Rattle.study_file.specs.Values.{number_at, string_at, list_at, list_in, is_between}
use Rattle.study_market.specs.StockRules.{stocks, has_symbol, has_bands, has_fees, are_bands, are_in_range, is_band, band_in, is_fee, first_in, second_in, symbol_broken, bands_broken, fees_broken}
use Rattle.study_market.specs.Entries.{entry_of}
use Rattle.study_market.specs.Stocks.{fees_of, stock_of, stock_rules_of}
use Rattle.study_market.proofs.Lists.{each-kept}
use Rattle.study_market.proofs.Numbers.{Within, natural-between, fee-near, is-within}
use Rattle.std.specs.Prelude.{pos, unsigned_abs}

symbol-if : (b : Bool) (text : List ℕ) → b ≡ true
    → ◌≡◌ {A = Result Symbol TypeError} (if b then Ok (record { 0 = padded 8 text }) else Err BadSymbol) (Ok (record { 0 = padded 8 text }))
symbol-if true text h = refl
symbol-if false text h = absurd (cc h)

no-refusal : (o : Option RuleError) → is_none o ≡ true → o ≡ None
no-refusal None h = refl
no-refusal (Some e) h = absurd (cc h)

modest-band : (d : Data) → is_band d ≡ true → (nat_le (band_in d).from highest_price && is_within 1 1000000 (band_in d).tick) ≡ true
modest-band d h =
    let parts : (is_between (pos 0) (pos 1999999900) (first_in (list_in d)) ≡ true) × (is_between (pos 1) (pos 1000000) (second_in (list_in d)) ≡ true)
    = and_parts (is_between (pos 0) (pos 1999999900) (first_in (list_in d))) (is_between (pos 1) (pos 1000000) (second_in (list_in d))) h in
    let from : Within 0 1999999900 (unsigned_abs (first_in (list_in d))) = natural-between 0 1999999900 (first_in (list_in d)) parts.0 in
    let tick : Within 1 1000000 (unsigned_abs (second_in (list_in d))) = natural-between 1 1000000 (second_in (list_in d)) parts.1 in
    and_from (nat_le (unsigned_abs (first_in (list_in d))) highest_price) (is_within 1 1000000 (unsigned_abs (second_in (list_in d))))
    (le-leb (unsigned_abs (first_in (list_in d))) 1999999900 from.not_above) (is-within 1 1000000 (unsigned_abs (second_in (list_in d))) tick)

modest-bands : (ds : List Data) → list_all is_band ds ≡ true → list_all (λ (b : Band). nat_le b.from highest_price && is_within 1 1000000 b.tick) (map band_in ds) ≡ true
modest-bands [] h = refl
modest-bands (d ∷ ds) h =
    let parts : (is_band d ≡ true) × (list_all is_band ds ≡ true) = and_parts (is_band d) (list_all is_band ds) h in
    and_from (nat_le (band_in d).from highest_price && is_within 1 1000000 (band_in d).tick)
    (list_all (λ (b : Band). nat_le b.from highest_price && is_within 1 1000000 b.tick) (map band_in ds)) (modest-band d parts.0) (modest-bands ds parts.1)

-- bands that keep the rule are a tick table
pub is-tick-table : (ds : List Data) → are_bands ds ≡ true → IsTickTable (map band_in ds)
is-tick-table ds h =
    let parts : (are_in_range ds ≡ true) × (is_none (table_refusal (map band_in ds)) ≡ true) = and_parts (are_in_range ds) (is_none (table_refusal (map band_in ds))) h in
    let range : (is_in_range 1 16 (length ds) ≡ true) × (list_all is_band ds ≡ true) = and_parts (is_in_range 1 16 (length ds)) (list_all is_band ds) parts.0 in
    let count : is_within 1 16 (length (map band_in ds)) ≡ true = ap (is_within 1 16) (length-mapped band_in ds) ∙ range.0 in record {
      accepted = no-refusal (table_refusal (map band_in ds)) parts.1;
      modest = and_from (is_within 1 16 (length (map band_in ds))) (list_all (λ (b : Band). nat_le b.from highest_price && is_within 1 1000000 b.tick) (map band_in ds)) count (modest-bands ds range.1);
    }

pub is-fee : (t : Members) → has_fees t ≡ true → is_modest_fee (fees_of t) ≡ true
is-fee t h =
    let parts : (is_fee (number_at (codes "add") t) ≡ true) × (is_fee (number_at (codes "take") t) ≡ true)
    = and_parts (is_fee (number_at (codes "add") t)) (is_fee (number_at (codes "take") t)) h in
    and_from (is_near_zero 1000000 (number_at (codes "add") t)) (is_near_zero 1000000 (number_at (codes "take") t))
    (fee-near (number_at (codes "add") t) parts.0) (fee-near (number_at (codes "take") t) parts.1)

is-stock : (t : Members) → has_symbol t ≡ true → has_bands t ≡ true → has_fees t ≡ true → IsStock (stock_of t)
is-stock t symbol bands fees = record {
  symbol = record { text = string_at (codes "symbol") t; read = symbol-if (is_symbol (string_at (codes "symbol") t)) (string_at (codes "symbol") t) symbol };
  ticks = is-tick-table (list_at (codes "bands") t) bands;
  fees = is-fee t fees;
}

pub are-stocks : (t : Members) → symbol_broken t ≡ None → bands_broken t ≡ None → fees_broken t ≡ None → All IsStock (stock_rules_of t)
are-stocks t symbols bands fees =
    All-map IsStock (λ (d : Data). stock_of (entry_of d)) (stocks t)
    (λ k d within. is-stock (entry_of (get_or (stocks t) k d)) (each-kept has_symbol (stocks t) symbols k d within)
    (each-kept has_bands (stocks t) bands k d within) (each-kept has_fees (stocks t) fees k d within))
