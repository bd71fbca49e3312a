-- A tick table: bands of prices, each with its tick. A band reaches from its first price up to the next band.
use Rattle.std.specs.Prelude.{ℕ, ◌%◌, ◌==◌, Bool, nat_le, List, Option, None, filter, option_map, unwrap_or}
use Rattle.std.specs.List.{last_or}
use Rattle.std.specs.Ordering.{on, eq_of_both}
use Rattle.market_rules.specs.declared.bands.Band.{Band}

-- the last band that doesn't start above the price
abbrev pub band_of : List Band → ℕ → Option Band
band_of bands price = last_or None (filter (λ (b : Band). nat_le b.from price) bands)

-- its tick
abbrev pub tick_of : List Band → ℕ → ℕ
tick_of bands price = unwrap_or (option_map (λ (b : Band). b.tick) (band_of bands price)) 0

-- whether the price is a multiple of its tick
abbrev pub is_allowed : List Band → ℕ → Bool
is_allowed bands price = price % tick_of bands price == 0

-- whether two bands are the same
abbrev pub is_same_band : Band → Band → Bool
is_same_band = eq_of_both (on (λ (b : Band). b.from) ◌==◌) (on (λ (b : Band). b.tick) ◌==◌)
