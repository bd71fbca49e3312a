-- The dated changes that a study's entries say, in order.
use Rattle.std.specs.Prelude.{ℕ, List, map, codes, if◌then◌else◌}
use Rattle.toml.specs.Data.{Data, Members}
use Rattle.market_rules.specs.declared.changes.Change.{Change}
use Rattle.market_rules.specs.declared.changes.Change.TheVariants.{Tick, Fee, Halt, Resume}
use Rattle.market_rules.specs.declared.changes.Dated.{Dated}
use Rattle.study_file.specs.Values.{string_at, list_at}
use Rattle.study_market.specs.StockRules.{symbols, band_in}
use Rattle.study_market.specs.ChangeRules.{changes, is_kind}
use Rattle.study_market.specs.Entries.{entry_of, natural_at, place_of}
use Rattle.study_market.specs.Stocks.{fees_of}

abbrev pub change_of : Members → Change
change_of t =
    if is_kind (codes "tick") t then Tick (map band_in (list_at (codes "bands") t))
    else if is_kind (codes "fee") t then Fee (fees_of t)
    else if is_kind (codes "halt") t then Halt
    else Resume

-- a change of one of the stocks of these symbols
abbrev pub dated_of : List (List ℕ) → Members → Dated
dated_of known t = record {
  time = natural_at (codes "time") t;
  stock = place_of known (string_at (codes "stock") t);
  change = change_of t;
}

abbrev pub changes_of : Members → List Dated
changes_of t = map (λ (d : Data). dated_of (symbols t) (entry_of d)) (changes t)
