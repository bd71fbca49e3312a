use Rattle.std.proofs.Common.{◌∙◌, ap, sym, subst, map, List, ℕ, Vec, Global}
use Rattle.toml.specs.View.{table_view}
use Rattle.latency_model.specs.Ranges.{IsInRange}
use Rattle.study_market.specs.MarketRules.{cell_outside}
use Rattle.std.proofs.Common.{pos}
use Rattle.study_market.specs.Market.{numbers_in}
use Rattle.study_market.proofs.Held.{both-none}
use Rattle.study_market.specs.MarketRules.{bases, jitters}
use Rattle.study_market.proofs.LatencyRanges.{are-latencies}
use Rattle.study_market.proofs.latencies.latencies.Goals as goal

pub new-requires : goal.new-requires
new-requires c =
    let ranges = are-latencies (table_view c.args.table.now) c.requires.square c.requires.cells in
    let base = ap (map (λ (row : Vec ℕ Global). row.items)) c.as_slice.ensures.value ∙ c.in_ok-base.ensures ∙ ap (map numbers_in) c.bases.ensures in
    let jitter = ap (map (λ (row : Vec ℕ Global). row.items)) c.as_slice-2.ensures.value ∙ c.in_ok-jitter.ensures ∙ ap (map numbers_in) c.jitters.ensures in
    subst (λ (x : List (List ℕ)). IsInRange (record { base = x; jitter = map (λ (row : Vec ℕ Global). row.items) c.as_slice-2.result.now })) (sym base)
    (subst (λ (y : List (List ℕ)). IsInRange (record { base = map numbers_in (bases (table_view c.args.table.now)); jitter = y })) (sym jitter) ranges)

pub jitter_rows-requires : goal.jitter_rows-requires
jitter_rows-requires c =
    ap (cell_outside (pos 4294967295) 1024) c.jitters.ensures
    ∙ (both-none (cell_outside (pos 3600000000000) 0 (bases (table_view c.args.table.now))) (cell_outside (pos 4294967295) 1024 (jitters (table_view c.args.table.now))) c.requires.cells).1
