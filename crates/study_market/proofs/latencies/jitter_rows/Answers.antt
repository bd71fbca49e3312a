use Rattle.std.proofs.Common.{◌≡◌, ◌∙◌, ◌++◌, ◌∷◌, [], ℕ, List, Vec, Global, All, true, get_or, take, map, ap, subst, pos, rules}
use Rattle.std.proofs.lemmas.List.{map_push}
use Rattle.toml.specs.Data.{Data}
use Rattle.toml.specs.View.{view}
use Rattle.study_file.specs.Values.{number_in, list_in, is_between}
use Rattle.study_market.specs.Market.{numbers_in}
use Rattle.study_market.proofs.LatencyRanges.{value-cells}
use Rattle.study_market.proofs.ReadMore.{read-more}
use Rattle.study_market.proofs.latencies.jitter_rows.Goals as goal

pub jitter_row-requires : goal.jitter_row-requires
jitter_row-requires c =
    let here : get_or c.args.rows.now c.loop-row.row-index c.row-item.result ≡ c.row-item.result = search rules in
    subst (λ v. All (λ (x : Data). is_between (pos 0) (pos 4294967295) (number_in x) ≡ true) (list_in (view v))) here
    (value-cells (pos 4294967295) 1024 c.args.rows.now c.loop-row.row-index c.row-item.result c.loop-row-test.true c.requires)

pub loop-row-preserved : goal.loop-row-preserved
loop-row-preserved c =
    let here : get_or c.args.rows.now c.loop-row.row-index c.row-item.result ≡ c.row-item.result = search rules in
    let items : Vec ℕ Global → List ℕ = λ row. row.items in
    ap (map items) c.in_ok-push.ensures.items
    ∙ map_push items c.loop-row.table.items c.in_ok-numbers.numbers
    ∙ ap (λ (xs : List (List ℕ)). xs ++ c.in_ok-numbers.numbers.items ∷ []) c.loop-row.invariant
    ∙ ap (λ (n : List ℕ). map numbers_in (map view (take c.loop-row.row-index c.args.rows.now)) ++ n ∷ []) c.in_ok-numbers.ensures
    ∙ read-more numbers_in c.args.rows.now c.loop-row.row-index c.row-item.result c.loop-row-test.true here
