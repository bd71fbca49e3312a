use Rattle.std.proofs.Common.{◌≡◌, ◌∙◌, ◌++◌, ◌∷◌, [], ℕ, List, Vec, Global, get_or, take, map, ap, rules}
use Rattle.std.proofs.lemmas.List.{map_push}
use Rattle.toml.specs.View.{view}
use Rattle.study_market.specs.Market.{numbers_in}
use Rattle.study_market.proofs.ReadMore.{read-more}
use Rattle.study_market.proofs.latencies.base_rows.Goals as goal

pub loop-row-preserved : goal.loop-row-preserved
loop-row-preserved c =
    let here : get_or c.args.rows.now c.loop-row.row-index c.row-item.result ≡ c.row-item.result = search rules in
    let items : Vec ℕ Global → List ℕ = λ row. row.items in
    ap (map items) c.in_ok-push.ensures.items
    ∙ map_push items c.loop-row.table.items c.in_ok-numbers.numbers
    ∙ ap (λ (xs : List (List ℕ)). xs ++ c.in_ok-numbers.numbers.items ∷ []) c.loop-row.invariant
    ∙ ap (λ (n : List ℕ). map numbers_in (map view (take c.loop-row.row-index c.args.rows.now)) ++ n ∷ []) c.in_ok-numbers.ensures
    ∙ read-more numbers_in c.args.rows.now c.loop-row.row-index c.row-item.result c.loop-row-test.true here
