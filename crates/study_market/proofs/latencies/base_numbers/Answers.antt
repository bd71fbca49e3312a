use Rattle.std.proofs.Common.{◌≡◌, ◌∙◌, ◌++◌, ◌∷◌, [], ℕ, List, get_or, take, map, unsigned_abs, ap, rules}
use Rattle.toml.specs.Data.{Data}
use Rattle.toml.specs.View.{view}
use Rattle.study_file.specs.Values.{number_in}
use Rattle.study_market.proofs.ReadMore.{read-more}
use Rattle.study_market.proofs.latencies.base_numbers.Goals as goal

pub loop-item-preserved : goal.loop-item-preserved
loop-item-preserved c =
    let here : get_or c.args.items.now c.loop-item.item-index c.item-item.result ≡ c.item-item.result = search rules in
    let f : Data → ℕ = λ x. unsigned_abs (number_in x) in
    let said : c.unsigned_abs.result ≡ unsigned_abs c.number_in.result = search rules in
    c.in_ok-push.ensures.items
    ∙ ap (λ (xs : List ℕ). xs ++ c.unsigned_abs.result ∷ []) c.loop-item.invariant
    ∙ ap (λ (n : ℕ). map f (map view (take c.loop-item.item-index c.args.items.now)) ++ n ∷ []) (said ∙ ap unsigned_abs c.number_in.ensures)
    ∙ read-more f c.args.items.now c.loop-item.item-index c.item-item.result c.loop-item-test.true here
