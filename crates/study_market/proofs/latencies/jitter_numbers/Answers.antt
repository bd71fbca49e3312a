use Rattle.std.proofs.Common.{◌≡◌, ◌∙◌, ◌++◌, ◌∷◌, [], ℕ, List, true, get_or, take, map, unsigned_abs, ap, subst, pos, rules}
use Rattle.toml.specs.Data.{Data}
use Rattle.toml.specs.View.{view}
use Rattle.study_file.specs.Values.{number_in, is_between}
use Rattle.study_market.proofs.LatencyRanges.{value-cell}
use Rattle.study_market.proofs.ReadMore.{read-more}
use Rattle.study_market.proofs.latencies.jitter_numbers.Goals as goal

pub jitter_number-requires : goal.jitter_number-requires
jitter_number-requires c =
    let here : get_or c.args.items.now c.loop-item.item-index c.item-item.result ≡ c.item-item.result = search rules in
    subst (λ v. is_between (pos 0) (pos 4294967295) (number_in (view v)) ≡ true) here
    (value-cell (pos 4294967295) c.args.items.now c.loop-item.item-index c.item-item.result c.loop-item-test.true c.requires)

pub loop-item-preserved : goal.loop-item-preserved
loop-item-preserved c =
    let here : get_or c.args.items.now c.loop-item.item-index c.item-item.result ≡ c.item-item.result = search rules in
    let f : Data → ℕ = λ x. unsigned_abs (number_in x) in
    c.in_ok-push.ensures.items
    ∙ ap (λ (xs : List ℕ). xs ++ c.jitter_number.result ∷ []) c.loop-item.invariant
    ∙ ap (λ (n : ℕ). map f (map view (take c.loop-item.item-index c.args.items.now)) ++ n ∷ []) c.jitter_number.ensures
    ∙ read-more f c.args.items.now c.loop-item.item-index c.item-item.result c.loop-item-test.true here
