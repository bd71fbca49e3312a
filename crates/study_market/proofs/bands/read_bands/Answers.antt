use Rattle.std.proofs.Common.{◌≡◌, ◌∙◌, ◌++◌, ◌∷◌, [], List, true, get_or, length, take, map, subst, sym, ap, rules}
use Rattle.std.specs.Int.{is_in_range}
use Rattle.std.specs.List.{list_all}
use Rattle.std.proofs.lemmas.List.{take_all}
use Rattle.toml.specs.View.{view}
use Rattle.toml.specs.declared.value.Value.{Value}
use Rattle.market_rules.specs.declared.bands.Band.{Band}
use Rattle.study_market.specs.StockRules.{band_in, is_band}
use Rattle.study_market.proofs.EachBand.{no-band, all-bands}
use Rattle.study_market.proofs.ReadMore.{read-more, all-more}
use Rattle.study_market.proofs.bands.read_bands.Goals as goal

pub returns-in-None-clause-kept : goal.returns-in-None-clause-kept
returns-in-None-clause-kept c =
    let here : get_or c.args.values.now c.loop-value.value-index c.value-item.result ≡ c.value-item.result = search rules in
    no-band c.args.values.now c.loop-value.value-index c.value-item.result c.loop-value-test.true (ap (λ (v : Value). is_band (view v)) here ∙ sym c.in-None.ensures.kept)

pub returns-clause-kept : goal.returns-clause-kept
returns-clause-kept c =
    let all : list_all (λ (v : Value). is_band (view v)) c.args.values.now ≡ true
    = subst (λ (xs : List Value). list_all (λ (v : Value). is_band (view v)) xs ≡ true) (take_all c.loop-value.value-index c.args.values.now c.loop-value-test.false) c.loop-value.invariant.kept in
    let range : is_in_range 1 16 (length c.args.values.now) ≡ true = search rules in
    all-bands c.args.values.now range all

pub loop-value-preserved : goal.loop-value-preserved
loop-value-preserved c =
    let here : get_or c.args.values.now c.loop-value.value-index c.value-item.result ≡ c.value-item.result = search rules in record {
      said = c.in_ok-push-in-Some.ensures.items
          ∙ ap (λ (xs : List Band). xs ++ c.in-Some.band ∷ []) c.loop-value.invariant.said
          ∙ ap (λ (b : Band). map band_in (map view (take c.loop-value.value-index c.args.values.now)) ++ b ∷ []) c.in-Some.ensures.said
          ∙ read-more band_in c.args.values.now c.loop-value.value-index c.value-item.result c.loop-value-test.true here;
      kept = all-more (λ (v : Value). is_band (view v)) c.args.values.now c.loop-value.value-index c.value-item.result c.loop-value-test.true here
          c.loop-value.invariant.kept (sym c.in-Some.ensures.kept);
    }
