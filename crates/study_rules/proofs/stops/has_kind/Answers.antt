use Rattle.std.proofs.Common.{◌≡◌, ap, sym, ◌∙◌, take, rules, tests}
use Rattle.std.proofs.lemmas.Iterator.{YieldsList-from_slice, YieldsList-from_take}
use Rattle.std.proofs.lemmas.Iterator.Search.{any_from_yields_List}
use Rattle.std.specs.Prelude.{not}
use Rattle.std.specs.List.{list_any}
use Rattle.toml.specs.View.{view}
use Rattle.toml.specs.declared.value.Value.{Value}
use Rattle.study_file.proofs.KeyLists.{any-map}
use Rattle.study_rules.specs.BranchRules.{is_unlike}
use Rattle.study_rules.proofs.stops.has_kind.Goals as goal

pub returns : goal.returns
returns c =
    let found : c.any.result ≡ list_any (λ (v : Value). is_unlike (view c.args.branch.now) (view v)) (take c.args.count c.args.branches.now)
    = any_from_yields_List (λ (v : Value). is_unlike (view c.args.branch.now) (view v)) _ _ c.any.result c.any.ensures.ran
    (YieldsList-from_take c.args.count (YieldsList-from_slice c.args.branches.now cc) c.take.ensures.count) (λ x b q k. search (rules, tests)) in
    ap not (found ∙ sym (any-map view (is_unlike (view c.args.branch.now)) (take c.args.count c.args.branches.now)))
