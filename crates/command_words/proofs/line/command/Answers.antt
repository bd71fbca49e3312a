use Rattle.std.proofs.Common.{ap, ap₂, codes, true, Some, [], ◌∷◌, ◌≡◌, ◌∙◌}
use Rattle.std.proofs.lemmas.Result.{IfOk-weaker}
use Rattle.clap.specs.Words.{Rule, app_of, new_app, rule_of, with_rule}
use Rattle.clap.specs.declared.builder.arg.Arg.{Arg}
use Rattle.clap.specs.Simple.{app_of_fields}
use Rattle.clap.specs.declared.builder.ArgAction.TheVariants.{Append}
use Rattle.command_words.specs.Line.{bare, command_rule, more_rule, places_rule, study_rule, workers_rule}
use Rattle.command_words.proofs.line.command.Goals as goal

pub returns : goal.returns
returns c =
    let start : app_of c.no_binary_name-app.result ≡ bare (new_app (codes "abides")) = ap app_of_fields c.no_binary_name-app.ensures ∙ ap bare c.new.ensures.app in
    let command_is : rule_of c.required.result ≡ command_rule = ap rule_of c.required.ensures ∙ ap (λ (r : Rule). record r { required = true }) c.new-2.ensures.rule in
    let study_is : rule_of c.required-2.result ≡ study_rule = ap rule_of c.required-2.ensures ∙ ap (λ (r : Rule). record r { required = true }) c.new-3.ensures.rule in
    let more_is : rule_of c.action.result ≡ more_rule = ap rule_of c.action.ensures ∙ ap (λ (r : Rule). record r { action = Some Append }) c.new-4.ensures.rule in
    let workers_is : rule_of c.default_value.result ≡ workers_rule =
    ap rule_of c.default_value.ensures
    ∙ ap (λ (r : Rule). record r { defaults = codes "1" ∷ [] }) (ap rule_of c.long-workers.ensures ∙ ap (λ (r : Rule). record r { long = Some (codes "workers") }) c.new-5.ensures.rule) in
    let places_is : rule_of c.default_value-2.result ≡ places_rule =
    ap rule_of c.default_value-2.ensures
    ∙ ap (λ (r : Rule). record r { defaults = codes "16" ∷ [] }) (ap rule_of c.long-places.ensures ∙ ap (λ (r : Rule). record r { long = Some (codes "places") }) c.new-6.ensures.rule) in
    let one = c.in_ok-app.ensures.shape (ap (λ (a : Arg). a.global) c.required.ensures ∙ c.new-2.ensures.optional.1) ∙ ap₂ with_rule start command_is in
    let two = c.in_ok-app-2.ensures.shape (ap (λ (a : Arg). a.global) c.required-2.ensures ∙ c.new-3.ensures.optional.1) ∙ ap₂ with_rule one study_is in
    let three = c.in_ok-app-3.ensures.shape (ap (λ (a : Arg). a.global) c.action.ensures ∙ c.new-4.ensures.optional.1) ∙ ap₂ with_rule two more_is in
    let four = c.in_ok-app-4.ensures.shape (ap (λ (a : Arg). a.global) c.default_value.ensures ∙ ap (λ (a : Arg). a.global) c.long-workers.ensures ∙ c.new-5.ensures.optional.1) ∙ ap₂ with_rule three workers_is in
    let last = ap (λ (a : Arg). a.global) c.default_value-2.ensures ∙ ap (λ (a : Arg). a.global) c.long-places.ensures ∙ c.new-6.ensures.optional.1 in
    IfOk-weaker c.arg-5.result _ _ (λ r h. h.shape last ∙ ap₂ with_rule four places_is) c.arg-5.ensures
