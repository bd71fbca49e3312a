use Rattle.std.proofs.Common.{◌<◌, ◌∙◌, length, arith}
use Rattle.std.proofs.lemmas.Bool.Decides.{nat_tests}
use Rattle.study_rules.proofs.OpeningScopes.{word-of-item}
use Rattle.study_rules.proofs.scope.word_at.Goals as goal

pub returns-in-Some : goal.returns-in-Some
returns-in-Some c =
    let there : c.args.number < length c.args.settings.now = grind (arith, nat_tests, c.in-Some.ensures.lookup.0) in
    c.kind_word.ensures ∙ word-of-item c.args.settings.now c.args.number c.in-Some.setting.now there c.in-Some.ensures.lookup.1
