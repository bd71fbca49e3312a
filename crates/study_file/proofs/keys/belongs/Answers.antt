use Rattle.std.proofs.Common.{◌≡◌, ◌∙◌, length, ◌==◌, true, false, rules}
use Rattle.study_file.proofs.Lists.{some-now, none-now}
use Rattle.study_file.proofs.keys.belongs.Goals as goal

pub returns-then-is_empty : goal.returns-then-is_empty
returns-then-is_empty c =
    let none : (length c.args.key.now.with.now == 0) ≡ true = search rules in
    c.if-is_empty.true ∙ none-now c.args.key.now.with.now c.args.word.now none

pub returns-else-is_empty : goal.returns-else-is_empty
returns-else-is_empty c =
    let some : (length c.args.key.now.with.now == 0) ≡ false = search rules in
    c.is_word.ensures ∙ some-now c.args.key.now.with.now c.args.word.now some
