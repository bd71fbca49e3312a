use Rattle.std.proofs.Common.{ap, ◌∙◌, [], ◌∷◌}
use Rattle.toml.specs.View.{table_view}
use Rattle.study_file.specs.Keys.{has_keys}
use Rattle.study_file.proofs.KeyLists.{says}
use Rattle.study_rules.specs.Forms.{branch_keys}
use Rattle.study_rules.proofs.keys.has_keys_with.Goals as goal

pub returns : goal.returns
returns c =
    c.has_keys.ensures
    ∙ ap (λ rs. has_keys [] rs (table_view c.args.branch.now))
    (says (c.needed.result ∷ c.needed-2.result ∷ c.needed-3.result ∷ c.spare.result ∷ []) (branch_keys c.args.stop.now)
    (c.needed.ensures, (c.needed-2.ensures, (c.needed-3.ensures, (c.spare.ensures, tt)))))
