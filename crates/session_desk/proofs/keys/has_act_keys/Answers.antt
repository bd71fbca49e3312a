use Rattle.std.proofs.Common.{ap, ◌∙◌, [], ◌∷◌}
use Rattle.toml.specs.View.{table_view}
use Rattle.study_file.specs.Keys.{has_form}
use Rattle.study_file.proofs.KeyLists.{says}
use Rattle.session_desk.specs.Forms.{act_form}
use Rattle.session_desk.proofs.keys.has_act_keys.Goals as goal

pub returns : goal.returns
returns c =
    c.has_form.ensures
    ∙ ap (λ rs. has_form (record act_form { keys = rs }) (table_view c.args.act.now))
    (says (c.needed.result ∷ c.own.result ∷ c.own-2.result ∷ c.own-3.result ∷ c.spare_for.result ∷ c.own-4.result ∷ c.own-5.result ∷ []) act_form.keys
    (c.needed.ensures, (c.own.ensures, (c.own-2.ensures, (c.own-3.ensures, (c.spare_for.ensures, (c.own-4.ensures, (c.own-5.ensures, tt))))))))
