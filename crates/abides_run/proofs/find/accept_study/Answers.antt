use Rattle.std.proofs.Common.{Bor, List, ℕ, option_map}
use Rattle.toml.specs.View.{table_view}
use Rattle.study_rules.specs.Accepted.{study_told}
use Rattle.abides_run.proofs.Strides.{study-stride}
use Rattle.abides_run.proofs.find.accept_study.Goals as goal

pub returns-in-Ok-clause-stride : goal.returns-in-Ok-clause-stride
returns-in-Ok-clause-stride c =
    study-stride (table_view c.args.raw.now.table) (option_map (λ (text : Bor (List ℕ)). text.now) c.args.series) (study_told c.in-Ok.study) c.in-Ok.ensures.accepted
