use Rattle.std.proofs.Common.{ap, ◌∙◌, is_some}
use Rattle.shelf_core.specs.Possible.{passes, seen_at}
use Rattle.shelf_core.proofs.laws.loads_are_possible.Goals as goal

pub returns : goal.returns
returns c = λ s n view word seen live sees. ap (λ o. passes o (λ v. is_some (seen_at s word))) live ∙ ap is_some sees
