use Rattle.market_laws.proofs.Marks.{marked-full}
use Rattle.market_laws.proofs.fields.edits_are_marked.Goals as goal

pub returns : goal.returns
returns g = λ c b e is l. marked-full c b e is l
