use Rattle.market_laws.proofs.TextRuns.{full-spelled}
use Rattle.market_laws.proofs.fields.texts_stay_in_range.Goals as goal

pub returns-clause-events : goal.returns-clause-events
returns-clause-events g = λ c b e is edits. (full-spelled c b e is edits).entries

pub returns-clause-stocks : goal.returns-clause-stocks
returns-clause-stocks g = λ c b e is edits. (full-spelled c b e is edits).state.floor.stocks
