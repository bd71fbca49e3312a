use Rattle.market_laws.proofs.ShownRuns.{fold-append, told-append}
use Rattle.market_laws.proofs.shown.folds_go_on.Goals as goal

pub returns : goal.returns
returns c = record { told = told-append; folded = fold-append }
