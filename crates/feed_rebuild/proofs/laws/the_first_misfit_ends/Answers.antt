use Rattle.feed_rebuild.proofs.Folding.{ends, first-misfit, goes_on}
use Rattle.feed_rebuild.proofs.laws.the_first_misfit_ends.Goals as goal

pub returns : goal.returns
returns c = record { goes_on = goes_on; ends = ends; first = first-misfit }
