use Rattle.std.proofs.Common.{length}
use Rattle.study_rules.proofs.keys.+first_form_broken.Given as goal

abbrev pub decreases-first_form_broken : goal.decreases-first_form_broken
decreases-first_form_broken l = length l.branches.now
