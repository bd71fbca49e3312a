use Rattle.session_desk.proofs.walk.+reach.Given as goal

abbrev pub decreases-reach : goal.decreases-reach
decreases-reach g l = l.branch
