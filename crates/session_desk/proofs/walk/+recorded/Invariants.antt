use Rattle.session_desk.proofs.walk.+recorded.Given as goal

abbrev pub decreases-recorded : goal.decreases-recorded
decreases-recorded g l = l.branch
