use Rattle.base_tests.proofs.branch_deques_tests.thief.share_thousand.Given as goal

abbrev pub ghosts-share_all : goal.ghosts-share_all
ghosts-share_all g a = record { room = 1000 }
