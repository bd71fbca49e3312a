use Rattle.base_tests.proofs.branch_deques_tests.share_picked.Given as goal

abbrev pub ghosts-share_three : goal.ghosts-share_three
ghosts-share_three g a = record { room = 3 }
