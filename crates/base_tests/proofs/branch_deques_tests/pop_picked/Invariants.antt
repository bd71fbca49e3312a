use Rattle.base_tests.proofs.branch_deques_tests.pop_picked.Given as goal

abbrev pub ghosts-pop_three : goal.ghosts-pop_three
ghosts-pop_three g a = record { room = 3 }
