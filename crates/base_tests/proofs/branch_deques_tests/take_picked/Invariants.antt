use Rattle.base_tests.proofs.branch_deques_tests.take_picked.Given as goal

abbrev pub ghosts-take_from_two : goal.ghosts-take_from_two
ghosts-take_from_two g a = record { room = 3 }
