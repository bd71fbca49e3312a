use Rattle.branch_workers.proofs.all.work.Given as goal

abbrev pub ghosts-run_seated : goal.ghosts-run_seated
ghosts-run_seated g a = record { room = a.count }
