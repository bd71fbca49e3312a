use Rattle.checkpoint_shelf.proofs.shelf.Shelf.begin.Given as goal

abbrev pub ghosts-begin_at : goal.ghosts-begin_at
ghosts-begin_at g a = record { key = a.key }
