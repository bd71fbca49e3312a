use Rattle.checkpoint_shelf.proofs.shelf.Shelf.abandon.Given as goal

abbrev pub ghosts-let_go : goal.ghosts-let_go
ghosts-let_go g a = record { key = a.key }
