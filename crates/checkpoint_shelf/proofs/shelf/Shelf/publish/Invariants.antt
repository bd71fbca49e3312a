use Rattle.checkpoint_shelf.proofs.shelf.Shelf.publish.Given as goal

abbrev pub ghosts-hand_in : goal.ghosts-hand_in
ghosts-hand_in g a = record { key = a.key }
