use Rattle.checkpoint_shelf.proofs.shelf.Shelf.find.Given as goal

abbrev pub ghosts-borrow : goal.ghosts-borrow
ghosts-borrow g a = record { key = a.key }
