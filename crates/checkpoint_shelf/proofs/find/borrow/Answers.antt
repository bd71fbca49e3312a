use Rattle.std.proofs.Common.{ap, ◌∙◌}
use Rattle.checkpoint_shelf.proofs.Turned.{borrowed}
use Rattle.checkpoint_shelf.proofs.find.borrow.Goals as goal

pub returns-in-Err-clause-found : goal.returns-in-Err-clause-found
returns-in-Err-clause-found g c = let n = c.in-Err.ensures.not in (c.args.place, c.requires.place, n.3, n.0)

pub returns-in-Ok-copy-clause-found : goal.returns-in-Ok-copy-clause-found
returns-in-Ok-copy-clause-found g c = let l = c.in-Ok.ensures.lent in let b = c.give_back.ensures in (
  ap (λ v. g.C.Shelved.key_of v) c.in-Ok-copy.ensures ∙ l.0,
  ap (λ v. g.C.Shelved.course_of v) c.in-Ok-copy.ensures ∙ l.1,
  borrowed c.args.table.now.key.plan c.args.place c.args.key c.requires.place _ _ _ (ap (λ me. me.0.seen) l.2) l.3 b.returned b.step,
)

pub returns-in-Err-copy-clause-refused : goal.returns-in-Err-copy-clause-refused
returns-in-Err-copy-clause-refused g c = let l = c.in-Ok.ensures.lent in let b = c.give_back.ensures in
    borrowed c.args.table.now.key.plan c.args.place c.args.key c.requires.place _ _ _ (ap (λ me. me.0.seen) l.2) l.3 b.returned b.step
