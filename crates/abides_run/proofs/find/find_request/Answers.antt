use Rattle.std.proofs.Common.{[]}
use Rattle.abides_run.proofs.find.find_request.Goals as goal

pub returns-in-Large-clause-searched : goal.returns-in-Large-clause-searched
returns-in-Large-clause-searched g c = rw c.in-Large.is ([], c.find_large.ensures.searched _)
