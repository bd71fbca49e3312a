use Rattle.reopening_desk.proofs.Joins.{file-joins}
use Rattle.reopening_desk.proofs.file_laws.a_file_joins_a_book.Goals as goal

pub returns : goal.returns
returns c = file-joins
