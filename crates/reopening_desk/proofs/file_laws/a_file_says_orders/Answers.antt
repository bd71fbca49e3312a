use Rattle.reopening_desk.proofs.Filed.{file-says}
use Rattle.reopening_desk.proofs.file_laws.a_file_says_orders.Goals as goal

pub returns : goal.returns
returns c = file-says
