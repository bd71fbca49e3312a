use Rattle.std.proofs.Common.{length}
use Rattle.kernel_copy.proofs.Positions.{agents-have_all}
use Rattle.kernel_copy.proofs.closing_laws.agents_have_all_positions.Goals as goal

pub returns : goal.returns
returns c o s = agents-have_all s (length s.floor.parties)
