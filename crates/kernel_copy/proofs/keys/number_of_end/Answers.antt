use Rattle.std.proofs.Common.{rules}
use Rattle.kernel_copy.proofs.keys.number_of_end.Goals as goal

pub returns-in-When : goal.returns-in-When
returns-in-When c = search rules
