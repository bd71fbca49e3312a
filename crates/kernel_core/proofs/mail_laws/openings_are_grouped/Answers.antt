use Rattle.kernel_core.proofs.Sends.{grouped-opening}
use Rattle.kernel_core.proofs.mail_laws.openings_are_grouped.Goals as goal

pub returns : goal.returns
returns c = grouped-opening
