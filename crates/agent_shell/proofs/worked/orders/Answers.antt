use Rattle.std.proofs.Common.{refl}
use Rattle.agent_shell.proofs.worked.orders.Goals as goal

pub returns : goal.returns
returns c = record { sent = refl; tokens = refl; no_price = refl; no_token = refl; too_dear = refl; full = refl; full_token = refl }
