use Rattle.kernel_core.proofs.Posts.{joins-counted, joins-full, joins-held, joins-room}
use Rattle.kernel_core.proofs.mail_laws.a_message_joins_or_is_dropped.Goals as goal

pub returns : goal.returns
returns c = record { room = joins-room; full = joins-full; counted = joins-counted; held = joins-held }
