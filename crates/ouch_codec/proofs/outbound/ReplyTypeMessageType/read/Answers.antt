use Rattle.ouch_codec.proofs.outbound.ReplyTypeMessageType.read.Goals as goal

pub returns-in-Accepted : goal.returns-in-Accepted
returns-in-Accepted c = rw c.in-Accepted.is c.accepted_at.ensures
