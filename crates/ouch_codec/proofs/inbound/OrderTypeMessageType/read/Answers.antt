use Rattle.ouch_codec.proofs.inbound.OrderTypeMessageType.read.Goals as goal

pub returns-in-Enter : goal.returns-in-Enter
returns-in-Enter c = rw c.in-Enter.is c.enter_at.ensures
