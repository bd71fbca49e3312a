use Rattle.ouch_codec.proofs.outbound.encode_reply.Goals as goal

pub returns-in-Accepted-clause-spelling : goal.returns-in-Accepted-clause-spelling
returns-in-Accepted-clause-spelling c = rw c.in-Accepted.is c.accepted.ensures.spelling

pub returns-in-Accepted-clause-spelled : goal.returns-in-Accepted-clause-spelled
returns-in-Accepted-clause-spelled c = λ in_range. record { same = returns-in-Accepted-clause-spelling c; in_range = in_range }
