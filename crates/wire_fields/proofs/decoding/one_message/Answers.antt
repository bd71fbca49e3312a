use Rattle.wire_fields.proofs.Decoders.{one_value}
use Rattle.wire_fields.proofs.decoding.one_message.Goals as goal

pub returns : goal.returns
returns g c =
    let known = g.met.T.MessageType in
    one_value g.T.MessageType.wire g.T.MessageType.layout g.T.MessageType.message (record { kinds = known.told; back = known.back })
