use Rattle.std.proofs.Common.{◌∙◌}
use Rattle.itch_codec.proofs.FrameLaws.{parts_again}
use Rattle.itch_codec.proofs.framing.unframe.Goals as goal

pub returns-clause-again : goal.returns-clause-again
returns-clause-again c payload rest le is =
    parts_again c.args.bytes.now payload rest c.from-end.result c.if-bytes-lt2.false (c.from-end.ensures ∙ c.u16_at.ensures) c.if-bytes-end.false le is
