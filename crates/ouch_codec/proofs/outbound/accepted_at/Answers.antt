use Rattle.ouch_codec.proofs.outbound.accepted_at.Goals as goal

pub returns : goal.returns
returns c =
    rw (
      c.u64_at.ensures,
      c.array_at.ensures,
      c.side_at.ensures,
      c.u32_at.ensures,
      c.array_at-2.ensures,
      c.u32_at-2.ensures,
      c.u32_at-3.ensures,
      c.array_at-3.ensures,
      c.byte_at.ensures,
      c.u64_at-2.ensures,
      c.byte_at-2.ensures,
      c.byte_at-3.ensures,
      c.u32_at-4.ensures,
      c.byte_at-4.ensures,
      c.byte_at-5.ensures,
      c.byte_at-6.ensures,
    )
