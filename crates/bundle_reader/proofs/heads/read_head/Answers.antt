use Rattle.std.proofs.Common.{arith}
use Rattle.bundle_reader.specs.Back.{head_kinds}
use Rattle.bundle_reader.proofs.Led.{cut_here, led_by_read, same_parts, no_parts}
use Rattle.bundle_reader.proofs.heads.read_head.Goals as goal

pub returns-then-payload-size-clause-only : goal.returns-then-payload-size-clause-only
returns-then-payload-size-clause-only c h rest led =
    let cut = cut_here c.args.payload.now h rest c.in-Some.first.now (head_kinds c.in-Some-of_letter.kind) c.size-size.result
    c.in-Some.ensures.value c.in-Some-of_letter.ensures.known c.size-size.ensures led in
    absurd (omega (arith, c.if-payload-size.true, cut.whole))

pub returns-in-Ok-clause-led : goal.returns-in-Ok-clause-led
returns-in-Ok-clause-led c =
    led_by_read c.args.payload.now _ c.size-size.result c.decode.result c.in-Ok.head c.decode.ensures (grind arith) c.in-Ok.is

pub returns-in-Ok-clause-only : goal.returns-in-Ok-clause-only
returns-in-Ok-clause-only c h rest led =
    let cut = cut_here c.args.payload.now h rest c.in-Some.first.now (head_kinds c.in-Some-of_letter.kind) c.size-size.result
    c.in-Some.ensures.value c.in-Some-of_letter.ensures.known c.size-size.ensures led in
    same_parts c.args.payload.now _ h c.in-Ok.head rest c.size-size.result c.decode.result c.decode.ensures (grind arith) cut led c.in-Ok.is

pub returns-in-Err-clause-only : goal.returns-in-Err-clause-only
returns-in-Err-clause-only c h rest led =
    let cut = cut_here c.args.payload.now h rest c.in-Some.first.now (head_kinds c.in-Some-of_letter.kind) c.size-size.result
    c.in-Some.ensures.value c.in-Some-of_letter.ensures.known c.size-size.ensures led in
    absurd (no_parts c.args.payload.now _ h rest c.size-size.result c.decode.result c.in-Err.field-0 c.decode.ensures (grind arith) cut led c.in-Err.is)
