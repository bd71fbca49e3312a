use Rattle.std.proofs.Common.{◌≡◌, ◌∙◌, ℕ, List, Result, Ok, sym, ap, arith}
use Rattle.market_types.specs.declared.error.CodecError.{CodecError}
use Rattle.itch_codec.specs.Frames.{unframed, seen}
use Rattle.bundle_reader.proofs.Begun.{begins_of, some_frame}
use Rattle.bundle_reader.proofs.next.next_frame.Goals as goal

pub returns-in-Some-clause-frame : goal.returns-in-Some-clause-frame
returns-in-Some-clause-frame c =
    let parts : ◌≡◌ {A = Result (List ℕ × List ℕ) CodecError} (Ok (c.in-Ok.payload.now, c.in-Ok.rest.now)) (unframed c.args.bytes.now) =
    sym (ap seen c.in-Ok.is) ∙ c.unframe.ensures.parts in
    begins_of c.args.stocks c.args.bytes.now c.in-Ok.payload.now c.in-Ok.rest.now c.in-Some.frame (λ i. omega (arith, c.type_inv.bytes i)) parts
    (some_frame c.args.stocks c.in-Ok.payload.now c.in_ok-frame.field-0 c.in-Some.frame c.in-Some.is c.in_ok-frame.ensures.frame)
