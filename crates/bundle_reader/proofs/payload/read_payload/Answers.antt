use Rattle.std.proofs.Common.{ℕ, List, rules}
use Rattle.bundle_reader.specs.declared.head.Head.{Head}
use Rattle.bundle_reader.specs.Heads.{IsLed}
use Rattle.bundle_reader.proofs.HeadAndRest.{none_some}
use Rattle.bundle_reader.proofs.Joined.{no_frame, of_frame, framed_of}
use Rattle.bundle_reader.proofs.payload.read_payload.Goals as goal

pub returns-in-None-clause-only : goal.returns-in-None-clause-only
returns-in-None-clause-only c f is =
    absurd (no_frame c.args.stocks c.args.payload.now f c.decode_feed.result c.in_default.field-0 c.in_default.is c.decode_feed.ensures.only
    (λ (h : Head) (rest : List ℕ) (led : IsLed c.args.payload.now h rest). none_some (h, rest) (c.in-None.ensures.only h rest led)) is)

pub returns-in-Some-clause-frame : goal.returns-in-Some-clause-frame
returns-in-Some-clause-frame c =
    let led : IsLed c.args.payload.now c.in-Some.head c.in-Some.rest.now = search rules in
    framed_of c.args.stocks c.args.payload.now c.in-Some.head c.in-Some.rest.now c.headed.result led c.headed.ensures.frame

pub returns-in-Some-clause-only : goal.returns-in-Some-clause-only
returns-in-Some-clause-only c f is =
    c.headed.ensures.only f
    (of_frame c.args.stocks c.args.payload.now c.in-Some.head c.in-Some.rest.now f c.decode_feed.result c.in_default.field-0 c.in_default.is
    c.decode_feed.ensures.only c.in-Some.ensures.only is)
