use Rattle.std.proofs.Common.{◌≡◌, get_or, rules}
use Rattle.std.specs.Prelude.{ℤ, pos}
use Rattle.std.proofs.lemmas.List.Elements.{All-more}
use Rattle.audit_desk.specs.Clipped.{clipped_signed}
use Rattle.audit_desk.proofs.Typed.{whole-same}
use Rattle.audit_desk.proofs.typed_closing.positions_fit.Goals as goal

pub loop-i-preserved : goal.loop-i-preserved
loop-i-preserved c =
    let z = get_or c.args.positions.now c.loop-i.i (pos 0) in
    let stays : clipped_signed z ≡ z = search rules in
    All-more (λ (y : ℤ). clipped_signed y ≡ y) c.args.positions.now c.loop-i.i (pos 0) c.loop-i-test.true c.loop-i.invariant stays

pub returns : goal.returns
returns c = whole-same clipped_signed c.args.positions.now c.loop-i.i c.loop-i-test.false c.loop-i.invariant
