use Rattle.std.proofs.Common.{◌≡◌, ◌∙◌, ◌+◌, ◌*◌, ◌≤◌, [], ◌∷◌, ◌++◌, length, ap, arith, rules}
use Rattle.std.specs.Int.{cast_signed, w64}
use Rattle.std.specs.Int.RustNames.{FitsSigned}
use Rattle.std.proofs.lemmas.List.{length-append}
use Rattle.std.proofs.lemmas.List.Elements.{All-push, All-same}
use Rattle.bundle_frames.specs.Wires.{positions_bytes}
use Rattle.wire_fields.proofs.Digits.{IsBytes}
use Rattle.bundle_reader.proofs.Signed.{one_position_more, one_position_fits}
use Rattle.bundle_reader.proofs.numbers.positions.Goals as goal

pub loop-k-preserved : goal.loop-k-preserved
loop-k-preserved c =
    let items = c.loop-k.list.items in
    let n = c.u64_at.result in
    let pushed : c.push.new.self.items ≡ items ++ cast_signed w64 n ∷ [] = search (rules, c.in_ok-push.ensures.items) in
    let are_bytes : IsBytes c.args.bytes.now = λ i. omega (arith, c.type_inv.bytes i) in
    let within : 8 * (c.loop-k.k + 1) ≤ length c.args.bytes.now = omega arith in
    record {
      bytes = ap positions_bytes pushed
          ∙ one_position_more c.args.bytes.now items c.loop-k.k n are_bytes within c.u64_at.ensures c.loop-k.invariant.bytes;
      count = ap length pushed ∙ length-append items (cast_signed w64 n ∷ []) ∙ ap (λ m. m + 1) c.loop-k.invariant.count;
      fit = All-same (FitsSigned w64) c.push.new.self.items (items ++ cast_signed w64 n ∷ []) pushed
          (All-push (FitsSigned w64) items (cast_signed w64 n) c.loop-k.invariant.fit
          (one_position_fits c.args.bytes.now c.loop-k.k n are_bytes within c.u64_at.ensures));
    }
