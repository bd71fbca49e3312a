use Rattle.std.proofs.Common.{◌≡◌, ℕ, ◌*◌, List, length, refl, ap, ◌∙◌, arith}
use Rattle.bundle_frames.specs.Frames.{agent_frame}
use Rattle.bundle_frames.specs.Wires.{positions_bytes}
use Rattle.bundle_frames.proofs.Appends.{length-positions}
use Rattle.bundle_frames.proofs.items.ClosingAgentWritten.put.Goals as goal

pub frame_of_two-requires : goal.frame_of_two-requires
frame_of_two-requires c =
    let a = c.args.self.now in
    let rest : c.deref.result.now ≡ positions_bytes a.positions =
    rw (c.deref.ensures.value, c.in_ok-put_all.ensures, c.new-positions.ensures.items, c.as_slice.ensures) refl in
    let size : length c.deref.result.now ≡ 8 * length a.positions = ap (λ (l : List ℕ). length l) rest ∙ length-positions a.positions in
    let head : length c.agent_head.result ≡ 70 = ap (λ (l : List ℕ). length l) c.agent_head.ensures in
    omega (arith, size, head, c.requires)

pub returns : goal.returns
unfolding agent_frame
returns c =
    let a = c.args.self.now in
    let rest : c.deref.result.now ≡ positions_bytes a.positions =
    rw (c.deref.ensures.value, c.in_ok-put_all.ensures, c.new-positions.ensures.items, c.as_slice.ensures) refl in
    rw (c.agent_head.ensures, rest) at c.frame_of_two.ensures.appended
