use Rattle.std.proofs.Common.{◌≡◌, ℕ, List, ap, ◌∙◌}
use Rattle.kernel_core.specs.Seen.{folded}
use Rattle.kernel_copy.specs.Kept.{frames, with_event_frames}
use Rattle.kernel_copy.specs.Segmentwise.{afresh}
use Rattle.kernel_copy.specs.UntilStop.{until_part}
use Rattle.kernel_copy.proofs.Pieces.{part-appends, then-ok}
use Rattle.kernel_copy.proofs.run.run_in_frames.Goals as goal

pub returns-clause-kept : goal.returns-clause-kept
returns-clause-kept g c =
    let o = c.args.o.now in
    let bytes = c.args.bytes.now.items in
    let more = (until_part o c.args.stop c.args.most (afresh c.args.kernel.now)).entries in
    let start : c.expect.new.self.bytes.items ≡ bytes = c.expect.ensures ∙ ap (λ v. v.items) c.replace.ensures.value in
    then-ok c.run_part-ran.result c.run_part-ran.ensures.kept
    (λ is. ap (λ (b : List ℕ). frames b) (is ∙ ap (λ (b : List ℕ). folded with_event_frames b more) start ∙ part-appends bytes o c.args.stop c.args.most c.args.kernel.now))
