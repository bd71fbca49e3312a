use Rattle.std.proofs.Common.{ℕ, List, ◌++◌, ap, ◌∙◌}
use Rattle.bundle_frames.specs.declared.closing.Closing.{Closing}
use Rattle.bundle_frames.specs.Frames.{closing_frames, message_frame}
use Rattle.trace_bundle.specs.Feed.{system_event}
use Rattle.trace_bundle.proofs.bundle.ending_bytes.Goals as goal

pub returns : goal.returns
returns g c =
    let x = c.closing_of_branch-closing.result.now in
    c.in_ok-put-2.ensures
    ∙ ap (λ (l : List ℕ). l ++ closing_frames x) (c.in_ok-put.ensures ∙ ap (λ (l : List ℕ). l ++ message_frame c.system_event.result) c.new-bytes.ensures.items)
    ∙ ap (λ (f : _). message_frame f ++ closing_frames x) c.system_event.ensures
    ∙ ap (λ (y : Closing). message_frame (system_event y.counts.time 67) ++ closing_frames y) c.closing_of_branch-closing.ensures.value
