use Rattle.std.proofs.Common.{◌≡◌, ◌++◌, ℕ, List, [], ◌∷◌, refl, ap, ◌∙◌, append-nil}
use Rattle.market_types.specs.declared.message.Body.TheVariants as body
use Rattle.market_types.specs.declared.message.Message.{Message}
use Rattle.event_queue.specs.InOrder.{in_order}
use Rattle.market_floor.specs.declared.opening.Opening.{Opening}
use Rattle.market_floor.specs.OpeningWorked.{market, watcher}
use Rattle.kernel_core.specs.Until.{advanced}
use Rattle.kernel_core.specs.Worked.{full_run}
use Rattle.bundle_frames.specs.Frames.{closing_frames, waiting_frame, waiting_frames}
use Rattle.kernel_copy.specs.Closing.{closing_at}
use Rattle.kernel_copy.proofs.worked_states.the_empty_run.Goals as goal

pub returns : goal.returns
unfolding advanced
returns c =
    let o : Opening = market 1000 0 (watcher 2000 ∷ []) in
    let m : Message = record { time = 2000; seq = 0; from = 1; to = 1; body = body.Wake } in
    let front = closing_frames (closing_at o (full_run o).state) in
    let waits : in_order (full_run o).state.post.waiting ≡ m ∷ [] = refl in
    ap (λ (ms : List Message). front ++ waiting_frames ms) waits ∙ ap (λ (xs : List ℕ). front ++ xs) (append-nil (waiting_frame m))
