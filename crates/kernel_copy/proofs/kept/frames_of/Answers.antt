use Rattle.std.proofs.Common.{◌++◌, ℕ, List, All, sym, ap, ◌∙◌, subst}
use Rattle.std.specs.List.{flat_map}
use Rattle.bundle_frames.specs.Frames.{entry_frames}
use Rattle.market_types.specs.Told.{EntryTold}
use Rattle.market_types.specs.Timely.{IsTimely}
use Rattle.kernel_copy.proofs.Pieces.{all_told, frames_told}
use Rattle.kernel_copy.proofs.kept.frames_of.Goals as goal

pub put_all-requires : goal.put_all-requires
put_all-requires c = all_told IsTimely c.as_slice.result.now (subst (λ (es : List EntryTold). All IsTimely es) (sym c.as_slice.ensures) c.requires)

pub returns : goal.returns
returns c =
    let told = c.args.trace.now.list in
    c.in_ok-put_all.ensures ∙ ap (λ (l : List ℕ). c.new-bytes.result.items ++ l) (frames_told c.as_slice.result.now told c.as_slice.ensures)
    ∙ ap (λ (l : List ℕ). l ++ flat_map entry_frames told) c.new-bytes.ensures.items
