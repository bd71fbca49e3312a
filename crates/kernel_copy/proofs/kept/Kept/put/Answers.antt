use Rattle.std.proofs.Common.{◌++◌, List, All, sym, ap, ◌∙◌, subst}
use Rattle.std.specs.List.{flat_map}
use Rattle.bundle_frames.specs.Frames.{entry_frames}
use Rattle.market_types.specs.Told.{EntryTold}
use Rattle.market_types.specs.Timely.{IsTimely}
use Rattle.kernel_copy.specs.declared.kept.Kept.{Kept}
use Rattle.kernel_copy.specs.Kept.{IsWritable, frames_of, kept_told}
use Rattle.kernel_copy.proofs.kept.Kept.put.Goals as goal

pub put_packed-requires : goal.put_packed-requires
put_packed-requires c =
    subst (λ (es : List EntryTold). All IsTimely es) (sym (ap (λ v. v.list) c.packed.ensures)) (subst (λ (k : Kept). IsWritable (kept_told k)) c.in-Entries.is c.requires)

pub returns-in_ok-put_packed-in-Entries : goal.returns-in_ok-put_packed-in-Entries
returns-in_ok-put_packed-in-Entries c =
    let before = c.args.out.now.items in
    c.in_ok-put_packed-in-Entries.ensures ∙ ap (λ (es : List EntryTold). before ++ flat_map entry_frames es) (ap (λ v. v.list) c.packed.ensures)
    ∙ sym (ap (λ (k : Kept). before ++ frames_of (kept_told k)) c.in-Entries.is)
