use Rattle.std.proofs.Common.{◌≡◌, ◌∙◌, ◌++◌, ◌∷◌, List, ap, sym, subst, append_assoc}
use Rattle.std.specs.List.{flat_map}
use Rattle.std.proofs.lemmas.List.Elements.{All-rest}
use Rattle.market_types.specs.Told.{EntryTold, edit, edit_told, event, event_told}
use Rattle.market_types.specs.Timely.{IsTimely}
use Rattle.bundle_frames.specs.Frames.{edit_frames, entry_frames, event_frames}
use Rattle.packed_entries.specs.Told.{Follows}
use Rattle.kernel_copy.proofs.kept.put_rest.Goals as goal

pub entries-preserved-in-Continue-branch-3 : goal.entries-preserved-in-Continue-branch-3
entries-preserved-in-Continue-branch-3 c =
    let e = event_told c.next.new.event in
    let rest = c.next.new.self in
    let step : c.entries.walk ≡ event e ∷ rest = subst (λ s. Follows s e (edit_told c.next.new.edit) c.entries.walk rest) c.in-Event.is c.in_ok-next.ensures in
    record {
      timely = All-rest IsTimely (event e) rest c.entries.walk step c.entries.invariant.timely;
      bytes = ap (λ b. b ++ flat_map entry_frames rest) c.in_ok-put-in-Event.ensures
          ∙ append_assoc c.entries.out.items (event_frames e) (flat_map entry_frames rest)
          ∙ ap (λ (ws : List EntryTold). c.entries.out.items ++ flat_map entry_frames ws) (sym step)
          ∙ c.entries.invariant.bytes;
    }

pub entries-preserved : goal.entries-preserved
entries-preserved c =
    let d = edit_told c.next.new.edit in
    let rest = c.next.new.self in
    let step : c.entries.walk ≡ edit d ∷ rest = subst (λ s. Follows s (event_told c.next.new.event) d c.entries.walk rest) c.in-Edit.is c.in_ok-next.ensures in
    record {
      timely = All-rest IsTimely (edit d) rest c.entries.walk step c.entries.invariant.timely;
      bytes = ap (λ b. b ++ flat_map entry_frames rest) c.in_ok-put-in-Edit.ensures
          ∙ append_assoc c.entries.out.items (edit_frames d) (flat_map entry_frames rest)
          ∙ ap (λ (ws : List EntryTold). c.entries.out.items ++ flat_map entry_frames ws) (sym step)
          ∙ c.entries.invariant.bytes;
    }
