use Rattle.std.proofs.Common.{◌≡◌, ◌∷◌, List, All, subst, sym}
use Rattle.std.proofs.lemmas.List.Elements.{All-cons}
use Rattle.market_types.specs.Told.{EntryTold, edit, edit_told, event, event_told}
use Rattle.packed_entries.specs.Told.{Follows}
use Rattle.audit_desk.specs.Typed.{IsTyped}
use Rattle.audit_desk.proofs.typed_entries.rest_fits.Goals as goal

pub entries-preserved-in-Event : goal.entries-preserved-in-Event
entries-preserved-in-Event c = λ all.
    let e = event_told c.next.new.event in
    let rest = c.next.new.self in
    let step : c.entries.walk ≡ event e ∷ rest = subst (λ s. Follows s e (edit_told c.next.new.edit) c.entries.walk rest) c.in-Event.is c.in_ok-next.ensures in
    c.entries.invariant (subst (λ (ws : List EntryTold). All IsTyped ws) (sym step) (All-cons IsTyped (event e) rest c.event_fits.ensures all))

pub entries-preserved : goal.entries-preserved
entries-preserved c = λ all.
    let d = edit_told c.next.new.edit in
    let rest = c.next.new.self in
    let step : c.entries.walk ≡ edit d ∷ rest = subst (λ s. Follows s (event_told c.next.new.event) d c.entries.walk rest) c.in-Edit.is c.in_ok-next.ensures in
    c.entries.invariant (subst (λ (ws : List EntryTold). All IsTyped ws) (sym step) (All-cons IsTyped (edit d) rest tt all))
