use Rattle.std.proofs.Common.{◌≡◌, ◌∙◌, ◌∷◌, subst}
use Rattle.market_types.specs.Told.{edit_told, event, event_told}
use Rattle.packed_entries.specs.Told.{Follows}
use Rattle.probe_desk.proofs.Seen.{seen_one}
use Rattle.probe_desk.proofs.watching.watch_rest.Goals as goal

pub entries-preserved-in-Event : goal.entries-preserved-in-Event
entries-preserved-in-Event g c =
    let step : c.entries.walk ≡ event (event_told c.next.new.event) ∷ c.next.new.self = subst (λ s. Follows s (event_told c.next.new.event) (edit_told c.next.new.edit) c.entries.walk c.next.new.self) c.in-Event.is c.in_ok-next.ensures in
    record {
      numbers = seen_one _ _ _ c.entries.probes (event_told c.next.new.event) c.entries.walk c.next.new.self c.see_all.ensures.meanings c.see_all.ensures.numbers step ∙ c.entries.invariant.numbers;
      meanings = c.see_all.ensures.meanings ∙ c.entries.invariant.meanings;
      titles = c.see_all.ensures.titles ∙ c.entries.invariant.titles;
    }
