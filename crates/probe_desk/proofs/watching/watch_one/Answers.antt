use Rattle.std.proofs.Common.{◌∙◌, ◌∷◌, [], sym}
use Rattle.market_types.specs.Told.{entry_told}
use Rattle.probe_desk.specs.Probe.{seen}
use Rattle.probe_desk.proofs.Seen.{seen-more}
use Rattle.probe_desk.proofs.watching.watch_one.Goals as goal

pub loop-entry-preserved : goal.loop-entry-preserved
loop-entry-preserved g c =
    let (numbers, meaning, title) = c.loop-entry.invariant in
    let s = c.see_entry.ensures in
    let first = goal.Probe-dyn g c.args.probe.now in
    let one = seen-more entry_told (first.meaning c.args.probe.now.1) (first.numbers c.args.probe.now.1) c.args.entries.now c.loop-entry.entry-index c.entry-item.result c.loop-entry-test.true in
    (s.numbers ∙ (λ i. seen (meaning i) (numbers i) (entry_told (c.entry-item.is i) ∷ [])) ∙ sym one, s.meaning ∙ meaning, s.title ∙ title)
