use Rattle.std.proofs.Common.{◌≡◌, ◌∙◌, ◌<◌, ap, sym, rules, length, get_or}
use Rattle.market_types.specs.Told.{event_told}
use Rattle.probe_desk.proofs.Seen.{drop_set-more, get_or_any, map_set-more, same_at}
use Rattle.probe_desk.proofs.watching.see_all.Goals as goal

pub loop-probe-preserved : goal.loop-probe-preserved
loop-probe-preserved g c =
    let (numbers, meanings, titles, rest) = c.loop-probe.invariant in
    let i = c.loop-probe.probe-index in
    let p = get_or c.loop-probe.probes i c.probe-item.result in
    let here : i < length c.loop-probe.probes = search rules in
    let there : i < length c.args.probes.now = search rules in
    let item : get_or c.loop-probe.probes i p ≡ p = get_or_any c.loop-probe.probes i _ _ here in
    let at = sym (same_at c.loop-probe.probes c.args.probes.now i p rest) ∙ item in
    let lent = c.as_mut.ensures.value.1 in
    let number = c.see_one.ensures.numbers ∙ ap (λ v. ((goal.Probe-dyn g v).meaning v.1).after ((goal.Probe-dyn g v).numbers v.1) (event_told c.args.event.now)) lent in
    let meaning = c.see_one.ensures.meaning ∙ ap (λ v. (goal.Probe-dyn g v).meaning v.1) lent in
    let title = c.see_one.ensures.title ∙ ap (λ v. (goal.Probe-dyn g v).title v.1) lent in (
      map_set-more _ _ c.loop-probe.probes c.args.probes.now i p _ here there at number numbers,
      map_set-more _ _ c.loop-probe.probes c.args.probes.now i p _ here there at meaning meanings,
      map_set-more _ _ c.loop-probe.probes c.args.probes.now i p _ here there at title titles,
      drop_set-more _ _ i _ rest,
    )
