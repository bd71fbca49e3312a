use Rattle.std.proofs.Common.{◌≡◌, ◌∙◌, ap, rules, get_or, ◌++◌, ◌∷◌, []}
use Rattle.probe_desk.proofs.Seen.{map_take-more}
use Rattle.probe_desk.proofs.watching.values.Goals as goal

pub loop-probe-preserved : goal.loop-probe-preserved
loop-probe-preserved g c =
    let here : get_or c.args.probes.now c.loop-probe.probe-index c.probe-item.result ≡ c.probe-item.result = search rules in
    let pushed : c.push.new.self.items ≡ c.loop-probe.all.items ++ c.value.result ∷ [] = search rules in
    let is = c.value.ensures ∙ ap (λ v. ((goal.Probe-dyn g v).meaning v.1).value ((goal.Probe-dyn g v).numbers v.1)) c.as_ref.ensures.1 in
    map_take-more _ c.args.probes.now c.loop-probe.probe-index c.probe-item.result c.value.result c.loop-probe.all.items c.push.new.self.items c.loop-probe-test.true here is
    c.loop-probe.invariant pushed
