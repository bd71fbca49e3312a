use Rattle.std.proofs.Common.{◌∙◌, ap}
use Rattle.study_report.proofs.OneMore.{one_mapped_at}
use Rattle.study_report.proofs.lines.add_names.Goals as goal

pub loop-probe-preserved : goal.loop-probe-preserved
loop-probe-preserved g c =
    let is = c.as_bytes.ensures.value ∙ (c.name-name.ensures ∙ ap (λ v. (goal.Probe-dyn g v).title v.1) c.as_ref.ensures.1) in
    (c.in_ok-add.ensures.partial, one_mapped_at _ c.args.probes.now c.loop-probe.probe-index c.probe-item.result _ _ _ c.loop-probe-test.true c.probe-item.is is c.in_ok-add.ensures.fields ∙ c.loop-probe.invariant.1)
