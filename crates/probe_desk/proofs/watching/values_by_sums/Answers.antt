use Rattle.std.proofs.Common.{◌≡◌, ◌∙◌, ap, sym, rules, get_or, ◌++◌, ◌∷◌, []}
use Rattle.probe_desk.specs.declared.sums.Sums.{Sums}
use Rattle.probe_desk.specs.Probe.{column_of}
use Rattle.probe_desk.specs.Sums.{number_of}
use Rattle.probe_desk.proofs.Seen.{map_take-more}
use Rattle.probe_desk.proofs.Summing.{column-is}
use Rattle.probe_desk.proofs.watching.values_by_sums.Goals as goal

pub loop-probe-preserved : goal.loop-probe-preserved
loop-probe-preserved g c =
    let here : get_or c.args.probes.now c.loop-probe.probe-index c.probe-item.result ≡ c.probe-item.result = search rules in
    let pushed : c.push.new.self.items ≡ c.loop-probe.all.items ++ c.number.result ∷ [] = search rules in
    λ es are few.
    let is = c.number.ensures
    ∙ ap (λ (s : Sums). number_of c.in-Some.column s) (are.exact few)
    ∙ sym (column-is c.in-Some.column es few)
    ∙ ap (λ m. column_of m es) (sym c.in-Some.ensures)
    ∙ ap (λ v. column_of ((goal.Probe-dyn g v).meaning v.1) es) c.as_ref.ensures.1 in
    map_take-more _ c.args.probes.now c.loop-probe.probe-index c.probe-item.result c.number.result c.loop-probe.all.items c.push.new.self.items c.loop-probe-test.true here is
    (c.loop-probe.invariant es are few) pushed
