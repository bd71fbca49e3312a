use Rattle.std.proofs.Common.{◌≡◌, ◌∙◌, IfOk, List, ap, map, subst}
use Rattle.std.specs.List.{flat_map}
use Rattle.market_types.specs.Told.{EntryTold}
use Rattle.probe_desk.specs.Probe.{Meaning, column_of}
use Rattle.session_desk.specs.Answered.{value_frame}
use Rattle.session_desk.proofs.Watching.{values-seen}
use Rattle.session_desk.proofs.act_answer.valued.Goals as goal

pub returns-clause-bytes : goal.returns-clause-bytes
returns-clause-bytes g c =
    let ms = map (λ b. (goal.Probe-dyn g (b.vtable, b.value)).meaning b.value) c.args.probes.now in
    let seen = values-seen _ _ c.args.probes.now c.restart_all.new.probes c.watch.new.probes c.in-Ok.trace.list
    c.restart_all.ensures.numbers c.restart_all.ensures.meanings c.watch.ensures.numbers c.watch.ensures.meanings in
    let told = c.deref.ensures.value ∙ c.in-Ok-values.ensures ∙ seen ∙ ap (λ (es : List EntryTold). map (λ (m : Meaning). column_of m es) ms) c.in-Ok.ensures.entries in
    subst (λ xs. IfOk c.told_bytes.result (λ v. v.items ≡ flat_map value_frame xs)) told c.told_bytes.ensures
