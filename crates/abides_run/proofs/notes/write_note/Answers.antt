use Rattle.std.proofs.Common.{◌∙◌, inl, inr, refl}
use Rattle.abides_run.specs.declared.status.Status.TheVariants.{Memory}
use Rattle.abides_run.proofs.Noting.{line-noted}
use Rattle.abides_run.proofs.notes.write_note.Goals as goal

pub returns-in-Ok-clause-kept : goal.returns-in-Ok-clause-kept
returns-in-Ok-clause-kept g c = inl refl

pub returns-in-Ok-clause-noted : goal.returns-in-Ok-clause-noted
returns-in-Ok-clause-noted g c =
    let sent = c.write_all.ensures in
    line-noted c.args.name.now c.args.status c.as_bytes.result.now _ _ _ _ c.write_all.result (c.as_bytes.ensures.value ∙ c.in-Ok.ensures.text) sent.ok sent.cut sent.failed sent.never_falls

pub returns-in-Err-clause-kept : goal.returns-in-Err-clause-kept
returns-in-Err-clause-kept g c = inr (refl, λ ok. let bad = c.in-Err.ensures.silent ok in cc)

pub returns-in-Err-clause-noted : goal.returns-in-Err-clause-noted
returns-in-Err-clause-noted g c =
    let sent = c.write_all-in-Err.ensures in
    line-noted c.args.name.now Memory _ _ _ _ _ c.write_all-in-Err.result refl sent.ok sent.cut sent.failed sent.never_falls
