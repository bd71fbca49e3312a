use Rattle.std.proofs.Common.{◌≡◌, List, ap, ◌∙◌}
use Rattle.market_types.specs.Told.{EntryTold}
use Rattle.kernel_core.specs.Seen.{folded, listed}
use Rattle.kernel_copy.specs.Kept.{entries}
use Rattle.kernel_copy.specs.Segmentwise.{afresh}
use Rattle.kernel_copy.specs.UntilStop.{until_part}
use Rattle.kernel_copy.proofs.Pieces.{part-lists, then-ok}
use Rattle.kernel_copy.proofs.run.run_summed.Goals as goal

pub returns-clause-kept : goal.returns-clause-kept
returns-clause-kept g c =
    let o = c.args.o.now in
    let told = c.args.summed.now.list in
    let more = (until_part o c.args.stop c.args.most (afresh c.args.kernel.now)).entries in
    let start : c.expect.new.self.list ≡ told = ap (λ v. v.list) c.expect.ensures ∙ ap (λ v. v.list) c.replace.ensures.value in
    then-ok c.run_part-ran.result c.run_part-ran.ensures.kept
    (λ is. ap (λ (es : List EntryTold). entries es) (ap (λ v. v.list) c.replace-2.ensures.after ∙ is ∙ ap (λ (es : List EntryTold). folded listed es more) start ∙ part-lists told o c.args.stop c.args.most c.args.kernel.now))
