use Rattle.std.proofs.Common.{ap, ◌∙◌}
use Rattle.kernel_copy.specs.Kept.{tallied}
use Rattle.kernel_copy.specs.declared.tally.Tally.{Tally}
use Rattle.kernel_copy.proofs.Pieces.{part-tallies, then-ok}
use Rattle.kernel_copy.proofs.run.run_tallied.Goals as goal

pub returns-clause-kept : goal.returns-clause-kept
returns-clause-kept g c =
    then-ok c.run_part.result c.run_part.ensures.kept
    (λ is. ap (λ (t : Tally). tallied t) (is ∙ part-tallies c.args.tally.now c.args.o.now c.args.stop c.args.most c.args.kernel.now))
