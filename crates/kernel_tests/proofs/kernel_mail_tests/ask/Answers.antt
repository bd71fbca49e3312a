use Rattle.std.proofs.Common.{sym, subst}
use Rattle.market_floor.specs.declared.opening.Opening.{Opening}
use Rattle.kernel_core.specs.Sendable.{IsGrouped}
use Rattle.kernel_core.proofs.Sends.{grouped-one}
use Rattle.kernel_tests.proofs.kernel_mail_tests.ask.Goals as goal

pub send-requires-clause-fits : goal.send-requires-clause-fits
send-requires-clause-fits c =
    subst (λ (o : Opening). IsGrouped o c.args.groups.now) (sym c.requires.opening) (grouped-one c.args.groups.now c.requires.groups)
