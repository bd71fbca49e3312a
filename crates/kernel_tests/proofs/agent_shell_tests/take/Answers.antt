use Rattle.std.proofs.Common.{ap, arith}
use Rattle.std.proofs.lemmas.Int.{ints}
use Rattle.market_types.specs.declared.account.Account.{Account}
use Rattle.kernel_tests.proofs.agent_shell_tests.take.Goals as goal

pub take_reply-requires : goal.take_reply-requires
take_reply-requires g c = record {
  position = record {
    low = omega (arith, ints, ap (λ (a : Account). a.position) c.account-account.ensures);
    high = omega (arith, ints, ap (λ (a : Account). a.position) c.account-account.ensures);
  };
  cash = record {
    low = omega (arith, ints, ap (λ (a : Account). a.cash) c.account-account.ensures);
    high = omega (arith, ints, ap (λ (a : Account). a.cash) c.account-account.ensures);
  };
}
