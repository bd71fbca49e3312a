use Rattle.std.proofs.Common.{ap, arith}
use Rattle.std.proofs.lemmas.Int.{ints}
use Rattle.market_types.specs.declared.account.TraderTold.{TraderTold}
use Rattle.kernel_tests.proofs.trader_party_tests.react.Goals as goal

pub react-answer-requires-clause-few : goal.react-answer-requires-clause-few
react-answer-requires-clause-few g c = record {
  tokens = omega (arith, ap (λ (t : TraderTold). t.tokens) c.told-told.ensures.value);
  draws = omega (arith, ap (λ (t : TraderTold). t.draws) c.told-told.ensures.value);
  quotes = omega (arith, ap (λ (t : TraderTold). t.quotes) c.told-told.ensures.value);
  position = record {
    low = omega (arith, ints, ap (λ (t : TraderTold). t.account.position) c.told-told.ensures.value);
    high = omega (arith, ints, ap (λ (t : TraderTold). t.account.position) c.told-told.ensures.value);
  };
  cash = record {
    low = omega (arith, ints, ap (λ (t : TraderTold). t.account.cash) c.told-told.ensures.value);
    high = omega (arith, ints, ap (λ (t : TraderTold). t.account.cash) c.told-told.ensures.value);
  };
}
