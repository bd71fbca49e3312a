use Rattle.std.proofs.Common.{◌≡◌, ◌≤◌, ◌+◌, ◌++◌, drop, length, map}
use Rattle.market_types.specs.declared.order.Token.{Token}
use Rattle.agent_shell.specs.declared.shell.OwnOrder.{OwnOrder}
use Rattle.agent_shell.specs.Wakeup.{cancel_of}
use Rattle.agent_shell.proofs.parts.take_back.Given as goal

abbrev pub invariant-loop-i : goal.invariant-loop-i
invariant-loop-i l = record {
  rest : l.out.list ++ map (λ (e : Token × OwnOrder). cancel_of e.0) (drop l.i l.shell.orders.own) ≡ l.initial.out.list ++ map (λ (e : Token × OwnOrder). cancel_of e.0) l.shell.orders.own;
  end : l.i-end ≡ length l.shell.orders.own;
  within : l.i ≤ l.i-end;
  room : l.initial.out.spare ≤ l.out.spare + l.i;
}
