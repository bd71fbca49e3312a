use Rattle.std.proofs.Common.{◌≡◌, ◌≤◌, ◌+◌, ◌-◌, ◌*◌, ◌++◌}
use Rattle.agent_shell.specs.Ordered.{all_ordered}
use Rattle.agent_shell.specs.Sound.{IsOwn}
use Rattle.agent_shell.specs.Maker.{levels_from}
use Rattle.quoter_agents.proofs.levels.quote_levels.Given as goal

abbrev pub invariant-loop-i : goal.invariant-loop-i
invariant-loop-i l = record {
  orders : (all_ordered l.view.symbol (levels_from l.levels l.view.ticks.now l.centre l.i (l.count - l.i)) l.shell.orders).orders ≡ (all_ordered l.view.symbol (levels_from l.levels l.view.ticks.now l.centre 0 l.count) l.initial.shell.orders).orders;
  sends : l.out.list ++ (all_ordered l.view.symbol (levels_from l.levels l.view.ticks.now l.centre l.i (l.count - l.i)) l.shell.orders).sends ≡ l.initial.out.list ++ (all_ordered l.view.symbol (levels_from l.levels l.view.ticks.now l.centre 0 l.count) l.initial.shell.orders).sends;
  own : IsOwn l.shell.orders;
  agent : l.shell.orders.agent ≡ l.initial.shell.orders.agent;
  within : l.i ≤ l.count;
  tokens : l.shell.orders.tokens ≤ l.initial.shell.orders.tokens + 2 * l.i;
  places : 2 * l.count ≤ l.shell.spare + 2 * l.i;
  room : 2 * l.count ≤ l.out.spare + 2 * l.i;
}
