use Rattle.std.proofs.Common.{◌≡◌, drop, map}
use Rattle.exchange_agent.specs.Cancel.{found_from}
use Rattle.exchange_agent.specs.View.{stock_of}
use Rattle.exchange_agent.proofs.cancel.find_order.Given as goal

abbrev pub invariant-loop-i : goal.invariant-loop-i
invariant-loop-i l = found_from 0 l.agent l.token (map stock_of l.stocks) ≡ found_from l.i l.agent l.token (map stock_of (drop l.i l.stocks))
