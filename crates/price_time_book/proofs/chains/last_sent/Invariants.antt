use Rattle.price_time_book.proofs.Befores.{IsWalked}
use Rattle.price_time_book.proofs.chains.last_sent.Given as goal

abbrev pub invariant-loop-at : goal.invariant-loop-at
invariant-loop-at l = record { walked : IsWalked l.orders l.agent l.token.0 l.at }

abbrev pub decreases-loop-at : goal.decreases-loop-at
decreases-loop-at l = l.at
