-- Each agent of a closing has a position in each stock.
use Rattle.std.proofs.Common.{◌≡◌, ℕ, zero, suc, ◌+◌, ◌-◌, [], length, pos, All, arith, refl}
use Rattle.std.specs.Prelude.{slice_index_or}
use Rattle.std.proofs.lemmas.List.{length-replicate, length_push}
use Rattle.std.proofs.lemmas.List.Elements.{All-cons, All-nil, All-push}
use Rattle.bundle_frames.specs.declared.closing.ClosingAgent.{ClosingAgent}
use Rattle.agent_shell.specs.Trader.{told_of}
use Rattle.exchange_agent.specs.State.{State as Exchange, stock_at}
use Rattle.market_floor.specs.Floor.{party_at}
use Rattle.kernel_core.specs.State.{State}
use Rattle.kernel_copy.specs.Closing.{agents_closed, exchange_closed, positions_closed, trader_closed}

positions-length : (x : Exchange) (agent n : ℕ) → length (positions_closed x agent n) ≡ n
positions-length x agent zero = refl
positions-length x agent (suc n) =
    omega (arith, length_push (positions_closed x agent n) (slice_index_or (stock_at x n).tally.positions (agent - 1) (pos 0)), positions-length x agent n)

-- as many positions as there are stocks
abbrev HasAll : State → ClosingAgent → Type 0
HasAll s a = length a.positions ≡ length s.floor.exchange.stocks

pub agents-have_all : (s : State) (n : ℕ) → All (λ (a : ClosingAgent). length a.positions ≡ length s.floor.exchange.stocks) (agents_closed s n)
agents-have_all s zero = All-cons (HasAll s) (exchange_closed s) [] (length-replicate (length s.floor.exchange.stocks) (pos 0)) (All-nil (HasAll s))
agents-have_all s (suc n) =
    All-push (HasAll s) (agents_closed s n) (trader_closed s (n + 1) (party_at s.floor (n + 1)) (told_of (party_at s.floor (n + 1)).trader)) (agents-have_all s n)
    (positions-length s.floor.exchange (n + 1) (length s.floor.exchange.stocks))
