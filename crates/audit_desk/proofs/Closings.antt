-- A closing has each stock and each agent by its number.
use Rattle.std.proofs.Common.{◌≡◌, ◌∙◌, ℕ, zero, suc, ◌+◌, List, [], ◌∷◌, ◌++◌, length, refl, arith}
use Rattle.std.proofs.lemmas.List.{length_push}
use Rattle.bundle_frames.specs.declared.closing.ClosingAgent.{ClosingAgent}
use Rattle.bundle_frames.specs.declared.closing.ClosingStock.{ClosingStock}
use Rattle.market_floor.specs.declared.opening.Opening.{Opening}
use Rattle.kernel_core.specs.State.{State}
use Rattle.kernel_copy.specs.Closing.{agents_closed, closing_at, stocks_closed}
use Rattle.bundle_reader.specs.Bundle.{AreAgents, AreStocks, IsClosing}

stocks-push : (n : ℕ) (xs : List ClosingStock) (x : ClosingStock) → x.stock ≡ n + length xs → AreStocks n xs → AreStocks n (xs ++ x ∷ [])
stocks-push n [] x is h = (omega (arith, is), tt)
stocks-push n (y ∷ ys) x is h = (h.0, stocks-push (n + 1) ys x (omega (arith, is)) h.1)

agents-push : (n : ℕ) (xs : List ClosingAgent) (x : ClosingAgent) → x.agent ≡ n + length xs → AreAgents n xs → AreAgents n (xs ++ x ∷ [])
agents-push n [] x is h = (omega (arith, is), tt)
agents-push n (y ∷ ys) x is h = (h.0, agents-push (n + 1) ys x (omega (arith, is)) h.1)

length-stocks : (s : State) (n : ℕ) → length (stocks_closed s n) ≡ n
length-stocks s zero = refl
length-stocks s (suc n) =
    let one : length (stocks_closed s (suc n)) ≡ length (stocks_closed s n) + 1 = length_push (stocks_closed s n) _ in
    omega (arith, one, length-stocks s n)

each-stock : (s : State) (n : ℕ) → AreStocks 0 (stocks_closed s n)
each-stock s zero = tt
each-stock s (suc n) = stocks-push 0 (stocks_closed s n) _ (omega (arith, length-stocks s n)) (each-stock s n)

length-agents : (s : State) (n : ℕ) → length (agents_closed s n) ≡ n + 1
length-agents s zero = refl
length-agents s (suc n) =
    let one : length (agents_closed s (suc n)) ≡ length (agents_closed s n) + 1 = length_push (agents_closed s n) _ in
    omega (arith, one, length-agents s n)

each-agent : (s : State) (n : ℕ) → AreAgents 0 (agents_closed s n)
each-agent s zero = (refl, tt)
each-agent s (suc n) = agents-push 0 (agents_closed s n) _ (omega (arith, length-agents s n)) (each-agent s n)

-- the closing of a state with so many stocks and traders
pub closing-is : (o : Opening) (s : State) (stocks traders : ℕ) → length s.floor.exchange.stocks ≡ stocks → length s.floor.parties ≡ traders
    → IsClosing stocks (traders + 1) (closing_at o s)
closing-is o s stocks traders many all = record {
  stock_count = length-stocks s (length s.floor.exchange.stocks) ∙ many;
  each_stock = each-stock s (length s.floor.exchange.stocks);
  agent_count = omega (arith, length-agents s (length s.floor.parties), all);
  each_agent = each-agent s (length s.floor.parties);
}
