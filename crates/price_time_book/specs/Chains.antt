-- Chains of the orders of the vector of arrival: agents whose numbers leave one remainder have one chain.
use Rattle.std.specs.Prelude.{◌≡◌, ◌≢◌, ◌+◌, ◌<◌, ◌≤◌, ◌%◌, ◌==◌, ◌&&◌, ℕ, Bool, true, List, bytes_eq, length, slice_index_or}
use Rattle.price_time_book.specs.declared.resting.Resting.{Resting}
use Rattle.price_time_book.specs.Indexed.{nothing}

-- which chain an agent's orders are in
abbrev pub chain_of : ℕ → ℕ
chain_of agent = agent % 512

-- whether an order is one that this agent sent under this token
abbrev pub is_sent : ℕ → List ℕ → Resting → Bool
is_sent agent token o = (o.agent == agent) && bytes_eq o.token.0 token

-- n is one more than the place of the last order of a chain before place k, open or not, or 0 where there is none
pub record IsBefore (os : List Resting) (chain k n : ℕ) : Type 0 where
  pub within : n ≤ k
  pub here : (j : ℕ) → j + 1 ≡ n → chain_of (slice_index_or os j nothing).agent ≡ chain
  pub between : (j : ℕ) → n ≤ j → j < k → chain_of (slice_index_or os j nothing).agent ≢ chain

-- the last order of each chain, and the one before each order in its chain; of two orders of an agent under one token the
-- earlier has left
pub record IsChained (os : List Resting) (lasts befores : List ℕ) : Type 0 where
  pub same : length befores ≡ length os
  pub last : (chain : ℕ) → IsBefore os chain (length os) (slice_index_or lasts chain 0)
  pub before : (k : ℕ) → k < length os → IsBefore os (chain_of (slice_index_or os k nothing).agent) k (slice_index_or befores k 0)
  pub once : (j k : ℕ) → j < k → k < length os → is_sent (slice_index_or os k nothing).agent (slice_index_or os k nothing).token.0 (slice_index_or os j nothing) ≡ true → (slice_index_or os j nothing).left ≡ 0
