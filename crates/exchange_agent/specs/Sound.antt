-- What holds of every state that an exchange keeps.
use Rattle.std.specs.Prelude.{◌≡◌, ◌≤◌, ◌^◌, ◌*◌, ◌+◌, ℕ, ℤ, pos, neg_ℤ, ◌≤ℤ◌, true, nat_le, ◌&&◌, Bool, List, length, All}
use Rattle.price_time_book.specs.declared.resting.Resting.{Resting}
use Rattle.exchange_agent.specs.declared.pair.Pair.{Pair}
use Rattle.exchange_agent.specs.Pairs.{has_pair, pair_of}
use Rattle.exchange_agent.specs.Settle.{Way}
use Rattle.exchange_agent.specs.State.{State, Stock}

-- a number is at most so far from 0
pub record IsWithin (bound : ℕ) (x : ℤ) : Type 0 where
  pub low : neg_ℤ (pos bound) ≤ℤ x
  pub high : x ≤ℤ pos bound

-- an order's agent is one of so many traders
abbrev pub is_trader : ℕ → Resting → Bool
is_trader agents o = nat_le 1 o.agent && nat_le o.agent agents

-- an order that rests is a trader's, its reference was given, and its pair is remembered
abbrev pub is_known : ℕ → ℕ → List Pair → Resting → Bool
is_known agents orders pairs o = is_trader agents o && (nat_le o.reference orders && has_pair (pair_of o.agent o.token) pairs)

-- What a way has come to, once so many orders were accepted before and so many shares matched on the way: an order matches
-- fewer than a million shares, and each share moves each account by less than a bound.
pub record IsSmall (orders shares : ℕ) (w : Way) : Type 0 where
  pub cash : All (IsWithin (2 ^ 63 + 2 ^ 61 * orders + 2 ^ 41 * shares)) w.cash
  pub matches : w.matches ≤ 1000000 * orders + shares
  pub matched : w.stock.tally.matched ≤ 1000000 * orders + shares
  pub taken : IsWithin (2 ^ 53 * orders + 2 ^ 32 * shares) w.stock.tally.taken
  pub positions : All (IsWithin (2000000 * orders + 2 * shares)) w.stock.tally.positions
  pub fee : IsWithin (2 ^ 32 * shares) w.fee

-- It is far from every end of the numbers.
pub record IsFar (w : Way) : Type 0 where
  pub cash : All (IsWithin (2 ^ 100)) w.cash
  pub matches : w.matches ≤ 2 ^ 50
  pub matched : w.stock.tally.matched ≤ 2 ^ 50
  pub taken : IsWithin (2 ^ 100) w.stock.tally.taken
  pub positions : All (IsWithin (2 ^ 50)) w.stock.tally.positions
  pub fee : IsWithin (2 ^ 60) w.fee

-- A stock among so many traders, once so many orders were accepted and these pairs are remembered.
pub record IsSoundStock (agents orders : ℕ) (pairs : List Pair) (k : Stock) : Type 0 where
  pub known : All (λ o. is_known agents orders pairs o ≡ true) k.book
  pub few : length k.book ≤ orders
  pub traders : length k.tally.positions ≡ agents
  pub matched : k.tally.matched ≤ 1000000 * orders
  pub taken : IsWithin (2 ^ 53 * orders) k.tally.taken
  pub positions : All (IsWithin (2000000 * orders)) k.tally.positions

-- At most 131,072 orders are ever accepted, since each has a pair of its own. So nothing overflows, whatever the messages.
pub record IsSound (s : State) : Type 0 where
  pub some : 1 ≤ length s.stocks
  pub few : length s.stocks ≤ 16
  pub traders : length s.cash ≤ 511
  pub stocks : All (IsSoundStock (length s.cash) s.counts.orders s.pairs) s.stocks
  pub cash : All (IsWithin (2 ^ 63 + 2 ^ 61 * s.counts.orders)) s.cash
  pub pairs : length s.pairs ≤ 131072
  pub orders : s.counts.orders ≤ length s.pairs
  pub matches : s.counts.matches ≤ 1000000 * s.counts.orders
