-- Whole runs of an exchange, and what they leave constant.
use Rattle.std.specs.Prelude.{◌≡◌, ◌≤◌, ◌<◌, ◌+◌, ◌==◌, if◌then◌else◌, ℕ, ℤ, pos, ◌+ℤ◌, List, [], ◌∷◌, ◌++◌, All, map, sum_by, Option, Some, None, Bool, false}
use Rattle.market_types.specs.declared.message.Body.{Body}
use Rattle.market_types.specs.declared.message.Body.TheVariants as body
use Rattle.market_types.specs.declared.order.Inbound.TheVariants as inbound
use Rattle.market_types.specs.declared.order.Side.TheVariants.{Buy, Sell}
use Rattle.market_types.specs.declared.reply.Reply.TheVariants as reply
use Rattle.market_rules.specs.declared.changes.Change.{Change}
use Rattle.price_time_book.specs.declared.resting.Resting.{Resting}
use Rattle.exchange_agent.specs.declared.handled.Outgoing.{Outgoing}
use Rattle.exchange_agent.specs.Changes.{changed_by}
use Rattle.exchange_agent.specs.declared.told.StockRules.{StockRules}
use Rattle.exchange_agent.specs.Market.{market}
use Rattle.exchange_agent.specs.Open.{opened}
use Rattle.exchange_agent.specs.State.{State, Stock, stock_at, stock_number_of}

-- What an exchange meets: a message from a trader at a time, or a change of a stock's rules at a time.
pub data Act : Type 0 where
  message : ℕ → ℕ → Body → Act
  change : ℕ → ℕ → Change → Act

-- a message is from one of so many traders, and a change is of one of so many stocks
abbrev pub IsPossible : ℕ → ℕ → Act → Type 0
IsPossible traders stocks (message time from b) = (1 ≤ from) × (from ≤ traders)
IsPossible traders stocks (change time stock c) = stock < stocks

abbrev pub state_after : State → Act → State
state_after s (message time from b) = (market s time from b).state
state_after s (change time stock c) = (changed_by s time stock c).state

abbrev pub replies_to : State → Act → List Outgoing
replies_to s (message time from b) = (market s time from b).replies
replies_to s (change time stock c) = []

-- the state after a list of them
abbrev pub run : State → List Act → State
run s [] = s
run s (a ∷ acts) = run (state_after s a) acts

-- all replies on the way
abbrev pub replies_over : State → List Act → List Outgoing
replies_over s [] = []
replies_over s (a ∷ acts) = replies_to s a ++ replies_over (state_after s a) acts

-- the shares that a reply accepts
abbrev pub accepted_shares : Body → ℕ
accepted_shares (body.Answer (reply.Accepted time token side shares stock price tif firm display reference capacity sweep minimum cross state bbo)) = shares
accepted_shares _ = 0

-- the shares that a reply executes
abbrev pub executed_shares : Body → ℕ
executed_shares (body.Answer (reply.Executed time token shares price flag number)) = shares
executed_shares _ = 0

-- those of a reply with the flag 'R' of the incoming order
abbrev pub removed_shares : Body → ℕ
removed_shares (body.Answer (reply.Executed time token shares price flag number)) = if flag == 82 then shares else 0
removed_shares _ = 0

-- the shares that a reply cancels
abbrev pub canceled_shares : Body → ℕ
canceled_shares (body.Answer (reply.Canceled time token decrement reason)) = decrement
canceled_shares _ = 0

abbrev pub total_of : (Body → ℕ) → List Outgoing → ℕ
total_of shares replies = sum_by (λ r. shares r.body) replies

-- whether a number is this one
abbrev pub is_number : ℕ → Option ℕ → Bool
is_number k None = false
is_number k (Some n) = n == k

-- whether an Enter is for the stock of a number
abbrev pub is_for : State → ℕ → Act → Bool
is_for s k (message time from (body.Order (inbound.Enter e))) = is_number k (stock_number_of e.stock s.stocks)
is_for s k _ = false

-- the shares executed with flag 'R' on the way by orders for the stock of a number
abbrev pub removed_over : State → ℕ → List Act → ℕ
removed_over s k [] = 0
removed_over s k (a ∷ acts) = (if is_for s k a then total_of removed_shares (replies_to s a) else 0) + removed_over (state_after s a) k acts

-- a sum of signed numbers
abbrev pub total : List ℤ → ℤ
total [] = pos 0
total (x ∷ xs) = x +ℤ total xs

abbrev pub fees_taken : List Stock → ℤ
fees_taken stocks = total (map (λ k. k.tally.taken) stocks)

-- the open shares of all live orders
abbrev pub open_shares : List Stock → ℕ
open_shares stocks = sum_by (λ k. sum_by (λ o. o.left) k.book) stocks

-- no buy order of a book has a price of some sell order or above it
abbrev pub IsUncrossed : List Resting → Type 0
IsUncrossed book = All (λ b. All (λ s. b.side ≡ Buy → s.side ≡ Sell → b.price < s.price) book) book

-- What stays constant over a run from an opening with these stocks and this cash.
pub record IsConserved (rules : List StockRules) (cash : List ℤ) (hidden : Bool) (acts : List Act) : Type 0 where
  -- the settled cash of all traders and all fees are together the opening cash
  pub money : total (run (opened rules cash hidden) acts).cash +ℤ fees_taken (run (opened rules cash hidden) acts).stocks ≡ total cash
  -- the positions of each stock sum to zero
  pub positions : All (λ k. total k.tally.positions ≡ pos 0) (run (opened rules cash hidden) acts).stocks
  -- the matched shares of a stock are those executed with flag 'R' by orders for it
  pub matched : (k : ℕ) → (stock_at (run (opened rules cash hidden) acts) k).tally.matched ≡ removed_over (opened rules cash hidden) k acts
  -- what was accepted is open, or was executed (on either side) or canceled
  pub shares : open_shares (run (opened rules cash hidden) acts).stocks + total_of executed_shares (replies_over (opened rules cash hidden) acts) + total_of canceled_shares (replies_over (opened rules cash hidden) acts) ≡ total_of accepted_shares (replies_over (opened rules cash hidden) acts)
  -- no two live orders of a stock cross
  pub uncrossed : All (λ k. IsUncrossed k.book) (run (opened rules cash hidden) acts).stocks
