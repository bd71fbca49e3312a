-- The tokens that a trader gives to its orders.
use Rattle.std.specs.Prelude.{◌≡◌, ◌≤◌, ℕ, zero, suc, ◌+◌, ◌/◌, ◌%◌, List, [], ◌∷◌, ◌++◌}
use Rattle.market_types.specs.declared.message.Body.TheVariants.{Wake, Order, Answer, Ask, Quote}
use Rattle.market_types.specs.declared.order.Inbound.TheVariants.{Enter as NewOrder, Cancel}
use Rattle.market_types.specs.declared.order.Token.{Token}
use Rattle.agent_shell.specs.declared.sending.Sending.{Sending}
use Rattle.agent_shell.specs.declared.sending.Sending.TheVariants.{To, WakeAt}

-- the last so many decimal digits of a number, in ASCII
abbrev pub digits : ℕ → ℕ → List ℕ
digits zero number = []
digits (suc places) number = digits places (number / 10) ++ (48 + number % 10) ∷ []

-- the n-th token of an agent: `T`, the agent in four digits and n in nine
abbrev pub token_of : ℕ → ℕ → Token
token_of agent n = record { 0 = 84 ∷ (digits 4 agent ++ digits 9 n) }

-- a token that an agent gave among its first so many
pub record IsGiven (agent tokens : ℕ) (token : Token) : Type 0 where
  pub number : ℕ
  pub first : 1 ≤ number
  pub last : number ≤ tokens
  pub is : token ≡ token_of agent number

-- so many tokens of an agent, from the one after the first so many on
abbrev pub next_tokens : ℕ → ℕ → ℕ → List Token
next_tokens agent given zero = []
next_tokens agent given (suc n) = token_of agent (given + 1) ∷ next_tokens agent (given + 1) n

-- the token of a sending that is an order
abbrev pub token_in : Sending → List Token
token_in (To Wake extra) = []
token_in (To (Order (NewOrder e)) extra) = e.token ∷ []
token_in (To (Order (Cancel c)) extra) = []
token_in (To (Answer reply) extra) = []
token_in (To (Ask stock) extra) = []
token_in (To (Quote q) extra) = []
token_in (WakeAt time) = []

-- the tokens of the orders among sendings
abbrev pub tokens_in : List Sending → List Token
tokens_in [] = []
tokens_in (x ∷ xs) = token_in x ++ tokens_in xs

-- From a count of given tokens to another, sendings have orders of exactly the tokens between, in order.
pub record AreNext (agent given then : ℕ) (sends : List Sending) : Type 0 where
  pub count : ℕ
  pub counted : then ≡ given + count
  pub tokens : tokens_in sends ≡ next_tokens agent given count
