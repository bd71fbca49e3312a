-- What the exchange does with an Enter: of the nine lines of its table the first that applies answers.
use Rattle.std.specs.Prelude.{ℕ, ◌+◌, ◌==◌, nat_lt, nat_le, not, ◌||◌, ◌&&◌, Bool, if◌then◌else◌, pos, List, [], ◌∷◌, ◌++◌, length, Option, Some, None}
use Rattle.market_types.specs.declared.order.Enter.{Enter}
use Rattle.market_types.specs.declared.feed.Feed.{Feed}
use Rattle.market_types.specs.declared.feed.What.TheVariants as what
use Rattle.market_types.specs.declared.reply.Reply.{Reply}
use Rattle.market_types.specs.declared.reply.Reply.TheVariants.{Accepted, Canceled, Rejected}
use Rattle.market_types.specs.declared.message.Body.TheVariants.{Answer}
use Rattle.market_rules.specs.Ticks.{is_allowed}
use Rattle.price_time_book.specs.declared.resting.Resting.{Resting}
use Rattle.price_time_book.specs.Matched.{matched}
use Rattle.exchange_agent.specs.declared.verdict.Verdict.{Verdict}
use Rattle.exchange_agent.specs.declared.verdict.Verdict.TheVariants as verdict
use Rattle.exchange_agent.specs.declared.verdict.Reason.{Reason}
use Rattle.exchange_agent.specs.declared.verdict.Reason.TheVariants as why
use Rattle.exchange_agent.specs.Pairs.{has_pair, pair_of, with_pair}
use Rattle.exchange_agent.specs.declared.settle.Taking.{Taking}
use Rattle.exchange_agent.specs.Settle.{Way, all_settled}
use Rattle.exchange_agent.specs.State.{State, Stock, stock_at, with_stock, stock_number_of, resting_over, trades}
use Rattle.exchange_agent.specs.Outcome.{Outcome, silently, replied}

-- line 1: the pair of agent and token is remembered
abbrev pub is_remembered : State → ℕ → Enter → Bool
is_remembered s agent e = has_pair (pair_of agent e.token) s.pairs

-- line 2: 131,072 pairs are remembered
abbrev pub is_memory_full : State → Bool
is_memory_full s = nat_le 131072 (length s.pairs)

-- line 4: display is neither 'Y' nor, where hidden orders are taken, 'N'; minimum is not 0, cross is not 'N', or time in force
-- is not 0, 99,998 or 99,999
abbrev pub display_is_refused : Bool → Enter → Bool
display_is_refused hidden e = not ((e.display == 89) || (hidden && (e.display == 78)))

abbrev pub minimum_is_not_0 : Enter → Bool
minimum_is_not_0 e = not (e.minimum == 0)

abbrev pub cross_is_not_n : Enter → Bool
cross_is_not_n e = not (e.cross == 78)

abbrev pub time_in_force_is_none : Enter → Bool
time_in_force_is_none e = not ((e.tif == 0) || (e.tif == 99998) || (e.tif == 99999))

abbrev pub terms_are_refused : Bool → Enter → Bool
terms_are_refused hidden e = display_is_refused hidden e || minimum_is_not_0 e || cross_is_not_n e || time_in_force_is_none e

-- line 5: the stock's state is not 'T'
abbrev pub is_halted : Stock → Bool
is_halted k = not (k.trading == trades)

-- line 6: shares is 0 or above 999,999
abbrev pub shares_are_refused : Enter → Bool
shares_are_refused e = (e.shares == 0) || nat_lt 999999 e.shares

-- line 7: the price is not from 1 to 1,999,999,900, or not allowed by the tick table
abbrev pub price_is_refused : Stock → Enter → Bool
price_is_refused k e = (e.price == 0) || nat_lt 1999999900 e.price || not (is_allowed k.bands e.price)

-- line 8: 16,384 orders rest over all stocks
abbrev pub is_full : State → Bool
is_full s = nat_le 16384 (resting_over s.stocks)

-- the letter of a reason: 'S', 'H', 'X' or 'O'
abbrev pub reason_letter : Reason → ℕ
reason_letter why.UnknownStock = 83
reason_letter why.Halted = 72
reason_letter why.Price = 88
reason_letter why.Other = 79

-- lines 4 to 9, at the stock of a number
abbrev pub verdict_there : State → Enter → ℕ → Verdict
verdict_there s e k =
    if terms_are_refused s.hidden e then verdict.Refused why.Other
    else (if is_halted (stock_at s k) then verdict.Refused why.Halted
    else (if shares_are_refused e then verdict.Refused why.Other
    else (if price_is_refused (stock_at s k) e then verdict.Refused why.Price
    else (if is_full s then verdict.Refused why.Other
    else verdict.Accepted k))))

-- line 3: the symbol is no stock
abbrev pub verdict_at : State → Enter → Option ℕ → Verdict
verdict_at s e None = verdict.Refused why.UnknownStock
verdict_at s e (Some k) = verdict_there s e k

-- the first of the nine lines that applies
abbrev pub verdict_of : State → ℕ → Enter → Verdict
verdict_of s agent e =
    if is_remembered s agent e then verdict.Ignored
    else (if is_memory_full s then verdict.Forgotten why.Other
    else verdict_at s e (stock_number_of e.stock s.stocks))

-- line 1 or 2, where 131,072 pairs are remembered
abbrev pub verdict_when_full : State → ℕ → Enter → Verdict
verdict_when_full s agent e = if is_remembered s agent e then verdict.Ignored else verdict.Forgotten why.Other

-- the line that answers where the first is not asked while there is room for a pair
abbrev pub verdict_found : State → ℕ → Enter → Verdict
verdict_found s agent e =
    if is_memory_full s then verdict_when_full s agent e
    else verdict_at s e (stock_number_of e.stock s.stocks)

-- from line 3 on the pair is remembered
abbrev pub remembering : State → ℕ → Enter → State
remembering s agent e = record s { pairs = with_pair (pair_of agent e.token) s.pairs }

abbrev pub rejection_of : ℕ → Enter → Reason → Reply
rejection_of time e reason = Rejected time e.token (reason_letter reason)

-- the reply Accepted with the entered shares and the order's reference; the order's state is 'L' and the BBO weight a space
abbrev pub acceptance_of : ℕ → Enter → ℕ → Reply
acceptance_of time e reference =
    Accepted time e.token e.side e.shares e.stock e.price e.tif e.firm e.display reference e.capacity e.sweep e.minimum e.cross 76 32

-- the order that comes to rest with so many open shares; its intended size is the entered one, and it is shown where its display is 'Y'
abbrev pub resting_of : ℕ → ℕ → Enter → ℕ → Resting
resting_of reference agent e left = record {
  reference = reference;
  agent = agent;
  token = e.token;
  side = e.side;
  price = e.price;
  intended = e.shares;
  left = left;
  tif = e.tif;
  shown = e.display == 89;
}

-- the incoming order, for the replies and feed of its matches
abbrev pub taking_of : ℕ → ℕ → Enter → ℕ → Taking
taking_of time agent e k = record { time = time; agent = agent; locate = k + 1; side = e.side; token = e.token }

-- an accepted order before its first match: Accepted was sent
abbrev pub way_from : State → ℕ → ℕ → Enter → ℕ → Way
way_from s time agent e k = record {
  stock = stock_at s k;
  cash = s.cash;
  matches = s.counts.matches;
  replies = record { to = agent; body = Answer (acceptance_of time e (s.counts.orders + 1)) } ∷ [];
  feed = [];
  fee = pos 0;
}

-- the feed's Add Order of what comes to rest: a hidden order is not told
abbrev pub added_feed : Taking → Enter → ℕ → ℕ → List Feed
added_feed t e reference left =
    if e.display == 89
    then record { locate = t.locate; tracking = 0; time = t.time; what = what.Add reference e.side left e.stock e.price } ∷ []
    else []

-- what is left is canceled with reason 'I' where the time in force is 0, and else rests; nothing is done where nothing is left
abbrev pub remainder : Taking → Enter → ℕ → ℕ → Way → Way
remainder t e reference left w =
    if left == 0 then w
    else (if e.tif == 0
    then record w { replies = w.replies ++ record { to = t.agent; body = Answer (Canceled t.time e.token left 73) } ∷ [] }
    else record w {
      stock = record w.stock { book = w.stock.book ++ resting_of reference t.agent e left ∷ [] };
      feed = w.feed ++ added_feed t e reference left;
    })

-- its whole way: through all its matches, by the book's own matching, and then what is left
abbrev pub way_of : Taking → Enter → ℕ → Way → Way
way_of t e reference w =
    remainder t e reference (matched w.stock.book e.side e.price e.shares).shares
    (all_settled t (matched w.stock.book e.side e.price e.shares).fills w)

-- the outcome of a whole way
abbrev pub outcome_of : State → ℕ → Way → Outcome
outcome_of s k w = record {
  state = record (with_stock s k w.stock) {
    cash = w.cash;
    counts = record s.counts { orders = s.counts.orders + 1; matches = w.matches };
  };
  replies = w.replies;
  feed = w.feed;
  fee = w.fee;
}

-- line 9
abbrev pub accepted : State → ℕ → ℕ → Enter → ℕ → Outcome
accepted s time agent e k =
    outcome_of s k (way_of (taking_of time agent e k) e (s.counts.orders + 1) (way_from s time agent e k))

-- what comes of a verdict
abbrev pub entered_by : State → ℕ → ℕ → Enter → Verdict → Outcome
entered_by s time agent e verdict.Ignored =
    silently (record s { counts = record s.counts { enters = s.counts.enters + 1 } })
entered_by s time agent e (verdict.Forgotten reason) = replied s agent (rejection_of time e reason)
entered_by s time agent e (verdict.Refused reason) = replied (remembering s agent e) agent (rejection_of time e reason)
entered_by s time agent e (verdict.Accepted k) = accepted (remembering s agent e) time agent e k

-- what comes of a verdict on an Enter, unless its pair is remembered
abbrev pub entered_unless : State → ℕ → ℕ → Enter → Verdict → Outcome
entered_unless s time agent e v = entered_by s time agent e (if is_remembered s agent e then verdict.Ignored else v)

abbrev pub entered : State → ℕ → ℕ → Enter → Outcome
entered s time agent e = entered_by s time agent e (verdict_of s agent e)
