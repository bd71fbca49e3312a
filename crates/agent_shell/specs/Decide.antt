-- What a trader does with a message: its new data and what it sends.
use Rattle.std.specs.Prelude.{◌+◌, ◌==◌, if◌then◌else◌, List, []}
use Rattle.market_types.specs.declared.message.Body.{Body}
use Rattle.market_types.specs.declared.message.Body.TheVariants.{Wake, Order, Answer, Ask, Quote as QuoteBody}
use Rattle.market_types.specs.declared.message.Quote.{Quote}
use Rattle.market_types.specs.declared.reply.Reply.{Reply}
use Rattle.agent_shell.specs.declared.sending.Sending.{Sending}
use Rattle.agent_shell.specs.declared.setting.Kind.{Kind}
use Rattle.agent_shell.specs.declared.setting.Kind.TheVariants.{Watcher, Noise, Value, Momentum, Maker}
use Rattle.agent_shell.specs.Choice.{Choice}
use Rattle.agent_shell.specs.Maker.{maker_choice}
use Rattle.agent_shell.specs.Momentum.{momentum_choice}
use Rattle.agent_shell.specs.Noise.{noise_choice}
use Rattle.agent_shell.specs.Ordered.{Ordered, all_ordered}
use Rattle.agent_shell.specs.Shell.{replied}
use Rattle.agent_shell.specs.Sight.{Sight}
use Rattle.agent_shell.specs.Trader.{Trader}
use Rattle.agent_shell.specs.Value.{value_choice}
use Rattle.agent_shell.specs.Wakeup.{wakeup_sends}

-- A trader's new data, and what it sends in order.
pub record Decided : Type 0 where
  pub trader : Trader
  pub sends : List Sending

-- nothing moves
abbrev pub unmoved : Trader → Decided
unmoved t = record { trader = t; sends = [] }

-- a wakeup takes one draw
abbrev pub woken : Sight → Trader → Decided
woken v t = record { trader = record t { draws = t.draws + 1 }; sends = wakeup_sends v t }

-- what each kind makes of a quote of a stock that trades
abbrev pub choice_by : Kind → Sight → Trader → Quote → Choice
choice_by Watcher v t q = record { draws = 0; past = t.past; wishes = [] }
choice_by (Noise size) v t q = noise_choice v t q size
choice_by (Value size noise margin) v t q = value_choice v t q size noise margin
choice_by (Momentum size short long) v t q = momentum_choice t q size short long
choice_by (Maker size half step levels pause) v t q =
    maker_choice v t q levels (record { size = size; half = half; step = step; pause = pause })

abbrev pub choice_of : Sight → Trader → Quote → Choice
choice_of v t q = choice_by t.setting.kind v t q

-- the orders of a choice that are not left out
abbrev pub orders_sent : Sight → Trader → Choice → Ordered
orders_sent v t c = all_ordered v.symbol c.wishes t.orders

-- The quote counts as heard, the draws are made, and the orders are sent.
abbrev pub chosen : Sight → Trader → Choice → Decided
chosen v t c = record {
  trader = record {
    setting = t.setting;
    orders = (orders_sent v t c).orders;
    draws = t.draws + c.draws;
    quotes = t.quotes + 1;
    past = c.past;
  };
  sends = (orders_sent v t c).sends;
}

-- the quote counts as heard, and nothing more is done
abbrev pub counted : Trader → Decided
counted t = record { trader = record t { quotes = t.quotes + 1 }; sends = [] }

-- a quote, by the state of its stock: `T` trades
abbrev pub quoted : Sight → Trader → Quote → Decided
quoted v t q = if q.state == 84 then chosen v t (choice_of v t q) else counted t

-- a reply moves the account and the own list alone
abbrev pub answered : Reply → Trader → Decided
answered reply t = record { trader = record t { orders = replied reply t.orders }; sends = [] }

-- what a trader does with a message other than a wakeup
abbrev pub heard_of : Sight → Trader → Body → Decided
heard_of v t Wake = unmoved t
heard_of v t (Order inbound) = unmoved t
heard_of v t (Answer reply) = answered reply t
heard_of v t (Ask stock) = unmoved t
heard_of v t (QuoteBody q) = quoted v t q

-- what a trader does with any message
abbrev pub decided : Sight → Trader → Body → Decided
decided v t Wake = woken v t
decided v t (Order inbound) = unmoved t
decided v t (Answer reply) = answered reply t
decided v t (Ask stock) = unmoved t
decided v t (QuoteBody q) = quoted v t q
