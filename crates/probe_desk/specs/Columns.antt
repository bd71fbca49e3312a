-- The columns that the four probes of every table give.
use Rattle.std.specs.Prelude.{ℕ, ℤ, ◌==◌, ◌+ℤ◌, ◌-ℤ◌, pos, negsuc, if◌then◌else◌, List, [], ◌∷◌, Option, None, Some, min, max}
use Rattle.std.specs.Int.{w128, saturate_signed}
use Rattle.market_types.specs.Told.{EventTold}
use Rattle.market_types.specs.declared.message.Body.{Body}
use Rattle.market_types.specs.declared.message.Body.TheVariants.{Wake, Order, Answer, Ask, Quote}
use Rattle.market_types.specs.declared.message.Quote.{Quote as Market}
use Rattle.market_types.specs.declared.reply.Reply.{Reply}
use Rattle.market_types.specs.declared.reply.Reply.TheVariants.{System, Accepted, Canceled, Executed, Rejected}
use Rattle.probe_desk.specs.Probe.{Meaning}

-- An execution of an order that took shares from the book: how many, and at which price.
pub record Removal : Type 0 where
  pub shares : ℕ
  pub price : ℕ

-- what an Executed reply with flag R tells
abbrev pub removal_told : Reply → Option Removal
removal_told (System time code) = None
removal_told (Accepted time token side shares stock price tif firm display reference capacity sweep minimum cross state bbo) = None
removal_told (Canceled time token decrement reason) = None
removal_told (Executed time token shares price flag number) =
    if flag == 82 then Some (record { shares = shares; price = price }) else None
removal_told (Rejected time token reason) = None

abbrev pub removal_in : Body → Option Removal
removal_in Wake = None
removal_in (Order order) = None
removal_in (Answer reply) = removal_told reply
removal_in (Ask stock) = None
removal_in (Quote quote) = None

-- the removal that a delivered record tells
abbrev pub removal_of : EventTold → Option Removal
removal_of r = if r.put_back then None else removal_in r.body

-- ask less bid of a quote with both sides; a side with price 0 is absent
abbrev pub spread_told : Market → ℤ
spread_told quote =
    if quote.bid == 0 then pos 0 else (if quote.ask == 0 then pos 0 else pos quote.ask -ℤ pos quote.bid)

abbrev pub spread_in : Body → ℤ
spread_in Wake = pos 0
spread_in (Order order) = pos 0
spread_in (Answer reply) = pos 0
spread_in (Ask stock) = pos 0
spread_in (Quote quote) = spread_told quote

-- the spread that a delivered record tells
abbrev pub spread_of : EventTold → ℤ
spread_of r = if r.put_back then pos 0 else spread_in r.body

abbrev pub shares_of : Option Removal → ℤ
shares_of None = pos 0
shares_of (Some removal) = pos removal.shares

-- a sum of 128 bits with one more term, which stays at its type's ends
abbrev pub summed : List ℤ → ℤ → List ℤ
summed [] term = []
summed (total ∷ rest) term = saturate_signed w128 (total +ℤ term) ∷ []

abbrev pub total_of : List ℤ → ℤ
total_of [] = pos 0
total_of (total ∷ rest) = total

-- the least and the greatest price so far, none at first
abbrev pub ranged : List ℤ → Option Removal → List ℤ
ranged numbers None = numbers
ranged [] (Some removal) = pos removal.price ∷ pos removal.price ∷ []
ranged (pos least ∷ pos greatest ∷ rest) (Some removal) = pos (min least removal.price) ∷ pos (max greatest removal.price) ∷ []
ranged (negsuc least ∷ rest) (Some removal) = []
ranged (pos least ∷ []) (Some removal) = []
ranged (pos least ∷ negsuc greatest ∷ rest) (Some removal) = []

abbrev pub span_of : List ℤ → ℤ
span_of [] = pos 0
span_of (least ∷ []) = pos 0
span_of (least ∷ greatest ∷ rest) = greatest -ℤ least

-- executed shares of the orders that took from the book
abbrev pub volume : Meaning
volume = record { settings = []; opening = pos 0 ∷ []; after = λ numbers r. summed numbers (shares_of (removal_of r)); value = total_of }

-- the sum of the spreads of the quotes with both sides
abbrev pub spread_sum : Meaning
spread_sum = record { settings = []; opening = pos 0 ∷ []; after = λ numbers r. summed numbers (spread_of r); value = total_of }

-- the greatest less the least price at which an order took from the book; 0 where none did
abbrev pub price_range : Meaning
price_range = record { settings = []; opening = []; after = λ numbers r. ranged numbers (removal_of r); value = span_of }

-- the fees of all records, delivered and put back
abbrev pub fees : Meaning
fees = record { settings = []; opening = pos 0 ∷ []; after = λ numbers r. summed numbers r.fee; value = total_of }
