-- The texts among the fields of messages: tokens, symbols and letters.
use Rattle.std.specs.Prelude.{◌≡◌, ◌<◌, ◌&&◌, ◌||◌, Bool, true, false, IsTrue, List, [], ◌∷◌, All}
use Rattle.market_types.specs.declared.message.Body.{Body}
use Rattle.market_types.specs.declared.message.Body.TheVariants as body
use Rattle.market_types.specs.declared.order.Token.{Token}
use Rattle.market_types.specs.Told.{EntryTold, event, edit}
use Rattle.market_rules.specs.declared.edit.Edit.{Edit}
use Rattle.market_rules.specs.declared.edit.Edit.TheVariants.{Inject}
use Rattle.price_time_book.specs.declared.resting.Resting.{Resting}
use Rattle.wire_fields.specs.declared.kind.Kind.{Kind}
use Rattle.wire_fields.specs.declared.kind.Kind.TheVariants.{Alphanumeric, Number}
use Rattle.wire_fields.specs.Values.{FieldValue, bytes, is_in_range}
use Rattle.wire_fields.specs.Wire.{Wire}
use Rattle.ouch_codec.specs.Inbound.{inbound_wire}
use Rattle.ouch_codec.specs.Outbound.{reply_wire}
use Rattle.exchange_agent.specs.State.{Stock}
use Rattle.branch_tree.specs.declared.branch.Branch.{Branch}
use Rattle.kernel_copy.specs.Courses.{CourseTold}

-- whether a field is a number; any other is a text
abbrev pub is_number : Kind → Bool
is_number (Number n) = true
is_number k = false

-- whether each text among the fields is in its range
abbrev pub texts_in_range : List Kind → List FieldValue → Bool
texts_in_range [] [] = true
texts_in_range [] (v ∷ vs) = false
texts_in_range (k ∷ ks) [] = false
texts_in_range (k ∷ ks) (v ∷ vs) = (is_number k || is_in_range k v) && texts_in_range ks vs

abbrev pub HasTexts : Wire → Type 0
HasTexts w = IsTrue (texts_in_range w.kinds w.values)

-- ---- events

-- the texts of an order and of a reply are in their ranges, and the trading state that a quote tells is a byte
abbrev pub HasBodyTexts : Body → Type 0
HasBodyTexts body.Wake = Unit {0}
HasBodyTexts (body.Order order) = HasTexts (inbound_wire order)
HasBodyTexts (body.Answer reply) = HasTexts (reply_wire reply)
HasBodyTexts (body.Ask stock) = Unit {0}
HasBodyTexts (body.Quote quote) = quote.state < 256

-- so are those of an event's body
abbrev pub HasEventTexts : EntryTold → Type 0
HasEventTexts (event e) = HasBodyTexts e.body
HasEventTexts (edit d) = Unit {0}

-- ---- resting orders

-- a token may stand in a token's field
abbrev pub IsToken : Token → Type 0
IsToken t = is_in_range (Alphanumeric 14) (bytes t.0) ≡ true

abbrev pub HasToken : Resting → Type 0
HasToken o = IsToken o.token

-- so may those of a stock's orders, and its trading state is a byte
pub record HasStockTexts (k : Stock) : Type 0 where
  pub tokens : All HasToken k.book
  pub state : k.trading < 256

-- ---- orders that are injected

-- the texts of an order that an edit injects are in their ranges; of other edits nothing is asked
abbrev pub HasMessageTexts : Edit → Type 0
HasMessageTexts (Inject agent after message) = HasTexts (inbound_wire message)
HasMessageTexts e = Unit {0}

-- so it is of each edit of each branch
abbrev pub AreMessagesSpelled : CourseTold → Type 0
AreMessagesSpelled c = All (λ (b : Branch). All HasMessageTexts b.edits) c.plan.branches
