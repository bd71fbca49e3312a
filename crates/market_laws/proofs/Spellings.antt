-- Messages have their texts in their ranges where each text has.
use Rattle.std.proofs.Common.{◌≡◌, ℕ, Bool, true, false, ◌||◌, List, [], ◌∷◌, refl}
use Rattle.std.specs.Prelude.{codes}
use Rattle.std.proofs.lemmas.Bool.{and_from, and_parts}
use Rattle.market_types.specs.declared.order.Cancel.{Cancel}
use Rattle.market_types.specs.declared.order.Enter.{Enter}
use Rattle.market_types.specs.declared.order.Inbound.TheVariants as inbound
use Rattle.market_types.specs.declared.order.Side.{Side}
use Rattle.market_types.specs.declared.order.Side.TheVariants.{Buy, Sell}
use Rattle.market_types.specs.declared.order.Token.{Token}
use Rattle.market_types.specs.declared.reply.Reply.TheVariants.{Accepted, Canceled, Executed, Rejected}
use Rattle.wire_fields.specs.declared.kind.Kind.{Kind}
use Rattle.wire_fields.specs.declared.kind.Kind.TheVariants as kind
use Rattle.wire_fields.specs.declared.kind.Kind.TheVariants.{Byte, Letters, OrderState, Text}
use Rattle.wire_fields.specs.Kinds.{is_good}
use Rattle.wire_fields.specs.Values.{FieldValue, bytes, is_in_range, side_letter}
use Rattle.ouch_codec.specs.Inbound.{enter_values, inbound_wire}
use Rattle.ouch_codec.specs.Layouts.{accepted_kinds, cancel_kinds, canceled_kinds, enter_kinds, executed_kinds, rejected_kinds}
use Rattle.ouch_codec.specs.Outbound.{reply_wire}
use Rattle.market_laws.specs.Texts.{HasTexts, IsToken, is_number, texts_in_range}

-- ---- single fields

abbrev pub IsLetter : ℕ → Type 0
IsLetter n = is_in_range (Letters 1) (bytes (n ∷ [])) ≡ true

pub side-text : (s : Side) → is_in_range kind.Side (bytes (side_letter s ∷ [])) ≡ true
unfolding is_in_range is_good
side-text Buy = refl
side-text Sell = refl

pub letter-a : IsLetter 65
unfolding is_in_range is_good
letter-a = refl

pub letter-h : IsLetter 72
unfolding is_in_range is_good
letter-h = refl

pub letter-i : IsLetter 73
unfolding is_in_range is_good
letter-i = refl

pub letter-n : IsLetter 78
unfolding is_in_range is_good
letter-n = refl

pub letter-o : IsLetter 79
unfolding is_in_range is_good
letter-o = refl

pub letter-p : IsLetter 80
unfolding is_in_range is_good
letter-p = refl

pub letter-r : IsLetter 82
unfolding is_in_range is_good
letter-r = refl

pub letter-s : IsLetter 83
unfolding is_in_range is_good
letter-s = refl

pub letter-u : IsLetter 85
unfolding is_in_range is_good
letter-u = refl

pub letter-x : IsLetter 88
unfolding is_in_range is_good
letter-x = refl

pub letter-y : IsLetter 89
unfolding is_in_range is_good
letter-y = refl

live : is_in_range OrderState (bytes (76 ∷ [])) ≡ true
unfolding is_in_range is_good
live = refl

space : is_in_range Byte (bytes (32 ∷ [])) ≡ true
unfolding is_in_range is_good
space = refl

pub firm : is_in_range (Letters 4) (bytes (codes "ABID")) ≡ true
unfolding is_in_range is_good
firm = refl

-- ---- all texts of a message

abbrev pub IsText : Bool → Bool → Type 0
IsText true b = Unit {0}
IsText false b = b ≡ true

text-by : (n b : Bool) → IsText n b → (n || b) ≡ true
text-by true b h = refl
text-by false b h = h

by-text : (n b : Bool) → (n || b) ≡ true → IsText n b
by-text true b h = tt
by-text false b h = h

-- each text by itself
abbrev pub EachText : List Kind → List FieldValue → Type 0
EachText [] [] = Unit {0}
EachText [] (v ∷ vs) = ⊥
EachText (k ∷ ks) [] = ⊥
EachText (k ∷ ks) (v ∷ vs) = IsText (is_number k) (is_in_range k v) × EachText ks vs

pub texts-in : (ks : List Kind) (vs : List FieldValue) → EachText ks vs → texts_in_range ks vs ≡ true
texts-in [] [] h = refl
texts-in [] (v ∷ vs) h = absurd h
texts-in (k ∷ ks) [] h = absurd h
texts-in (k ∷ ks) (v ∷ vs) h =
    and_from (is_number k || is_in_range k v) (texts_in_range ks vs) (text-by (is_number k) (is_in_range k v) h.0) (texts-in ks vs h.1)

pub each-text : (ks : List Kind) (vs : List FieldValue) → texts_in_range ks vs ≡ true → EachText ks vs
each-text [] [] h = tt
each-text [] (v ∷ vs) h = absurd (cc h)
each-text (k ∷ ks) [] h = absurd (cc h)
each-text (k ∷ ks) (v ∷ vs) h =
    let parts = and_parts (is_number k || is_in_range k v) (texts_in_range ks vs) h in
    (by-text (is_number k) (is_in_range k v) parts.0, each-text ks vs parts.1)

-- what an Enter's texts are
pub record AreEnterTexts (e : Enter) : Type 0 where
  pub token : IsToken e.token
  pub stock : is_in_range (Text 8) (bytes e.stock.0) ≡ true
  pub firm : is_in_range (Letters 4) (bytes e.firm) ≡ true
  pub display : IsLetter e.display
  pub capacity : IsLetter e.capacity
  pub sweep : IsLetter e.sweep
  pub cross : IsLetter e.cross
  pub customer : IsLetter e.customer

pub enter-parts : (e : Enter) → HasTexts (inbound_wire (inbound.Enter e)) → AreEnterTexts e
enter-parts e h =
    let t = each-text enter_kinds (enter_values e) h in
    record {
      token = t.0;
      stock = t.1.1.1.0;
      firm = t.1.1.1.1.1.1.0;
      display = t.1.1.1.1.1.1.1.0;
      capacity = t.1.1.1.1.1.1.1.1.0;
      sweep = t.1.1.1.1.1.1.1.1.1.0;
      cross = t.1.1.1.1.1.1.1.1.1.1.1.0;
      customer = t.1.1.1.1.1.1.1.1.1.1.1.1.0;
    }

pub enter-texts : (e : Enter) → AreEnterTexts e → HasTexts (inbound_wire (inbound.Enter e))
enter-texts e t =
    texts-in enter_kinds (enter_values e)
    (t.token, (side-text e.side, (tt, (t.stock, (tt, (tt, (t.firm, (t.display, (t.capacity, (t.sweep, (tt, (t.cross, (t.customer, tt)))))))))))))

pub cancel-token : (c : Cancel) → HasTexts (inbound_wire (inbound.Cancel c)) → IsToken c.token
cancel-token c h = let t = each-text cancel_kinds (inbound_wire (inbound.Cancel c)).values h in t.0

pub cancel-texts : (token : Token) (shares : ℕ) → IsToken token → HasTexts (inbound_wire (inbound.Cancel (record { token = token; shares = shares })))
cancel-texts token shares h = texts-in cancel_kinds (inbound_wire (inbound.Cancel (record { token = token; shares = shares }))).values (h, (tt, tt))

-- ---- replies

pub accepted-texts : (time reference : ℕ) (e : Enter) → AreEnterTexts e
    → HasTexts (reply_wire (Accepted time e.token e.side e.shares e.stock e.price e.tif e.firm e.display reference e.capacity e.sweep e.minimum e.cross 76 32))
accepted-texts time reference e t =
    texts-in accepted_kinds (reply_wire (Accepted time e.token e.side e.shares e.stock e.price e.tif e.firm e.display reference e.capacity e.sweep e.minimum e.cross 76 32)).values
    (tt, (t.token, (side-text e.side, (tt, (t.stock, (tt, (tt, (t.firm, (t.display, (tt, (t.capacity, (t.sweep, (tt, (t.cross, (live, (space, tt))))))))))))))))

pub canceled-texts : (time : ℕ) (token : Token) (decrement reason : ℕ) → IsToken token → IsLetter reason → HasTexts (reply_wire (Canceled time token decrement reason))
canceled-texts time token decrement reason h k = texts-in canceled_kinds (reply_wire (Canceled time token decrement reason)).values (tt, (h, (tt, (k, tt))))

pub executed-texts : (time : ℕ) (token : Token) (shares price flag number : ℕ) → IsToken token → IsLetter flag → HasTexts (reply_wire (Executed time token shares price flag number))
executed-texts time token shares price flag number h k = texts-in executed_kinds (reply_wire (Executed time token shares price flag number)).values (tt, (h, (tt, (tt, (k, (tt, tt))))))

pub rejected-texts : (time : ℕ) (token : Token) (reason : ℕ) → IsToken token → IsLetter reason → HasTexts (reply_wire (Rejected time token reason))
rejected-texts time token reason h k = texts-in rejected_kinds (reply_wire (Rejected time token reason)).values (tt, (h, (k, tt)))
