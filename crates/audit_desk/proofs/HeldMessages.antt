-- Messages of the feed and bodies, clipped: they are spelled as before, and are in their ranges where their texts are.
use Rattle.std.proofs.Common.{◌≡◌, ◌∙◌, ℕ, true, [], ◌∷◌, refl, sym, ap, subst}
use Rattle.market_types.specs.declared.feed.Feed.{Feed}
use Rattle.market_types.specs.declared.feed.What.{What}
use Rattle.market_types.specs.declared.feed.What.TheVariants as what
use Rattle.market_types.specs.declared.message.Body.{Body}
use Rattle.market_types.specs.declared.message.Body.TheVariants as body
use Rattle.market_types.specs.declared.order.Inbound.{Inbound}
use Rattle.market_types.specs.declared.order.Inbound.TheVariants as inbound
use Rattle.market_types.specs.declared.reply.Reply.{Reply}
use Rattle.market_types.specs.declared.reply.Reply.TheVariants as reply
use Rattle.wire_fields.specs.Values.{number}
use Rattle.wire_fields.specs.Wire.{IsInRange, Wire, spelling}
use Rattle.ouch_codec.specs.Inbound.{inbound_wire}
use Rattle.ouch_codec.specs.Outbound.{reply_wire}
use Rattle.itch_codec.specs.Messages.{feed_wire, what_wire}
use Rattle.itch_codec.specs.Back.{feed_back, feed_of}
use Rattle.bundle_frames.specs.Layouts.{ask_kinds, quote_kinds}
use Rattle.bundle_frames.specs.Wires.{body_bytes, letter_of_body, quote_values}
use Rattle.bundle_reader.specs.Bodies.{HasRanges as HasBodyRanges}
use Rattle.market_laws.specs.Texts.{HasBodyTexts, HasTexts}
use Rattle.audit_desk.proofs.Around.{byte-in}
use Rattle.market_laws.proofs.Spellings.{texts-in}
use Rattle.audit_desk.specs.Clipped.{clipped_body, clipped_feed, clipped_inbound, clipped_number, clipped_reply, clipped_what}
use Rattle.audit_desk.proofs.HeldFields.{fields-fit, fields-spelled, held_wire, stand_all, wire-fits, wire-kept, wire-spelled}

-- ---- the feed

what-held : (a b c : ℕ) (w : What) → what_wire (number (clipped_number 2 a)) (number (clipped_number 2 b)) (number (clipped_number 6 c)) (clipped_what w) ≡ held_wire (what_wire (number a) (number b) (number c) w)
what-held a b c (what.System code) = refl
what-held a b c (what.Directory stock category financial lot lots_only class sub_type authenticity short_sale ipo tier etp leverage inverse) = refl
what-held a b c (what.Trading stock state reserved reason) = refl
what-held a b c (what.Add reference side shares stock price) = refl
what-held a b c (what.Executed reference shares match_number) = refl
what-held a b c (what.Cancel reference shares) = refl
what-held a b c (what.Delete reference) = refl
what-held a b c (what.Trade reference side shares stock price match_number) = refl
what-held a b c (what.Cross shares stock price match_number kind) = refl

feed-held : (m : Feed) → feed_wire (clipped_feed m) ≡ held_wire (feed_wire m)
feed-held m = what-held m.locate m.tracking m.time m.what

what-stands : (a b c : ℕ) (w : What) → stand_all (what_wire (number a) (number b) (number c) w).kinds (what_wire (number a) (number b) (number c) w).values ≡ true
what-stands a b c (what.System code) = refl
what-stands a b c (what.Directory stock category financial lot lots_only class sub_type authenticity short_sale ipo tier etp leverage inverse) = refl
what-stands a b c (what.Trading stock state reserved reason) = refl
what-stands a b c (what.Add reference side shares stock price) = refl
what-stands a b c (what.Executed reference shares match_number) = refl
what-stands a b c (what.Cancel reference shares) = refl
what-stands a b c (what.Delete reference) = refl
what-stands a b c (what.Trade reference side shares stock price match_number) = refl
what-stands a b c (what.Cross shares stock price match_number kind) = refl

pub feed-spelled : (m : Feed) → spelling (feed_wire (clipped_feed m)) ≡ spelling (feed_wire m)
feed-spelled m = ap spelling (feed-held m) ∙ wire-spelled (feed_wire m)

pub feed-fits : (m : Feed) → HasTexts (feed_wire m) → IsInRange (feed_wire (clipped_feed m))
feed-fits m h = subst (λ (w : Wire). IsInRange w) (sym (feed-held m)) (wire-fits (feed_wire m) (what-stands m.locate m.tracking m.time m.what) h)

-- a message in its ranges stays
pub feed-kept : (m : Feed) → IsInRange (feed_wire m) → clipped_feed m ≡ m
feed-kept m h = sym (feed_back (clipped_feed m)) ∙ ap feed_of (feed-held m ∙ wire-kept (feed_wire m) h) ∙ feed_back m

-- ---- orders and replies

inbound-held : (i : Inbound) → inbound_wire (clipped_inbound i) ≡ held_wire (inbound_wire i)
inbound-held (inbound.Enter m) = refl
inbound-held (inbound.Cancel m) = refl

inbound-stands : (i : Inbound) → stand_all (inbound_wire i).kinds (inbound_wire i).values ≡ true
inbound-stands (inbound.Enter m) = refl
inbound-stands (inbound.Cancel m) = refl

inbound-fits : (i : Inbound) → HasTexts (inbound_wire i) → IsInRange (inbound_wire (clipped_inbound i))
inbound-fits i h = subst (λ (w : Wire). IsInRange w) (sym (inbound-held i)) (wire-fits (inbound_wire i) (inbound-stands i) h)

reply-held : (r : Reply) → reply_wire (clipped_reply r) ≡ held_wire (reply_wire r)
reply-held (reply.System time code) = refl
reply-held (reply.Accepted time token side shares stock price tif firm display reference capacity sweep minimum cross state bbo) = refl
reply-held (reply.Canceled time token decrement reason) = refl
reply-held (reply.Executed time token shares price flag match_number) = refl
reply-held (reply.Rejected time token reason) = refl

reply-stands : (r : Reply) → stand_all (reply_wire r).kinds (reply_wire r).values ≡ true
reply-stands (reply.System time code) = refl
reply-stands (reply.Accepted time token side shares stock price tif firm display reference capacity sweep minimum cross state bbo) = refl
reply-stands (reply.Canceled time token decrement reason) = refl
reply-stands (reply.Executed time token shares price flag match_number) = refl
reply-stands (reply.Rejected time token reason) = refl

reply-fits : (r : Reply) → HasTexts (reply_wire r) → IsInRange (reply_wire (clipped_reply r))
reply-fits r h = subst (λ (w : Wire). IsInRange w) (sym (reply-held r)) (wire-fits (reply_wire r) (reply-stands r) h)

-- ---- bodies

pub letter-same : (b : Body) → letter_of_body (clipped_body b) ≡ letter_of_body b
letter-same body.Wake = refl
letter-same (body.Order order) = refl
letter-same (body.Answer answer) = refl
letter-same (body.Ask stock) = refl
letter-same (body.Quote quote) = refl

pub body-same : (b : Body) → body_bytes (clipped_body b) ≡ body_bytes b
body-same body.Wake = refl
body-same (body.Order order) = ap spelling (inbound-held order) ∙ wire-spelled (inbound_wire order)
body-same (body.Answer answer) = ap spelling (reply-held answer) ∙ wire-spelled (reply_wire answer)
body-same (body.Ask stock) = fields-spelled ask_kinds (number stock ∷ [])
body-same (body.Quote quote) = fields-spelled quote_kinds (quote_values quote)

pub body-fits : (b : Body) → HasBodyTexts b → HasBodyRanges (clipped_body b)
body-fits body.Wake texts = tt
body-fits (body.Order order) texts = inbound-fits order texts
body-fits (body.Answer answer) texts = reply-fits answer texts
body-fits (body.Ask stock) texts = fields-fit ask_kinds (number stock ∷ []) refl refl
body-fits (body.Quote quote) state =
    fields-fit quote_kinds (quote_values quote) refl
    (texts-in quote_kinds (quote_values quote) (tt, (byte-in quote.state state, (tt, (tt, (tt, (tt, (tt, tt))))))))
