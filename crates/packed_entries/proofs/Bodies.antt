-- Bodies and what the columns have of them.
use Rattle.std.proofs.Common.{◌≡◌, ◌≤◌, ℕ, Bool, true, false, List, [], ◌∷◌, ◌++◌, length, refl, ap, arith}
use Rattle.std.specs.Prelude.{if◌then◌else◌}
use Rattle.market_types.specs.declared.order.Inbound.TheVariants as inbound
use Rattle.market_types.specs.declared.reply.Reply.TheVariants as reply
use Rattle.market_types.specs.declared.message.Body.{Body}
use Rattle.market_types.specs.declared.message.Body.TheVariants as body
use Rattle.market_types.specs.declared.feed.Feed.{Feed}
use Rattle.packed_entries.specs.declared.mark.Kind.{Kind}
use Rattle.packed_entries.specs.declared.mark.Kind.TheVariants as kind
use Rattle.packed_entries.specs.declared.mark.Extra.{Extra}
use Rattle.packed_entries.specs.declared.mark.EditHead.{EditHead}
use Rattle.packed_entries.specs.Kinds.{is_edit, enters_in, cancels_in, accepted_in, shorts_in, quotes_in, edits_in}
use Rattle.packed_entries.specs.Parts.{Parts, joined}
use Rattle.packed_entries.specs.Entries.{first, first_if, extras_in, body_in, entered, cancelled, accepted, system, lowered, executed, rejected, quoted}
use Rattle.packed_entries.specs.Own.{kind_of, stock_of, enters_of, cancels_of, accepted_of, shorts_of, quotes_of}

-- the first item stays the first where others follow
pub first-append : {A X : Type 0} (f : A → X) (d : X) (xs ys : List A) → 1 ≤ length xs → first f d (xs ++ ys) ≡ first f d xs
first-append f d [] ys h = absurd (omega (arith, h))
first-append f d (x ∷ xs) ys h = refl

pub first_if-append : {A X : Type 0} (b : Bool) (f : A → X) (d : X) (xs ys : List A) → extras_in b ≤ length xs → first_if b f d (xs ++ ys) ≡ first_if b f d xs
first_if-append true f d xs ys h = first-append f d xs ys h
first_if-append false f d xs ys h = refl

-- a body stays where other columns follow
pub body_joined : (k : Kind) (s : ℕ) (p q : Parts) → enters_in k ≤ length p.enters → cancels_in k ≤ length p.cancels → accepted_in k ≤ length p.accepted → shorts_in k ≤ length p.shorts
    → quotes_in k ≤ length p.quotes → body_in k s (joined p q) ≡ body_in k s p
body_joined kind.Wake s p q e c a t u = refl
body_joined kind.Ask s p q e c a t u = refl
body_joined kind.Enter s p q e c a t u = first-append entered body.Wake p.enters q.enters e
body_joined kind.Cancel s p q e c a t u = first-append cancelled body.Wake p.cancels q.cancels c
body_joined kind.Quote s p q e c a t u = first-append quoted body.Wake p.quotes q.quotes u
body_joined kind.System s p q e c a t u = first-append system body.Wake p.shorts q.shorts t
body_joined kind.Accepted s p q e c a t u = first-append accepted body.Wake p.accepted q.accepted a
body_joined kind.Canceled s p q e c a t u = first-append lowered body.Wake p.shorts q.shorts t
body_joined kind.Executed s p q e c a t u = first-append executed body.Wake p.shorts q.shorts t
body_joined kind.Rejected s p q e c a t u = first-append rejected body.Wake p.shorts q.shorts t
body_joined kind.Edit s p q e c a t u = refl

-- an entry that is an edit has one, another has none
pub edits_needed : (k : Kind) (b : Bool) → is_edit k ≡ b → edits_in k ≡ (if b then 1 else 0)
edits_needed k b h = ap (λ (c : Bool). if c then 1 else 0) h

-- an event is no edit
pub not_edit : (x : Body) → is_edit (kind_of x) ≡ false
not_edit body.Wake = refl
not_edit (body.Order (inbound.Enter o)) = refl
not_edit (body.Order (inbound.Cancel o)) = refl
not_edit (body.Answer (reply.System time code)) = refl
not_edit (body.Answer (reply.Accepted time token side shares stock price tif firm display reference capacity sweep minimum cross state bbo)) = refl
not_edit (body.Answer (reply.Canceled time token decrement reason)) = refl
not_edit (body.Answer (reply.Executed time token shares price flag number)) = refl
not_edit (body.Answer (reply.Rejected time token reason)) = refl
not_edit (body.Ask stock) = refl
not_edit (body.Quote quote) = refl

pub edits_has : (x : Body) → edits_in (kind_of x) ≡ 0
edits_has x = edits_needed (kind_of x) false (not_edit x)

pub enters_has : (x : Body) → enters_in (kind_of x) ≡ length (enters_of x)
enters_has body.Wake = refl
enters_has (body.Order (inbound.Enter o)) = refl
enters_has (body.Order (inbound.Cancel o)) = refl
enters_has (body.Answer (reply.System time code)) = refl
enters_has (body.Answer (reply.Accepted time token side shares stock price tif firm display reference capacity sweep minimum cross state bbo)) = refl
enters_has (body.Answer (reply.Canceled time token decrement reason)) = refl
enters_has (body.Answer (reply.Executed time token shares price flag number)) = refl
enters_has (body.Answer (reply.Rejected time token reason)) = refl
enters_has (body.Ask stock) = refl
enters_has (body.Quote quote) = refl

pub cancels_has : (x : Body) → cancels_in (kind_of x) ≡ length (cancels_of x)
cancels_has body.Wake = refl
cancels_has (body.Order (inbound.Enter o)) = refl
cancels_has (body.Order (inbound.Cancel o)) = refl
cancels_has (body.Answer (reply.System time code)) = refl
cancels_has (body.Answer (reply.Accepted time token side shares stock price tif firm display reference capacity sweep minimum cross state bbo)) = refl
cancels_has (body.Answer (reply.Canceled time token decrement reason)) = refl
cancels_has (body.Answer (reply.Executed time token shares price flag number)) = refl
cancels_has (body.Answer (reply.Rejected time token reason)) = refl
cancels_has (body.Ask stock) = refl
cancels_has (body.Quote quote) = refl

pub accepted_has : (x : Body) → accepted_in (kind_of x) ≡ length (accepted_of x)
accepted_has body.Wake = refl
accepted_has (body.Order (inbound.Enter o)) = refl
accepted_has (body.Order (inbound.Cancel o)) = refl
accepted_has (body.Answer (reply.System time code)) = refl
accepted_has (body.Answer (reply.Accepted time token side shares stock price tif firm display reference capacity sweep minimum cross state bbo)) = refl
accepted_has (body.Answer (reply.Canceled time token decrement reason)) = refl
accepted_has (body.Answer (reply.Executed time token shares price flag number)) = refl
accepted_has (body.Answer (reply.Rejected time token reason)) = refl
accepted_has (body.Ask stock) = refl
accepted_has (body.Quote quote) = refl

pub shorts_has : (x : Body) → shorts_in (kind_of x) ≡ length (shorts_of x)
shorts_has body.Wake = refl
shorts_has (body.Order (inbound.Enter o)) = refl
shorts_has (body.Order (inbound.Cancel o)) = refl
shorts_has (body.Answer (reply.System time code)) = refl
shorts_has (body.Answer (reply.Accepted time token side shares stock price tif firm display reference capacity sweep minimum cross state bbo)) = refl
shorts_has (body.Answer (reply.Canceled time token decrement reason)) = refl
shorts_has (body.Answer (reply.Executed time token shares price flag number)) = refl
shorts_has (body.Answer (reply.Rejected time token reason)) = refl
shorts_has (body.Ask stock) = refl
shorts_has (body.Quote quote) = refl

pub quotes_has : (x : Body) → quotes_in (kind_of x) ≡ length (quotes_of x)
quotes_has body.Wake = refl
quotes_has (body.Order (inbound.Enter o)) = refl
quotes_has (body.Order (inbound.Cancel o)) = refl
quotes_has (body.Answer (reply.System time code)) = refl
quotes_has (body.Answer (reply.Accepted time token side shares stock price tif firm display reference capacity sweep minimum cross state bbo)) = refl
quotes_has (body.Answer (reply.Canceled time token decrement reason)) = refl
quotes_has (body.Answer (reply.Executed time token shares price flag number)) = refl
quotes_has (body.Answer (reply.Rejected time token reason)) = refl
quotes_has (body.Ask stock) = refl
quotes_has (body.Quote quote) = refl

-- a body comes back from what the columns have of it
pub body_back : (x : Body) (es : List Extra) (ds : List EditHead) (feed : List Feed) →
    body_in (kind_of x) (stock_of x) (record { enters = enters_of x; cancels = cancels_of x; accepted = accepted_of x; shorts = shorts_of x; quotes = quotes_of x; extras = es; edits = ds; feed = feed }) ≡ x
body_back body.Wake es ds feed = refl
body_back (body.Order (inbound.Enter o)) es ds feed = refl
body_back (body.Order (inbound.Cancel o)) es ds feed = refl
body_back (body.Answer (reply.System time code)) es ds feed = refl
body_back (body.Answer (reply.Accepted time token side shares stock price tif firm display reference capacity sweep minimum cross state bbo)) es ds feed = refl
body_back (body.Answer (reply.Canceled time token decrement reason)) es ds feed = refl
body_back (body.Answer (reply.Executed time token shares price flag number)) es ds feed = refl
body_back (body.Answer (reply.Rejected time token reason)) es ds feed = refl
body_back (body.Ask stock) es ds feed = refl
body_back (body.Quote quote) es ds feed = refl
