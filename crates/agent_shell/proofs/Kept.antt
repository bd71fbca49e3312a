-- What holds of an own list stays so when replies come.
use Rattle.std.proofs.Common.{ℕ, ◌≤◌, ◌<◌, ◌+◌, List, [], ◌∷◌, length, length-append, refl, inl, inr, arith, All, Option, Some, None}
use Rattle.std.specs.Prelude.{nat_le, nat_lt}
use Rattle.std.proofs.lemmas.Bool.Decides.{nat_tests}
use Rattle.std.proofs.lemmas.Bool.{cases_Bool}
use Rattle.std.proofs.lemmas.List.Elements.{All-head, All-tail, All-cons, All-weaker, All-push}
use Rattle.market_types.specs.declared.order.Side.{Side}
use Rattle.market_types.specs.declared.order.Symbol.{Symbol}
use Rattle.market_types.specs.declared.order.Token.{Token}
use Rattle.market_types.specs.declared.reply.Reply.{Reply}
use Rattle.market_types.specs.declared.reply.Reply.TheVariants.{System, Accepted, Canceled, Executed, Rejected}
use Rattle.agent_shell.specs.declared.wish.Wish.{Wish}
use Rattle.agent_shell.specs.declared.shell.OwnOrder.{OwnOrder}
use Rattle.agent_shell.specs.Ordered.{all_ordered, ordered, sent_at}
use Rattle.agent_shell.specs.Own.{OwnList, own_order, same_token, lowered, without}
use Rattle.agent_shell.specs.Shell.{Orders, executed, replied, with_order}
use Rattle.agent_shell.specs.Sound.{IsOwn}
use Rattle.agent_shell.specs.Tokens.{IsGiven, token_of}

lowered-all : (P : Token → Type 0) (t : Token) (k : ℕ) (es : OwnList) → All (λ e. P e.0) es → All (λ e. P e.0) (lowered t k es)
lowered-all P t k [] h = h
lowered-all P t k (e ∷ es) h =
    let Q : Token × OwnOrder → Type 0 = λ x. P x.0 in
    elim (cases_Bool (same_token t e.0)) [
      | inl here ↦ elim (cases_Bool (nat_le e.1.left k)) [
        | inl gone ↦ rw (here, gone) (All-tail Q e es h)
        | inr stays ↦ rw (here, stays) (All-cons Q _ es (All-head Q e es h) (All-tail Q e es h))
      ]
      | inr other ↦ rw other (All-cons Q e _ (All-head Q e es h) (lowered-all P t k es (All-tail Q e es h)))
    ]

lowered-length : (t : Token) (k : ℕ) (es : OwnList) → length (lowered t k es) ≤ length es
lowered-length t k [] = omega arith
lowered-length t k (e ∷ es) =
    elim (cases_Bool (same_token t e.0)) [
      | inl here ↦ elim (cases_Bool (nat_le e.1.left k)) [
        | inl gone ↦ rw (here, gone) (omega arith)
        | inr stays ↦ rw (here, stays) (omega arith)
      ]
      | inr other ↦ rw other (omega (arith, lowered-length t k es))
    ]

without-all : (P : Token → Type 0) (t : Token) (es : OwnList) → All (λ e. P e.0) es → All (λ e. P e.0) (without t es)
without-all P t [] h = h
without-all P t (e ∷ es) h =
    let Q : Token × OwnOrder → Type 0 = λ x. P x.0 in
    elim (cases_Bool (same_token t e.0)) [
      | inl here ↦ rw here (All-tail Q e es h)
      | inr other ↦ rw other (All-cons Q e _ (All-head Q e es h) (without-all P t es (All-tail Q e es h)))
    ]

without-length : (t : Token) (es : OwnList) → length (without t es) ≤ length es
without-length t [] = omega arith
without-length t (e ∷ es) =
    elim (cases_Bool (same_token t e.0)) [
      | inl here ↦ rw here (omega arith)
      | inr other ↦ rw other (omega (arith, without-length t es))
    ]

pub lowered-own : (t : Token) (k : ℕ) (o : Orders) → IsOwn o → IsOwn (record o { own = lowered t k o.own })
lowered-own t k o h = record {
  agent = h.agent;
  given = lowered-all (IsGiven o.agent o.tokens) t k o.own h.given;
  few = omega (arith, lowered-length t k o.own, h.few);
}

pub without-own : (t : Token) (o : Orders) → IsOwn o → IsOwn (record o { own = without t o.own })
without-own t o h = record {
  agent = h.agent;
  given = without-all (IsGiven o.agent o.tokens) t o.own h.given;
  few = omega (arith, without-length t o.own, h.few);
}

pub executed-own : (r : Option OwnOrder) (t : Token) (price shares : ℕ) (o : Orders) → IsOwn o → IsOwn (executed r t price shares o)
executed-own None t price shares o h = h
executed-own (Some r) t price shares o h = record {
  agent = h.agent;
  given = lowered-all (IsGiven o.agent o.tokens) t shares o.own h.given;
  few = omega (arith, lowered-length t shares o.own, h.few);
}

-- a token that was given stays one when the next is given
given-later : (a n : ℕ) (t : Token) → IsGiven a n t → IsGiven a (n + 1) t
given-later a n t h = record { number = h.number; first = h.first; last = omega (arith, h.last); is = h.is }

pub placed-own : (o : Orders) (side : Side) (shares : ℕ) → IsOwn o → length o.own < 64
    → IsOwn (with_order (token_of o.agent (o.tokens + 1)) side shares (record o { tokens = o.tokens + 1 }))
placed-own o side shares h few =
    let P : Token × OwnOrder → Type 0 = λ e. IsGiven o.agent o.tokens e.0 in
    let Q : Token × OwnOrder → Type 0 = λ e. IsGiven o.agent (o.tokens + 1) e.0 in
    let last : IsGiven o.agent (o.tokens + 1) (token_of o.agent (o.tokens + 1)) = record { number = o.tokens + 1; first = omega arith; last = omega arith; is = refl } in
    record {
      agent = h.agent;
      given = All-push Q o.own _ (All-weaker P Q (λ e g. given-later o.agent o.tokens e.0 g) o.own h.given) last;
      few = omega (arith, length-append o.own ((token_of o.agent (o.tokens + 1), record { side = side; left = shares }) ∷ []));
    }

pub replied-own : (reply : Reply) (o : Orders) → IsOwn o → IsOwn (replied reply o)
replied-own (System time code) o h = h
replied-own (Accepted time token side shares stock price tif firm display reference capacity sweep minimum cross state bbo) o h = h
replied-own (Canceled time token decrement reason) o h = lowered-own token decrement o h
replied-own (Executed time token shares price flag number) o h = executed-own (own_order token o.own) token price shares o h
replied-own (Rejected time token reason) o h = without-own token o h

at-own : (p : Option ℕ) (symbol : Symbol) (w : Wish) (o : Orders) → IsOwn o → length o.own < 64 → IsOwn (sent_at p symbol w o).orders
at-own None symbol w o h few = h
at-own (Some price) symbol w o h few = placed-own o w.side w.shares h few

pub ordered-own : (symbol : Symbol) (w : Wish) (o : Orders) → IsOwn o → IsOwn (ordered symbol w o).orders
ordered-own symbol w o h =
    elim (cases_Bool (nat_lt (length o.own) 64)) [
      | inl few ↦ rw few (at-own _ symbol w o h (grind (arith, nat_tests, few)))
      | inr full ↦ rw full h
    ]

pub all-own : (symbol : Symbol) (ws : List Wish) (o : Orders) → IsOwn o → IsOwn (all_ordered symbol ws o).orders
all-own symbol [] o h = h
all-own symbol (w ∷ ws) o h = all-own symbol ws (ordered symbol w o).orders (ordered-own symbol w o h)
