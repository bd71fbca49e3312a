-- The tokens of the orders that are sent are the next ones in order.
use Rattle.std.proofs.Common.{◌≡◌, ℕ, zero, suc, ◌+◌, ◌∙◌, List, [], ◌∷◌, ◌++◌, length, refl, inl, inr, arith, ap, ap₂, append_assoc, sym, Option, Some, None}
use Rattle.std.specs.Prelude.{nat_lt}
use Rattle.std.proofs.lemmas.Bool.{cases_Bool}
use Rattle.market_types.specs.declared.order.Symbol.{Symbol}
use Rattle.agent_shell.specs.declared.sending.Sending.{Sending}
use Rattle.agent_shell.specs.declared.wish.Wish.{Wish}
use Rattle.agent_shell.specs.Ordered.{all_ordered, ordered, sent_at}
use Rattle.agent_shell.specs.Own.{most_own}
use Rattle.agent_shell.specs.Shell.{Orders}
use Rattle.agent_shell.specs.Tokens.{AreNext, next_tokens, token_in, token_of, tokens_in}

none-next : (agent given : ℕ) → AreNext agent given given []
none-next agent given = record { count = 0; counted = omega arith; tokens = refl }

at-next : (p : Option ℕ) (symbol : Symbol) (w : Wish) (o : Orders) → AreNext o.agent o.tokens (sent_at p symbol w o).orders.tokens (sent_at p symbol w o).sends
at-next None symbol w o = none-next o.agent o.tokens
at-next (Some price) symbol w o = record { count = 1; counted = refl; tokens = refl }

ordered-next : (symbol : Symbol) (w : Wish) (o : Orders) → AreNext o.agent o.tokens (ordered symbol w o).orders.tokens (ordered symbol w o).sends
ordered-next symbol w o =
    elim (cases_Bool (nat_lt (length o.own) most_own)) [
      | inl few ↦ rw few (at-next _ symbol w o)
      | inr full ↦ rw full (none-next o.agent o.tokens)
    ]

at-agent : (p : Option ℕ) (symbol : Symbol) (w : Wish) (o : Orders) → (sent_at p symbol w o).orders.agent ≡ o.agent
at-agent None symbol w o = refl
at-agent (Some price) symbol w o = refl

ordered-agent : (symbol : Symbol) (w : Wish) (o : Orders) → (ordered symbol w o).orders.agent ≡ o.agent
ordered-agent symbol w o =
    elim (cases_Bool (nat_lt (length o.own) most_own)) [
      | inl few ↦ rw few (at-agent _ symbol w o)
      | inr full ↦ rw full refl
    ]

tokens-append : (xs ys : List Sending) → tokens_in (xs ++ ys) ≡ tokens_in xs ++ tokens_in ys
tokens-append [] ys = refl
tokens-append (x ∷ xs) ys = ap (λ ts. token_in x ++ ts) (tokens-append xs ys) ∙ sym (append_assoc (token_in x) (tokens_in xs) (tokens_in ys))

next-append : (agent given m n : ℕ) → next_tokens agent given m ++ next_tokens agent (given + m) n ≡ next_tokens agent given (m + n)
next-append agent given zero n = ap₂ (λ g k. next_tokens agent g k) (omega arith) (omega arith)
next-append agent given (suc m) n =
    let moved : given + suc m ≡ given + 1 + m = omega arith in
    let count : suc m + n ≡ suc (m + n) = omega arith in
    rw (moved, count) (ap (λ ts. token_of agent (given + 1) ∷ ts) (next-append agent (given + 1) m n))

pub all-next : (symbol : Symbol) (ws : List Wish) (o : Orders)
    → AreNext o.agent o.tokens (all_ordered symbol ws o).orders.tokens (all_ordered symbol ws o).sends
all-next symbol [] o = none-next o.agent o.tokens
all-next symbol (w ∷ ws) o =
    let first = ordered-next symbol w o in
    let next = (ordered symbol w o).orders in
    let rest = all-next symbol ws next in
    let agent = ordered-agent symbol w o in
    record {
      count = first.count + rest.count;
      counted = omega (arith, first.counted, rest.counted);
      tokens = tokens-append (ordered symbol w o).sends (all_ordered symbol ws next).sends
          ∙ ap₂ (λ a b. a ++ b) first.tokens (rest.tokens ∙ ap₂ (λ a g. next_tokens a g rest.count) agent first.counted)
          ∙ next-append o.agent o.tokens first.count rest.count;
    }
