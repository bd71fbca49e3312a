-- How far one message moves a trader.
use Rattle.std.proofs.Common.{◌≡◌, ℕ, ◌+◌, ◌≤◌, ◌^◌, ◌∙◌, List, [], ◌∷◌, length, refl, inl, inr, arith, subst, sym, Option, Some, None, ℤ, Result, Ok, Err}
use Rattle.std.specs.Prelude.{◌==◌, nat_lt, OnOk, OnErr}
use Rattle.std.proofs.lemmas.Bool.{cases_Bool}
use Rattle.std.proofs.lemmas.Int.{ints}
use Rattle.market_types.specs.declared.message.Quote.{Quote}
use Rattle.market_types.specs.declared.order.Symbol.{Symbol}
use Rattle.market_types.specs.declared.reply.Reply.{Reply}
use Rattle.agent_shell.specs.declared.wish.Wish.{Wish}
use Rattle.agent_shell.specs.Bounds.{IsNear, IsMoved}
use Rattle.agent_shell.specs.Decide.{woken, quoted, chosen, choice_of, answered}
use Rattle.agent_shell.specs.Ordered.{ordered, sent_at, all_ordered}
use Rattle.agent_shell.specs.Own.{most_own}
use Rattle.agent_shell.specs.Shell.{Orders, replied}
use Rattle.agent_shell.specs.Sight.{Sight}
use Rattle.agent_shell.specs.Trader.{Trader}
use Rattle.agent_shell.specs.Sound.{IsTrader}
use Rattle.agent_shell.proofs.Few.{choice-few}

pub near-same : (most : ℕ) (a : ℤ) → IsNear most a a
near-same most a = record { up = omega (arith, ints); down = omega (arith, ints) }

-- orders take at most one token each and leave number and account
record IsPlaced (most : ℕ) (a b : Orders) : Type 0 where
  agent : b.agent ≡ a.agent
  account : b.account ≡ a.account
  tokens : b.tokens ≤ a.tokens + most

at-placed : (p : Option ℕ) (symbol : Symbol) (w : Wish) (o : Orders) → IsPlaced 1 o (sent_at p symbol w o).orders
at-placed None symbol w o = record { agent = refl; account = refl; tokens = omega arith }
at-placed (Some price) symbol w o = record { agent = refl; account = refl; tokens = omega arith }

ordered-placed : (symbol : Symbol) (w : Wish) (o : Orders) → IsPlaced 1 o (ordered symbol w o).orders
ordered-placed symbol w o =
    elim (cases_Bool (nat_lt (length o.own) most_own)) [
      | inl few ↦ rw few (at-placed _ symbol w o)
      | inr full ↦ rw full (record { agent = refl; account = refl; tokens = omega arith })
    ]

all-placed : (symbol : Symbol) (ws : List Wish) (o : Orders) → IsPlaced (length ws) o (all_ordered symbol ws o).orders
all-placed symbol [] o = record { agent = refl; account = refl; tokens = omega arith }
all-placed symbol (w ∷ ws) o =
    let first = ordered-placed symbol w o in
    let rest = all-placed symbol ws (ordered symbol w o).orders in
    record { agent = rest.agent ∙ first.agent; account = rest.account ∙ first.account; tokens = omega (arith, first.tokens, rest.tokens) }

pub unmoved-moved : (t : Trader) → IsMoved t t
unmoved-moved t = record {
  setting = refl;
  agent = refl;
  tokens = omega arith;
  draws = omega arith;
  quotes = omega arith;
  position = near-same _ _;
  cash = near-same _ _;
}

-- what a call that may be refused did
pub moved-by : {A E : Type 0} (r : Result A E) (inside old new step : Trader) → inside ≡ old → OnOk r (new ≡ step) → OnErr r (new ≡ inside)
    → IsMoved inside step → IsMoved old new
moved-by (Ok a) inside old new step seen ok err is = subst (λ t. IsMoved t new) seen (subst (IsMoved inside) (sym ok) is)
moved-by (Err e) inside old new step seen ok err is = subst (λ t. IsMoved t new) seen (subst (IsMoved inside) (sym err) (unmoved-moved inside))

-- the middles that momentum remembers are of no account here
pub moved-past : (past : List ℕ) (a b old : Trader) → record a { past = past } ≡ old → IsMoved a b → IsMoved old (record b { past = past })
moved-past past a b old seen is = subst (λ t. IsMoved t (record b { past = past })) seen (record {
  setting = is.setting;
  agent = is.agent;
  tokens = is.tokens;
  draws = is.draws;
  quotes = is.quotes;
  position = is.position;
  cash = is.cash;
})

pub woken-moved : (v : Sight) (t : Trader) → IsMoved t (woken v t).trader
woken-moved v t = record {
  setting = refl;
  agent = refl;
  tokens = omega arith;
  draws = omega arith;
  quotes = omega arith;
  position = near-same _ _;
  cash = near-same _ _;
}

chosen-moved : (v : Sight) (t : Trader) (q : Quote) → IsTrader t → IsMoved t (chosen v t (choice_of v t q)).trader
chosen-moved v t q sound =
    let few = choice-few v t q sound in
    let placed = all-placed v.symbol (choice_of v t q).wishes t.orders in
    record {
      setting = refl;
      agent = placed.agent;
      tokens = omega (arith, placed.tokens, few.orders);
      draws = omega (arith, few.draws);
      quotes = omega arith;
      position = rw placed.account (near-same (2 ^ 32) t.orders.account.position);
      cash = rw placed.account (near-same (2 ^ 71) t.orders.account.cash);
    }

pub quoted-moved : (v : Sight) (t : Trader) (q : Quote) → IsTrader t → IsMoved t (quoted v t q).trader
quoted-moved v t q sound =
    elim (cases_Bool (q.state == 84)) [
      | inl trades ↦ rw trades (chosen-moved v t q sound)
      | inr halted ↦ rw halted (record {
        setting = refl;
        agent = refl;
        tokens = omega arith;
        draws = omega arith;
        quotes = omega arith;
        position = near-same _ _;
        cash = near-same _ _;
      })
    ]

pub answered-moved : (reply : Reply) (t : Trader) → (replied reply t.orders).agent ≡ t.orders.agent → (replied reply t.orders).tokens ≡ t.orders.tokens
    → IsNear (2 ^ 32) t.orders.account.position (replied reply t.orders).account.position
    → IsNear (2 ^ 71) t.orders.account.cash (replied reply t.orders).account.cash → IsMoved t (answered reply t).trader
answered-moved reply t agent tokens position cash = record {
  setting = refl;
  agent = agent;
  tokens = omega arith;
  draws = omega arith;
  quotes = omega arith;
  position = position;
  cash = cash;
}
