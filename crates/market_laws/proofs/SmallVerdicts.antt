-- What the verdict on an accepted Enter says.
use Rattle.std.proofs.Common.{◌≡◌, ℕ, ◌<◌, ◌≤◌, Bool, true, false, Option, Some, None, arith, ap, refl, ◌∙◌, ◌||◌}
use Rattle.std.specs.Prelude.{nat_lt, nat_le, not, ◌==◌, if◌then◌else◌}
use Rattle.std.proofs.lemmas.Bool.Decides.{nat_tests}
use Rattle.market_rules.specs.Ticks.{is_allowed}
use Rattle.market_types.specs.Limits.{highest_price}
use Rattle.market_types.specs.declared.order.Enter.{Enter}
use Rattle.exchange_agent.specs.declared.verdict.Verdict.{Verdict}
use Rattle.exchange_agent.specs.declared.verdict.Reason.TheVariants as why
use Rattle.exchange_agent.specs.declared.verdict.Verdict.TheVariants.{Ignored, Forgotten, Refused, Accepted}
use Rattle.exchange_agent.specs.Enter.{is_full, is_halted, is_memory_full, is_remembered, price_is_refused, shares_are_refused, terms_are_refused, verdict_at, verdict_of, verdict_there}
use Rattle.exchange_agent.specs.State.{State, resting_over, stock_at, stock_number_of}
use Rattle.market_laws.specs.Small.{IsUpTo, most_shares}

-- the answer is past a line that has another
past : (b : Bool) (x y v : Verdict) → (x ≡ v → ⊥) → (if b then x else y) ≡ v → (b ≡ false) × (y ≡ v)
past true x y v h e = absurd (h e)
past false x y v h e = (refl, e)

some-shares : (n : ℕ) → ((n == 0) || nat_lt 999999 n) ≡ false → 1 ≤ n
some-shares n e = grind (arith, nat_tests)

few-shares : (n : ℕ) → ((n == 0) || nat_lt 999999 n) ≡ false → n ≤ 999999
few-shares n e = grind (arith, nat_tests)

some-price : (n : ℕ) (b : Bool) → ((n == 0) || nat_lt 1999999900 n || b) ≡ false → 1 ≤ n
some-price n b e = grind (arith, nat_tests)

low-price : (n : ℕ) (b : Bool) → ((n == 0) || nat_lt 1999999900 n || b) ≡ false → n ≤ 1999999900
low-price n b e = grind (arith, nat_tests)

not-full : (n : ℕ) → nat_le 16384 n ≡ false → n < 16384
not-full n e = grind (arith, nat_tests)

-- What an accepted order is.
pub record IsAcceptable (s : State) (e : Enter) (k : ℕ) : Type 0 where
  pub shares : IsUpTo most_shares e.shares
  pub price : IsUpTo highest_price e.price
  pub number : stock_number_of e.stock s.stocks ≡ Some k
  pub room : resting_over s.stocks < 16384

there : (s : State) (e : Enter) (j k : ℕ) → verdict_there s e j ≡ Accepted k → (shares_are_refused e ≡ false) × (price_is_refused (stock_at s j) e ≡ false) × (j ≡ k) × (is_full s ≡ false)
there s e j k is =
    let w5 = if is_full s then Refused why.Other else Accepted j in
    let w4 = if price_is_refused (stock_at s j) e then Refused why.Price else w5 in
    let w3 = if shares_are_refused e then Refused why.Other else w4 in
    let w2 = if is_halted (stock_at s j) then Refused why.Halted else w3 in
    let first = past (terms_are_refused s.hidden e) (Refused why.Other) w2 (Accepted k) (λ (q : Refused why.Other ≡ Accepted k). cc) is in
    let second = past (is_halted (stock_at s j)) (Refused why.Halted) w3 (Accepted k) (λ (q : Refused why.Halted ≡ Accepted k). cc) first.1 in
    let third = past (shares_are_refused e) (Refused why.Other) w4 (Accepted k) (λ (q : Refused why.Other ≡ Accepted k). cc) second.1 in
    let fourth = past (price_is_refused (stock_at s j) e) (Refused why.Price) w5 (Accepted k) (λ (q : Refused why.Price ≡ Accepted k). cc) third.1 in
    let fifth = past (is_full s) (Refused why.Other) (Accepted j) (Accepted k) (λ (q : Refused why.Other ≡ Accepted k). cc) fourth.1 in
    let last : Accepted j ≡ Accepted k = fifth.1 in
    (third.0, fourth.0, cc, fifth.0)

numbered : (s : State) (e : Enter) (o : Option ℕ) (k : ℕ) → verdict_at s e o ≡ Accepted k → stock_number_of e.stock s.stocks ≡ o → IsAcceptable s e k
numbered s e None k is number = absurd cc
numbered s e (Some j) k is number =
    let h = there s e j k is in
    let same : j ≡ k = h.2 in
    record {
      shares = (some-shares e.shares h.0, few-shares e.shares h.0);
      price = (some-price e.price (not (is_allowed (stock_at s j).bands e.price)) h.1, low-price e.price (not (is_allowed (stock_at s j).bands e.price)) h.1);
      number = number ∙ ap (λ (n : ℕ). Some n) same;
      room = not-full (resting_over s.stocks) h.3;
    }

pub acceptable : (s : State) (agent : ℕ) (e : Enter) (k : ℕ) → verdict_of s agent e ≡ Accepted k → IsAcceptable s e k
acceptable s agent e k is =
    let first = past (is_remembered s agent e) Ignored (if is_memory_full s then Forgotten why.Other else verdict_at s e (stock_number_of e.stock s.stocks)) (Accepted k) (λ (q : Ignored ≡ Accepted k). cc) is in
    let second = past (is_memory_full s) (Forgotten why.Other) (verdict_at s e (stock_number_of e.stock s.stocks)) (Accepted k) (λ (q : Forgotten why.Other ≡ Accepted k). cc) first.1 in
    numbered s e (stock_number_of e.stock s.stocks) k second.1 refl
