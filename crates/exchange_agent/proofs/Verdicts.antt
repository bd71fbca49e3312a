-- What a verdict says of the lines before it.
use Rattle.std.proofs.Common.{◌≡◌, ℕ, ◌<◌, Bool, true, false, length, Option, Some, None, arith, ap, ◌∙◌, sym, subst, refl, ◌||◌}
use Rattle.std.specs.Prelude.{nat_lt, nat_le, ◌==◌, if◌then◌else◌}
use Rattle.std.proofs.lemmas.Bool.Decides.{nat_tests}
use Rattle.market_types.specs.declared.order.Enter.{Enter}
use Rattle.exchange_agent.specs.declared.verdict.Verdict.{Verdict}
use Rattle.exchange_agent.specs.declared.verdict.Reason.{Reason}
use Rattle.exchange_agent.specs.declared.verdict.Reason.TheVariants as why
use Rattle.exchange_agent.specs.declared.verdict.Verdict.TheVariants.{Ignored, Forgotten, Refused, Accepted}
use Rattle.exchange_agent.specs.Enter.{is_full, is_halted, is_memory_full, is_remembered, price_is_refused, shares_are_refused, terms_are_refused, verdict_at, verdict_found, verdict_of, verdict_there}
use Rattle.exchange_agent.specs.State.{State, stock_at, stock_number_of}

-- the answer is past a line that has another
past : (b : Bool) (x y v : Verdict) → (x ≡ v → ⊥) → (if b then x else y) ≡ v → (b ≡ false) × (y ≡ v)
past true x y v h e = absurd (h e)
past false x y v h e = (refl, e)

room-from : (n : ℕ) → nat_le 131072 n ≡ false → n < 131072
room-from n e = grind (arith, nat_tests)

few-from : (n : ℕ) → ((n == 0) || nat_lt 999999 n) ≡ false → n < 1000000
few-from n e = grind (arith, nat_tests)

pub record IsAcceptable (s : State) (agent : ℕ) (e : Enter) (k : ℕ) : Type 0 where
  pub new : is_remembered s agent e ≡ false
  pub room : length s.pairs < 131072
  pub few : e.shares < 1000000
  pub number : stock_number_of e.stock s.stocks ≡ Some k
  pub place : is_full s ≡ false

there : (s : State) (e : Enter) (j k : ℕ) → verdict_there s e j ≡ Accepted k → (shares_are_refused e ≡ false) × (j ≡ k) × (is_full s ≡ false)
there s e j k is =
    let w5 = if is_full s then Refused why.Other else Accepted j in
    let w4 = if price_is_refused (stock_at s j) e then Refused why.Price else w5 in
    let w3 = if shares_are_refused e then Refused why.Other else w4 in
    let w2 = if is_halted (stock_at s j) then Refused why.Halted else w3 in
    let first = past (terms_are_refused s.hidden e) (Refused why.Other) w2 (Accepted k) (λ (q : Refused why.Other ≡ Accepted k). cc) is in
    let second = past (is_halted (stock_at s j)) (Refused why.Halted) w3 (Accepted k) (λ (q : Refused why.Halted ≡ Accepted k). cc) first.1 in
    let third = past (shares_are_refused e) (Refused why.Other) w4 (Accepted k) (λ (q : Refused why.Other ≡ Accepted k). cc) second.1 in
    let fourth = past (price_is_refused (stock_at s j) e) (Refused why.Price) w5 (Accepted k) (λ (q : Refused why.Price ≡ Accepted k). cc) third.1 in
    let fifth = past (is_full s) (Refused why.Other) (Accepted j) (Accepted k) (λ (q : Refused why.Other ≡ Accepted k). cc) fourth.1 in
    let last : Accepted j ≡ Accepted k = fifth.1 in
    (third.0, cc, fifth.0)

numbered : (s : State) (e : Enter) (o : Option ℕ) (k : ℕ) → verdict_at s e o ≡ Accepted k → (shares_are_refused e ≡ false) × (o ≡ Some k) × (is_full s ≡ false)
numbered s e None k is = absurd cc
numbered s e (Some j) k is = let h = there s e j k is in let same : j ≡ k = h.1 in (h.0, ap (λ (n : ℕ). Some n) same, h.2)

pub acceptable : (s : State) (agent : ℕ) (e : Enter) (k : ℕ) → verdict_of s agent e ≡ Accepted k → IsAcceptable s agent e k
acceptable s agent e k is =
    let first = past (is_remembered s agent e) Ignored (if is_memory_full s then Forgotten why.Other else verdict_at s e (stock_number_of e.stock s.stocks)) (Accepted k) (λ (q : Ignored ≡ Accepted k). cc) is in
    let second = past (is_memory_full s) (Forgotten why.Other) (verdict_at s e (stock_number_of e.stock s.stocks)) (Accepted k) (λ (q : Forgotten why.Other ≡ Accepted k). cc) first.1 in
    let third = numbered s e (stock_number_of e.stock s.stocks) k second.1 in
    record { new = first.0; room = room-from (length s.pairs) second.0; few = few-from e.shares third.0; number = third.1; place = third.2 }

-- A verdict of a line from the third on.
abbrev pub IsLate : Verdict → Type 0
IsLate Ignored = ⊥
IsLate (Forgotten reason) = ⊥
IsLate (Refused reason) = Unit {0}
IsLate (Accepted k) = Unit {0}

late-if : (b : Bool) (x y : Verdict) → IsLate x → IsLate y → IsLate (if b then x else y)
late-if true x y first second = first
late-if false x y first second = second

late-there : (s : State) (e : Enter) (k : ℕ) → IsLate (verdict_there s e k)
late-there s e k =
    late-if (terms_are_refused s.hidden e) _ _ tt (late-if (is_halted (stock_at s k)) _ _ tt (late-if (shares_are_refused e) _ _ tt (late-if (price_is_refused (stock_at s k) e) _ _ tt (late-if (is_full s) _ _ tt tt))))

late-at : (s : State) (e : Enter) (o : Option ℕ) → IsLate (verdict_at s e o)
late-at s e None = tt
late-at s e (Some k) = late-there s e k

-- what was found, by whether so many pairs are remembered as may be and by whether this one is
early-by : (full remembered : Bool) (x v : Verdict) → IsLate x → (IsLate v → ⊥) → (if full then (if remembered then Ignored else Forgotten why.Other) else x) ≡ v → (if remembered then Ignored else (if full then Forgotten why.Other else x)) ≡ v
early-by true true x v late early e = e
early-by true false x v late early e = e
early-by false remembered x v late early e = absurd (early (subst (λ (w : Verdict). IsLate w) e late))

-- a verdict of the first two lines that was found is the verdict
pub early : (s : State) (agent : ℕ) (e : Enter) (v : Verdict) → (IsLate v → ⊥) → verdict_found s agent e ≡ v → verdict_of s agent e ≡ v
early s agent e v not-late is =
    early-by (is_memory_full s) (is_remembered s agent e) (verdict_at s e (stock_number_of e.stock s.stocks)) v (late-at s e (stock_number_of e.stock s.stocks)) not-late is

pub ignored-is : (s : State) (agent : ℕ) (e : Enter) → verdict_found s agent e ≡ Ignored → verdict_of s agent e ≡ Ignored
ignored-is s agent e is = early s agent e Ignored (λ (l : IsLate Ignored). l) is

pub forgotten-is : (s : State) (agent : ℕ) (e : Enter) (reason : Reason) → verdict_found s agent e ≡ Forgotten reason → verdict_of s agent e ≡ Forgotten reason
forgotten-is s agent e reason is = early s agent e (Forgotten reason) (λ (l : IsLate (Forgotten reason)). l) is

late-by : (full remembered : Bool) (x v : Verdict) → IsLate v → (if full then (if remembered then Ignored else Forgotten why.Other) else x) ≡ v → (full ≡ false) × (x ≡ v)
late-by true true x v late e = absurd (subst (λ (w : Verdict). IsLate w) (sym e) late)
late-by true false x v late e = absurd (subst (λ (w : Verdict). IsLate w) (sym e) late)
late-by false remembered x v late e = (refl, e)

-- What holds where a verdict of a line from the third on was found: there is room for a pair, and it is the verdict unless
-- the pair is remembered.
pub record IsFound (s : State) (agent : ℕ) (e : Enter) (v : Verdict) : Type 0 where
  pub room : length s.pairs < 131072
  pub at : verdict_at s e (stock_number_of e.stock s.stocks) ≡ v
  pub is : (if is_remembered s agent e then Ignored else v) ≡ verdict_of s agent e

late : (s : State) (agent : ℕ) (e : Enter) (v : Verdict) → IsLate v → verdict_found s agent e ≡ v → IsFound s agent e v
late s agent e v is-late is =
    let there = late-by (is_memory_full s) (is_remembered s agent e) (verdict_at s e (stock_number_of e.stock s.stocks)) v is-late is in
    record {
      room = room-from (length s.pairs) there.0;
      at = there.1;
      is = ap (λ (w : Verdict). if is_remembered s agent e then Ignored else w) (sym there.1)
          ∙ ap (λ (b : Bool). if is_remembered s agent e then Ignored else (if b then Forgotten why.Other else verdict_at s e (stock_number_of e.stock s.stocks))) (sym there.0);
    }

pub refused-is : (s : State) (agent : ℕ) (e : Enter) (reason : Reason) → verdict_found s agent e ≡ Refused reason → IsFound s agent e (Refused reason)
refused-is s agent e reason is = late s agent e (Refused reason) tt is

pub accepted-is : (s : State) (agent : ℕ) (e : Enter) (k : ℕ) → verdict_found s agent e ≡ Accepted k → IsFound s agent e (Accepted k)
accepted-is s agent e k is = late s agent e (Accepted k) tt is

pub accepted-few : (s : State) (agent : ℕ) (e : Enter) (k : ℕ) → verdict_found s agent e ≡ Accepted k → e.shares < 1000000
accepted-few s agent e k is = few-from e.shares (numbered s e (stock_number_of e.stock s.stocks) k (accepted-is s agent e k is).at).0

pub accepted-number : (s : State) (agent : ℕ) (e : Enter) (k : ℕ) → verdict_found s agent e ≡ Accepted k → stock_number_of e.stock s.stocks ≡ Some k
accepted-number s agent e k is = (numbered s e (stock_number_of e.stock s.stocks) k (accepted-is s agent e k is).at).1
