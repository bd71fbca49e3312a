-- Tokens of different numbers are different.
use Rattle.std.proofs.Common.{◌≡◌, ℕ, zero, suc, ◌+◌, ◌*◌, ◌-◌, ◌/◌, ◌%◌, ◌^◌, ◌<◌, ◌≢◌, false, List, [], ◌∷◌, ◌++◌, drop, None, refl, ap, sym, ◌∙◌, inl, inr, arith, All}
use Rattle.std.proofs.lemmas.Bool.{cases_Bool}
use Rattle.std.proofs.lemmas.List.Elements.{All-head, All-tail}
use Rattle.std.proofs.lemmas.Slice.Eq.{bytes_eq-Decides}
use Rattle.std.proofs.Math.Nat.{div-add-mod, pow-succ'}
use Rattle.market_types.specs.declared.order.Token.{Token}
use Rattle.agent_shell.specs.declared.shell.OwnOrder.{OwnOrder}
use Rattle.agent_shell.specs.Own.{OwnList, own_order, same_token}
use Rattle.agent_shell.specs.Tokens.{digits, token_of, IsGiven}

-- the number that digits spell, after one that stands before them
abbrev read : ℕ → List ℕ → ℕ
read before [] = before
read before (d ∷ ds) = read (before * 10 + (d - 48)) ds

read-snoc : (before : ℕ) (xs : List ℕ) (d : ℕ) → read before (xs ++ d ∷ []) ≡ read before xs * 10 + (d - 48)
read-snoc before [] d = refl
read-snoc before (x ∷ xs) d = read-snoc (before * 10 + (x - 48)) xs d

read-digits : (k n : ℕ) → n < 10 ^ k → read 0 (digits k n) ≡ n
read-digits zero n low = omega (arith, low)
read-digits (suc k) n low =
    let whole = div-add-mod n 10 in
    let pow = pow-succ' 10 k in
    let front = read-digits k (n / 10) (omega (arith, whole, pow, low)) in
    read-snoc 0 (digits k (n / 10)) (48 + n % 10) ∙ omega (arith, front, whole)

pub tokens_differ : (a m n : ℕ) → m < n → n < 1000000000 → same_token (token_of a n) (token_of a m) ≡ false
tokens_differ a m n less high =
    elim (cases_Bool (same_token (token_of a n) (token_of a m))) [
      | inl same ↦
          let bytes = (bytes_eq-Decides (token_of a n).0 (token_of a m).0).0 same in
          let tail : digits 9 n ≡ digits 9 m = ap (drop 5) bytes in
          let equal : n ≡ m = sym (read-digits 9 n high) ∙ ap (read 0) tail ∙ read-digits 9 m (omega arith) in
          absurd (omega (arith, equal, less))
      | inr other ↦ other
    ]

-- the next token is in no list of given ones
pub next_is_fresh : (a tokens : ℕ) (own : OwnList) → tokens < 999999999 → All (λ e. IsGiven a tokens e.0) own → own_order (token_of a (tokens + 1)) own ≡ None
next_is_fresh a tokens [] few given = refl
next_is_fresh a tokens (e ∷ own) few given =
    let head : IsGiven a tokens e.0 = All-head (λ (x : Token × OwnOrder). IsGiven a tokens x.0) e own given in
    let other : same_token (token_of a (tokens + 1)) e.0 ≡ false = rw head.is (tokens_differ a head.number (tokens + 1) (omega (arith, head.last)) (omega arith)) in
    rw other (next_is_fresh a tokens own few (All-tail (λ (x : Token × OwnOrder). IsGiven a tokens x.0) e own given))

pub tokens_unequal : (a m n : ℕ) → m < n → n < 1000000000 → token_of a m ≢ token_of a n
tokens_unequal a m n less high e =
    let tail : digits 9 m ≡ digits 9 n = ap (λ (t : Token). drop 5 t.0) e in
    let equal : m ≡ n = sym (read-digits 9 m (omega arith)) ∙ ap (read 0) tail ∙ read-digits 9 n high in
    omega (arith, equal, less)
