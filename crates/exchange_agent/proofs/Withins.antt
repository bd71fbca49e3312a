-- Numbers that are at most so far from 0.
use Rattle.std.proofs.Common.{◌≡◌, ℕ, ◌+◌, ◌-◌, ◌*◌, ◌<◌, ◌≤◌, ℤ, pos, negsuc, neg_ℤ, ◌+ℤ◌, ◌*ℤ◌, List, length, slice_index_or, All, arith, ap, subst, sym, ◌∙◌, lit≤, ◌^◌}
use Rattle.std.specs.Prelude.{unsigned_abs}
use Rattle.std.proofs.lemmas.Int.{ints, unsigned_abs-mul}
use Rattle.std.proofs.lemmas.List.Elements.{All-set, All-weaker}
use Rattle.std.proofs.lemmas.List.{length-set}
use Rattle.exchange_agent.specs.Settle.{Way, gained}
use Rattle.exchange_agent.specs.Sound.{IsFar, IsSmall, IsWithin}

pub within-sum : (a b : ℕ) (x y : ℤ) → IsWithin a x → IsWithin b y → IsWithin (a + b) (x +ℤ y)
within-sum a b x y p q = record { low = omega (arith, ints, p.low, q.low); high = omega (arith, ints, p.high, q.high) }

pub within-more : (a b : ℕ) (x : ℤ) → a ≤ b → IsWithin a x → IsWithin b x
within-more a b x h p = record { low = omega (arith, ints, p.low); high = omega (arith, ints, p.high) }

pub within-neg : (a : ℕ) (x : ℤ) → IsWithin a x → IsWithin a (neg_ℤ x)
within-neg a x p = record { low = omega (arith, ints, p.high); high = omega (arith, ints, p.low) }

pub within-from_abs : (a : ℕ) (x : ℤ) → unsigned_abs x ≤ a → IsWithin a x
within-from_abs a (pos n) h = record { low = omega (arith, ints); high = omega (arith, ints) }
within-from_abs a (negsuc n) h = record { low = omega (arith, ints); high = omega (arith, ints) }

pub gained-within : (a b agent : ℕ) (n : ℤ) (xs : List ℤ) → agent - 1 < length xs → IsWithin b n → All (IsWithin a) xs → All (IsWithin (a + b)) (gained agent n xs)
gained-within a b agent n xs in' p all =
    All-set (IsWithin (a + b)) xs (agent - 1) (slice_index_or xs (agent - 1) (pos 0) +ℤ n)
    (within-sum a b (slice_index_or xs (agent - 1) (pos 0)) n (all (agent - 1) (pos 0) in') p)
    (All-weaker (IsWithin a) (IsWithin (a + b)) (λ x q. within-more a (a + b) x (omega arith) q) xs all)

pub fee-within : (each : ℤ) (n : ℕ) → unsigned_abs each ≤ 2147483648 → IsWithin (2147483648 * n) (each *ℤ pos n)
fee-within each n h = within-from_abs (2147483648 * n) (each *ℤ pos n) (grind (arith, unsigned_abs-mul))

pub gained-small : (agent : ℕ) (n : ℤ) (xs ys : List ℤ) → ys ≡ gained agent n xs → agent - 1 < length xs → IsWithin (2 ^ 80) n → All (IsWithin (2 ^ 100)) xs → All (IsWithin (2 ^ 120)) ys
gained-small agent n xs ys e in' p all =
    subst (λ (l : List ℤ). All (IsWithin (2 ^ 120)) l) (sym e)
    (All-weaker (IsWithin (2 ^ 100 + 2 ^ 80)) (IsWithin (2 ^ 120)) (λ x q. within-more (2 ^ 100 + 2 ^ 80) (2 ^ 120) x (lit≤ tt) q) (gained agent n xs)
    (gained-within (2 ^ 100) (2 ^ 80) agent n xs in' p all))

-- positions that were small are not large after one gain
pub gained-few : (agent : ℕ) (n : ℤ) (xs ys : List ℤ) → ys ≡ gained agent n xs → agent - 1 < length xs → IsWithin (2 ^ 40) n → All (IsWithin (2 ^ 50)) xs → All (IsWithin (2 ^ 60)) ys
gained-few agent n xs ys e in' p all =
    subst (λ (l : List ℤ). All (IsWithin (2 ^ 60)) l) (sym e)
    (All-weaker (IsWithin (2 ^ 50 + 2 ^ 40)) (IsWithin (2 ^ 60)) (λ x q. within-more (2 ^ 50 + 2 ^ 40) (2 ^ 60) x (lit≤ tt) q) (gained agent n xs)
    (gained-within (2 ^ 50) (2 ^ 40) agent n xs in' p all))

-- two accounts gain, each by less than a bound
pub gained-twice : (b d e first second : ℕ) (m n : ℤ) (xs ys zs : List ℤ) → ys ≡ gained first m xs → zs ≡ gained second n ys → first - 1 < length xs → second - 1 < length xs → IsWithin d m → IsWithin d n → b + d + d ≡ e → All (IsWithin b) xs → All (IsWithin e) zs
gained-twice b d e first second m n xs ys zs is-ys is-zs in-first in-second p q sum all =
    let once : All (IsWithin (b + d)) ys = subst (λ (l : List ℤ). All (IsWithin (b + d)) l) (sym is-ys) (gained-within b d first m xs in-first p all) in
    let long : length ys ≡ length xs = ap (λ (l : List ℤ). length l) is-ys ∙ length-set xs (first - 1) (slice_index_or xs (first - 1) (pos 0) +ℤ m) in
    let twice : All (IsWithin (b + d + d)) (gained second n ys) = gained-within (b + d) d second n ys (omega (arith, in-second, long)) q once in
    subst (λ (l : List ℤ). All (IsWithin e) l) (sym is-zs) (subst (λ (k : ℕ). All (IsWithin k) (gained second n ys)) sum twice)

pub all-within : (a b : ℕ) (xs : List ℤ) → a ≤ b → All (IsWithin a) xs → All (IsWithin b) xs
all-within a b xs h all = All-weaker (IsWithin a) (IsWithin b) (λ x p. within-more a b x h p) xs all

pub length-gained : (agent : ℕ) (n : ℤ) (xs : List ℤ) → length (gained agent n xs) ≡ length xs
length-gained agent n xs = length-set xs (agent - 1) (slice_index_or xs (agent - 1) (pos 0) +ℤ n)

-- what a way has come to is far from every end of the numbers
pub small-far : (shares : ℕ) (w : Way) → shares ≤ 1000000 → IsSmall 131072 shares w → IsFar w
small-far shares w few h = record {
  cash = all-within (2 ^ 63 + 2 ^ 61 * 131072 + 2 ^ 41 * shares) (2 ^ 100) w.cash (omega arith) h.cash;
  matches = omega (arith, h.matches);
  matched = omega (arith, h.matched);
  taken = within-more (2 ^ 53 * 131072 + 2 ^ 32 * shares) (2 ^ 100) w.stock.tally.taken (omega arith) h.taken;
  positions = all-within (2000000 * 131072 + 2 * shares) (2 ^ 50) w.stock.tally.positions (omega arith) h.positions;
  fee = within-more (2 ^ 32 * shares) (2 ^ 60) w.fee (omega arith) h.fee;
}

pub small-more : (orders more shares : ℕ) (w : Way) → orders ≤ more → IsSmall orders shares w → IsSmall more shares w
small-more orders more shares w le h = record {
  cash = all-within (2 ^ 63 + 2 ^ 61 * orders + 2 ^ 41 * shares) (2 ^ 63 + 2 ^ 61 * more + 2 ^ 41 * shares) w.cash (omega arith) h.cash;
  matches = omega (arith, h.matches);
  matched = omega (arith, h.matched);
  taken = within-more (2 ^ 53 * orders + 2 ^ 32 * shares) (2 ^ 53 * more + 2 ^ 32 * shares) w.stock.tally.taken (omega arith) h.taken;
  positions = all-within (2000000 * orders + 2 * shares) (2000000 * more + 2 * shares) w.stock.tally.positions (omega arith) h.positions;
  fee = h.fee;
}
