-- Numbers within their ends.
use Rattle.std.proofs.Common.{◌≡◌, ◌<◌, ◌≤◌, ◌&&◌, nat_le, nat_lt, true, false, ℕ, ℤ, pos, negsuc, unsigned_abs, arith}
use Rattle.std.specs.Prelude.{int_le, int_lt}
use Rattle.std.specs.Int.{is_in_range}
use Rattle.std.proofs.lemmas.Bool.{and_parts}
use Rattle.std.proofs.lemmas.Bool.Decides.{nat_tests}
use Rattle.market_rules.specs.EditRanges.{is_near_zero, is_within}
use Rattle.study_file.specs.Values.{is_between}
use Rattle.study_market.specs.StockRules.{is_fee}

-- from one number to another
pub record Within (low high n : ℕ) : Type 0 where
  pub not_below : low ≤ n
  pub not_above : n ≤ high

pub natural-between : (low high : ℕ) (z : ℤ) → is_between (pos low) (pos high) z ≡ true → Within low high (unsigned_abs z)
natural-between low high (pos n) h =
    let parts : (nat_le low n ≡ true) × (nat_le n high ≡ true) = and_parts (nat_le low n) (nat_le n high) h in record {
      not_below = grind (arith, nat_tests, parts.0);
      not_above = grind (arith, nat_tests, parts.1);
    }
natural-between low high (negsuc n) h = absurd (cc h)

pub natural-in-range : (low high n : ℕ) → is_in_range low high n ≡ true → Within low high n
natural-in-range low high n h =
    let parts : (nat_le low n ≡ true) × (nat_le n high ≡ true) = and_parts (nat_le low n) (nat_le n high) h in record {
      not_below = grind (arith, nat_tests, parts.0);
      not_above = grind (arith, nat_tests, parts.1);
    }

pub group-below : (size : ℕ) (z : ℤ) → (int_le (pos 0) z && int_lt z (pos size)) ≡ true → unsigned_abs z < size
group-below size (pos n) h =
    let parts : (nat_le 0 n ≡ true) × (nat_lt n size ≡ true) = and_parts (nat_le 0 n) (nat_lt n size) h in grind (arith, nat_tests, parts.1)
group-below size (negsuc n) h = absurd (cc h)

-- the hours of a day
pub hours : (opens closes : ℤ) → (int_le (pos 0) opens && int_le opens closes && int_le closes (pos 86399999999999)) ≡ true
    → (unsigned_abs opens ≤ unsigned_abs closes) × (unsigned_abs closes ≤ 86399999999999)
hours (pos a) (pos b) h =
    let parts : ((nat_le 0 a && nat_le a b) ≡ true) × (nat_le b 86399999999999 ≡ true) = and_parts (nat_le 0 a && nat_le a b) (nat_le b 86399999999999) h in
    let first : (nat_le 0 a ≡ true) × (nat_le a b ≡ true) = and_parts (nat_le 0 a) (nat_le a b) parts.0 in
    (grind (arith, nat_tests, first.1), grind (arith, nat_tests, parts.1))
hours (pos a) (negsuc b) h =
    let parts : ((nat_le 0 a && false) ≡ true) × (true ≡ true) = and_parts (nat_le 0 a && false) true h in
    absurd (cc (and_parts (nat_le 0 a) false parts.0).1)
hours (negsuc a) b h = absurd (cc h)

pub at-least : (low : ℕ) (z : ℤ) → int_le (pos low) z ≡ true → low ≤ unsigned_abs z
at-least low (pos n) h = grind (arith, nat_tests, h)
at-least low (negsuc n) h = absurd (cc h)

pub below-other : (a b : ℤ) (low high : ℕ) → is_between (pos low) (pos high) a ≡ true → int_lt a b ≡ true → unsigned_abs a < unsigned_abs b
below-other (pos a) (pos b) low high h less = grind (arith, nat_tests, less)
below-other (pos a) (negsuc b) low high h less = absurd (cc less)
below-other (negsuc a) b low high h less = absurd (cc h)

pub fee-near : (z : ℤ) → is_fee z ≡ true → is_near_zero 1000000 z ≡ true
fee-near (pos n) h = grind (arith, nat_tests, h)
fee-near (negsuc n) h = grind (arith, nat_tests, h)

pub is-within : (low high n : ℕ) → Within low high n → is_within low high n ≡ true
is-within low high n h = grind (arith, nat_tests, h.not_below, h.not_above)
