-- The allowed prices next to a number.
use Prim.Native.Nat.{zero, suc}
use Rattle.std.specs.Prelude.{◌≡◌, ℕ, ◌+◌, ◌≤◌, ℤ, pos, negsuc, true, if◌then◌else◌, List}
use Rattle.market_rules.specs.declared.bands.Band.{Band}
use Rattle.market_rules.specs.Ticks.{tick_of, is_allowed}

-- r is the greatest allowed price not above p
pub record IsGreatest (bands : List Band) (p r : ℕ) : Type 0 where
  pub allowed : is_allowed bands r ≡ true
  pub not_above : r ≤ p
  pub greatest : (q : ℕ) → is_allowed bands q ≡ true → q ≤ p → q ≤ r

-- r is the least allowed price not below p
pub record IsLeast (bands : List Band) (p r : ℕ) : Type 0 where
  pub allowed : is_allowed bands r ≡ true
  pub not_below : p ≤ r
  pub least : (q : ℕ) → is_allowed bands q ≡ true → p ≤ q → r ≤ q

-- r is the greatest allowed price not above a number, and 0 where that is below 0
abbrev pub IsDown : List Band → ℤ → ℤ → Type 0
IsDown bands (pos p) (pos r) = IsGreatest bands p r
IsDown bands (pos p) (negsuc r) = ⊥
IsDown bands (negsuc p) r = r ≡ pos 0

-- r is the least allowed price not below a number, and 0 where that is below 0
abbrev pub IsUp : List Band → ℤ → ℤ → Type 0
IsUp bands (pos p) (pos r) = IsLeast bands p r
IsUp bands (pos p) (negsuc r) = ⊥
IsUp bands (negsuc p) r = r ≡ pos 0

-- the first allowed price at or below p
unfoldable pub greatest_allowed : List Band → ℕ → ℕ
greatest_allowed bands zero = 0
greatest_allowed bands (suc p) = if is_allowed bands (suc p) then suc p else greatest_allowed bands p

-- the first allowed price of n from p upward
unfoldable pub allowed_among : ℕ → List Band → ℕ → ℕ
allowed_among zero bands p = p
allowed_among (suc n) bands p = if is_allowed bands p then p else allowed_among n bands (p + 1)

-- the first allowed price at or above p: within a tick there is one
abbrev pub least_allowed : List Band → ℕ → ℕ
least_allowed bands p = allowed_among (tick_of bands p) bands p

-- the allowed price down from a number, and 0 below 0
abbrev pub down_of : List Band → ℤ → ℤ
down_of bands (pos p) = pos (greatest_allowed bands p)
down_of bands (negsuc p) = pos 0

-- the allowed price up from a number, and 0 below 0
abbrev pub up_of : List Band → ℤ → ℤ
up_of bands (pos p) = pos (least_allowed bands p)
up_of bands (negsuc p) = pos 0
