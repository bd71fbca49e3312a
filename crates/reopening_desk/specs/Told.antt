-- What the answer tells of a file: its orders one by one, or its first record that breaks a rule.
use Rattle.std.specs.Prelude.{◌≡◌, ◌≤◌, ◌<◌, ℕ, ◌+◌, true, List, [], None, Some, is_some, length, get_or}
use Rattle.reopen_cross.specs.declared.cross.Interest.{Interest}
use Rattle.reopening_desk.specs.Orders.{is_header, order_in, said_by}

-- the first record is the header, and behind it each record says an order
pub record AreSaidBy (traders : ℕ) (records : List (List (List ℕ))) (orders : List Interest) : Type 0 where
  pub header : is_header (get_or records 0 []) ≡ true
  pub count : length records ≡ length orders + 1
  pub each : (k : ℕ) (d : Interest) → k < length orders → order_in traders (k + 1) (get_or records (k + 1) []) ≡ Some (get_or orders k d)

-- The record of a number breaks a rule, and none before it does. Where there is no record at all it is record 0.
pub record IsFirstFaulty (traders : ℕ) (records : List (List (List ℕ))) (n : ℕ) : Type 0 where
  pub earlier : (k : ℕ) → k < n → is_some (said_by traders k (get_or records k [])) ≡ true
  pub there : 1 ≤ length records → (n < length records) × (said_by traders n (get_or records n []) ≡ None)
  pub nothing : length records ≡ 0 → n ≡ 0
