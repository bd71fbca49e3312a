-- The orders that came, in order of reference, those that left among them.
use Rattle.std.specs.Prelude.{◌≡◌, ◌≤◌, ◌<◌, ℕ, ◌+◌, ◌==◌, true, false, if◌then◌else◌, List, [], ◌∷◌, length, Option, Some, Result, Err, slice_index_or, ⊤}
use Rattle.market_types.specs.declared.order.Side.TheVariants.{Buy}
use Rattle.feed_rebuild.specs.declared.entries.Entry.{Entry}
use Rattle.feed_rebuild.specs.declared.shown.AuditError.{AuditError}
use Rattle.feed_rebuild.specs.declared.shown.AuditError.TheVariants as error
use Rattle.feed_rebuild.specs.declared.shown.Shown.{Shown}
use Rattle.feed_rebuild.specs.Fold.{is_this, Told}

-- stands for the entry past the last
abbrev pub vacant : Entry
vacant = record { order = record { stock = 0; reference = 0; side = Buy; left = 0; price = 0 }; gone = true }

-- the orders that have not left
abbrev pub kept : List Entry → List Shown
kept [] = []
kept (e ∷ es) = if e.gone then kept es else e.order ∷ kept es

-- the last reference, after another
abbrev pub last_from : Option ℕ → List Entry → Option ℕ
last_from before [] = before
last_from before (e ∷ es) = last_from (Some e.order.reference) es

-- references rise, from a least one on
abbrev pub IsRising : ℕ → List Entry → Type 0
IsRising low [] = ⊤
IsRising low (e ∷ es) = (low ≤ e.order.reference) × IsRising (e.order.reference + 1) es

-- with so many open shares an order stays, and with none it is gone
abbrev pub left_with : ℕ → Entry → Entry
left_with left e = if left == 0 then record e { gone = true } else record e { order = record e.order { left = left } }

-- the order of a locate's stock and a reference stands at a place, and has not left
pub record IsHeldAt (locate reference place : ℕ) (es : List Entry) : Type 0 where
  pub within : place < length es
  pub stays : (slice_index_or es place vacant).gone ≡ false
  pub this : is_this locate reference (slice_index_or es place vacant).order ≡ true

-- the error tells what the fold tells, or memory
abbrev pub IsMisfitOf : Result Told ℕ → AuditError → Type 0
IsMisfitOf told (error.Misfit m) = told ≡ Err m.reference
IsMisfitOf told error.Memory = ⊤
