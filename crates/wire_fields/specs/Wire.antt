-- Messages as fields one after another, and why bytes are none.
use Rattle.std.specs.Prelude.{◌≡◌, ℕ, ◌+◌, Bool, true, false, ◌&&◌, ◌==◌, IsTrue, List, [], ◌∷◌, ◌++◌, length, take, drop, slice_index, Option, Some, None, Result, Ok, IfOk, if◌then◌else◌}
use Rattle.std.specs.Option.{option_map}
use Rattle.std.specs.Result.{result_err}
use Rattle.market_types.specs.declared.error.CodecError.{CodecError}
use Rattle.market_types.specs.declared.error.CodecError.TheVariants.{UnknownType, WrongLength, BadField}
use Rattle.wire_fields.specs.declared.kind.Kind.{Kind}
use Rattle.wire_fields.specs.declared.writing.Value.{Value}
use Rattle.wire_fields.specs.Kinds.{width, is_good}
use Rattle.wire_fields.specs.Values.{FieldValue, spelled, is_in_range, value_of, HasWidth}

-- A message as it is written: the letter of its type, its fields' kinds in order, and their values.
pub record Wire : Type 0 where
  pub letter : ℕ
  pub kinds : List Kind
  pub values : List FieldValue

-- ---- the bytes of a message

-- the fields one after another
abbrev pub spelled_fields : List Kind → List FieldValue → List ℕ
spelled_fields [] vs = []
spelled_fields (k ∷ ks) [] = []
spelled_fields (k ∷ ks) (v ∷ vs) = spelled k v ++ spelled_fields ks vs

-- the bytes of a message
abbrev pub spelling : Wire → List ℕ
spelling w = w.letter ∷ spelled_fields w.kinds w.values

-- whether each field has a value of its range, and there are no more
abbrev pub are_in_range : List Kind → List FieldValue → Bool
are_in_range [] [] = true
are_in_range [] (v ∷ vs) = false
are_in_range (k ∷ ks) [] = false
are_in_range (k ∷ ks) (v ∷ vs) = is_in_range k v && are_in_range ks vs

-- each field of a message is in its range
abbrev pub IsInRange : Wire → Type 0
IsInRange w = IsTrue (are_in_range w.kinds w.values)

-- These bytes spell the message, each of whose fields is in its range.
pub record IsSpelled (bytes : List ℕ) (w : Wire) : Type 0 where
  pub same : bytes ≡ spelling w
  pub in_range : IsInRange w

-- each field has a value of the code of its width, and there are no more
abbrev pub HaveWidths : List Kind → List Value → Type 0
HaveWidths [] [] = Unit {0}
HaveWidths [] (v ∷ vs) = ⊥
HaveWidths (k ∷ ks) [] = ⊥
HaveWidths (k ∷ ks) (v ∷ vs) = HasWidth k v × HaveWidths ks vs

-- ---- fields by their offsets

-- the bytes of fields of these kinds together
abbrev pub total_width : List Kind → ℕ
total_width [] = 0
total_width (k ∷ ks) = width k + total_width ks

-- the bytes of a field of a kind that begins at an offset
abbrev pub field_at : Kind → ℕ → List ℕ → List ℕ
field_at k at bytes = take (width k) (drop at bytes)

-- the offset and the width of each field, where the first begins at an offset
abbrev pub places : List Kind → ℕ → List (ℕ × ℕ)
places [] at = []
places (k ∷ ks) at = (at, width k) ∷ places ks (at + width k)

-- the least offset of a field that is out of its range
abbrev pub bad_at : List Kind → ℕ → List ℕ → Option ℕ
bad_at [] at bytes = None
bad_at (k ∷ ks) at bytes = if is_good k (field_at k at bytes) then bad_at ks (at + width k) bytes else Some at

-- each field is in its range
abbrev pub AreGood : List Kind → ℕ → List ℕ → Type 0
AreGood [] at bytes = Unit {0}
AreGood (k ∷ ks) at bytes = IsTrue (is_good k (field_at k at bytes)) × AreGood ks (at + width k) bytes

-- the values that stand in the fields
abbrev pub values_at : List Kind → ℕ → List ℕ → List FieldValue
values_at [] at bytes = []
values_at (k ∷ ks) at bytes = value_of k (field_at k at bytes) ∷ values_at ks (at + width k) bytes

-- the message of this letter whose fields stand in bytes
abbrev pub wire_in : ℕ → List Kind → List ℕ → Wire
wire_in letter ks bytes = record { letter = letter; kinds = ks; values = values_at ks 1 bytes }

-- the message that stands in bytes by these fields
abbrev pub wire_at : List Kind → List ℕ → Wire
wire_at ks bytes = wire_in (slice_index bytes 0) ks bytes

-- ---- reading

-- why bytes are no message of a type with these fields
unfoldable pub fault : List Kind → List ℕ → Option CodecError
fault ks bytes =
    if length bytes == 1 + total_width ks
    then option_map BadField (bad_at ks 1 bytes)
    else Some (WrongLength (length bytes) (1 + total_width ks))

-- the same of bytes that begin with this letter, where a type has it
abbrev pub fault_of : ℕ → Option (List Kind) → List ℕ → Option CodecError
fault_of letter None bytes = Some (UnknownType letter)
fault_of letter (Some ks) bytes = fault ks bytes

-- why bytes are no message of a table that has the fields of each type by its letter
abbrev pub refusal : (ℕ → Option (List Kind)) → List ℕ → Option CodecError
refusal layout [] = Some (WrongLength 0 1)
refusal layout (letter ∷ rest) = fault_of letter (layout letter) (letter ∷ rest)

-- What is read of bytes is the message that they spell, if they spell one, and otherwise why they spell none. A message
-- is written as a wire, and a type's letter tells its fields.
pub record IsRead {M : Type 0} (wire : M → Wire) (layout : ℕ → Option (List Kind)) (bytes : List ℕ) (read : Result M CodecError) : Type 0 where
  pub spelled : IfOk read (λ m. IsSpelled bytes (wire m))
  pub only : (m : M) → IsSpelled bytes (wire m) → read ≡ Ok m
  pub refused : result_err read ≡ refusal layout bytes
