-- A message that grows by one field at a time.
use Rattle.std.proofs.Common.{◌≡◌, ℕ, List, [], ◌∷◌, ◌++◌, refl, sym, ◌∙◌, append_assoc}
use Rattle.std.proofs.lemmas.List.{append-nil}
use Rattle.std.proofs.Math.Nat.{div-one}
use Rattle.std.specs.Int.{w16, w32, w64, to_be_bytes}
use Rattle.wire_fields.specs.declared.kind.Kind.{Kind}
use Rattle.wire_fields.specs.Numbers.{number_bytes}
use Rattle.wire_fields.specs.Values.{FieldValue, spelled}
use Rattle.wire_fields.specs.Wire.{spelled_fields}

-- What is there and the fields that are left are the message.
pub record IsBegun (ks : List Kind) (vs : List FieldValue) (message there : List ℕ) : Type 0 where
  pub whole : there ++ spelled_fields ks vs ≡ message

-- one field more
pub pushed : (k : Kind) (ks : List Kind) (v : FieldValue) (vs : List FieldValue) (message before field after : List ℕ)
    → IsBegun (k ∷ ks) (v ∷ vs) message before → after ≡ before ++ field → field ≡ spelled k v → IsBegun ks vs message after
pushed k ks v vs message before field after is after_is field_is = record { whole = rw (after_is, field_is, append_assoc) is.whole }

-- no field is left
pub finished : (message there : List ℕ) → IsBegun [] [] message there → there ≡ message
finished message there is = sym (append-nil there) ∙ is.whole

-- numbers as std writes them
pub two_bytes : (n : ℕ) → to_be_bytes w16 n ≡ number_bytes 2 n
two_bytes n = rw div-one refl

pub four_bytes : (n : ℕ) → to_be_bytes w32 n ≡ number_bytes 4 n
four_bytes n = rw div-one refl

pub eight_bytes : (n : ℕ) → to_be_bytes w64 n ≡ number_bytes 8 n
eight_bytes n = rw div-one refl
