-- The message that bytes spell, as a function.
use Rattle.std.specs.Prelude.{ℕ, ◌&&◌, List, slice_index, Option, Some, None, bytes_eq, if◌then◌else◌}
use Rattle.wire_fields.specs.declared.kind.Kind.{Kind}
use Rattle.wire_fields.specs.Wire.{Wire, spelling, are_in_range, wire_at}

-- a message, where it is written as these bytes and each of its fields is in its range
abbrev pub where_spelled : {M : Type 0} → (M → Wire) → List ℕ → M → Option M
where_spelled wire bytes m =
    if bytes_eq bytes (spelling (wire m)) && are_in_range (wire m).kinds (wire m).values then Some m else None

-- the message of the values that stand in fields of these kinds
abbrev pub message_by : {M : Type 0} → (M → Wire) → (Wire → M) → List ℕ → Option (List Kind) → Option M
message_by wire message bytes None = None
message_by wire message bytes (Some kinds) = where_spelled wire bytes (message (wire_at kinds bytes))

-- The message that bytes spell, if they spell one. The letter of its type stands first and tells the kinds of its fields.
unfoldable pub message_in : {M : Type 0} → (M → Wire) → (Wire → M) → (ℕ → Option (List Kind)) → List ℕ → Option M
message_in wire message layout bytes = message_by wire message bytes (layout (slice_index bytes 0))
