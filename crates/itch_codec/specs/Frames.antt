-- Frames: two bytes of length, and a payload of that many bytes.
use Rattle.std.specs.Prelude.{ℕ, ◌+◌, List, ◌++◌, length, take, drop, nat_lt, Result, Ok, Err, if◌then◌else◌}
use Rattle.std.specs.Borrow.{Bor}
use Rattle.market_types.specs.declared.error.CodecError.{CodecError}
use Rattle.market_types.specs.declared.error.CodecError.TheVariants.{Cut}
use Rattle.wire_fields.specs.Numbers.{number_bytes, number_of}

-- a payload in its frame
abbrev pub framed : List ℕ → List ℕ
framed payload = number_bytes 2 (length payload) ++ payload

-- the length that a frame begins with
abbrev pub framed_length : List ℕ → ℕ
framed_length bytes = number_of (take 2 bytes)

-- The payload of the first frame and what follows the frame. A frame that is cut has too few bytes for its length, or less
-- than a length.
abbrev pub unframed : List ℕ → Result (List ℕ × List ℕ) CodecError
unframed bytes =
    if nat_lt (length bytes) 2 then Err (Cut (length bytes)) else
    (if nat_lt (length bytes) (2 + framed_length bytes) then Err (Cut (length bytes)) else
    Ok (take (framed_length bytes) (drop 2 bytes), drop (2 + framed_length bytes) bytes))

-- the two parts as lists
abbrev pub seen : Result (Bor (List ℕ) × Bor (List ℕ)) CodecError → Result (List ℕ × List ℕ) CodecError
seen (Ok parts) = Ok (parts.0.now, parts.1.now)
seen (Err e) = Err e
