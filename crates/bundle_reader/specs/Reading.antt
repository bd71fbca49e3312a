-- What bytes are read as, as a function: one frame after another, each where it may stand.
use Rattle.std.specs.Prelude.{◌≡◌, ℕ, zero, suc, ◌+◌, List, [], ◌∷◌, length, Option, Some, None, Result, Ok, Err}
use Rattle.market_types.specs.declared.error.CodecError.{CodecError}
use Rattle.itch_codec.specs.Frames.{unframed}
use Rattle.bundle_reader.specs.declared.frame.Frame.{Frame}
use Rattle.bundle_reader.specs.declared.bundle.Bundle.{Bundle}
use Rattle.bundle_reader.specs.declared.bundle.BundleError.{BundleError}
use Rattle.bundle_reader.specs.declared.bundle.BundleError.TheVariants.{Cut, BadFrame, BadOrder, Memory}
use Rattle.bundle_reader.specs.Told.{BundleTold, ReadingTold, start, bundle_told}
use Rattle.bundle_reader.specs.Order.{taken, stocks_known, whole_bundle}
use Rattle.bundle_reader.specs.Bundle.{IsBundle, bundle_bytes}
use Rattle.bundle_reader.specs.Reads.{Stops}
use Rattle.bundle_reader.specs.FramesRead.{frame_in}

-- What bytes are read as: a bundle, or the first reason why they are none. A frame is cut, with so many bytes left from its
-- length on; what stands at an offset is no frame; or the frame at an offset may not stand there, or bytes follow the end.
pub data Read : Type 0 where
  read : BundleTold → Read
  cut : ℕ → Read
  bad_frame : ℕ → Read
  bad_order : ℕ → Read

-- a bundle whose end was read, before these bytes at this offset
abbrev pub read_whole : ℕ → BundleTold → List ℕ → Read
read_whole at b [] = read b
read_whole at b (x ∷ rest) = bad_order at

-- behind the end of a bundle, or before it
abbrev pub at_end : ℕ → List ℕ → Option BundleTold → Read → Read
at_end at bytes (Some b) before = read_whole at b bytes
at_end at bytes None before = before

-- behind a frame, where it may stand
abbrev pub placed : ℕ → Option ReadingTold → (ReadingTold → Read) → Read
placed at None later = bad_order at
placed at (Some r) later = later r

-- behind a frame, where there is one
abbrev pub with_frame : ℕ → ReadingTold → Option Frame → (ReadingTold → Read) → Read
with_frame at r None later = bad_frame at
with_frame at r (Some f) later = placed at (taken r f) later

-- behind the first length and what it counts, where these are whole
abbrev pub parted : List ℕ → ℕ → ReadingTold → Result (List ℕ × List ℕ) CodecError → (List ℕ → List ℕ → ReadingTold → Read) → Read
parted bytes at r (Err e) later = cut (length bytes)
parted bytes at r (Ok parts) later = with_frame at r (frame_in (stocks_known r) parts.0) (later parts.0 parts.1)

-- What bytes that stand at an offset are read as behind what was read. The first number is above that of the bytes: each
-- frame has some.
abbrev pub reading_from : ℕ → ℕ → ReadingTold → List ℕ → Read
reading_from zero at r bytes = cut (length bytes)
reading_from (suc n) at r bytes =
    at_end at bytes (whole_bundle r)
    (parted bytes at r (unframed bytes) (λ (first rest : List ℕ) (next : ReadingTold). reading_from n (at + (2 + length first)) next rest))

-- what bytes are read as
unfoldable pub reading_of : List ℕ → Read
reading_of bytes = reading_from (1 + length bytes) 0 start bytes

-- bytes are read as what an error says, unless it is want of memory
abbrev pub IsRefusedAs : BundleError → Read → Type 0
IsRefusedAs (Cut left) r = r ≡ cut left
IsRefusedAs (BadFrame at) r = r ≡ bad_frame at
IsRefusedAs (BadOrder at) r = r ≡ bad_order at
IsRefusedAs Memory r = Unit {0}

-- bytes are read as what is answered, unless that is want of memory
abbrev pub IsReadAs : Result Bundle BundleError → Read → Type 0
IsReadAs (Ok b) r = r ≡ read (bundle_told b)
IsReadAs (Err e) r = IsRefusedAs e r

-- What is read of bytes is told by the reader's relations.
abbrev pub IsTold : List ℕ → Read → Type 0
IsTold bytes (read b) = (bytes ≡ bundle_bytes b) × IsBundle b
IsTold bytes (cut left) = Stops bytes (Cut left)
IsTold bytes (bad_frame at) = Stops bytes (BadFrame at)
IsTold bytes (bad_order at) = Stops bytes (BadOrder at)
