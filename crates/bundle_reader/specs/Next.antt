-- What bytes begin with: a frame and what follows it, or none.
use Rattle.std.specs.Prelude.{◌≡◌, ℕ, List, length, Option, Result, Ok, Err}
use Rattle.std.specs.Borrow.{Bor}
use Rattle.market_types.specs.declared.error.CodecError.TheVariants as codec
use Rattle.itch_codec.specs.Frames.{unframed}
use Rattle.bundle_reader.specs.declared.frame.Frame.{Frame}
use Rattle.bundle_reader.specs.declared.next.FrameError.{FrameError}
use Rattle.bundle_reader.specs.declared.next.FrameError.TheVariants.{Cut, Bad, Memory}
use Rattle.bundle_reader.specs.Frames.{IsFrame}

-- there are fewer bytes than a length, or than the length says
abbrev pub IsCut : List ℕ → Type 0
IsCut bytes = unframed bytes ≡ Err (codec.Cut (length bytes))

-- what stands behind the length is no frame
pub record IsBad (stocks : Option ℕ) (bytes : List ℕ) : Type 0 where
  pub first : List ℕ
  pub rest : List ℕ
  pub whole : unframed bytes ≡ Ok (first, rest)
  pub no_frame : (f : Frame) → IsFrame stocks first f → ⊥

-- why bytes begin with no frame; want of memory has no cause
abbrev pub Fails : Option ℕ → List ℕ → FrameError → Type 0
Fails stocks bytes Cut = IsCut bytes
Fails stocks bytes Bad = IsBad stocks bytes
Fails stocks bytes Memory = Unit {0}

-- this frame and this rest were read, unless memory ran out
abbrev pub Follows : Frame → List ℕ → Result (Frame × Bor (List ℕ)) FrameError → Type 0
Follows f rest (Ok p) = (p.0 ≡ f) × (p.1.now ≡ rest)
Follows f rest (Err e) = e ≡ Memory
