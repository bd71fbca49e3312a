-- How far a bundle is read, frame by frame, and why reading stops.
use Rattle.std.specs.Prelude.{◌≡◌, ◌≢◌, ◌⊎◌, ℕ, ◌+◌, true, false, List, [], ◌∷◌, length, Option, Some, None, Result, Ok, Err}
use Rattle.bundle_frames.specs.declared.closing.Closing.{Closing}
use Rattle.std.specs.Borrow.{Bor}
use Rattle.bundle_reader.specs.declared.frame.Frame.{Frame}
use Rattle.bundle_reader.specs.Frames.{Begins}
use Rattle.bundle_reader.specs.Next.{IsCut, IsBad}
use Rattle.bundle_reader.specs.declared.bundle.Bundle.{Bundle}
use Rattle.bundle_reader.specs.declared.bundle.BundleError.{BundleError}
use Rattle.bundle_reader.specs.declared.bundle.BundleError.TheVariants.{Cut, BadFrame, BadOrder, Memory}
use Rattle.bundle_reader.specs.declared.reading.Reading.{Reading}
use Rattle.bundle_reader.specs.declared.reading.Misplaced.{Misplaced}
use Rattle.bundle_reader.specs.declared.reading.Misplaced.TheVariants as misplaced
use Rattle.bundle_reader.specs.Told.{BundleTold, ReadingTold, start, reading_told, bundle_told}
use Rattle.bundle_reader.specs.Order.{taken, stocks_known, is_whole}

-- From there on these frames stand one after another, each where it may stand.
abbrev pub Reads : ReadingTold → List ℕ → List Frame → ReadingTold → List ℕ → Type 0
Reads r bytes [] last rest = (r ≡ last) × (bytes ≡ rest)
Reads r bytes (f ∷ fs) last rest =
    (next : ReadingTold) × (after : List ℕ) × Begins (stocks_known r) bytes f after × (taken r f ≡ Some next) × Reads next after fs last rest

-- So far a bundle is read, and this rest stands behind.
pub record Reached (bytes : List ℕ) (r : ReadingTold) (rest : List ℕ) : Type 0 where
  pub frames : List Frame
  pub reads : Reads start bytes frames r rest

-- A bundle isn't read to its end, and the rest begins with no whole frame.
pub record StopsCut (bytes : List ℕ) (left : ℕ) : Type 0 where
  pub r : ReadingTold
  pub rest : List ℕ
  pub reached : Reached bytes r rest
  pub goes_on : is_whole r ≡ false
  pub cut : IsCut rest
  pub left_is : left ≡ length rest

-- what stands at this offset is no frame
pub record StopsBad (bytes : List ℕ) (offset : ℕ) : Type 0 where
  pub r : ReadingTold
  pub rest : List ℕ
  pub reached : Reached bytes r rest
  pub goes_on : is_whole r ≡ false
  pub bad : IsBad (stocks_known r) rest
  pub at : offset + length rest ≡ length bytes

-- a frame may not stand where it stands, or bytes follow the end
abbrev pub IsMisplaced : ReadingTold → List ℕ → Type 0
IsMisplaced r rest =
    ((is_whole r ≡ true) × (rest ≢ []))
    ⊎ ((is_whole r ≡ false) × (f : Frame) × (after : List ℕ) × Begins (stocks_known r) rest f after × (taken r f ≡ None))

pub record StopsMisplaced (bytes : List ℕ) (offset : ℕ) : Type 0 where
  pub r : ReadingTold
  pub rest : List ℕ
  pub reached : Reached bytes r rest
  pub misplaced : IsMisplaced r rest
  pub at : offset + length rest ≡ length bytes

-- Why reading stops: the first reason in the order of the bytes. Want of memory has no cause.
abbrev pub Stops : List ℕ → BundleError → Type 0
Stops bytes (Cut left) = StopsCut bytes left
Stops bytes (BadFrame offset) = StopsBad bytes offset
Stops bytes (BadOrder offset) = StopsMisplaced bytes offset
Stops bytes Memory = Unit {0}

-- this bundle was read, unless memory ran out
abbrev pub Gives : BundleTold → Result Bundle BundleError → Type 0
Gives b (Ok read) = bundle_told read ≡ b
Gives b (Err e) = e ≡ Memory

-- a frame was taken so, unless memory ran out
abbrev pub Takes : Option ReadingTold → Result Reading Misplaced → Type 0
Takes after (Ok r) = after ≡ Some (reading_told r)
Takes after (Err misplaced.Order) = after ≡ None
Takes after (Err misplaced.Memory) = Unit {0}

-- a part of a closing was put so, unless memory ran out
abbrev pub Puts : Option Closing → Closing → Result Unit Misplaced → Type 0
Puts after new (Ok u) = after ≡ Some new
Puts after new (Err misplaced.Order) = after ≡ None
Puts after new (Err misplaced.Memory) = Unit {0}

-- one frame more was read, or why not
abbrev pub More : ReadingTold → List ℕ → ℕ → Result (Reading × Bor (List ℕ)) BundleError → Type 0
More r rest offset (Ok p) = (f : Frame) × Begins (stocks_known r) rest f p.1.now × (taken r f ≡ Some (reading_told p.0))
More r rest offset (Err (Cut left)) = (left ≡ length rest) × IsCut rest
More r rest offset (Err (BadFrame at)) = (at ≡ offset) × IsBad (stocks_known r) rest
More r rest offset (Err (BadOrder at)) = (at ≡ offset) × (f : Frame) × (after : List ℕ) × Begins (stocks_known r) rest f after × (taken r f ≡ None)
More r rest offset (Err Memory) = Unit {0}

-- where this frame and this rest stand there, they were read, unless memory ran out
abbrev pub Only : ReadingTold → Frame → List ℕ → Result (Reading × Bor (List ℕ)) BundleError → Type 0
Only r f after (Ok p) = (taken r f ≡ Some (reading_told p.0)) × (p.1.now ≡ after)
Only r f after (Err (Cut left)) = ⊥
Only r f after (Err (BadFrame at)) = ⊥
Only r f after (Err (BadOrder at)) = taken r f ≡ None
Only r f after (Err Memory) = Unit {0}
