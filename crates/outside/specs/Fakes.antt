use Rattle.std.specs.Prelude.{ℕ, ◌-◌, min, List, Bool, ◌==◌, ◌&&◌, nat_lt, Option, Some, None, length, if◌then◌else◌}
use Rattle.std.specs.List.{list_any}
use Rattle.outside.specs.Rose.{raised}

-- A library in memory: its files as pairs of a name and its bytes, the numbers of the calls that are to fail (the
-- first call is number 1), the calls that were made, and the faults that were counted.
pub record LibraryTold : Type 0 where
  pub files : List (List ℕ × List ℕ)
  pub failing : List ℕ
  pub calls : ℕ
  pub faults : ℕ

-- A sink in memory: the bytes that it took, the most that it takes in all and in a call, the numbers of the calls
-- that are to fail (the first call is number 1), the calls that were made, and the faults that were counted.
pub record SinkTold : Type 0 where
  pub bytes : List ℕ
  pub room : ℕ
  pub most : ℕ
  pub failing : List ℕ
  pub calls : ℕ
  pub faults : ℕ

-- The call with this number is to fail.
abbrev pub is_listed : List ℕ → ℕ → Bool
is_listed failing call = list_any (λ number. number == call) failing

-- How many bytes of a piece fit: no more than a call takes, and no more than there is room for.
abbrev pub fitting : SinkTold → List ℕ → ℕ
fitting sink piece = min (min (length piece) sink.most) (sink.room - length sink.bytes)

-- How many bytes of a piece the sink's next call takes; none where it fails, because it is to fail or because
-- nothing fits of a piece that is not empty.
abbrev pub accepted : SinkTold → List ℕ → Option ℕ
accepted sink piece =
    if is_listed sink.failing (raised sink.calls) then None
    else (if nat_lt 0 (length piece) && (fitting sink piece == 0) then None else Some (fitting sink piece))
