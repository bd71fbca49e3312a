-- The ranges of what a study is simulated with.
use Rattle.std.specs.Prelude.{◌≤◌, ℕ}
use Rattle.command_words.specs.declared.asked.Task.{Task}
use Rattle.command_words.specs.declared.asked.Task.TheVariants.{Run, Check, Table, Rewind, Cross, Session}

-- a study's stride: a copy is kept each so many events
abbrev pub IsStride : ℕ → Type 0
IsStride stride = (100 ≤ stride) × (stride ≤ 1000000)

-- how many grid places keep states for a task: none where it goes on from no state on the way
abbrev pub places_in : Task → ℕ
places_in Run = 0
places_in Check = 0
places_in Table = 0
places_in (Rewind marks places) = places
places_in (Cross crossing places) = places
places_in (Session script places) = places
