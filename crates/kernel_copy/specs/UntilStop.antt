-- A run to a stop.
use Rattle.std.specs.Prelude.{ℕ, min}
use Rattle.branch_tree.specs.declared.stop.Stop.{Stop}
use Rattle.branch_tree.specs.declared.stop.Stop.TheVariants.{At, When}
use Rattle.market_floor.specs.declared.opening.Opening.{Opening}
use Rattle.kernel_core.specs.Until.{Run, until}
use Rattle.kernel_core.specs.Due.{until_time}

-- on until so many events stand, or until no message waits that is due at or before a time, or until the state is ended
abbrev pub until_stop : Opening → Stop → Run → Run
until_stop o (At n) r = until o n r
until_stop o (When w) r = until_time o w o.limit r

-- on to a stop, and to no more than so many events
abbrev pub until_part : Opening → Stop → ℕ → Run → Run
until_part o (At n) most r = until o (min n most) r
until_part o (When w) most r = until_time o w most r
