-- The ranges of a maker's levels.
use Rattle.agent_shell.specs.declared.setting.Levels.{Levels}
use Rattle.agent_shell.specs.Parameters.{IsSize, IsDistance, IsHour}

pub record IsLevels (m : Levels) : Type 0 where
  pub size : IsSize m.size
  pub half : IsDistance m.half
  pub step : IsDistance m.step
  pub pause : IsHour m.pause
