-- Runs of which something is kept.
use Rattle.kernel_core.specs.State.{State}
use Rattle.kernel_core.specs.Until.{Run}
use Rattle.kernel_copy.specs.declared.kept.Keep.{Keep}
use Rattle.kernel_copy.specs.declared.run.Ran.{Ran}
use Rattle.kernel_copy.specs.Kept.{KeptTold, kept_told, kept_as, kept_with}

-- A state, and what is kept of the entries of the run that led to it.
pub record RanTold : Type 0 where
  pub state : State
  pub kept : KeptTold

abbrev pub ran_told : Ran → RanTold
ran_told x = record { state = x.kernel; kept = kept_told x.kept }

-- a run of which this is kept
abbrev pub ran_as : Keep → Run → RanTold
ran_as keep r = record { state = r.state; kept = kept_as keep r.entries }

-- a run that went on, with no entry before, by this one
abbrev pub ran_with : RanTold → Run → RanTold
ran_with x r = record { state = r.state; kept = kept_with x.kept r.entries }
