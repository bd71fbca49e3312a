use Rattle.std.proofs.Common.{refl}
use Rattle.agent_shell.proofs.worked.replies.Goals as goal

pub returns : goal.returns
returns c = record {
  account = refl;
  lowered = refl;
  in_full = refl;
  removed = refl;
  canceled = refl;
  all_canceled = refl;
  rejected = refl;
  unknown_executed = refl;
  unknown_canceled = refl;
  unknown_rejected = refl;
}
