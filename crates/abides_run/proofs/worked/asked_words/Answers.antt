use Rattle.std.proofs.Common.{refl}
use Rattle.clap.proofs.OnLiterals.{clap_on_literals}
use Rattle.command_words.specs.Line.{rows_for}
use Rattle.abides_run.proofs.worked.asked_words.Goals as goal

pub returns : goal.returns
unfolding clap_on_literals rows_for
returns c = record {
  run = refl;
  check = refl;
  nameless = refl;
  empty = refl;
  further = refl;
  other = refl;
  table = refl;
  rewind = refl;
  big = refl;
  cross = refl;
  big_words = refl;
  many_workers = refl;
}
