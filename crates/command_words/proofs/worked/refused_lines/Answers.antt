use Rattle.std.proofs.Common.{refl}
use Rattle.clap.proofs.OnLiterals.{clap_on_literals}
use Rattle.command_words.specs.Line.{rows_for}
use Rattle.command_words.proofs.worked.refused_lines.Goals as goal

pub returns : goal.returns
unfolding clap_on_literals rows_for
returns c = record {
  no_words = refl;
  no_study = refl;
  empty_study = refl;
  further_word = refl;
  unknown_command = refl;
  help = refl;
  unknown_option = refl;
  no_workers = refl;
  many_workers = refl;
  five_digits = refl;
  many_places = refl;
  twice = refl;
  no_marks = refl;
  no_event = refl;
  eight_digits = refl;
  no_file = refl;
  empty_file = refl;
  no_mark = refl;
  second_file = refl;
  empty_bundle = refl;
  second_bundle = refl;
  places_of_an_audit = refl;
  no_script = refl;
  empty_script = refl;
  second_script = refl;
  large_number = refl;
}
