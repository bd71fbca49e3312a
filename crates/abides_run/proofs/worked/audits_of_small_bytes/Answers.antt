use Rattle.std.proofs.Common.{refl}
use Rattle.clap.proofs.OnLiterals.{clap_on_literals}
use Rattle.wire_fields.specs.Kinds.{is_good}
use Rattle.wire_fields.specs.Values.{is_in_range}
use Rattle.bundle_reader.specs.Order.{taken}
use Rattle.bundle_reader.specs.FramesRead.{frame_in}
use Rattle.bundle_reader.specs.Messages.{message_in}
use Rattle.bundle_reader.specs.Reading.{reading_of}
use Rattle.audit_desk.specs.Audited.{audit_of}
use Rattle.command_words.specs.Line.{rows_for}
use Rattle.abides_run.proofs.worked.audits_of_small_bytes.Goals as goal

pub returns : goal.returns
unfolding clap_on_literals rows_for reading_of frame_in message_in taken is_in_range is_good audit_of
returns c = record {
  asked = refl;
  missing = refl;
  fetched = refl;
  long = refl;
  empty = refl;
  unknown = refl;
  place = refl;
  passed = refl;
}
