use Rattle.std.proofs.Common.{◌∙◌, length}
use Rattle.wire_fields.proofs.Digits.{number_bytes-cut}
use Rattle.wire_fields.proofs.writing.put_number.Goals as goal

pub returns : goal.returns
returns c = c.copy_from_slice.ensures.after ∙ number_bytes-cut (length c.args.out.now) c.to_be_bytes.result c.args.number c.requires c.to_be_bytes.ensures
