use Rattle.std.proofs.Common.{rules}
use Rattle.audit_desk.proofs.gathered.append_entry.Goals as goal

pub returns-in-Edit : goal.returns-in-Edit
returns-in-Edit c = search rules
