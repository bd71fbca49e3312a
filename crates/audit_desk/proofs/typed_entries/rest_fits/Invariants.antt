use Rattle.std.proofs.Common.{All, length}
use Rattle.audit_desk.specs.Typed.{IsTyped}
use Rattle.audit_desk.proofs.typed_entries.rest_fits.Given as goal

abbrev pub invariant-entries : goal.invariant-entries
invariant-entries l = All IsTyped l.walk → All IsTyped l.fn.walk

abbrev pub decreases-entries : goal.decreases-entries
decreases-entries l = length l.walk
