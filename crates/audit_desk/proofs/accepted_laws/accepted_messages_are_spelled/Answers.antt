use Rattle.audit_desk.proofs.AcceptedCourses.{accepted-spelled}
use Rattle.audit_desk.proofs.accepted_laws.accepted_messages_are_spelled.Goals as goal

pub returns : goal.returns
returns g t series s accepted = accepted-spelled t series s accepted
