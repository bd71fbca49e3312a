use Rattle.audit_desk.proofs.AcceptedCourses.{accepted-course, accepted-named}
use Rattle.audit_desk.proofs.readable.accepted_studies_are_courses.Goals as goal

pub returns : goal.returns
returns g = record { course = accepted-course; named = accepted-named }
