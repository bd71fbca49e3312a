use Rattle.std.proofs.Common.{sym, subst}
use Rattle.kernel_copy.specs.Courses.{CourseTold}
use Rattle.market_laws.specs.Texts.{AreMessagesSpelled}
use Rattle.audit_desk.proofs.accepted.accepted_round_trip.Goals as goal

pub round_trip-requires-clause-spelled : goal.round_trip-requires-clause-spelled
round_trip-requires-clause-spelled g c =
    subst (λ (k : CourseTold). AreMessagesSpelled k) (sym c.deref.ensures) (c.accepted_messages_are_spelled.ensures _ _ _ c.requires.accepted)
