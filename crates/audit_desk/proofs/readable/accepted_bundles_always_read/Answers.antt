use Rattle.audit_desk.proofs.readable.accepted_bundles_always_read.Goals as goal

pub returns : goal.returns
returns g t series s accepted =
    g.bundles_always_read.ensures.read s.course (g.accepted_studies_are_courses.ensures.course t series s accepted)
    (g.accepted_messages_are_spelled.ensures t series s accepted) (g.accepted_studies_are_courses.ensures.named t series s accepted)
