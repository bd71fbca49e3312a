use Rattle.audit_desk.proofs.reading.round_trip.Goals as goal

pub written-requires : goal.written-requires
written-requires g c = c.listed_runs_are_runs.ensures.framed _ _ _ _ c.requires.ran
