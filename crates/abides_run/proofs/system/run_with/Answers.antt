use Rattle.abides_run.proofs.system.run_with.Goals as goal

pub returns-clause-ended : goal.returns-clause-ended
returns-clause-ended g c =
    let answered = c.run-status.ensures.answered in
    let noted = c.run-status.ensures.noted in
    record {
      name = noted.0;
      noted = noted.2;
      refused = answered.refused;
      still = answered.out_still;
      write_fault = answered.write_fault;
      steady = answered.no_write_fault;
    }

pub returns-clause-asked : goal.returns-clause-asked
returns-clause-asked g c =
    let answered = c.run-status.ensures.answered in record { usage = answered.usage; not_asked = answered.not_asked }
