use Rattle.branch_tests.proofs.branch_examples.bundle.Goals as goal

pub write_branch-requires-clause-ran : goal.write_branch-requires-clause-ran
write_branch-requires-clause-ran g c = c.outcomes_are_a_run.ensures.framed c.args.course.now c.args.keep c.args.ran.now.items c.requires.framed c.requires.ran
