use Rattle.bundle_reader.specs.Reading.{reading_of}
use Rattle.abides_run.specs.Ahead.{settled}
use Rattle.abides_run.specs.Verdict.{verdict_on_read}
use Rattle.abides_run.proofs.Come.{read_asked}
use Rattle.abides_run.proofs.find.find_bundle.Goals as goal

pub returns-in-Ok-clause-searched : goal.returns-in-Ok-clause-searched
returns-in-Ok-clause-searched g c =
    c.in-Ok.ensures (λ files bytes. settled (verdict_on_read (reading_of bytes))) (λ files bytes. read_asked (reading_of bytes))

pub returns-in-Err-clause-searched : goal.returns-in-Err-clause-searched
returns-in-Err-clause-searched g c =
    c.in-Err.ensures (λ files bytes. settled (verdict_on_read (reading_of bytes))) (λ files bytes. read_asked (reading_of bytes))
