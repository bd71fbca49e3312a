use Rattle.std.proofs.Common.{Some}
use Rattle.abides_run.proofs.find.fetch_named.Goals as goal

pub returns-in-Ok : goal.returns-in-Ok
returns-in-Ok g c =
    λ next asked. rw c.in-Some.is (c.in-Ok.ensures (λ files bytes. next files (Some bytes)) (λ files bytes. asked files (Some bytes)))

pub returns-in-Err : goal.returns-in-Err
returns-in-Err g c =
    λ next asked. rw c.in-Some.is (c.in-Err.ensures (λ files bytes. next files (Some bytes)) (λ files bytes. asked files (Some bytes)))
