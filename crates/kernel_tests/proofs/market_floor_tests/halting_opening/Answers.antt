use Rattle.std.proofs.Common.{◌≡◌, rules, subst, sym}
use Rattle.market_floor.specs.declared.opening.Opening.{Opening}
use Rattle.market_floor.specs.Opening.{IsOpening}
use Rattle.market_floor.specs.Worked.{halting}
use Rattle.market_floor.proofs.Halting.{halting-opens}
use Rattle.kernel_tests.proofs.market_floor_tests.halting_opening.Goals as goal

pub returns-clause-opening : goal.returns-clause-opening
returns-clause-opening g c =
    let value : record c.in-Ok-opening.o { dated = c.halts.result } ≡ halting = search rules in
    subst (λ (o : Opening). IsOpening o) (sym value) (halting-opens c.markets_are_openings.ensures)
