use Rattle.std.proofs.Common.{arith}
use Rattle.std.proofs.lemmas.Grind.{common_steps}
use Rattle.std.proofs.lemmas.List.{length-set}
use Rattle.market_floor.proofs.Sounds.{shifted-sound}
use Rattle.market_floor.proofs.floor.Floor.shift.Goals as goal

pub returns-clause-sound : goal.returns-clause-sound
returns-clause-sound c =
    let i = c.self.inside in
    λ n h. shifted-sound n c.args.self.now i.exchange i.parties.items i.offsets.items _ c.self.view_is (length-set i.offsets.items c.from.result _) h

pub returns-clause-floor : goal.returns-clause-floor
returns-clause-floor c = grind (arith, common_steps)
