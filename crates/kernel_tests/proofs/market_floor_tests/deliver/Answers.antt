use Rattle.std.proofs.Common.{arith}
use Rattle.kernel_tests.proofs.market_floor_tests.deliver.Goals as goal

pub deliver-answer-requires-clause-sound : goal.deliver-answer-requires-clause-sound
deliver-answer-requires-clause-sound g c = c.floors_stay_sound.ensures c.args.events 1000000 c.args.floor.now (omega (arith, c.requires.few)) c.requires.sound

pub returns-clause-sound : goal.returns-clause-sound
returns-clause-sound g c = c.deliver-answer.ensures.sound c.args.events c.requires.sound
