use Rattle.market_floor.proofs.Sounds.{floor-later}
use Rattle.market_floor.proofs.laws.floors_stay_sound.Goals as goal

pub returns : goal.returns
returns c = λ n m f le h. floor-later c.traders_stay_in_range.ensures.later n m f le h
