use Rattle.std.proofs.Common.{◌≡◌, List, length, All, rules, subst, sym}
use Rattle.market_floor.specs.Party.{PartyState}
use Rattle.market_floor.specs.Floor.{FloorState, floor_at_opening, floor_of, parties_from}
use Rattle.market_floor.specs.Sound.{FitsFloor, IsSoundFloor, IsSoundParty}
use Rattle.market_floor.proofs.Opened.{opened-fits, opened-sound}
use Rattle.market_floor.proofs.floor.Floor.open.Goals as goal

pub returns-clause-sound : goal.returns-clause-sound
returns-clause-sound c =
    let o = c.args.o.now in
    let value : floor_of c.in_ok-exchange.exchange c.in-Ok.parties.items c.in-Ok-vec.offsets.items ≡ floor_at_opening o = search rules in
    let parties : All (IsSoundParty (length o.stocks) 0) (parties_from 1 o.traders) = subst (λ (ps : List PartyState). All (IsSoundParty (length o.stocks) 0) ps) c.in-Ok.ensures.value c.in-Ok.ensures.sound in
    subst (λ (f : FloorState). IsSoundFloor 0 f) (sym value) (opened-sound o c.requires parties)

pub returns-clause-fits : goal.returns-clause-fits
returns-clause-fits c =
    let o = c.args.o.now in
    let value : floor_of c.in_ok-exchange.exchange c.in-Ok.parties.items c.in-Ok-vec.offsets.items ≡ floor_at_opening o = search rules in
    subst (λ (f : FloorState). FitsFloor o f) (sym value) (opened-fits o c.requires)
