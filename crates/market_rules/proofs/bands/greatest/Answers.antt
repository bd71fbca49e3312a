use Rattle.std.proofs.Common.{◌≡◌, ◌-◌, ◌%◌, get_or, rules}
use Rattle.market_rules.specs.Nearest.{IsGreatest}
use Rattle.market_rules.proofs.Tables.{table, greatest_here, greatest_is, no_band}
use Rattle.market_rules.proofs.bands.greatest.Goals as goal

pub returns : goal.returns
returns c =
    let bs = c.args.bands.now in
    let e : c.from.result ≡ (get_or bs c.place_of.result no_band).tick = search rules in
    let g : IsGreatest bs c.args.price (c.args.price - c.args.price % c.from.result) =
    greatest_here bs no_band c.place_of.result c.args.price c.from.result (table bs no_band c.requires)
    (record { within = c.place_of.ensures.within; starts = c.place_of.ensures.starts no_band; later = c.place_of.ensures.later no_band }) e in
    record { extremum = g; value = greatest_is bs c.args.price (c.args.price - c.args.price % c.from.result) g }
