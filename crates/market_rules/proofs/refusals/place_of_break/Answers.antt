use Rattle.std.proofs.Common.{◌≡◌, suc, ◌-◌, false, ltb, sym, arith, get_or}
use Rattle.std.proofs.lemmas.Bool.Decides.{nat_tests}
use Rattle.market_rules.specs.declared.bands.Band.{Band}
use Rattle.market_rules.proofs.Breaking.{first_break_none, first_break_here}
use Rattle.market_rules.proofs.Tables.{no_band}
use Rattle.market_rules.proofs.refusals.place_of_break.Goals as goal

pub returns : goal.returns
returns c =
    let xs = c.args.bands.now in
    sym (first_break_none (λ (x y : Band). ltb x.from y.from) xs no_band (λ j n s h. grind (arith, nat_tests, c.loop-i.invariant no_band j n s (omega arith))))

pub returns-then-bands-i : goal.returns-then-bands-i
returns-then-bands-i c =
    let xs = c.args.bands.now in
    let after : suc (c.loop-i.i - 1) ≡ c.loop-i.i = omega arith in
    let off : ltb (get_or xs (c.loop-i.i - 1) no_band).from (get_or xs c.loop-i.i no_band).from ≡ false = grind (arith, nat_tests) in
    sym (first_break_here (λ (x y : Band). ltb x.from y.from) xs no_band (c.loop-i.i - 1) c.loop-i.i after (omega arith) (λ j n s h. grind (arith, nat_tests, c.loop-i.invariant no_band j n s h)) off)
