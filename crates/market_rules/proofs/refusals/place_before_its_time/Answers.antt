use Rattle.std.proofs.Common.{◌≡◌, suc, ◌-◌, false, leb, sym, arith, get_or, rules}
use Rattle.std.proofs.lemmas.List.{get_or_default}
use Rattle.std.proofs.lemmas.Bool.Decides.{nat_tests}
use Rattle.market_rules.specs.declared.changes.Dated.{Dated}
use Rattle.market_rules.proofs.Breaking.{first_break_none, first_break_here}
use Rattle.market_rules.proofs.Dates.{no_change}
use Rattle.market_rules.proofs.refusals.place_before_its_time.Goals as goal

pub returns : goal.returns
returns c =
    let xs = c.args.list.now in
    sym (first_break_none (λ (x y : Dated). leb x.time y.time) xs no_change (λ j n s h. grind (arith, nat_tests, c.loop-i.invariant no_change j n s (omega arith))))

pub returns-then-list-i : goal.returns-then-list-i
returns-then-list-i c =
    let xs = c.args.list.now in
    let after : suc (c.loop-i.i - 1) ≡ c.loop-i.i = omega arith in
    let now : c.index-list-i.result ≡ get_or xs c.loop-i.i c.index-list-i.result = search rules in
    let before : c.index-list-i-in-loop-i.result ≡ get_or xs (c.loop-i.i - 1) c.index-list-i-in-loop-i.result = search rules in
    let now' = get_or_default xs c.loop-i.i c.index-list-i.result no_change (omega arith) in
    let before' = get_or_default xs (c.loop-i.i - 1) c.index-list-i-in-loop-i.result no_change (omega arith) in
    let off : leb (get_or xs (c.loop-i.i - 1) no_change).time (get_or xs c.loop-i.i no_change).time ≡ false = grind (arith, nat_tests) in
    sym (first_break_here (λ (x y : Dated). leb x.time y.time) xs no_change (c.loop-i.i - 1) c.loop-i.i after (omega arith) (λ j n s h. grind (arith, nat_tests, c.loop-i.invariant no_change j n s h)) off)
