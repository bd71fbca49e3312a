use Rattle.std.proofs.Common.{◌≡◌, ℕ, suc, ◌<◌, get_or}
use Rattle.market_rules.specs.declared.bands.Band.{Band}
use Rattle.market_rules.proofs.refusals.place_of_break.Given as goal

abbrev pub invariant-loop-i : goal.invariant-loop-i
invariant-loop-i l = (d : Band) → (j n : ℕ) → suc j ≡ n → n < l.i → (get_or l.bands j d).from < (get_or l.bands n d).from
