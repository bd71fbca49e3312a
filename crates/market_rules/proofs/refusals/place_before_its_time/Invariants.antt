use Rattle.std.proofs.Common.{◌≡◌, ℕ, suc, ◌<◌, ◌≤◌, get_or}
use Rattle.market_rules.specs.declared.changes.Dated.{Dated}
use Rattle.market_rules.proofs.refusals.place_before_its_time.Given as goal

abbrev pub invariant-loop-i : goal.invariant-loop-i
invariant-loop-i l = (d : Dated) → (j n : ℕ) → suc j ≡ n → n < l.i → (get_or l.list j d).time ≤ (get_or l.list n d).time
