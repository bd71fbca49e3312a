use Rattle.std.proofs.Common.{◌≡◌, map, ap, ◌∙◌, arith}
use Rattle.std.proofs.Math.ListN.{length-set}
use Rattle.branch_deques.specs.Lanes.{fresh}
use Rattle.branch_deques.specs.Told.{LaneTold, fresh_end, round, own_lanes}
use Rattle.branch_deques.proofs.Rounds.{within, of_all, still_fresh, one_filled}
use Rattle.branch_deques.proofs.lanes.open_lanes.Goals as goal

pub loop-number-preserved : goal.loop-number-preserved
loop-number-preserved g c = let inv = c.loop-number.invariant in let lanes = c.loop-number.lanes.items in let n = c.loop-number.number in
    let b : LaneTold = record { own = c.behind-lanes.inside.own; others = c.in-Ok.others.items } in
    let low = c.loop-number-test.true in let all = c.len-number-end.ensures in let many = c.in_ok-lanes.ensures.count in let here = inv.count in
    let same = ap (λ (l : LaneTold). l.own) (c.behind-lanes.view_is ∙ c.index_mut.ensures.value) in record {
      count = length-set lanes n b ∙ inv.count;
      fresh = still_fresh lanes n b _ (omega arith) same inv.fresh;
      each = one_filled lanes n b _ (omega arith) same (c.in-Ok.ensures ∙ ap (λ l. map fresh_end (round n (own_lanes l))) c.as_slice.ensures.value) inv.each;
    }

pub returns-clause-opened : goal.returns-clause-opened
returns-clause-opened g c = let inv = c.loop-number.invariant in λ n lane e.
    let far = c.loop-number-test.false in let all = c.len-number-end.ensures in let many = c.in_ok-lanes.ensures.count in let here = inv.count in let low = within _ n lane e in
    (of_all (λ (l : LaneTold). l.own.view ≡ fresh) _ n lane inv.fresh e, inv.each n lane (omega arith) e)
