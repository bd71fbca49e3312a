use Rattle.std.proofs.Common.{◌≡◌, ◌+◌, All, length, length-append, ap, sym, subst, ◌∙◌}
use Rattle.std.proofs.lemmas.List.Elements.{All-push}
use Rattle.branch_deques.specs.Lanes.{fresh}
use Rattle.branch_deques.specs.Told.{LaneTold}
use Rattle.branch_deques.proofs.lanes.own_lanes.Goals as goal

pub loop-preserved : goal.loop-preserved
loop-preserved g c =
    let inv = c.loop.invariant in let more = c.in-Ok-keep.ensures in
    let IsFresh : LaneTold → Type 0 = λ lane. lane.own.view ≡ fresh in record {
      count = ap length more ∙ length-append _ _ ∙ ap (λ n. n + 1) inv.count;
      each = subst (All IsFresh) (sym more) (All-push IsFresh _ _ inv.each c.in-Ok.ensures);
    }
