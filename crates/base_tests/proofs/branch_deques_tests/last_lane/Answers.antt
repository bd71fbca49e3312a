use Rattle.std.proofs.Common.{◌≡◌, All, Option, Some, IfSome}
use Rattle.std.proofs.lemmas.List.Elements.{All-pop}
use Rattle.branch_deques.specs.Lanes.{fresh}
use Rattle.branch_deques.specs.declared.lane.Lane.{Lane}
use Rattle.base_tests.proofs.branch_deques_tests.last_lane.Goals as goal

-- what holds of the value, if there is one, holds of the value
given : {X : Type 0} (P : X → Type 0) (r : Option X) (x : X) → r ≡ Some x → IfSome r P → P x
given P r x e = rw e (λ h. h)

pub returns-clause-fresh : goal.returns-clause-fresh
returns-clause-fresh g c =
    let P : Lane g.row.B.Denot → Type 0 = λ lane. lane.own.view ≡ fresh in
    given P c.pop.result c.expect.result c.expect.ensures (All-pop P c.args.lanes.now.items c.pop.new.self.items c.pop.result c.pop.ensures.items c.requires).1

pub returns-clause-rest : goal.returns-clause-rest
returns-clause-rest g c =
    let P : Lane g.row.B.Denot → Type 0 = λ lane. lane.own.view ≡ fresh in
    (All-pop P c.args.lanes.now.items c.pop.new.self.items c.pop.result c.pop.ensures.items c.requires).0
