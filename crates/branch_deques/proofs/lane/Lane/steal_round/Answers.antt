use Rattle.std.proofs.Common.{◌≡◌, suc, take, drop, set, slice_index_or, ◌++◌, ◌∷◌, arith, sym, ap, ◌∙◌, length, ◌<◌}
use Rattle.std.proofs.lemmas.Grind.{common_steps}
use Rattle.branch_deques.specs.Told.{EndTold}
use Rattle.branch_deques.proofs.Stolen.{cut_at, set_cut, set_back}
use Rattle.branch_deques.proofs.lane.Lane.steal_round.Goals as goal

pub returns-in-Some-clause-taken : goal.returns-in-Some-clause-taken
returns-in-Some-clause-taken g c =
    let items = c.loop-other.other-items in let n = c.loop-other.other-index in
    let long = ap length c.loop-other.invariant.same in let low = c.loop-other-test.true in
    let lt : n < length items = omega arith in
    let from : EndTold = slice_index_or items n c.other-item.result in
    let after : take c.self.inside.others.len (set items n c.steal.new.self ++ drop (length (set items n c.steal.new.self)) c.self.inside.others.items) ≡ set items n c.steal.new.self = grind (arith, common_steps) in
    let new : c.steal.new.self ≡ record { lane = from.lane; view = c.steal.new.self.view } = λ j. record { lane = c.in-Some.ensures.same j; view = c.steal.new.self.view } in record {
      passed = take n items;
      from = from;
      others = drop (suc n) items;
      view = c.steal.new.self.view;
      was = sym (c.loop-other.invariant.same ∙ c.deref_mut-other-items.ensures.value ∙ ap (λ l. l.others) c.self.view_is) ∙ cut_at items n c.other-item.result lt;
      is = after ∙ set_cut items n c.steal.new.self lt ∙ ap (λ e. take n items ++ e ∷ drop (suc n) items) new;
      took = c.in-Some.ensures.taken;
    }

pub loop-other-preserved : goal.loop-other-preserved
loop-other-preserved g c = let told = c.in_default.ensures.taken in let items = c.loop-other.other-items in let n = c.loop-other.other-index in
    let long = ap length c.loop-other.invariant.same in let low = c.loop-other-test.true in
    let lt : n < length items = omega arith in
    let from : EndTold = slice_index_or items n c.other-item.result in
    let new : c.steal.new.self ≡ from = λ j. record { lane = c.in_default.ensures.same j; view = told j } in record {
      same = ap (set items n) new ∙ set_back items n c.other-item.result ∙ c.loop-other.invariant.same;
    }

pub returns-clause-taken : goal.returns-clause-taken
returns-clause-taken g c = let items = c.loop-other.other-items in
    let long = ap length c.loop-other.invariant.same in
    let after : take c.self.inside.others.len (items ++ drop (length items) c.self.inside.others.items) ≡ items = grind (arith, common_steps) in
    after ∙ c.loop-other.invariant.same ∙ c.deref_mut-other-items.ensures.value ∙ ap (λ l. l.others) c.self.view_is
