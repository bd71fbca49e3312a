use Rattle.std.proofs.Common.{◌≤◌, All, List, length, sym, subst, rules}
use Rattle.std.specs.List.Sorted.{IsPermutation}
use Rattle.std.proofs.lemmas.List.Sorted.{IsNonDecreasingBy-from_sort_by_key}
use Rattle.reopen_cross.specs.declared.cross.Interest.{Interest}
use Rattle.reopen_cross.specs.Ladders.{AreOf, AreSums}
use Rattle.reopen_cross.proofs.Ladders.{few-of, small-of}
use Rattle.reopen_cross.proofs.ladder.Ladder.new.Goals as goal

pub sums_of-requires-clause-few : goal.sums_of-requires-clause-few
sums_of-requires-clause-few c =
    let orders = c.sort_unstable_by_key.new.self.items in
    let of : AreOf c.args.side c.args.list.now orders = subst (λ (w : List Interest). IsPermutation w orders) c.in_ok-orders.ensures c.sort_unstable_by_key.ensures.permutation in
    subst (λ (w : List Interest). length w ≤ 32768) (sym c.deref.ensures.value) (few-of c.args.side c.args.list.now orders c.requires.few of)

pub sums_of-requires-clause-small : goal.sums_of-requires-clause-small
sums_of-requires-clause-small c =
    let orders = c.sort_unstable_by_key.new.self.items in
    let of : AreOf c.args.side c.args.list.now orders = subst (λ (w : List Interest). IsPermutation w orders) c.in_ok-orders.ensures c.sort_unstable_by_key.ensures.permutation in
    subst (λ (w : List Interest). All (λ (o : Interest). o.left ≤ 999999) w) (sym c.deref.ensures.value) (small-of c.args.side c.args.list.now orders c.requires.small of)

pub invariant_of-result : goal.invariant_of-result
invariant_of-result c = record {
  rising = IsNonDecreasingBy-from_sort_by_key (λ (o : Interest). o.price) c.sort_unstable_by_key.new.self.items c.sort_unstable_by_key.ensures.sorted (λ a r q k. search rules);
  summed = subst (λ (w : List Interest). AreSums w c.in_ok-sums.sums.items) c.deref.ensures.value c.in_ok-sums.ensures;
}
