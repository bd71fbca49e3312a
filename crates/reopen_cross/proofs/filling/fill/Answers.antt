use Rattle.std.proofs.Common.{◌≡◌, ◌≤◌, ◌++◌, ◌+◌, ◌∙◌, ap, sym, subst, List, length, get_or, filter, arith, rules, OnOk}
use Rattle.std.specs.List.Sorted.{IsPermutation, IsSortedBy}
use Rattle.std.proofs.lemmas.List.Elements.{All-weaker, recursion_from_All}
use Rattle.std.proofs.lemmas.List.Sorted.{length_permutation}
use Rattle.std.proofs.lemmas.Fn.{always_returns_same}
use Rattle.reopen_cross.specs.declared.cross.Interest.{Interest}
use Rattle.reopen_cross.specs.Parts.{takes_part}
use Rattle.reopen_cross.specs.declared.cross.Part.{Part}
use Rattle.reopen_cross.specs.Places.{filled_along, ordinal}
use Rattle.market_types.specs.Limits.{highest_price}
use Rattle.reopen_cross.proofs.Filled.{all-filter, rising-filter, shorter-filter}
use Rattle.reopen_cross.proofs.Places.{before, filled-along, not-before, sort-of}
use Rattle.reopen_cross.proofs.filling.fill.Goals as goal

pub returns : goal.returns
returns c =
    let list = c.args.list.now in
    let side = c.args.side in
    let test = takes_part side c.args.cross.now.price in
    let os = filter test list in
    let v = c.sort_unstable_by_key.new.self.items in
    let moved : IsPermutation os v = subst (λ (w : List Interest). IsPermutation w v) c.in_ok-waiting.ensures c.sort_unstable_by_key.ensures.permutation in
    let sorted : IsSortedBy (before side) v = λ k d low high.
    not-before (ordinal side (get_or v (k + 1) d)) (get_or v (k + 1) d).reference (ordinal side (get_or v k d)) (get_or v k d).reference (c.sort_unstable_by_key.ensures.sorted (λ (o : Interest). (ordinal side o, o.reference)) (always_returns_same _ _ _ (λ a r g h. search rules)) k d low high) in
    let priced = all-filter (λ (o : Interest). o.price ≤ 4294967295) test list (recursion_from_All (λ (o : Interest). o.price ≤ 4294967295) list (All-weaker (λ (o : Interest). o.price ≤ highest_price) (λ (o : Interest). o.price ≤ 4294967295) (λ o h. omega (arith, h)) list c.requires.within)) in
    let short : length v ≤ length list = omega (arith, length_permutation os v moved, shorter-filter test list) in
    let same = filled-along (length list) side c.args.cross.now.shares os v short (sort-of side os v (rising-filter test list c.requires.rising) priced moved sorted) in
    subst (λ (p : List Part). OnOk c.fill_along.result (c.fill_along.new.parts.items ≡ c.args.parts.now.items ++ p)) (ap (filled_along c.args.cross.now.shares) c.deref.ensures.value ∙ sym same) c.fill_along.ensures
