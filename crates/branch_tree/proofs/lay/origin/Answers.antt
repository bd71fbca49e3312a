use Rattle.std.proofs.Common.{◌≡◌, ◌+◌, ℕ, List, [], Some, length, get_or, ap, ◌∙◌, arith}
use Rattle.std.proofs.lemmas.List.{get_or_read}
use Rattle.branch_tree.specs.declared.branch.Branch.{Branch}
use Rattle.branch_tree.specs.declared.stop.Stop.{Stop}
use Rattle.branch_tree.specs.Plan.{Plan, no_branch, branch_at, parent_at, stop_at}
use Rattle.branch_tree.specs.Segments.{cuts_of, count_before, place_among, numbers_of}
use Rattle.branch_tree.proofs.LayLemmas.{fork-number, length-counted}
use Rattle.branch_tree.proofs.lay.origin.Goals as goal

pub bounds-as_slice-place : goal.bounds-as_slice-place
bounds-as_slice-place c =
    let bs = c.args.branches.now in
    let b = c.args.branch in
    let p : Plan = record { branches = bs; limit = c.args.limit } in
    let here : c.index-branches-from.result ≡ branch_at bs b = get_or_read bs c.from.result c.index-branches-from.result (omega arith) c.index-branches-from.is no_branch ∙ ap (λ (i : ℕ). branch_at bs i) c.from.ensures in
    let parent : c.from-2.result ≡ parent_at bs b = c.from-2.ensures ∙ ap (λ (x : Branch). x.parent) here in
    let less = c.requires.tree.parents b (omega arith) c.requires.exists in
    let numbers : c.as_slice-2.result.now ≡ numbers_of p (parent_at bs b) =
    c.as_slice-2.ensures ∙ get_or_read c.args.numbers.now c.from-2.result c.index-numbers-from.result (omega arith) c.index-numbers-from.is []
    ∙ ap (λ (i : ℕ). get_or c.args.numbers.now i []) parent ∙ c.requires.before (parent_at bs b) (omega arith) in
    let size = ap (λ (xs : List ℕ). length xs) numbers in
    let counted = length-counted (count_before bs (parent_at bs b)) (length (cuts_of bs (parent_at bs b)) + 1) in
    let cuts : c.as_slice.result.now ≡ cuts_of bs (parent_at bs b) = c.as_slice.ensures.value ∙ c.in_ok-cuts.ensures ∙ ap (λ (x : Branch). cuts_of bs x.parent) here in
    let width = ap (λ (xs : List Stop). length xs) cuts in
    omega (arith, c.place_of-place.ensures.within)

pub returns : goal.returns
returns c =
    let bs = c.args.branches.now in
    let b = c.args.branch in
    let p : Plan = record { branches = bs; limit = c.args.limit } in
    let here : c.index-branches-from.result ≡ branch_at bs b = get_or_read bs c.from.result c.index-branches-from.result (omega arith) c.index-branches-from.is no_branch ∙ ap (λ (i : ℕ). branch_at bs i) c.from.ensures in
    let parent : c.from-2.result ≡ parent_at bs b = c.from-2.ensures ∙ ap (λ (x : Branch). x.parent) here in
    let less = c.requires.tree.parents b (omega arith) c.requires.exists in
    let numbers : c.as_slice-2.result.now ≡ numbers_of p (parent_at bs b) =
    c.as_slice-2.ensures ∙ get_or_read c.args.numbers.now c.from-2.result c.index-numbers-from.result (omega arith) c.index-numbers-from.is []
    ∙ ap (λ (i : ℕ). get_or c.args.numbers.now i []) parent ∙ c.requires.before (parent_at bs b) (omega arith) in
    let cuts : c.as_slice.result.now ≡ cuts_of bs (parent_at bs b) = c.as_slice.ensures.value ∙ c.in_ok-cuts.ensures ∙ ap (λ (x : Branch). cuts_of bs x.parent) here in
    let place : c.place_of-place.result ≡ place_among (stop_at bs b) (cuts_of bs (parent_at bs b)) =
    c.place_of-place.ensures.value ∙ ap (λ (x : Branch). place_among x.stop c.as_slice.result.now) here ∙ ap (λ (xs : List Stop). place_among (stop_at bs b) xs) cuts in
    ap (λ (xs : List ℕ). Some (get_or xs c.place_of-place.result 0)) numbers
    ∙ fork-number bs c.args.limit b c.place_of-place.result c.requires.tree (omega arith) c.requires.exists place
