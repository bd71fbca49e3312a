use Rattle.std.proofs.Common.{◌≡◌, ◌+◌, ℕ, List, [], length, get_or, sym, ap, ◌∙◌, arith}
use Rattle.std.proofs.lemmas.List.{get_or_read, length_push}
use Rattle.branch_tree.specs.declared.branch.Branch.{Branch}
use Rattle.branch_tree.specs.declared.segment.Segment.{Segment}
use Rattle.branch_tree.specs.declared.stop.Stop.{Stop}
use Rattle.branch_tree.specs.Plan.{Plan, no_branch, branch_at, stop_at}
use Rattle.branch_tree.specs.Segments.{cuts_of, count_before, counted, numbers_of}
use Rattle.branch_tree.proofs.CutLemmas.{count-few, cuts-length}
use Rattle.branch_tree.proofs.PartLemmas.{length-before}
use Rattle.branch_tree.proofs.LayLemmas.{each_push, segments-more}
use Rattle.branch_tree.proofs.lay.all_segments.Goals as goal

pub overflow_cast-first : goal.overflow_cast-first
overflow_cast-first c =
    let bs = c.args.branches.now in
    let size = ap (λ (xs : List Segment). length xs) c.loop-i.invariant.segments in
    omega (arith, length-before bs c.args.limit c.loop-i.i, count-few bs c.loop-i.i c.requires.few, c.loop-i.segments.ok.0)

pub add_parts-requires : goal.add_parts-requires
add_parts-requires c =
    let bs = c.args.branches.now in
    let size = ap (λ (xs : List Segment). length xs) c.loop-i.invariant.segments in
    let cuts = ap (λ (xs : List Stop). length xs) (c.as_slice-in-loop-i.ensures.value ∙ c.in_ok-stops.ensures) in
    omega (arith, length-before bs c.args.limit c.loop-i.i, count-few bs c.loop-i.i c.requires.few, cuts-length bs c.loop-i.i)

pub overflow_cast-len : goal.overflow_cast-len
overflow_cast-len c =
    let bs = c.args.branches.now in
    let cuts = ap (λ (xs : List Stop). length xs) c.in_ok-stops.ensures in
    omega (arith, cuts-length bs c.loop-i.i, c.in_ok-stops.stops.ok.0)

pub overflow_add-len : goal.overflow_add-len
overflow_add-len c =
    let bs = c.args.branches.now in
    let cuts = ap (λ (xs : List Stop). length xs) c.in_ok-stops.ensures in
    omega (arith, cuts-length bs c.loop-i.i, c.in_ok-stops.stops.ok.0)

pub count_from-requires : goal.count_from-requires
count_from-requires c =
    let bs = c.args.branches.now in
    let size = ap (λ (xs : List Segment). length xs) c.loop-i.invariant.segments in
    let cuts = ap (λ (xs : List Stop). length xs) c.in_ok-stops.ensures in
    omega (arith, length-before bs c.args.limit c.loop-i.i, count-few bs c.loop-i.i c.requires.few, cuts-length bs c.loop-i.i, c.loop-i.segments.ok.0, c.in_ok-stops.stops.ok.0)

pub loop-i-preserved : goal.loop-i-preserved
loop-i-preserved c =
    let bs = c.args.branches.now in
    let i = c.loop-i.i in
    let v = c.loop-i.invariant in
    let p : Plan = record { branches = bs; limit = c.args.limit } in
    let here : c.index-branches-i.result ≡ branch_at bs i = get_or_read bs i c.index-branches-i.result c.loop-i-test.true c.index-branches-i.is no_branch in
    let stop : (get_or bs i c.index-branches-i.result).stop ≡ stop_at bs i = ap (λ (x : Branch). x.stop) (sym c.index-branches-i.is ∙ here) in
    let size : length c.loop-i.segments.items ≡ count_before bs i = ap (λ (xs : List Segment). length xs) v.segments ∙ length-before bs c.args.limit i in
    let cuts : c.as_slice-in-loop-i.result.now ≡ cuts_of bs i = c.as_slice-in-loop-i.ensures.value ∙ c.in_ok-stops.ensures in
    let first : c.len-first.result ≡ count_before bs i = c.len-first.ensures ∙ c.loop-i.segments.ok.0 ∙ size in
    let width : c.len.result ≡ length (cuts_of bs i) = c.len.ensures ∙ c.in_ok-stops.stops.ok.0 ∙ ap (λ (xs : List Stop). length xs) c.in_ok-stops.ensures in
    let own : c.new.result ≡ numbers_of p i = c.new.ensures ∙ c.in_ok-own.ensures ∙ ap (λ (n : ℕ). counted n (c.len.result + 1)) first ∙ ap (λ (n : ℕ). counted (count_before bs i) (n + 1)) width in
    record {
      segments = c.in_ok-add_parts.ensures ∙ segments-more bs c.args.limit i (length c.loop-i.segments.items) c.loop-i.segments.items c.in_ok-parent.parent (get_or bs i c.index-branches-i.result).stop c.as_slice-in-loop-i.result.now v.segments size c.in_ok-parent.ensures stop cuts;
      count = ap (λ (xs : List (List ℕ)). length xs) c.in_ok-add.ensures ∙ omega (arith, length_push c.loop-i.numbers.items c.new.result, v.count);
      numbers = λ b l. ap (λ (xs : List (List ℕ)). get_or xs b []) c.in_ok-add.ensures ∙ each_push (numbers_of p) c.loop-i.numbers.items [] c.new.result i v.count v.numbers own b l;
    }

pub returns-clause-short : goal.returns-clause-short
returns-clause-short c =
    let bs = c.args.branches.now in
    let size = ap (λ (xs : List Segment). length xs) c.loop-i.invariant.segments in
    omega (arith, length-before bs c.args.limit c.loop-i.i, count-few bs c.loop-i.i c.requires.few)
