-- Which trees stay accepted: what is left of one without its last branch, and one with other edits.
use Rattle.std.proofs.Common.{◌≡◌, ℕ, ◌+◌, ◌*◌, ◌<◌, ◌≤◌, ltb, leb, Bool, List, [], ◌∷◌, ◌++◌, Option, Some, None, option_map, length, get_or, map, set, refl, sym, ap, ◌∙◌, arith, suc, zero, ◌&&◌, ◌||◌, inl, inr}
use Rattle.std.specs.Prelude.{if◌then◌else◌, nat_lt}
use Rattle.std.specs.List.{list_any}
use Rattle.std.proofs.lemmas.Bool.{cases_eq, le-leb, leb-true}
use Rattle.std.proofs.lemmas.Nat.{mul-le}
use Rattle.std.proofs.lemmas.List.{get_or_append_left, length_push, length-map, map-append, map-set, set-get_or}
use Rattle.market_rules.specs.declared.edit.Edit.{Edit}
use Rattle.branch_tree.specs.declared.branch.Branch.{Branch}
use Rattle.branch_tree.specs.declared.stop.Stop.{Stop}
use Rattle.branch_tree.specs.declared.error.PlanError.{PlanError}
use Rattle.branch_tree.specs.declared.error.PlanError.TheVariants.{ParentNotBefore, StopOutOfRange, TooManyBranches, NameTwice, TooMuchWork, StopsMixed}
use Rattle.branch_tree.specs.Stops.{is_within, no_earlier}
use Rattle.branch_tree.specs.Plan.{no_branch, branch_at, parent_at, stop_at}
use Rattle.branch_tree.specs.Tree.{IsRooted, late_from, late_parent, is_in_range, out_from, out_of_range, same_name, repeated_from, repeated_name, mixes, mixed_from, mixed_stop, earlier_refusal, too_many, too_much, plan_refusal}
use Rattle.branch_tree.proofs.TreeLemmas.{tree_from, late_passed as passed, none_first, none_mapped, few_passed, mixed_passed as unmet}
use Rattle.session_desk.specs.TreeActs.{branch_with}

-- Of branches that aren't refused none is refused for any cause.
pub record Parts (bs : List Branch) (limit : ℕ) : Type 0 where
  pub late : late_parent bs ≡ None
  pub range : out_of_range limit bs ≡ None
  pub many : too_many (length bs) ≡ None
  pub names : repeated_name bs ≡ None
  pub much : too_much (length bs) limit ≡ None
  pub kinds : mixed_stop bs ≡ None

pub parts-of : (bs : List Branch) (limit : ℕ) → plan_refusal bs limit ≡ None → Parts bs limit
parts-of bs limit h =
    let e = option_map StopsMixed (mixed_stop bs) in
    let d = earlier_refusal (too_much (length bs) limit) e in
    let c = earlier_refusal (option_map NameTwice (repeated_name bs)) d in
    let b = earlier_refusal (too_many (length bs)) c in
    let a = earlier_refusal (option_map StopOutOfRange (out_of_range limit bs)) b in
    let first = none_first (option_map ParentNotBefore (late_parent bs)) a h in
    let second = none_first (option_map StopOutOfRange (out_of_range limit bs)) b first.1 in
    let third = none_first (too_many (length bs)) c second.1 in
    let fourth = none_first (option_map NameTwice (repeated_name bs)) d third.1 in
    let fifth = none_first (too_much (length bs) limit) e fourth.1 in
    record {
      late = none_mapped ParentNotBefore (late_parent bs) first.0;
      range = none_mapped StopOutOfRange (out_of_range limit bs) second.0;
      many = third.0;
      names = none_mapped NameTwice (repeated_name bs) fourth.0;
      much = fifth.0;
      kinds = none_mapped StopsMixed (mixed_stop bs) fifth.1;
    }

all_none : (a b : Option ℕ) (c : Option PlanError) (d : Option ℕ) (e : Option PlanError) (f : Option ℕ) → a ≡ None → b ≡ None → c ≡ None → d ≡ None → e ≡ None → f ≡ None
    → earlier_refusal (option_map ParentNotBefore a) (earlier_refusal (option_map StopOutOfRange b) (earlier_refusal c (earlier_refusal (option_map NameTwice d) (earlier_refusal e (option_map StopsMixed f))))) ≡ None
all_none a b c d e f p q r s t u = rw (p, q, r, s, t, u) refl

pub from-parts : (bs : List Branch) (limit : ℕ) → Parts bs limit → plan_refusal bs limit ≡ None
from-parts bs limit h = all_none (late_parent bs) (out_of_range limit bs) (too_many (length bs)) (repeated_name bs) (too_much (length bs) limit) (mixed_stop bs) h.late h.range h.many h.names h.much h.kinds

-- without the last branch each cause stays away
late-less : (k : ℕ) (bs : List Branch) (b : Branch) → late_from k (bs ++ b ∷ []) ≡ None → late_from k bs ≡ None
late-less k [] b h = refl
late-less k (x ∷ xs) b h =
    let p = passed (ltb x.parent k) (late_from (k + 1) (xs ++ b ∷ [])) k h in
    ap (λ (t : Bool). if t then late_from (k + 1) xs else Some k) p.0 ∙ late-less (k + 1) xs b p.1

parents-less : (bs : List Branch) (b : Branch) → late_parent (bs ++ b ∷ []) ≡ None → late_parent bs ≡ None
parents-less [] b h = refl
parents-less (root ∷ bs) b h = late-less 1 bs b h

range-less : (limit : ℕ) (all : List Branch) (k : ℕ) (bs : List Branch) (b : Branch) → out_from limit all k (bs ++ b ∷ []) ≡ None → out_from limit all k bs ≡ None
range-less limit all k [] b h = refl
range-less limit all k (x ∷ xs) b h =
    let p = passed (is_in_range limit all x) (out_from limit all (k + 1) (xs ++ b ∷ [])) k h in
    ap (λ (t : Bool). if t then out_from limit all (k + 1) xs else Some k) p.0 ∙ range-less limit all (k + 1) xs b p.1

names-less : (before : List Branch) (k : ℕ) (bs : List Branch) (b : Branch) → repeated_from before k (bs ++ b ∷ []) ≡ None → repeated_from before k bs ≡ None
names-less before k [] b h = refl
names-less before k (x ∷ xs) b h =
    let p = unmet (list_any (λ (a : Branch). same_name a x) before) (repeated_from (before ++ x ∷ []) (k + 1) (xs ++ b ∷ [])) k h in
    ap (λ (t : Bool). if t then Some k else repeated_from (before ++ x ∷ []) (k + 1) xs) p.0 ∙ names-less (before ++ x ∷ []) (k + 1) xs b p.1

kinds-less : (before : List Branch) (k : ℕ) (bs : List Branch) (b : Branch) → mixed_from before k (bs ++ b ∷ []) ≡ None → mixed_from before k bs ≡ None
kinds-less before k [] b h = refl
kinds-less before k (x ∷ xs) b h =
    let p = unmet (list_any (λ (a : Branch). mixes a x) before) (mixed_from (before ++ x ∷ []) (k + 1) (xs ++ b ∷ [])) k h in
    ap (λ (t : Bool). if t then Some k else mixed_from (before ++ x ∷ []) (k + 1) xs) p.0 ∙ kinds-less (before ++ x ∷ []) (k + 1) xs b p.1

mixed-less : (bs : List Branch) (b : Branch) → mixed_stop (bs ++ b ∷ []) ≡ None → mixed_stop bs ≡ None
mixed-less [] b h = refl
mixed-less (root ∷ bs) b h = kinds-less [] 1 bs b h

many-less : (n m : ℕ) → m ≤ n → too_many n ≡ None → too_many m ≡ None
many-less n m l h =
    let few = leb-true n 256 (few_passed (leb n 256) (TooManyBranches n) h) in
    ap (λ (t : Bool). if t then None else Some (TooManyBranches m)) (le-leb m 256 (omega (arith, few, l)))

much-less : (n m limit : ℕ) → m ≤ n → too_much n limit ≡ None → too_much m limit ≡ None
much-less n m limit l h =
    let few = leb-true (n * limit) 4000000 (few_passed (leb (n * limit) 4000000) (TooMuchWork n limit) h) in
    let less = mul-le m limit n limit l (omega arith) in
    ap (λ (t : Bool). if t then None else Some (TooMuchWork m limit)) (le-leb (m * limit) 4000000 (omega (arith, few, less)))

-- where the parents' stops are the same, so are the ranges
range-same : (limit k : ℕ) (all more bs : List Branch) → ((i : ℕ) → i < length bs → stop_at more (get_or bs i no_branch).parent ≡ stop_at all (get_or bs i no_branch).parent)
    → out_from limit more k bs ≡ out_from limit all k bs
range-same limit k all more [] h = refl
range-same limit k all more (b ∷ bs) h =
    ap (λ (s : Stop). if is_within limit b.stop && no_earlier s b.stop then out_from limit more (k + 1) bs else Some k) (h 0 (omega arith))
    ∙ ap (λ (x : Option ℕ). if is_in_range limit all b then x else Some k) (range-same limit (k + 1) all more bs (λ i l. h (suc i) (omega arith)))

-- what stands before the last branch
pub before-last : (bs : List Branch) (b : Branch) (i : ℕ) → i < length bs → branch_at (bs ++ b ∷ []) i ≡ branch_at bs i
before-last bs b i l = get_or_append_left bs (b ∷ []) no_branch i l

pub rooted-less : (bs : List Branch) (b : Branch) → 0 < length bs → IsRooted (bs ++ b ∷ []) → IsRooted bs
rooted-less bs b some h =
    let same = before-last bs b 0 some in
    record {
      some = some;
      parent = ap (λ (x : Branch). x.parent) (sym same) ∙ h.parent;
      stop = ap (λ (x : Branch). x.stop) (sym same) ∙ h.stop;
      edits = ap (λ (x : Branch). x.edits) (sym same) ∙ h.edits;
    }

pub rooted-more : (bs : List Branch) (b : Branch) → IsRooted bs → IsRooted (bs ++ b ∷ [])
rooted-more bs b h =
    let same = before-last bs b 0 h.some in
    record {
      some = omega (arith, length_push bs b, h.some);
      parent = ap (λ (x : Branch). x.parent) same ∙ h.parent;
      stop = ap (λ (x : Branch). x.stop) same ∙ h.stop;
      edits = ap (λ (x : Branch). x.edits) same ∙ h.edits;
    }

parent-in : (bs : List Branch) (b : Branch) (limit i : ℕ) → 0 < length bs → IsRooted (bs ++ b ∷ []) → plan_refusal (bs ++ b ∷ []) limit ≡ None → i < length bs → parent_at bs i < length bs
parent-in bs b limit i some root h l = elim (cases_eq i 0) [
  | inl first ↦
      let at : parent_at bs i ≡ 0 = ap (λ (n : ℕ). parent_at bs n) first ∙ (rooted-less bs b some root).parent in
      omega (arith, at, some)
  | inr other ↦
      let tree = tree_from (bs ++ b ∷ []) limit root h in
      let earlier = tree.parents i (omega arith) (omega (arith, length_push bs b, l)) in
      omega (arith, earlier, ap (λ (x : Branch). x.parent) (before-last bs b i l), l)
]

-- A tree without its last branch is accepted.
pub accepted-less : (bs : List Branch) (b : Branch) (limit : ℕ) → 0 < length bs → IsRooted (bs ++ b ∷ []) → plan_refusal (bs ++ b ∷ []) limit ≡ None → plan_refusal bs limit ≡ None
accepted-less bs b limit some root h =
    let p = parts-of (bs ++ b ∷ []) limit h in
    let less : length bs ≤ length (bs ++ b ∷ []) = omega (arith, length_push bs b) in
    from-parts bs limit (record {
      late = parents-less bs b p.late;
      range = sym (range-same limit 0 bs (bs ++ b ∷ []) bs (λ i l. ap (λ (x : Branch). x.stop) (before-last bs b (parent_at bs i) (parent-in bs b limit i some root h l))))
          ∙ range-less limit (bs ++ b ∷ []) 0 bs b p.range;
      many = many-less (length (bs ++ b ∷ [])) (length bs) less p.many;
      names = names-less [] 0 bs b p.names;
      much = much-less (length (bs ++ b ∷ [])) (length bs) limit less p.much;
      kinds = mixed-less bs b p.kinds;
    })

-- a branch without its edits
abbrev plain : Branch → Branch
plain b = branch_with [] b

branch-plain : (bs : List Branch) (i : ℕ) → branch_at (map plain bs) i ≡ plain (branch_at bs i)
branch-plain [] i = refl
branch-plain (b ∷ bs) zero = refl
branch-plain (b ∷ bs) (suc i) = branch-plain bs i

-- each cause is the same without the edits
late-plain : (k : ℕ) (bs : List Branch) → late_from k (map plain bs) ≡ late_from k bs
late-plain k [] = refl
late-plain k (b ∷ bs) = ap (λ (x : Option ℕ). if nat_lt b.parent k then x else Some k) (late-plain (k + 1) bs)

parents-plain : (bs : List Branch) → late_parent (map plain bs) ≡ late_parent bs
parents-plain [] = refl
parents-plain (root ∷ bs) = late-plain 1 bs

range-plain : (limit k : ℕ) (all bs : List Branch) → out_from limit (map plain all) k (map plain bs) ≡ out_from limit all k bs
range-plain limit k all [] = refl
range-plain limit k all (b ∷ bs) =
    ap (λ (x : Branch). if is_within limit b.stop && no_earlier x.stop b.stop then out_from limit (map plain all) (k + 1) (map plain bs) else Some k) (branch-plain all b.parent)
    ∙ ap (λ (x : Option ℕ). if is_in_range limit all b then x else Some k) (range-plain limit (k + 1) all bs)

any-plain : (t u : Branch → Bool) (bs : List Branch) → ((a : Branch) → t (plain a) ≡ u a) → list_any t (map plain bs) ≡ list_any u bs
any-plain t u [] h = refl
any-plain t u (b ∷ bs) h = ap (λ (x : Bool). x || list_any t (map plain bs)) (h b) ∙ ap (λ (x : Bool). u b || x) (any-plain t u bs h)

names-plain : (before : List Branch) (k : ℕ) (bs : List Branch) → repeated_from (map plain before) k (map plain bs) ≡ repeated_from before k bs
names-plain before k [] = refl
names-plain before k (b ∷ bs) =
    ap (λ (t : Bool). if t then Some k else repeated_from (map plain before ++ plain b ∷ []) (k + 1) (map plain bs))
    (any-plain (λ (a : Branch). same_name a (plain b)) (λ (a : Branch). same_name a b) before (λ a. refl))
    ∙ ap (λ (x : Option ℕ). if list_any (λ (a : Branch). same_name a b) before then Some k else x)
    (ap (λ (ys : List Branch). repeated_from ys (k + 1) (map plain bs)) (sym (map-append plain before (b ∷ []))) ∙ names-plain (before ++ b ∷ []) (k + 1) bs)

kinds-plain : (before : List Branch) (k : ℕ) (bs : List Branch) → mixed_from (map plain before) k (map plain bs) ≡ mixed_from before k bs
kinds-plain before k [] = refl
kinds-plain before k (b ∷ bs) =
    ap (λ (t : Bool). if t then Some k else mixed_from (map plain before ++ plain b ∷ []) (k + 1) (map plain bs))
    (any-plain (λ (a : Branch). mixes a (plain b)) (λ (a : Branch). mixes a b) before (λ a. refl))
    ∙ ap (λ (x : Option ℕ). if list_any (λ (a : Branch). mixes a b) before then Some k else x)
    (ap (λ (ys : List Branch). mixed_from ys (k + 1) (map plain bs)) (sym (map-append plain before (b ∷ []))) ∙ kinds-plain (before ++ b ∷ []) (k + 1) bs)

mixed-plain : (bs : List Branch) → mixed_stop (map plain bs) ≡ mixed_stop bs
mixed-plain [] = refl
mixed-plain (root ∷ bs) = kinds-plain [] 1 bs

-- Edits don't enter whether a tree is accepted.
accepted-plain : (bs cs : List Branch) (limit : ℕ) → map plain bs ≡ map plain cs → plan_refusal bs limit ≡ None → plan_refusal cs limit ≡ None
accepted-plain bs cs limit e h =
    let p = parts-of bs limit h in
    let count : length cs ≡ length bs = omega (arith, length-map bs plain, length-map cs plain, ap (λ (xs : List Branch). length xs) e) in
    from-parts cs limit (record {
      late = sym (parents-plain cs) ∙ ap (λ (xs : List Branch). late_parent xs) (sym e) ∙ parents-plain bs ∙ p.late;
      range = sym (range-plain limit 0 cs cs) ∙ ap (λ (xs : List Branch). out_from limit xs 0 xs) (sym e) ∙ range-plain limit 0 bs bs ∙ p.range;
      many = ap (λ (n : ℕ). too_many n) count ∙ p.many;
      names = sym (names-plain [] 0 cs) ∙ ap (λ (xs : List Branch). repeated_name xs) (sym e) ∙ names-plain [] 0 bs ∙ p.names;
      much = ap (λ (n : ℕ). too_much n limit) count ∙ p.much;
      kinds = sym (mixed-plain cs) ∙ ap (λ (xs : List Branch). mixed_stop xs) (sym e) ∙ mixed-plain bs ∙ p.kinds;
    })

edits-plain : (bs : List Branch) (i : ℕ) (es : List Edit) → map plain (set bs i (branch_with es (branch_at bs i))) ≡ map plain bs
edits-plain bs i es =
    map-set plain bs i (branch_with es (branch_at bs i))
    ∙ ap (λ (x : Branch). set (map plain bs) i x) (sym (branch-plain bs i))
    ∙ set-get_or (map plain bs) i no_branch

pub accepted-edits : (bs : List Branch) (i : ℕ) (es : List Edit) (limit : ℕ) → plan_refusal bs limit ≡ None → plan_refusal (set bs i (branch_with es (branch_at bs i))) limit ≡ None
accepted-edits bs i es limit h = accepted-plain bs (set bs i (branch_with es (branch_at bs i))) limit (sym (edits-plain bs i es)) h
