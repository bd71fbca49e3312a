-- Anchors of branches.
use Rattle.std.proofs.Common.{◌≡◌, ◌<◌, ◌≤◌, ℕ, true, false, Bool, ◌&&◌, List, [], ◌∷◌, ◌++◌, Option, Some, None, length, min, is_some, refl, sym, ap, ◌∙◌, subst, arith, suc, zero, inl, inr, true≢false}
use Rattle.std.specs.Prelude.{if◌then◌else◌, not}
use Rattle.std.proofs.lemmas.Bool.{cases_eq, cases_Bool}
use Rattle.branch_tree.specs.declared.branch.Branch.{Branch}
use Rattle.branch_tree.specs.declared.stop.Stop.{Stop}
use Rattle.branch_tree.specs.Plan.{parent_at}
use Rattle.branch_tree.specs.Stops.{number_of}
use Rattle.branch_tree.specs.Paths.{path_of}
use Rattle.branch_tree.proofs.PathLemmas.{path-more}
use Rattle.kernel_copy.specs.Full.{full}
use Rattle.session_desk.specs.Session.{SessionTold, IsSession, full_in, is_own, tree_of}
use Rattle.session_desk.specs.Anchors.{anchor_of, first_other, follower_of, last_own, shared_count, up_to}
use Rattle.session_desk.proofs.Numbered.{LeaveBy, number_at, numbered, path-by}
use Rattle.session_desk.proofs.Paths.{AreAlike, own-alike, same-path, same-runs}
use Rattle.rewind_desk.proofs.Chained.{parent_cases as option_cases}

none_is : (x : Option ℕ) → not (is_some x) ≡ true → x ≡ None
none_is None h = refl
none_is (Some c) h = cc

-- whether all are own, with one more behind
pub kept-push : (own : ℕ → Bool) (xs : List ℕ) (b : ℕ) → not (is_some (first_other own (xs ++ b ∷ []))) ≡ (not (is_some (first_other own xs)) && own b)
kept-push own [] b = elim (own b) as (λ (t : Bool). not (is_some (let x : Option ℕ = if t then None else Some b in x)) ≡ t) [ true ↦ refl | false ↦ refl ]
kept-push own (x ∷ xs) b = elim (own x) as (λ (t : Bool). not (is_some (if t then first_other own (xs ++ b ∷ []) else Some x)) ≡ (not (is_some (if t then first_other own xs else Some x)) && own b)) [
  | true ↦ kept-push own xs b
  | false ↦ refl
]

-- the root alone, and any other branch
pub kept-root : (s : SessionTold) → is_own s 0 ≡ not (is_some (follower_of s 0))
kept-root s = sym (kept-push (is_own s) [] 0)

pub kept-more : (s : SessionTold) (b : ℕ) → IsSession s → 0 < b → b < length s.branches → (not (is_some (follower_of s (parent_at s.branches b))) && is_own s b) ≡ not (is_some (follower_of s b))
kept-more s b h pos l =
    sym (ap (λ (xs : List ℕ). not (is_some (first_other (is_own s) xs))) (path-more s.branches s.course.opening.limit b (numbered s h).tree pos l)
    ∙ kept-push (is_own s) (path_of s.branches (parent_at s.branches b)) b)

and_true : (x : Bool) → (x && true) ≡ x
and_true true = refl
and_true false = refl

and_false : (x : Bool) → (x && false) ≡ false
and_false true = refl
and_false false = refl

-- all are own to a branch that is own just where all are to its parent; and not to one that isn't
pub kept-own : (s : SessionTold) (b : ℕ) → IsSession s → 0 < b → b < length s.branches → is_own s b ≡ true → not (is_some (follower_of s (parent_at s.branches b))) ≡ not (is_some (follower_of s b))
kept-own s b h pos l own =
    let before = not (is_some (follower_of s (parent_at s.branches b))) in
    sym (and_true before) ∙ ap (λ (t : Bool). before && t) (sym own) ∙ kept-more s b h pos l

pub kept-other : (s : SessionTold) (b : ℕ) → IsSession s → 0 < b → b < length s.branches → is_own s b ≡ false → not (is_some (follower_of s b)) ≡ false
kept-other s b h pos l foreign =
    let before = not (is_some (follower_of s (parent_at s.branches b))) in
    sym (kept-more s b h pos l) ∙ ap (λ (t : Bool). before && t) foreign ∙ and_false before

-- where all are own, the last of them is the anchor
last-kept : (own : ℕ → Bool) (a : ℕ) (xs : List ℕ) (b : ℕ) → first_other own (xs ++ b ∷ []) ≡ None → last_own own a (xs ++ b ∷ []) ≡ b
last-kept own a [] b h = elim (cases_Bool (own b)) [
  | inl is ↦ ap (λ (t : Bool). if t then b else a) is
  | inr foreign ↦ let some : Some b ≡ None = sym (ap (λ (t : Bool). let x : Option ℕ = if t then None else Some b in x) foreign) ∙ h in cc
]
last-kept own a (x ∷ xs) b h = elim (cases_Bool (own x)) [
  | inl is ↦
      let rest : first_other own (xs ++ b ∷ []) ≡ None = sym (ap (λ (t : Bool). if t then first_other own (xs ++ b ∷ []) else Some x) is) ∙ h in
      ap (λ (t : Bool). if t then last_own own x (xs ++ b ∷ []) else a) is ∙ last-kept own x xs b rest
  | inr foreign ↦ let some : Some x ≡ None = sym (ap (λ (t : Bool). if t then first_other own (xs ++ b ∷ []) else Some x) foreign) ∙ h in cc
]

-- a branch joins a path: the first that isn't own, and the last before it
first-later : (own : ℕ → Bool) (xs : List ℕ) (b c : ℕ) → first_other own xs ≡ Some c → first_other own (xs ++ b ∷ []) ≡ Some c
first-later own [] b c h = cc
first-later own (x ∷ xs) b c h = elim (cases_Bool (own x)) [
  | inl is ↦
      let rest : first_other own xs ≡ Some c = sym (ap (λ (t : Bool). if t then first_other own xs else Some x) is) ∙ h in
      ap (λ (t : Bool). if t then first_other own (xs ++ b ∷ []) else Some x) is ∙ first-later own xs b c rest
  | inr foreign ↦
      ap (λ (t : Bool). if t then first_other own (xs ++ b ∷ []) else Some x) foreign ∙ sym (ap (λ (t : Bool). if t then first_other own xs else Some x) foreign) ∙ h
]

first-here : (own : ℕ → Bool) (xs : List ℕ) (b : ℕ) → first_other own xs ≡ None → own b ≡ false → first_other own (xs ++ b ∷ []) ≡ Some b
first-here own [] b h foreign = ap (λ (t : Bool). let x : Option ℕ = if t then None else Some b in x) foreign
first-here own (x ∷ xs) b h foreign = elim (cases_Bool (own x)) [
  | inl is ↦
      let rest : first_other own xs ≡ None = sym (ap (λ (t : Bool). if t then first_other own xs else Some x) is) ∙ h in
      ap (λ (t : Bool). if t then first_other own (xs ++ b ∷ []) else Some x) is ∙ first-here own xs b rest foreign
  | inr other ↦ let some : Some x ≡ None = sym (ap (λ (t : Bool). if t then first_other own xs else Some x) other) ∙ h in cc
]

last-later : (own : ℕ → Bool) (a : ℕ) (xs : List ℕ) (b c : ℕ) → first_other own (xs ++ b ∷ []) ≡ Some c → last_own own a (xs ++ b ∷ []) ≡ last_own own a xs
last-later own a [] b c h = elim (cases_Bool (own b)) [
  | inl is ↦ let none : None ≡ Some c = sym (ap (λ (t : Bool). let x : Option ℕ = if t then None else Some b in x) is) ∙ h in cc
  | inr foreign ↦ ap (λ (t : Bool). if t then b else a) foreign
]
last-later own a (x ∷ xs) b c h = elim (cases_Bool (own x)) [
  | inl is ↦
      let rest : first_other own (xs ++ b ∷ []) ≡ Some c = sym (ap (λ (t : Bool). if t then first_other own (xs ++ b ∷ []) else Some x) is) ∙ h in
      ap (λ (t : Bool). if t then last_own own x (xs ++ b ∷ []) else a) is ∙ last-later own x xs b c rest ∙ sym (ap (λ (t : Bool). if t then last_own own x xs else a) is)
  | inr foreign ↦
      ap (λ (t : Bool). if t then last_own own x (xs ++ b ∷ []) else a) foreign ∙ sym (ap (λ (t : Bool). if t then last_own own x xs else a) foreign)
]

-- what isn't own on a path leaves by the same number
other-by : (bs : List Branch) (n : ℕ) (own : ℕ → Bool) (xs : List ℕ) (c : ℕ) → LeaveBy bs n xs → first_other own xs ≡ Some c → number_at bs c ≤ n
other-by bs n own [] c by h = cc
other-by bs n own (x ∷ xs) c by h = elim (cases_Bool (own x)) [
  | inl is ↦ other-by bs n own xs c by.1 (sym (ap (λ (t : Bool). if t then first_other own xs else Some x) is) ∙ h)
  | inr foreign ↦
      let same : x ≡ c = grind (arith, sym (ap (λ (t : Bool). if t then first_other own xs else Some x) foreign) ∙ h) in
      let at : number_at bs c ≡ by.0.at = ap (λ (d : ℕ). number_at bs d) (sym same) ∙ ap (λ (y : Stop). number_of y) by.0.stop in
      omega (arith, at, by.0.by)
]

-- a branch all of whose path is own is its own anchor
anchor-kept : (s : SessionTold) (b : ℕ) → IsSession s → b < length s.branches → follower_of s b ≡ None → anchor_of s b ≡ b
anchor-kept s b h l none = elim (cases_eq b 0) [
  | inl e ↦ subst (λ (x : ℕ). follower_of s x ≡ None → anchor_of s x ≡ x) (sym e) (λ k. last-kept (is_own s) 0 [] 0 k) none
  | inr other ↦
      let path = path-more s.branches s.course.opening.limit b (numbered s h).tree (omega (arith, other)) l in
      let xs = path_of s.branches (parent_at s.branches b) in
      ap (λ (ys : List ℕ). last_own (is_own s) 0 ys) path ∙ last-kept (is_own s) 0 xs b (sym (ap (λ (ys : List ℕ). first_other (is_own s) ys) path) ∙ none)
]

-- What is so of a branch whose path is own: it is its own anchor, all its events are shared, and it stands in the study.
pub record IsAnchor (s : SessionTold) (b : ℕ) : Type 0 where
  pub none : follower_of s b ≡ None
  pub anchor : anchor_of s b ≡ b
  pub own : is_own s b ≡ true
  pub there : b < length s.course.plan.branches
  pub alike : AreAlike s.branches s.course.plan.branches (path_of s.branches b)
  pub shared : (e : ℕ) → shared_count s b e ≡ e

and_second : (a b : Bool) → (a && b) ≡ true → b ≡ true
and_second true b h = h
and_second false b h = cc

own-last : (s : SessionTold) (b : ℕ) → IsSession s → b < length s.branches → follower_of s b ≡ None → is_own s b ≡ true
own-last s b h l none = elim (cases_eq b 0) [
  | inl e ↦ ap (λ (x : ℕ). is_own s x) e ∙ h.root
  | inr other ↦
      let whole : (not (is_some (follower_of s (parent_at s.branches b))) && is_own s b) ≡ true = kept-more s b h (omega (arith, other)) l ∙ ap (λ (x : Option ℕ). not (is_some x)) none in
      and_second (not (is_some (follower_of s (parent_at s.branches b)))) (is_own s b) whole
]

pub is-anchor : (s : SessionTold) (b : ℕ) → IsSession s → b < length s.branches → not (is_some (follower_of s b)) ≡ true → IsAnchor s b
is-anchor s b h l kept =
    let none = none_is (follower_of s b) kept in
    let own = own-last s b h l none in
    record {
      none = none;
      anchor = anchor-kept s b h l none;
      own = own;
      there = (h.own b own).there;
      alike = own-alike s.branches s.course.plan.branches (is_own s) (path_of s.branches b) (λ d is. (h.own d is).same) none;
      shared = λ e. ap (λ (x : Option ℕ). up_to s.branches e x) none;
    }

-- so it has the study's runs
pub anchor-runs : (s : SessionTold) (b e : ℕ) → IsAnchor s b → full s.course.opening s.course.plan b e ≡ full_in s b e
anchor-runs s b e a = same-runs s.course.opening (tree_of s) s.course.plan b e a.alike

pub anchor-path : (s : SessionTold) (b : ℕ) → IsAnchor s b → path_of s.course.plan.branches b ≡ path_of s.branches b
anchor-path s b a = sym (same-path s.branches s.course.plan.branches b a.alike)

-- What is so of any other branch: its anchor is its parent's, and so are the shared events up to the branch's stop.
pub record IsFurther (s : SessionTold) (b : ℕ) : Type 0 where
  pub later : 0 < b
  pub anchor : anchor_of s b ≡ anchor_of s (parent_at s.branches b)
  pub shared : (e : ℕ) → shared_count s b e ≡ shared_count s (parent_at s.branches b) (min (number_at s.branches b) e)

further-follower : (s : SessionTold) (b c : ℕ) → IsSession s → 0 < b → b < length s.branches → follower_of s b ≡ Some c → IsFurther s b
further-follower s b c h pos l some =
    let bs = s.branches in
    let q = parent_at bs b in
    let k = numbered s h in
    let less = k.tree.parents b pos l in
    let path = path-more bs s.course.opening.limit b k.tree pos l in
    let xs = path_of bs q in
    let there : first_other (is_own s) (xs ++ b ∷ []) ≡ Some c = sym (ap (λ (ys : List ℕ). first_other (is_own s) ys) path) ∙ some in
    record {
      later = pos;
      anchor = ap (λ (ys : List ℕ). last_own (is_own s) 0 ys) path ∙ last-later (is_own s) 0 xs b c there;
      shared = λ e. elim (option_cases (follower_of s q)) [
        | inr before ↦
            let d = before.0 in
            let mine : follower_of s b ≡ Some d = ap (λ (ys : List ℕ). first_other (is_own s) ys) path ∙ first-later (is_own s) xs b d before.1 in
            let by = other-by bs (number_at bs b) (is_own s) xs d (path-by bs s.course.opening.limit q (number_at bs b) k (omega (arith, less, l)) (k.rises b pos l)) before.1 in
            let same : min e (number_at bs d) ≡ min (min (number_at bs b) e) (number_at bs d) = omega (arith, by) in
            ap (λ (x : Option ℕ). up_to bs e x) mine ∙ same ∙ sym (ap (λ (x : Option ℕ). up_to bs (min (number_at bs b) e) x) before.1)
        | inl none ↦
            let foreign : is_own s b ≡ false = elim (cases_Bool (is_own s b)) [
              | inr other ↦ other
              | inl is ↦
                  let kept = sym (kept-more s b h pos l) ∙ ap (λ (x : Option ℕ). not (is_some x) && is_own s b) none ∙ is in
                  let gone : None ≡ Some c = sym (none_is (follower_of s b) kept) ∙ some in
                  cc
            ] in
            let mine : follower_of s b ≡ Some b = ap (λ (ys : List ℕ). first_other (is_own s) ys) path ∙ first-here (is_own s) xs b none foreign in
            let same : min e (number_at bs b) ≡ min (number_at bs b) e = omega arith in
            ap (λ (x : Option ℕ). up_to bs e x) mine ∙ same ∙ sym (ap (λ (x : Option ℕ). up_to bs (min (number_at bs b) e) x) none)
      ];
    }

pub is-further : (s : SessionTold) (b : ℕ) → IsSession s → b < length s.branches → not (is_some (follower_of s b)) ≡ false → IsFurther s b
is-further s b h l other = elim (option_cases (follower_of s b)) [
  | inl none ↦ absurd (true≢false (sym (ap (λ (x : Option ℕ). not (is_some x)) none) ∙ other))
  | inr some ↦ elim (cases_eq b 0) [
    | inr more ↦ further-follower s b some.0 h (omega (arith, more)) l some.1
    | inl e ↦ absurd (true≢false (sym h.root ∙ kept-root s ∙ ap (λ (x : ℕ). not (is_some (follower_of s x))) (sym e) ∙ other))
  ]
]

-- each branch's anchor is an anchor
anchors : (n : ℕ) (s : SessionTold) (b : ℕ) → IsSession s → b < length s.branches → b ≤ n → IsAnchor s (anchor_of s b)
anchors zero s b h l low = elim (cases_Bool (not (is_some (follower_of s b)))) [
  | inl kept ↦ let a = is-anchor s b h l kept in subst (λ (x : ℕ). IsAnchor s x) (sym a.anchor) a
  | inr other ↦ let f = is-further s b h l other in absurd (omega (arith, f.later, low))
]
anchors (suc n) s b h l low = elim (cases_Bool (not (is_some (follower_of s b)))) [
  | inl kept ↦ let a = is-anchor s b h l kept in subst (λ (x : ℕ). IsAnchor s x) (sym a.anchor) a
  | inr other ↦
      let f = is-further s b h l other in
      let less = (numbered s h).tree.parents b f.later l in
      subst (λ (x : ℕ). IsAnchor s x) (sym f.anchor) (anchors n s (parent_at s.branches b) h (omega (arith, less, l)) (omega (arith, less, low)))
]

pub anchor-of : (s : SessionTold) (b : ℕ) → IsSession s → b < length s.branches → IsAnchor s (anchor_of s b)
anchor-of s b h l = anchors b s b h l (omega arith)
