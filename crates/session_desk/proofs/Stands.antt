-- Acts leave a session a session.
use Rattle.std.proofs.Common.{◌≡◌, ◌<◌, ◌≤◌, ◌-◌, ℕ, true, false, Bool, List, [], ◌∷◌, ◌++◌, Some, None, All, length, get_or, set, replicate, refl, sym, ap, ◌∙◌, subst, arith, suc, zero, inl, inr, true≢false}
use Rattle.std.specs.Prelude.{Result, Ok, Err, OnOk, OnErr}
use Rattle.std.proofs.lemmas.Bool.{cases_lt, cases_eq}
use Rattle.std.proofs.lemmas.List.{get_or_append_left, get_or-append_right, get_or_past, get_or-replicate, get_or-set_same, get_or-set_other, length-replicate, length-set, length_push}
use Rattle.std.proofs.lemmas.List.Elements.{All-push, All-pop, All-set}
use Rattle.market_rules.specs.declared.edit.Edit.{Edit}
use Rattle.branch_tree.specs.declared.branch.Branch.{Branch}
use Rattle.branch_tree.specs.Plan.{no_branch, branch_at}
use Rattle.branch_tree.specs.Stops.{is_time}
use Rattle.branch_tree.specs.Tree.{plan_refusal}
use Rattle.kernel_copy.specs.Courses.{AreEdits, CourseTold, IsCourse}
use Rattle.session_desk.specs.Session.{SessionTold, IsSession, IsStudys, first_session, is_own}
use Rattle.session_desk.specs.TreeActs.{branch_with, with_fork, with_edits}
use Rattle.session_desk.specs.Answers.{fork_refusal}
use Rattle.session_desk.proofs.Accepted.{accepted-edits, accepted-less, before-last, rooted-less, rooted-more}
use Rattle.session_desk.proofs.Numbered.{numbers-at as number-at}

-- what stands past a list isn't own
past-own : (own : List Bool) (b : ℕ) → length own ≤ b → get_or own b false ≡ true → ⊥
past-own own b past is = true≢false (sym is ∙ get_or_past own b false past)

-- before the first act
first-own : (c : CourseTold) (b : ℕ) → is_own (first_session c) b ≡ true → IsStudys (first_session c) b
first-own c b is = elim (cases_lt b (length c.plan.branches)) [
  | inl l ↦ record { there = l; same = refl }
  | inr past ↦ absurd (past-own (replicate (length c.plan.branches) true) b (omega (arith, past, length-replicate (length c.plan.branches) true)) is)
]

pub first-stands : (c : CourseTold) → IsCourse c → All (λ (b : Branch). is_time b.stop ≡ false) c.plan.branches → IsSession (first_session c)
first-stands c h numbers = record {
  study = h;
  tree = record {
    opening = h.opening;
    limit = refl;
    rooted = h.rooted;
    accepted = subst (λ (n : ℕ). plan_refusal c.plan.branches n ≡ None) h.limit h.accepted;
    edits = h.edits;
  };
  numbers = numbers;
  count = length-replicate (length c.plan.branches) true;
  root = get_or-replicate (length c.plan.branches) 0 true false h.rooted.some;
  own = first-own c;
}

only_false : (k : ℕ) → get_or (false ∷ []) k false ≡ false
only_false zero = refl
only_false (suc k) = refl

-- with a fork
fork-own : (s : SessionTold) (b : Branch) (i : ℕ) → IsSession s → is_own (with_fork b s) i ≡ true → IsStudys (with_fork b s) i
fork-own s b i h is = elim (cases_lt i (length s.own)) [
  | inl l ↦
      let before = h.own i (sym (get_or_append_left s.own (false ∷ []) false i l) ∙ is) in
      record { there = before.there; same = before-last s.branches b i (omega (arith, l, h.count)) ∙ before.same }
  | inr past ↦ absurd (true≢false (sym is ∙ get_or-append_right s.own (false ∷ []) (length s.own) i false refl past ∙ only_false (i - length s.own)))
]

pub fork-stands : (s : SessionTold) (b : Branch) → IsSession s → is_time b.stop ≡ false → AreEdits s.course.opening b.edits → fork_refusal s b ≡ None → IsSession (with_fork b s)
fork-stands s b h number edits made = record {
  study = h.study;
  tree = record {
    opening = h.tree.opening;
    limit = refl;
    rooted = rooted-more s.branches b h.tree.rooted;
    accepted = made;
    edits = All-push (λ (x : Branch). AreEdits s.course.opening x.edits) s.branches b h.tree.edits edits;
  };
  numbers = All-push (λ (x : Branch). is_time x.stop ≡ false) s.branches b h.numbers number;
  count = omega (arith, length_push s.own false, length_push s.branches b, h.count);
  root = get_or_append_left s.own (false ∷ []) false 0 (omega (arith, h.count, h.tree.rooted.some)) ∙ h.root;
  own = λ i is. fork-own s b i h is;
}

-- and where the fork found no memory
pub fork-tried : {X Y : Type 0} (r : Result X Y) (s : SessionTold) (b : Branch) (bs : List Branch) (os : List Bool) → OnOk r (bs ≡ s.branches ++ b ∷ []) → OnOk r (os ≡ s.own ++ false ∷ []) → OnErr r (bs ≡ s.branches) → OnErr r (os ≡ s.own)
    → IsSession s → is_time b.stop ≡ false → AreEdits s.course.opening b.edits → fork_refusal s b ≡ None → IsSession (record { course = s.course; branches = bs; own = os })
fork-tried (Ok x) s b bs os here own stays keeps h number edits made =
    let p = ap (λ (ys : List Branch). let q : SessionTold = record { course = s.course; branches = ys; own = os } in q) here
    ∙ ap (λ (ys : List Bool). let q : SessionTold = record { course = s.course; branches = s.branches ++ b ∷ []; own = ys } in q) own in
    subst (λ (q : SessionTold). IsSession q) (sym p) (fork-stands s b h number edits made)
fork-tried (Err y) s b bs os here own stays keeps h number edits made =
    let p = ap (λ (ys : List Branch). let q : SessionTold = record { course = s.course; branches = ys; own = os } in q) stays
    ∙ ap (λ (ys : List Bool). let q : SessionTold = record { course = s.course; branches = s.branches; own = ys } in q) keeps in
    subst (λ (q : SessionTold). IsSession q) (sym p) h

-- without the last branch
undo-own : (c : CourseTold) (bs : List Branch) (b : Branch) (os : List Bool) (x : Bool) (i : ℕ) → length os ≡ length bs → IsSession (record { course = c; branches = bs ++ b ∷ []; own = os ++ x ∷ [] })
    → get_or os i false ≡ true → IsStudys (record { course = c; branches = bs; own = os }) i
undo-own c bs b os x i count h is = elim (cases_lt i (length os)) [
  | inl l ↦
      let before = h.own i (get_or_append_left os (x ∷ []) false i l ∙ is) in
      record { there = before.there; same = sym (before-last bs b i (omega (arith, l, count))) ∙ before.same }
  | inr past ↦ absurd (past-own os i past is)
]

less-stands : (c : CourseTold) (bs : List Branch) (b : Branch) (os : List Bool) (x : Bool) → 0 < length bs → IsSession (record { course = c; branches = bs ++ b ∷ []; own = os ++ x ∷ [] })
    → IsSession (record { course = c; branches = bs; own = os })
less-stands c bs b os x some h =
    let count : length os ≡ length bs = omega (arith, length_push os x, length_push bs b, h.count) in
    record {
      study = h.study;
      tree = record {
        opening = h.tree.opening;
        limit = refl;
        rooted = rooted-less bs b some h.tree.rooted;
        accepted = accepted-less bs b c.opening.limit some h.tree.rooted h.tree.accepted;
        edits = (All-pop (λ (y : Branch). AreEdits c.opening y.edits) (bs ++ b ∷ []) bs (Some b) refl h.tree.edits).0;
      };
      numbers = (All-pop (λ (y : Branch). is_time y.stop ≡ false) (bs ++ b ∷ []) bs (Some b) refl h.numbers).0;
      count = count;
      root = sym (get_or_append_left os (x ∷ []) false 0 (omega (arith, some, count))) ∙ h.root;
      own = λ i is. undo-own c bs b os x i count h is;
    }

pub undo-stands : (s : SessionTold) (bs : List Branch) (b : Branch) (os : List Bool) (x : Bool) → s.branches ≡ bs ++ b ∷ [] → s.own ≡ os ++ x ∷ [] → 0 < length bs → IsSession s
    → IsSession (record { course = s.course; branches = bs; own = os })
undo-stands s bs b os x here own some h =
    let p = ap (λ (ys : List Branch). let q : SessionTold = record { course = s.course; branches = ys; own = s.own } in q) here
    ∙ ap (λ (ys : List Bool). let q : SessionTold = record { course = s.course; branches = bs ++ b ∷ []; own = ys } in q) own in
    less-stands s.course bs b os x some (subst (λ (q : SessionTold). IsSession q) p h)

edit-own : (s : SessionTold) (i : ℕ) (es : List Edit) (j : ℕ) → IsSession s → is_own (with_edits i es s) j ≡ true → IsStudys (with_edits i es s) j
edit-own s i es j h is = elim (cases_eq j i) [
  | inl same ↦ elim (cases_lt i (length s.own)) [
    | inl l ↦ absurd (true≢false (sym is ∙ ap (λ (k : ℕ). get_or (set s.own i false) k false) same ∙ get_or-set_same s.own i false false l))
    | inr past ↦ absurd (past-own (set s.own i false) j (omega (arith, same, past, length-set s.own i false)) is)
  ]
  | inr other ↦
      let before = h.own j (sym (get_or-set_other s.own i j false false other) ∙ is) in
      record { there = before.there; same = get_or-set_other s.branches i j (branch_with es (branch_at s.branches i)) no_branch other ∙ before.same }
]

pub edit-stands : (s : SessionTold) (i : ℕ) (es : List Edit) → IsSession s → 0 < i → AreEdits s.course.opening es → IsSession (with_edits i es s)
edit-stands s i es h later edits =
    let b = branch_with es (branch_at s.branches i) in
    let first : branch_at (set s.branches i b) 0 ≡ branch_at s.branches 0 = get_or-set_other s.branches i 0 b no_branch (λ e. absurd (omega (arith, e, later))) in
    record {
      study = h.study;
      tree = record {
        opening = h.tree.opening;
        limit = refl;
        rooted = record {
          some = omega (arith, length-set s.branches i b, h.tree.rooted.some);
          parent = ap (λ (x : Branch). x.parent) first ∙ h.tree.rooted.parent;
          stop = ap (λ (x : Branch). x.stop) first ∙ h.tree.rooted.stop;
          edits = ap (λ (x : Branch). x.edits) first ∙ h.tree.rooted.edits;
        };
        accepted = accepted-edits s.branches i es s.course.opening.limit h.tree.accepted;
        edits = All-set (λ (x : Branch). AreEdits s.course.opening x.edits) s.branches i b edits h.tree.edits;
      };
      numbers = All-set (λ (x : Branch). is_time x.stop ≡ false) s.branches i b (number-at s.branches i h.numbers) h.numbers;
      count = omega (arith, length-set s.branches i b, length-set s.own i false, h.count);
      root = get_or-set_other s.own i 0 false false (λ e. absurd (omega (arith, e, later))) ∙ h.root;
      own = λ j is. edit-own s i es j h is;
    }
