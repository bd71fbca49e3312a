-- What the marks of a rewind come to, and how many steps lead there.
use Rattle.std.proofs.Common.{◌≡◌, ◌<◌, ◌≤◌, ◌+◌, ℕ, zero, suc, Bool, true, false, List, [], ◌∷◌, ◌++◌, length, map, get_or, Option, Some, None, IfSome, option_map, All, nat_lt, if◌then◌else◌, sum_by, take, refl, sym, ap, ◌∙◌, subst, inl, inr, arith, length-append}
use Rattle.std.specs.List.{position_from}
use Rattle.std.proofs.Math.Seq.{get_or-append_seam}
use Rattle.std.proofs.lemmas.List.{get_or_append_left, get_or-map, length-map}
use Rattle.std.proofs.lemmas.List.Elements.{All-cons, All-head, All-nil, All-tail, All-weaker}
use Rattle.std.proofs.lemmas.List.Sums.{sum_by-cons, sum_by-le, sum_by_more, sum_by_more_le}
use Rattle.command_words.specs.Ranges.{IsMark}
use Rattle.command_words.specs.declared.mark.Mark.{Mark}
use Rattle.branch_tree.specs.declared.branch.Branch.{Branch}
use Rattle.checkpoint_shelf.specs.Told.{ClosedTold}
use Rattle.kernel_copy.specs.Courses.{CourseTold}
use Rattle.rewind_desk.specs.Rewinds.{last_event}
use Rattle.rewind_desk.specs.declared.aimed.Aimed.{Aimed}
use Rattle.rewind_desk.specs.declared.aimed.Aimed.TheVariants.{At, NoBranch}
use Rattle.rewind_desk.specs.declared.past.Past.{Past}
use Rattle.rewind_desk.specs.declared.target.Target.{Target}
use Rattle.rewind_desk.specs.Targets.{aimed_at, aimed_from, aimed_next, branch_of, has_name, last_event_for, past_from, target_of}
use Rattle.abides_run.specs.Fetched.{IsAmong}
use Rattle.abides_run.specs.Rewinds.{IsThere, lasts_before, lasts_of, steps_from, argument_at}

-- a target is of one of so many branches, and its event has at most 7 digits
pub record IsWithin (n : ℕ) (t : Target) : Type 0 where
  pub branch : t.branch < n
  pub event : t.event ≤ 9999999

-- marks from this index on come to a target each, or one of them names no branch
abbrev pub AreAimed : ℕ → ℕ → ℕ → Aimed → Type 0
AreAimed n i count (At ts) = (length ts ≡ count) × All (IsWithin n) ts
AreAimed n i count (NoBranch j) = (i ≤ j) × (j < i + count)

first-within : (b : Bool) (i n : ℕ) (o : Option ℕ) → IfSome o (λ k. k < i + 1 + n) → IfSome (if b then Some i else o) (λ k. k < i + suc n)
first-within true i n o h = omega arith
first-within false i n None h = tt
first-within false i n (Some k) h = omega (arith, h)

position-within : (test : Branch → Bool) (i : ℕ) (bs : List Branch) → IfSome (position_from test i bs) (λ k. k < i + length bs)
position-within test i [] = tt
position-within test i (b ∷ bs) = first-within (test b) i (length bs) (position_from test (i + 1) bs) (position-within test (i + 1) bs)

within-if : (n e : ℕ) (o : Option ℕ) → e ≤ 9999999 → IfSome o (λ k. k < n) → IfSome (option_map (λ (b : ℕ). record { branch = b; event = e }) o) (IsWithin n)
within-if n e None few h = tt
within-if n e (Some k) few h = record { branch = h; event = few }

target-within : (bs : List Branch) (m : Mark) → IsMark m → IfSome (target_of bs m) (IsWithin (length bs))
target-within bs m is =
    let all : 0 + length bs ≡ length bs = omega arith in
    within-if (length bs) m.event (branch_of bs m.branch) is.event
    (subst (λ (n : ℕ). IfSome (branch_of bs m.branch) (λ k. k < n)) all (position-within (has_name m.branch) 0 bs))

aimed-more : (n i count : ℕ) (o : Option Target) (behind : Aimed) → IfSome o (IsWithin n) → AreAimed n (i + 1) count behind
    → AreAimed n i (suc count) (aimed_next i o behind)
aimed-more n i count None behind t h = (omega arith, omega arith)
aimed-more n i count (Some x) (At ts) t h = (ap suc h.0, All-cons (IsWithin n) x ts t h.1)
aimed-more n i count (Some x) (NoBranch j) t h = (omega (arith, h.0), omega (arith, h.1))

aimed-within : (bs : List Branch) (i : ℕ) (ms : List Mark) → All IsMark ms → AreAimed (length bs) i (length ms) (aimed_from bs i ms)
aimed-within bs i [] h = (refl, All-nil (IsWithin (length bs)))
aimed-within bs i (m ∷ ms) h =
    aimed-more (length bs) i (length ms) (target_of bs m) (aimed_from bs (i + 1) ms) (target-within bs m (All-head IsMark m ms h))
    (aimed-within bs (i + 1) ms (All-tail IsMark m ms h))

-- The targets of marks are as many, each of a branch that is there.
pub targets-within : (bs : List Branch) (ms : List Mark) (ts : List Target) → All IsMark ms → aimed_at bs ms ≡ At ts
    → (length ts ≡ length ms) × All (IsWithin (length bs)) ts
targets-within bs ms ts h is = subst (AreAimed (length bs) 0 (length ms)) is (aimed-within bs 0 ms h)

-- the first mark that names no branch is one of them
pub unnamed-below : (bs : List Branch) (ms : List Mark) (j : ℕ) → All IsMark ms → aimed_at bs ms ≡ NoBranch j → j < length ms
unnamed-below bs ms j h is =
    let a : AreAimed (length bs) 0 (length ms) (NoBranch j) = subst (AreAimed (length bs) 0 (length ms)) is (aimed-within bs 0 ms h) in
    omega (arith, a.1)

-- no target is past its branch's last event, or the first that is is one of them
abbrev pub ArePast : List ℕ → ℕ → List Target → Option Past → Type 0
ArePast lasts i ts None = All (λ (t : Target). t.event ≤ last_event_for lasts t) ts
ArePast lasts i ts (Some p) = (i ≤ p.index) × (p.index < i + length ts)

past-more : (lasts : List ℕ) (i : ℕ) (t : Target) (ts : List Target) (o : Option Past) (b : Bool) → nat_lt (last_event_for lasts t) t.event ≡ b
    → ArePast lasts (i + 1) ts o → ArePast lasts i (t ∷ ts) (if b then Some (record { index = i; last = last_event_for lasts t }) else o)
past-more lasts i t ts o true is h = (omega arith, omega arith)
past-more lasts i t ts None false is h = All-cons (λ (t : Target). t.event ≤ last_event_for lasts t) t ts (grind (arith, is)) h
past-more lasts i t ts (Some p) false is h = (omega (arith, h.0), omega (arith, h.1))

pub past-says : (lasts : List ℕ) (i : ℕ) (ts : List Target) → ArePast lasts i ts (past_from lasts i ts)
past-says lasts i [] = All-nil (λ (t : Target). t.event ≤ last_event_for lasts t)
past-says lasts i (t ∷ ts) = past-more lasts i t ts (past_from lasts (i + 1) ts) (nat_lt (last_event_for lasts t) t.event) refl (past-says lasts (i + 1) ts)

pub lasts-length : (c : CourseTold) (n : ℕ) → length (lasts_before c n) ≡ n
lasts-length c zero = refl
lasts-length c (suc n) = omega (arith, length-append (lasts_before c n) (last_event c n ∷ []), lasts-length c n)

-- each branch's last event stands at its number
pub lasts-at : (c : CourseTold) (n b : ℕ) → b < n → get_or (lasts_before c n) b 0 ≡ last_event c b
lasts-at c zero b less = absurd (omega (arith, less))
lasts-at c (suc n) b less = elim (nat_lt b n) as (λ x. nat_lt b n ≡ x → get_or (lasts_before c (suc n)) b 0 ≡ last_event c b) [
  | true ↦ λ e.
      let below : b < n = grind (arith, e) in
      get_or_append_left (lasts_before c n) (last_event c n ∷ []) 0 b (omega (arith, below, lasts-length c n)) ∙ lasts-at c n b below
  | false ↦ λ e.
      let least : n ≤ b = grind (arith, e) in
      let same : b ≡ length (lasts_before c n) = omega (arith, least, less, lasts-length c n) in
      let last : n ≡ b = omega (arith, least, less) in
      ap (λ (k : ℕ). get_or (lasts_before c n ++ last_event c n ∷ []) k 0) same
      ∙ get_or-append_seam (lasts_before c n) (last_event c n) [] 0
      ∙ ap (λ (k : ℕ). last_event c k) last
] refl

there-each : (c : CourseTold) (ts : List Target) → All (IsWithin (length c.plan.branches)) ts → All (λ (t : Target). t.event ≤ last_event_for (lasts_of c) t) ts
    → All (IsThere c) ts
there-each c [] within early = All-nil (IsThere c)
there-each c (t ∷ ts) within early =
    let own = All-head (IsWithin (length c.plan.branches)) t ts within in
    let last = All-head (λ (t : Target). t.event ≤ last_event_for (lasts_of c) t) t ts early in
    All-cons (IsThere c) t ts
    (record { branch = own.branch; event = subst (λ (k : ℕ). t.event ≤ k) (lasts-at c (length c.plan.branches) t.branch own.branch) last })
    (there-each c ts (All-tail (IsWithin (length c.plan.branches)) t ts within) (All-tail (λ (t : Target). t.event ≤ last_event_for (lasts_of c) t) t ts early))

-- targets none of which is past are there
pub are-there : (c : CourseTold) (ts : List Target) → All (IsWithin (length c.plan.branches)) ts → past_from (lasts_of c) 0 ts ≡ None → All (IsThere c) ts
are-there c ts within none = there-each c ts within (subst (ArePast (lasts_of c) 0 ts) none (past-says (lasts_of c) 0 ts))

pub past-below : (lasts : List ℕ) (ts : List Target) (p : Past) → past_from lasts 0 ts ≡ Some p → p.index < length ts
past-below lasts ts p is =
    let a : ArePast lasts 0 ts (Some p) = subst (ArePast lasts 0 ts) is (past-says lasts 0 ts) in
    omega (arith, a.1)

-- an element of a list of names is among them
among : (xs : List (List ℕ)) (i : ℕ) (d : List ℕ) → i < length xs → IsAmong (get_or xs i d) xs
among [] i d less = absurd (omega (arith, less))
among (x ∷ xs) zero d less = inl refl
among (x ∷ xs) (suc i) d less = inr (among xs i d (omega (arith, less)))

pub word-among : (ms : List Mark) (i : ℕ) → i < length ms → IsAmong (argument_at ms i) (map (λ (m : Mark). m.word) ms)
word-among ms i less = among (map (λ (m : Mark). m.word) ms) i [] (omega (arith, less, length-map ms (λ (m : Mark). m.word)))

pub word-is : (ms : List Mark) (i : ℕ) (d : Mark) → i < length ms → (get_or ms i d).word ≡ argument_at ms i
word-is ms i d less = sym (get_or-map (λ (m : Mark). m.word) ms i d [] less)

-- sums of fewer are less
pub sum-fewer : {X : Type 0} (f g : X → ℕ) (xs : List X) → ((x : X) → f x ≤ g x) → sum_by f xs ≤ sum_by g xs
sum-fewer f g [] h = omega arith
sum-fewer f g (x ∷ xs) h = omega (arith, sum_by-cons f x xs, sum_by-cons g x xs, h x, sum-fewer f g xs h)

-- a rewind makes few steps
pub few-steps : (shelf : ClosedTold CourseTold) (n : ℕ) (ts : List Target) → All (IsWithin n) ts → length ts ≤ 64 → sum_by (steps_from shelf) ts ≤ 639999936
few-steps shelf n ts within few =
    let each : All (λ (t : Target). steps_from shelf t ≤ 9999999) ts =
    All-weaker (IsWithin n) (λ (t : Target). steps_from shelf t ≤ 9999999) (λ t w. omega (arith, w.event)) ts within in
    omega (arith, sum_by-le (steps_from shelf) 9999999 ts each, few)

-- one item's steps more, and no more than all of them
pub steps-more : {X : Type 0} (f : X → ℕ) (xs : List X) (i : ℕ) (d : X) (a b n : ℕ) → i < length xs → b ≤ a + sum_by f (take i xs) → n ≤ b + f (get_or xs i d)
    → n ≤ a + sum_by f (take (i + 1) xs)
steps-more f xs i d a b n less before own = omega (arith, before, own, sum_by_more f xs i d less)

pub steps-within : {X : Type 0} (f : X → ℕ) (xs : List X) (i : ℕ) (d : X) (a b n : ℕ) → i < length xs → b ≤ a + sum_by f (take i xs) → n ≤ b + f (get_or xs i d)
    → n ≤ a + sum_by f xs
steps-within f xs i d a b n less before own = omega (arith, before, own, sum_by_more_le f xs i d less)

-- each target's branch has a last event among these
pub below-lasts : (c : CourseTold) (ms : List Mark) (ts : List Target) (lasts : List ℕ) → All IsMark ms → aimed_at c.plan.branches ms ≡ At ts → lasts ≡ lasts_of c
    → All (λ (t : Target). t.branch < length lasts) ts
below-lasts c ms ts lasts h is same =
    All-weaker (IsWithin (length c.plan.branches)) (λ (t : Target). t.branch < length lasts)
    (λ t w. omega (arith, w.branch, ap (λ (xs : List ℕ). length xs) same, lasts-length c (length c.plan.branches)))
    ts (targets-within c.plan.branches ms ts h is).1
