-- The keys of forks.
use Rattle.std.proofs.Common.{◌≡◌, ◌≢◌, ℕ, zero, suc, ◌+◌, ◌<◌, ◌≤◌, All, Bool, true, false, List, [], ◌∷◌, Some, length, get_or, nat_lt, ◌||◌, if◌then◌else◌, sym, refl, ap, ◌∙◌, subst, ⊎_elim, arith}
use Rattle.std.proofs.lemmas.Bool.{lt-ltb}
use Rattle.std.proofs.lemmas.List.Elements.{All-cons, All-nil, All-head, All-tail}
use Rattle.std.specs.List.{list_all}
use mathlib.Core.Logic.{dite}
use native.Mathlib.Decide.{ℕ_discrete}
use Rattle.branch_tree.specs.declared.branch.Branch.{Branch}
use Rattle.branch_tree.specs.declared.segment.Segment.{Segment}
use Rattle.branch_tree.specs.declared.stop.Stop.{Stop}
use Rattle.branch_tree.specs.Stops.{number_of}
use Rattle.branch_tree.specs.Plan.{Plan}
use Rattle.branch_tree.specs.Segments.{joined_stop, stops_among, count_before, segments_in, segment_at, no_segment, last_of}
use Rattle.branch_tree.proofs.PartLemmas.{length-before}
use Rattle.shelf_core.specs.Plan.{same_key, is_in, is_before, are_distinct, rise, is_sole, place_of}
use Rattle.shelf_core.specs.declared.plan.Key.{Key}
use Rattle.shelf_core.specs.declared.plan.ShelfPlan.{ShelfPlan}
use Rattle.shelf_core.proofs.Lists.{bool_cases}
use Rattle.shelf_core.proofs.Plans.{key_self, fork_place}
use Rattle.checkpoint_shelf.specs.Plans.{KeyBelow}
use Rattle.kernel_copy.specs.Segmentwise.{fork_number}
use Rattle.branch_workers.specs.Layout.{end_key, forks_from, fork_keys}
use Rattle.branch_workers.proofs.Sums.{upto}

-- A list with or without one more in front.
abbrev with_key : Bool → Key → List Key → List Key
with_key b x keys = if b then x ∷ keys else keys

here_in : (b : Bool) (x : Key) (keys : List Key) → b ≡ true → is_in x (with_key b x keys) ≡ true
here_in b x keys e = subst (λ (c : Bool). is_in x (with_key c x keys) ≡ true) (sym e) (ap (λ (c : Bool). c || is_in x keys) (key_self x))

or_right : (a b : Bool) → b ≡ true → (a || b) ≡ true
or_right true b e = refl
or_right false b e = e

later_in : (b : Bool) (x key : Key) (keys : List Key) → is_in key keys ≡ true → is_in key (with_key b x keys) ≡ true
later_in true x key keys e = or_right (same_key x key) (is_in key keys) e
later_in false x key keys e = e

lt_true : (a b : ℕ) → a < b → nat_lt a b ≡ true
lt_true a b h = lt-ltb a b h

-- a segment that isn't its branch's last has its key among the forks
forks_have : (p : Plan) (k : ℕ) (gs : List Segment) (i s : ℕ) → s ≡ k + i → i < length gs → nat_lt s (last_of p.branches (get_or gs i no_segment).branch) ≡ true
    → is_in (record { segment = s; event = fork_number (get_or gs i no_segment).stop }) (forks_from p k gs) ≡ true
forks_have p k [] i s at l t = absurd (omega arith)
forks_have p k (g ∷ gs) zero s at l t =
    let e : k ≡ s = omega arith in
    subst (λ (n : ℕ). is_in (record { segment = s; event = fork_number g.stop }) (forks_from p n (g ∷ gs)) ≡ true) (sym e)
    (here_in (nat_lt s (last_of p.branches g.branch)) (record { segment = s; event = fork_number g.stop }) (forks_from p (s + 1) gs) t)
forks_have p k (g ∷ gs) (suc i) s at l t =
    later_in (nat_lt k (last_of p.branches g.branch)) (record { segment = k; event = fork_number g.stop }) (record { segment = s; event = fork_number (get_or gs i no_segment).stop }) (forks_from p (k + 1) gs)
    (forks_have p (k + 1) gs i s (omega arith) (omega arith) t)

pub end_is_fork : (p : Plan) (s : ℕ) → s < length (segments_in p) → s < last_of p.branches (segment_at p s).branch → is_in (end_key p s) (fork_keys p) ≡ true
end_is_fork p s l u = forks_have p 0 (segments_in p) s s (omega arith) l (lt_true s (last_of p.branches (segment_at p s).branch) u)

-- on a shelf with these forks it has a place of its own
pub end_place : (p : Plan) (plan : ShelfPlan) (s : ℕ) → plan.forks ≡ fork_keys p → s < length (segments_in p) → s < last_of p.branches (segment_at p s).branch
    → ((place : ℕ) × (place_of plan (end_key p s) ≡ Some place)) × (is_sole plan (end_key p s) ≡ true)
end_place p plan s forks l u =
    let there : is_in (end_key p s) plan.forks ≡ true = ap (λ (keys : List Key). is_in (end_key p s) keys) forks ∙ end_is_fork p s l u in
    let at = fork_place plan (end_key p s) there in
    ((at.0, at.1), sole plan (end_key p s) there)
  where
    sole : (q : ShelfPlan) (key : Key) → is_in key q.forks ≡ true → is_sole q key ≡ true
    sole q key e = rw e refl

-- keys from a later segment on come after this one
after_all : (p : Plan) (x : Key) (k : ℕ) (gs : List Segment) → x.segment < k → list_all (λ j. is_before x j) (forks_from p k gs) ≡ true
after_all p x k [] h = refl
after_all p x k (g ∷ gs) h = more (nat_lt k (last_of p.branches g.branch)) (after_all p x (k + 1) gs (omega arith))
  where
    more : (b : Bool) → list_all (λ j. is_before x j) (forks_from p (k + 1) gs) ≡ true → list_all (λ j. is_before x j) (with_key b (record { segment = k; event = fork_number g.stop }) (forks_from p (k + 1) gs)) ≡ true
    more false e = e
    more true e = let t = lt_true x.segment k h in rw t e

pub forks_rise : (p : Plan) (k : ℕ) (gs : List Segment) → rise (forks_from p k gs) ≡ true
forks_rise p k [] = refl
forks_rise p k (g ∷ gs) = more (nat_lt k (last_of p.branches g.branch)) (forks_rise p (k + 1) gs)
  where
    more : (b : Bool) → rise (forks_from p (k + 1) gs) ≡ true → rise (with_key b (record { segment = k; event = fork_number g.stop }) (forks_from p (k + 1) gs)) ≡ true
    more false e = e
    more true e = let a = after_all p (record { segment = k; event = fork_number g.stop }) (k + 1) gs (omega arith) in rw a e

none_before : (p : Plan) (x : Key) (k : ℕ) (gs : List Segment) → x.segment < k → is_in x (forks_from p k gs) ≡ false
none_before p x k [] h = refl
none_before p x k (g ∷ gs) h = more (nat_lt k (last_of p.branches g.branch)) (none_before p x (k + 1) gs (omega arith))
  where
    apart : same_key (record { segment = k; event = fork_number g.stop }) x ≡ false
    apart = let n : k ≢ x.segment = (λ e. omega arith) in rw (Rattle.std.proofs.Common.ne_eqb k x.segment n) refl

    more : (b : Bool) → is_in x (forks_from p (k + 1) gs) ≡ false → is_in x (with_key b (record { segment = k; event = fork_number g.stop }) (forks_from p (k + 1) gs)) ≡ false
    more false e = e
    more true e = rw apart e

pub forks_distinct : (p : Plan) (k : ℕ) (gs : List Segment) → are_distinct (forks_from p k gs) ≡ true
forks_distinct p k [] = refl
forks_distinct p k (g ∷ gs) = more (nat_lt k (last_of p.branches g.branch)) (forks_distinct p (k + 1) gs)
  where
    more : (b : Bool) → are_distinct (forks_from p (k + 1) gs) ≡ true → are_distinct (with_key b (record { segment = k; event = fork_number g.stop }) (forks_from p (k + 1) gs)) ≡ true
    more false e = e
    more true e = let a = none_before p (record { segment = k; event = fork_number g.stop }) (k + 1) gs (omega arith) in rw a e

pub forks_below : (p : Plan) (n k : ℕ) (gs : List Segment) → k + length gs ≤ n → All (λ (g : Segment). fork_number g.stop < 16777216) gs → All (KeyBelow n) (forks_from p k gs)
forks_below p n k [] h stops = All-nil (KeyBelow n)
forks_below p n k (g ∷ gs) h stops = more (nat_lt k (last_of p.branches g.branch)) (forks_below p n (k + 1) gs (omega arith) (All-tail (λ (x : Segment). fork_number x.stop < 16777216) g gs stops))
  where
    more : (b : Bool) → All (KeyBelow n) (forks_from p (k + 1) gs) → All (KeyBelow n) (with_key b (record { segment = k; event = fork_number g.stop }) (forks_from p (k + 1) gs))
    more false e = e
    more true e = All-cons (KeyBelow n) (record { segment = k; event = fork_number g.stop }) (forks_from p (k + 1) gs) (omega arith, All-head (λ (x : Segment). fork_number x.stop < 16777216) g gs stops) e

pub forks_few : (p : Plan) (k : ℕ) (gs : List Segment) → length (forks_from p k gs) ≤ length gs
forks_few p k [] = omega arith
forks_few p k (g ∷ gs) = more (nat_lt k (last_of p.branches g.branch)) (forks_few p (k + 1) gs)
  where
    more : (b : Bool) → length (forks_from p (k + 1) gs) ≤ length gs → length (with_key b (record { segment = k; event = fork_number g.stop }) (forks_from p (k + 1) gs)) ≤ suc (length gs)
    more false e = omega arith
    more true e = omega arith

-- How many segments there are: one for each branch, and at most one more for each branch that leaves another.
joined_few : (x : Stop) (ys : List Stop) → length (joined_stop x ys) ≤ suc (length ys)
joined_few x [] = omega arith
joined_few x (y ∷ ys) = ⊎_elim
    (λ (t : nat_lt (number_of x) (number_of y) ≡ true). rw t (omega arith))
    (λ (f : nat_lt (number_of x) (number_of y) ≡ false). ⊎_elim
    (λ (t : Rattle.std.proofs.Common.◌==◌ (number_of x) (number_of y) ≡ true). rw f (rw t (omega arith)))
    (λ (n : Rattle.std.proofs.Common.◌==◌ (number_of x) (number_of y) ≡ false). let r = joined_few x ys in rw f (rw n (omega arith)))
    (bool_cases (Rattle.std.proofs.Common.◌==◌ (number_of x) (number_of y))))
    (bool_cases (nat_lt (number_of x) (number_of y)))

abbrev cuts : ℕ → List Branch → ℕ
cuts n cs = upto n (λ b. length (stops_among b cs))

cuts_else : (n : ℕ) (c : Branch) (cs : List Branch) → n ≤ c.parent → cuts n (c ∷ cs) ≡ cuts n cs
cuts_else zero c cs h = refl
cuts_else (suc n) c cs h =
    let r = cuts_else n c cs (omega arith) in
    let t : length (stops_among n (c ∷ cs)) ≡ length (stops_among n cs) = rw (Rattle.std.proofs.Common.ne_eqb c.parent n (λ e. omega arith)) refl in
    omega arith

cuts_more : (n : ℕ) (c : Branch) (cs : List Branch) → cuts n (c ∷ cs) ≤ suc (cuts n cs)
cuts_more zero c cs = omega arith
cuts_more (suc n) c cs = dite (ℕ_discrete c.parent n)
    (λ (one : c.parent ≡ n).
    let r = cuts_else n c cs (omega arith) in
    let t : length (stops_among n (c ∷ cs)) ≤ suc (length (stops_among n cs)) = rw (Rattle.std.proofs.Common.eq-eqb c.parent n one) (joined_few c.stop (stops_among n cs)) in
    omega arith)
    (λ (ne : c.parent ≢ n).
    let r = cuts_more n c cs in
    let t : length (stops_among n (c ∷ cs)) ≡ length (stops_among n cs) = rw (Rattle.std.proofs.Common.ne_eqb c.parent n ne) refl in
    omega arith)

cuts_few : (n : ℕ) (cs : List Branch) → cuts n cs ≤ length cs
cuts_few n [] = none n
  where
    none : (m : ℕ) → cuts m [] ≤ 0
    none zero = omega arith
    none (suc m) = let r = none m in omega arith
cuts_few n (c ∷ cs) = let m = cuts_more n c cs in let r = cuts_few n cs in omega arith

counted : (root : Branch) (bs : List Branch) (n : ℕ) → count_before (root ∷ bs) n ≡ cuts n bs + n
counted root bs zero = refl
counted root bs (suc n) = let r = counted root bs n in omega arith

few_segments : (limit : ℕ) (bs : List Branch) → length bs ≤ 256 → count_before bs (length bs) ≤ 512
few_segments limit [] h = omega arith
few_segments limit (root ∷ bs) h = let c = counted root bs (length (root ∷ bs)) in let f = cuts_few (length (root ∷ bs)) bs in omega arith

pub segments_few : (p : Plan) → length p.branches ≤ 256 → length (segments_in p) ≤ 512
segments_few p h = let l = length-before p.branches p.limit (length p.branches) in let f = few_segments p.limit p.branches h in omega arith
