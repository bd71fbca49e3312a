-- Runs along a branch's path.
use Rattle.std.proofs.Common.{◌≡◌, ℕ, ◌+◌, ◌<◌, ◌≤◌, inl, inr, List, [], ◌∷◌, ◌++◌, Option, Some, None, length, append-nil, refl, sym, ap, ◌∙◌, arith, suc, zero, subst}
use Rattle.std.proofs.lemmas.Bool.{cases_eq, cases_lt, eq-eqb, ne_eqb, le-leb, lt-leb}
use Rattle.branch_tree.specs.declared.branch.Branch.{Branch}
use Rattle.branch_tree.specs.declared.segment.Segment.{Segment}
use Rattle.branch_tree.specs.Plan.{Plan, branch_at, parent_at, stop_at}
use Rattle.branch_tree.specs.Segments.{segments_in, segment_at, last_of}
use Rattle.branch_tree.specs.Planned.{IsTree, IsNext, IsFork, HasParent, ParentIs, IsPlanned}
use Rattle.branch_tree.proofs.PathLemmas.{rest-more}
use Rattle.branch_tree.proofs.PartLemmas.{last-at, planned}
use Rattle.market_types.specs.Told.{EntryTold}
use Rattle.market_floor.specs.declared.opening.Opening.{Opening}
use Rattle.kernel_core.specs.Until.{Run, until, behind}
use Rattle.kernel_core.proofs.EditRuns.{edited-events, edited-behind}
use Rattle.kernel_core.proofs.Stops.{until-behind, until-again, until-within}
use Rattle.kernel_core.proofs.Times.{until-stays}
use Rattle.kernel_copy.proofs.Halts.{stop-grows, stop-within, stop-again, stop-after, stop-behind, stop-own}
use Rattle.kernel_copy.specs.UntilStop.{until_stop}
use Rattle.branch_tree.specs.declared.stop.Stop.{Stop}
use Rattle.branch_tree.specs.declared.stop.Stop.TheVariants.{At}
use Rattle.branch_tree.specs.Stops.{IsWithin, ComesAfter}
use Rattle.kernel_copy.specs.Full.{opening_run, edited_by, forked, forks_of, begun, reach, full_along, full}
use Rattle.kernel_copy.specs.Segmentwise.{segment_end, parent_end, afresh, started_from, started_at, segment_run, from_count, own_count}

forked-append : (o : Opening) (bs : List Branch) (xs : List ℕ) (c : ℕ) (r : Run) → forked o bs (xs ++ c ∷ []) r ≡ edited_by bs c (until_stop o (stop_at bs c) (forked o bs xs r))
forked-append o bs [] c r = refl
forked-append o bs (x ∷ xs) c r = forked-append o bs xs c (edited_by bs x (until_stop o (stop_at bs x) r))

-- the root begins at the opening
begun-root : (o : Opening) (p : Plan) → begun o p 0 ≡ opening_run o
unfolding begun
begun-root o p = refl

-- any other branch begins with its edits at its parent's run
begun-more : (o : Opening) (p : Plan) (b : ℕ) → IsTree p.branches p.limit → 0 < b → b < length p.branches
    → begun o p b ≡ edited_by p.branches b (reach o p (parent_at p.branches b) (stop_at p.branches b))
unfolding begun
begun-more o p b t pos l =
    let bs = p.branches in
    ap (λ (xs : List ℕ). forked o bs xs (opening_run o)) (rest-more bs p.limit b t pos l)
    ∙ forked-append o bs (forks_of bs (parent_at bs b)) b (opening_run o)

-- a branch begins within the limit
begun-within : (n : ℕ) (o : Opening) (p : Plan) (b : ℕ) → IsTree p.branches p.limit → p.limit ≡ o.limit → b < length p.branches → b ≤ n → (begun o p b).state.events ≤ o.limit
begun-within zero o p b t lim l h =
    let e : 0 ≡ b = omega arith in
    subst (λ (c : ℕ). (begun o p c).state.events ≤ o.limit) e (omega (arith, ap (λ (r : Run). r.state.events) (begun-root o p)))
begun-within (suc n) o p b t lim l h = elim (cases_eq b 0) [
  | inl e ↦ subst (λ (c : ℕ). (begun o p c).state.events ≤ o.limit) (sym e) (omega (arith, ap (λ (r : Run). r.state.events) (begun-root o p)))
  | inr other ↦
      let bs = p.branches in
      let q = parent_at bs b in
      let pos : 0 < b = omega arith in
      let less = t.parents b pos l in
      let at = begun-within n o p q t lim (omega arith) (omega arith) in
      let to = stop-within o (stop_at bs b) (begun o p q) (subst (λ (m : ℕ). IsWithin m (stop_at bs b)) lim (t.limits b l)) at in
      let same = ap (λ (r : Run). r.state.events) (begun-more o p b t pos l) ∙ edited-events b (branch_at bs b).edits (reach o p q (stop_at bs b)) in
      omega arith
]

forked-grows : (o : Opening) (bs : List Branch) (xs : List ℕ) (r : Run) → r.state.events ≤ (forked o bs xs r).state.events
forked-grows o bs [] r = omega arith
forked-grows o bs (c ∷ cs) r =
    let t = until_stop o (stop_at bs c) r in
    let grows = stop-grows o (stop_at bs c) r in
    let keeps = edited-events c (branch_at bs c).edits t in
    let rest = forked-grows o bs cs (edited_by bs c t) in
    omega arith

full-forked : (o : Opening) (bs : List Branch) (e : ℕ) (xs : List ℕ) (r : Run) → (forked o bs xs r).state.events ≤ e → full_along o bs e xs r ≡ until o e (forked o bs xs r)
full-forked o bs e [] r h = refl
full-forked o bs e (c ∷ cs) r h =
    let t = until_stop o (stop_at bs c) r in
    let keeps = edited-events c (branch_at bs c).edits t in
    let grows = forked-grows o bs cs (edited_by bs c t) in
    let below : t.state.events ≤ e = omega arith in
    rw (le-leb t.state.events e below) (full-forked o bs e cs (edited_by bs c t) h)

-- from where a branch begins on, its full run is the run from there
pub full-begun : (o : Opening) (p : Plan) (b e : ℕ) → (begun o p b).state.events ≤ e → full o p b e ≡ until o e (begun o p b)
unfolding full begun
full-begun o p b e h = full-forked o p.branches e (forks_of p.branches b) (opening_run o) h

behind-afresh : (r : Run) → behind r.entries (afresh r.state) ≡ r
behind-afresh r = ap (λ (es : List EntryTold). let q : Run = record { state = r.state; entries = es } in q) (append-nil r.entries)

-- in front of a segment's own run in a branch that goes on stands its parent's
pub next-run : (o : Opening) (p : Plan) (b q : ℕ) → (segment_at p q).branch ≡ b → started_from o p b (Some q) ≡ afresh (segment_end o p (segment_at p q)).state
next-run o p b q e = rw (eq-eqb (segment_at p q).branch b e) refl

pub fork-run : (o : Opening) (p : Plan) (b q : ℕ) → ((segment_at p q).branch ≡ b → ⊥) → started_from o p b (Some q) ≡ edited_by p.branches b (afresh (segment_end o p (segment_at p q)).state)
fork-run o p b q n = rw (ne_eqb (segment_at p q).branch b n) refl

end-is : (o : Opening) (p : Plan) (h : Segment) (b : ℕ) (stop : Stop) → h.branch ≡ b → h.stop ≡ stop → segment_end o p h ≡ reach o p b stop
unfolding segment_end
end-is o p h b stop eb es = ap (λ (c : ℕ). reach o p c h.stop) eb ∙ ap (λ (n : Stop). reach o p b n) es

-- the three ways to go on, each with the branch, start and parent of the segment as variables
goes-first : (o : Opening) (p : Plan) (b : ℕ) → b ≡ 0 → behind (opening_run o).entries (opening_run o) ≡ begun o p b
goes-first o p b z = sym (begun-root o p) ∙ ap (λ (c : ℕ). begun o p c) (sym z)

goes-next : (o : Opening) (p : Plan) (b : ℕ) (at to : Stop) (q : ℕ) → IsNext p.limit b at to (segment_at p q) → behind (segment_end o p (segment_at p q)).entries (started_from o p b (Some q)) ≡ reach o p b at
goes-next o p b at to q n =
    let h = segment_at p q in
    ap (λ (r : Run). behind (segment_end o p h).entries r) (next-run o p b q n.branch)
    ∙ behind-afresh (segment_end o p h) ∙ end-is o p h b at n.branch n.meets

goes-fork : (o : Opening) (p : Plan) (b : ℕ) (at : Stop) (q : ℕ) → IsTree p.branches p.limit → b < length p.branches → IsFork p.branches b at (segment_at p q) → behind (segment_end o p (segment_at p q)).entries (started_from o p b (Some q)) ≡ begun o p b
goes-fork o p b at q t l f =
    let bs = p.branches in
    let h = segment_at p q in
    let less = t.parents b f.later l in
    ap (λ (r : Run). behind (segment_end o p h).entries r) (fork-run o p b q (λ e. absurd (omega (arith, f.parent))))
    ∙ sym (edited-behind b (branch_at bs b).edits (segment_end o p h).entries (afresh (segment_end o p h).state))
    ∙ ap (λ (r : Run). edited_by bs b r) (behind-afresh (segment_end o p h) ∙ end-is o p h (parent_at bs b) (stop_at bs b) f.parent f.meets)
    ∙ sym (begun-more o p b t f.later l)

-- A segment of a branch, with this stop and this parent, goes on from its parent's end: to its stop, and to each event
-- number that its parent's end hasn't passed.
pub record GoesOn (o : Opening) (p : Plan) (b : ℕ) (stop : Stop) (parent : Option ℕ) : Type 0 where
  pub reaches : until_stop o stop (behind (parent_end o p parent).entries (started_from o p b parent)) ≡ until_stop o stop (begun o p b)
  pub again : (e : ℕ) → (parent_end o p parent).state.events ≤ e → until o e (behind (parent_end o p parent).entries (started_from o p b parent)) ≡ until o e (begun o p b)
  pub begins : (begun o p b).state.events ≤ (parent_end o p parent).state.events
  pub counts : (started_from o p b parent).state.events ≡ (parent_end o p parent).state.events

events_same : (r q : Run) → r ≡ q → r.state.events ≡ q.state.events
events_same r q e = ap (λ (x : Run). x.state.events) e

goes-by-next : (o : Opening) (p : Plan) (b : ℕ) (at to : Stop) (q : ℕ) → IsTree p.branches p.limit → p.limit ≡ o.limit → b < length p.branches → IsNext p.limit b at to (segment_at p q) → GoesOn o p b to (Some q)
goes-by-next o p b at to q t lim l n =
    let h = segment_at p q in
    let left = goes-next o p b at to q n in
    let same = events_same (segment_end o p h) (reach o p b at) (end-is o p h b at n.branch n.meets) in
    let low = begun-within b o p b t lim l (omega arith) in
    let grows = stop-grows o at (begun o p b) in
    record {
      reaches = ap (λ (x : Run). until_stop o to x) left ∙ stop-after o at to (begun o p b) (subst (λ (m : ℕ). ComesAfter m at to) lim n.rises) low;
      again = λ e k. ap (λ (x : Run). until o e x) left ∙ stop-again o at e (begun o p b) (omega arith);
      begins = omega arith;
      counts = events_same (started_from o p b (Some q)) (afresh (segment_end o p h).state) (next-run o p b q n.branch);
    }

goes-by-fork : (o : Opening) (p : Plan) (b : ℕ) (at to : Stop) (q : ℕ) → IsTree p.branches p.limit → b < length p.branches → IsFork p.branches b at (segment_at p q) → GoesOn o p b to (Some q)
goes-by-fork o p b at to q t l n =
    let h = segment_at p q in
    let left = goes-fork o p b at q t l n in
    let less = t.parents b n.later l in
    let count = events_same (started_from o p b (Some q)) (edited_by p.branches b (afresh (segment_end o p h).state)) (fork-run o p b q (λ e. absurd (omega (arith, n.parent))))
    ∙ edited-events b (branch_at p.branches b).edits (afresh (segment_end o p h).state) in
    let same = events_same (behind (segment_end o p h).entries (started_from o p b (Some q))) (begun o p b) left in
    record {
      reaches = ap (λ (r : Run). until_stop o to r) left;
      again = λ e k. ap (λ (r : Run). until o e r) left;
      begins = omega arith;
      counts = count;
    }

goes-on : (o : Opening) (p : Plan) (s b : ℕ) (at to : Stop) (parent : Option ℕ) → IsTree p.branches p.limit → p.limit ≡ o.limit → b < length p.branches → ParentIs p.branches p.limit (segments_in p) s b at to parent → GoesOn o p b to parent
goes-on o p s b at to None t lim l z =
    let left = goes-first o p b z in
    let same = events_same (begun o p b) (opening_run o) (sym left) in
    record {
      reaches = ap (λ (r : Run). until_stop o to r) left;
      again = λ e k. ap (λ (r : Run). until o e r) left;
      begins = omega arith;
      counts = refl;
    }
goes-on o p s b at to (Some q) t lim l h = elim h.joins [
  | inl n ↦ goes-by-next o p b at to q t lim l n
  | inr n ↦ goes-by-fork o p b at to q t l n
]

-- a segment of a plan is planned
pub planned-at : (p : Plan) (s : ℕ) → IsTree p.branches p.limit → s < length (segments_in p) → IsPlanned p.branches p.limit (segments_in p) s (segment_at p s)
planned-at p s t l = (planned p t).each s l

-- each segment of a plan goes on from its parent's end
pub segment-goes : (o : Opening) (p : Plan) (s : ℕ) → IsTree p.branches p.limit → p.limit ≡ o.limit → s < length (segments_in p) → GoesOn o p (segment_at p s).branch (segment_at p s).stop (segment_at p s).parent
segment-goes o p s t lim l =
    let g = segment_at p s in
    let h = planned-at p s t l in
    goes-on o p s g.branch g.start g.stop g.parent t lim h.branch h.parent

started-is : (o : Opening) (p : Plan) (g : Segment) → started_at o p g ≡ started_from o p g.branch g.parent
unfolding started_at
started-is o p g = refl

-- A segment's end is its own run from its parent's end, with the entries up to there in front.
pub segment-copy : (o : Opening) (p : Plan) (s : ℕ) → IsTree p.branches p.limit → p.limit ≡ o.limit → s < length (segments_in p) → segment_end o p (segment_at p s) ≡ behind (parent_end o p (segment_at p s).parent).entries (segment_run o p (segment_at p s))
segment-copy o p s t lim l =
    let g = segment_at p s in
    let k = segment-goes o p s t lim l in
    let before = (parent_end o p g.parent).entries in
    end-is o p g g.branch g.stop refl refl
    ∙ sym k.reaches
    ∙ stop-behind o g.stop before (started_from o p g.branch g.parent)
    ∙ ap (λ (r : Run). behind before (until_stop o g.stop r)) (sym (started-is o p g))

-- from the events before its own on, a branch's full run is the segment's own run
pub segment-after : (o : Opening) (p : Plan) (s e : ℕ) → IsTree p.branches p.limit → p.limit ≡ o.limit → s < length (segments_in p) → from_count o p (segment_at p s) ≤ e
    → full o p (segment_at p s).branch e ≡ behind (parent_end o p (segment_at p s).parent).entries (until o e (started_at o p (segment_at p s)))
segment-after o p s e t lim l m =
    let g = segment_at p s in
    let k = segment-goes o p s t lim l in
    let before = (parent_end o p g.parent).entries in
    full-begun o p g.branch e (omega (arith, k.begins))
    ∙ sym (k.again e m)
    ∙ until-behind o e before (started_from o p g.branch g.parent)
    ∙ ap (λ (r : Run). behind before (until o e r)) (sym (started-is o p g))

-- its events are those before it and its own
pub segment-grows : (o : Opening) (p : Plan) (s : ℕ) → IsTree p.branches p.limit → p.limit ≡ o.limit → s < length (segments_in p) → from_count o p (segment_at p s) ≤ (segment_end o p (segment_at p s)).state.events
segment-grows o p s t lim l =
    let g = segment_at p s in
    let k = segment-goes o p s t lim l in
    let same = events_same (segment_end o p g) (behind (parent_end o p g.parent).entries (segment_run o p g)) (segment-copy o p s t lim l) in
    let begins = events_same (started_at o p g) (started_from o p g.branch g.parent) (started-is o p g) in
    omega (arith, k.counts, stop-grows o g.stop (started_at o p g))

-- the three ways to go on from a parent's end
pub segment-first : (o : Opening) (p : Plan) (s : ℕ) → IsTree p.branches p.limit → p.limit ≡ o.limit → s < length (segments_in p) → (segment_at p s).parent ≡ None
    → segment_end o p (segment_at p s) ≡ until_stop o (segment_at p s).stop (opening_run o)
segment-first o p s t lim l none =
    let g = segment_at p s in
    let h = planned-at p s t l in
    let z : g.branch ≡ 0 = subst (λ (x : Option ℕ). ParentIs p.branches p.limit (segments_in p) s g.branch g.start g.stop x) none h.parent in
    end-is o p g 0 g.stop z refl ∙ ap (λ (r : Run). until_stop o g.stop r) (begun-root o p)

pub has_parent : (p : Plan) (s q : ℕ) → IsTree p.branches p.limit → s < length (segments_in p) → (segment_at p s).parent ≡ Some q → HasParent p.branches p.limit (segments_in p) s (segment_at p s).branch (segment_at p s).start (segment_at p s).stop q
has_parent p s q t l is =
    let g = segment_at p s in
    subst (λ (x : Option ℕ). ParentIs p.branches p.limit (segments_in p) s g.branch g.start g.stop x) is (planned-at p s t l).parent

pub segment-next : (o : Opening) (p : Plan) (s q : ℕ) → IsTree p.branches p.limit → p.limit ≡ o.limit → s < length (segments_in p) → (segment_at p s).parent ≡ Some q → (segment_at p q).branch ≡ (segment_at p s).branch
    → segment_end o p (segment_at p s) ≡ until_stop o (segment_at p s).stop (segment_end o p (segment_at p q))
segment-next o p s q t lim l is same =
    let g = segment_at p s in
    let x = segment_at p q in
    let h = planned-at p s t l in
    let k = has_parent p s q t l is in
    elim k.joins [
      | inl n ↦ end-is o p g g.branch g.stop refl refl
          ∙ sym (stop-after o g.start g.stop (begun o p g.branch) (subst (λ (m : ℕ). ComesAfter m g.start g.stop) lim n.rises) (begun-within g.branch o p g.branch t lim h.branch (omega arith)))
          ∙ ap (λ (r : Run). until_stop o g.stop r) (sym (end-is o p x g.branch g.start n.branch n.meets))
      | inr n ↦ let less = t.parents g.branch n.later h.branch in absurd (omega (arith, n.parent))
    ]

pub segment-fork : (o : Opening) (p : Plan) (s q : ℕ) → IsTree p.branches p.limit → p.limit ≡ o.limit → s < length (segments_in p) → (segment_at p s).parent ≡ Some q → (segment_at p q).branch < (segment_at p s).branch
    → segment_end o p (segment_at p s) ≡ until_stop o (segment_at p s).stop (edited_by p.branches (segment_at p s).branch (segment_end o p (segment_at p q)))
segment-fork o p s q t lim l is less =
    let g = segment_at p s in
    let x = segment_at p q in
    let h = planned-at p s t l in
    let k = has_parent p s q t l is in
    let bs = p.branches in
    elim k.joins [
      | inl n ↦ absurd (omega (arith, n.branch))
      | inr n ↦ end-is o p g g.branch g.stop refl refl
          ∙ ap (λ (r : Run). until_stop o g.stop r) (begun-more o p g.branch t n.later h.branch
          ∙ ap (λ (r : Run). edited_by bs g.branch r) (sym (end-is o p x (parent_at bs g.branch) (stop_at bs g.branch) n.parent n.meets)))
    ]

-- a branch's full run is the end of its last segment
pub full-last : (o : Opening) (p : Plan) (b : ℕ) → IsTree p.branches p.limit → p.limit ≡ o.limit → b < length p.branches → full o p b o.limit ≡ segment_end o p (segment_at p (last_of p.branches b))
full-last o p b t same l =
    let at = last-at p b l in
    let low = begun-within b o p b t same l (omega arith) in
    full-begun o p b o.limit (omega arith)
    ∙ ap (λ (n : ℕ). reach o p b (At n)) (sym same)
    ∙ sym (end-is o p (segment_at p (last_of p.branches b)) b (At p.limit) at.1.branch at.1.stop)

-- how a segment's own run begins
pub started-first : (o : Opening) (p : Plan) (g : Segment) → g.parent ≡ None → started_at o p g ≡ opening_run o
started-first o p g none = started-is o p g ∙ ap (λ (x : Option ℕ). started_from o p g.branch x) none

pub started-goes : (o : Opening) (p : Plan) (g : Segment) (q : ℕ) → g.parent ≡ Some q → started_at o p g ≡ started_from o p g.branch (Some q)
started-goes o p g q is = started-is o p g ∙ ap (λ (x : Option ℕ). started_from o p g.branch x) is

-- a segment's run makes its own events
pub own-is : (o : Opening) (p : Plan) (s : ℕ) → IsTree p.branches p.limit → p.limit ≡ o.limit → s < length (segments_in p)
    → (segment_run o p (segment_at p s)).state.events ≡ (started_at o p (segment_at p s)).state.events + own_count o p (segment_at p s)
own-is o p s t lim l =
    let g = segment_at p s in
    let k = segment-goes o p s t lim l in
    let same = events_same (segment_end o p g) (behind (parent_end o p g.parent).entries (segment_run o p g)) (segment-copy o p s t lim l) in
    let begins = events_same (started_at o p g) (started_from o p g.branch g.parent) (started-is o p g) in
    omega (arith, k.counts, segment-grows o p s t lim l)

-- a segment's end stands within the limit
pub segment-within : (o : Opening) (p : Plan) (s : ℕ) → IsTree p.branches p.limit → p.limit ≡ o.limit → s < length (segments_in p) → (segment_end o p (segment_at p s)).state.events ≤ o.limit
segment-within o p s t lim l =
    let g = segment_at p s in
    let h = planned-at p s t l in
    let low = begun-within g.branch o p g.branch t lim h.branch (omega arith) in
    let same = events_same (segment_end o p g) (reach o p g.branch g.stop) (end-is o p g g.branch g.stop refl refl) in
    omega (arith, stop-within o g.stop (begun o p g.branch) (subst (λ (m : ℕ). IsWithin m g.stop) lim h.within) low)

begun-before : (o : Opening) (p : Plan) (g : Segment) → (begun o p g.branch).state.events ≤ (segment_end o p g).state.events
begun-before o p g = omega (arith, events_same (segment_end o p g) (reach o p g.branch g.stop) (end-is o p g g.branch g.stop refl refl), stop-grows o g.stop (begun o p g.branch))

-- a segment's end is its branch's full run up to its events
pub segment-ends : (o : Opening) (p : Plan) (g : Segment) → segment_end o p g ≡ full o p g.branch (segment_end o p g).state.events
segment-ends o p g =
    let e = end-is o p g g.branch g.stop refl refl in
    e ∙ sym (full-begun o p g.branch (segment_end o p g).state.events (begun-before o p g)
    ∙ ap (λ (r : Run). until o r.state.events (begun o p g.branch)) e
    ∙ stop-own o g.stop (begun o p g.branch))

-- and up to each number from there to its stop, where that is an event number
pub segment-stays : (o : Opening) (p : Plan) (g : Segment) (n e : ℕ) → g.stop ≡ At n → (segment_end o p g).state.events ≤ e → e ≤ n → full o p g.branch e ≡ segment_end o p g
segment-stays o p g n e is low high =
    let r = begun o p g.branch in
    let at : segment_end o p g ≡ until o n r = end-is o p g g.branch (At n) refl is in
    let same = events_same (segment_end o p g) (until o n r) at in
    full-begun o p g.branch e (omega (arith, begun-before o p g))
    ∙ sym (until-again o n e r (omega arith))
    ∙ until-stays o n e r high
    ∙ sym at

-- a segment whose parent's end stands within its stop stops there at the latest
pub segment-until : (o : Opening) (p : Plan) (s n : ℕ) → IsTree p.branches p.limit → p.limit ≡ o.limit → s < length (segments_in p) → (segment_at p s).stop ≡ At n → from_count o p (segment_at p s) ≤ n
    → (segment_end o p (segment_at p s)).state.events ≤ n
segment-until o p s n t lim l is low =
    let g = segment_at p s in
    let k = segment-goes o p s t lim l in
    let same = events_same (segment_end o p g) (until o n (begun o p g.branch)) (end-is o p g g.branch (At n) refl is) in
    omega (arith, k.begins, until-within o n (begun o p g.branch) (omega (arith, k.begins)))

-- a run past the branches that it passes by an event number
full-through : (o : Opening) (bs : List Branch) (e : ℕ) (xs ys : List ℕ) (r : Run) → (forked o bs xs r).state.events ≤ e → full_along o bs e (xs ++ ys) r ≡ full_along o bs e ys (forked o bs xs r)
full-through o bs e [] ys r h = refl
full-through o bs e (c ∷ cs) ys r h =
    let t = until_stop o (stop_at bs c) r in
    let keeps = edited-events c (branch_at bs c).edits t in
    let grows = forked-grows o bs cs (edited_by bs c t) in
    let below : t.state.events ≤ e = omega arith in
    rw (le-leb t.state.events e below) (full-through o bs e cs ys (edited_by bs c t) h)

-- and one that stops before
full-cut : (o : Opening) (bs : List Branch) (e : ℕ) (xs : List ℕ) (c : ℕ) (r : Run) → e < (forked o bs xs r).state.events → full_along o bs e (xs ++ c ∷ []) r ≡ full_along o bs e xs r
full-cut o bs e [] c r h =
    let t = until_stop o (stop_at bs c) r in
    let grows = stop-grows o (stop_at bs c) r in
    rw (lt-leb t.state.events e (omega arith)) refl
full-cut o bs e (x ∷ xs) c r h =
    let t = until_stop o (stop_at bs x) r in
    elim (cases_lt e t.state.events) [
      | inl past ↦ rw (lt-leb t.state.events e past) refl
      | inr below ↦ rw (le-leb t.state.events e below) (full-cut o bs e xs c (edited_by bs x t) h)
    ]

full-parent_past : (o : Opening) (p : Plan) (b e : ℕ) → IsTree p.branches p.limit → 0 < b → b < length p.branches → e < (begun o p (parent_at p.branches b)).state.events → full o p b e ≡ full o p (parent_at p.branches b) e
unfolding begun full
full-parent_past o p b e t pos l h =
    let bs = p.branches in
    ap (λ (xs : List ℕ). full_along o bs e xs (opening_run o)) (rest-more bs p.limit b t pos l)
    ∙ full-cut o bs e (forks_of bs (parent_at bs b)) b (opening_run o) h

full-parent_below : (o : Opening) (p : Plan) (b e : ℕ) → IsTree p.branches p.limit → 0 < b → b < length p.branches → e < (reach o p (parent_at p.branches b) (stop_at p.branches b)).state.events
    → (begun o p (parent_at p.branches b)).state.events ≤ e → full o p b e ≡ full o p (parent_at p.branches b) e
unfolding begun full
full-parent_below o p b e t pos l h below =
    let bs = p.branches in
    let q = parent_at bs b in
    let r = forked o bs (forks_of bs q) (opening_run o) in
    ap (λ (xs : List ℕ). full_along o bs e xs (opening_run o)) (rest-more bs p.limit b t pos l)
    ∙ full-through o bs e (forks_of bs q) (b ∷ []) (opening_run o) below
    ∙ rw (lt-leb (until_stop o (stop_at bs b) r).state.events e h) refl
    ∙ sym (full-begun o p q e below)

-- Before the events at which a branch leaves its parent, its full run is its parent's.
pub full-parent : (o : Opening) (p : Plan) (b e : ℕ) → IsTree p.branches p.limit → 0 < b → b < length p.branches
    → e < (reach o p (parent_at p.branches b) (stop_at p.branches b)).state.events → full o p b e ≡ full o p (parent_at p.branches b) e
full-parent o p b e t pos l h = elim (cases_lt e (begun o p (parent_at p.branches b)).state.events) [
  | inl past ↦ full-parent_past o p b e t pos l past
  | inr below ↦ full-parent_below o p b e t pos l h below
]

-- Before the events of a parent's end a branch that forks there has its parent's full run.
pub segment-before : (o : Opening) (p : Plan) (s q e : ℕ) → IsTree p.branches p.limit → s < length (segments_in p) → (segment_at p s).parent ≡ Some q → (segment_at p q).branch < (segment_at p s).branch
    → e < (segment_end o p (segment_at p q)).state.events → full o p (segment_at p s).branch e ≡ full o p (segment_at p q).branch e
segment-before o p s q e t l is less under =
    let g = segment_at p s in
    let x = segment_at p q in
    let h = planned-at p s t l in
    let k = has_parent p s q t l is in
    let bs = p.branches in
    elim k.joins [
      | inl n ↦ absurd (omega (arith, n.branch))
      | inr n ↦
          let same = events_same (segment_end o p x) (reach o p (parent_at bs g.branch) (stop_at bs g.branch)) (end-is o p x (parent_at bs g.branch) (stop_at bs g.branch) n.parent n.meets) in
          full-parent o p g.branch e t n.later h.branch (omega arith) ∙ ap (λ (b : ℕ). full o p b e) (sym n.parent)
    ]
