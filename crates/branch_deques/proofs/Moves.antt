-- Each step of a lane keeps its rule.
use Rattle.std.proofs.Common.{◌≡◌, ℕ, zero, suc, ◌+◌, List, [], ◌∷◌, ◌++◌, length, set, Some, slice_get, sym, refl, ap, subst, arith, ◌<◌, All}
use lib.Seq.{take-append_seam, drop-append_seam}
use Rattle.std.proofs.lemmas.List.Elements.{All-append, All-take, All-drop}
use mathlib.Core.Option.{some, some-ne-none, some-injective}
use lib.ListN.{get_elem?}
use Rattle.crossbeam_deque.specs.Tasks.{Pushes, Takes, Admits}
use Rattle.branch_deques.specs.declared.rule.LaneView.{LaneView}
use Rattle.branch_deques.specs.Lanes.{fresh, having_pushed, having_taken, times, total, Stands, Pushed, Took}

-- a view stands at its place, in the words of std
at_place : (views : List LaneView) (n : ℕ) (v : LaneView) → get_elem? views n ≡ some v → slice_get views n ≡ Some v
at_place [] n v e = absurd (some-ne-none v (sym e))
at_place (x ∷ xs) zero v e = ap Some (some-injective x v e)
at_place (x ∷ xs) (suc n) v e = at_place xs n v e

total_set : (count : LaneView → ℕ) (views : List LaneView) (n : ℕ) (v w : LaneView) → get_elem? views n ≡ some v → total count (set views n w) + count v ≡ total count views + count w
total_set count [] n v w e = absurd (some-ne-none v (sym e))
total_set count (x ∷ xs) zero v w e = let p : count x ≡ count v = ap count (some-injective x v e) in omega arith
total_set count (x ∷ xs) (suc n) v w e = let p : total count (set xs n w) + count v ≡ total count xs + count w = total_set count xs n v w e in omega arith

total_end : (count : LaneView → ℕ) (views : List LaneView) (w : LaneView) → total count (views ++ w ∷ []) ≡ total count views + count w
total_end count [] w = omega arith
total_end count (x ∷ xs) w = let p : total count (xs ++ w ∷ []) ≡ total count xs + count w = total_end count xs w in omega arith

times_append : (x : ℕ) (xs ys : List ℕ) → times x (xs ++ ys) ≡ times x xs + times x ys
times_append x [] ys = omega arith
times_append x (y ∷ xs) ys = let p : times x (xs ++ ys) ≡ times x xs + times x ys = times_append x xs ys in omega arith

left : (room : ℕ) (xs ys : List ℕ) → All (λ x. x < room) (xs ++ ys) → All (λ x. x < room) xs
left room xs ys h = subst (All (λ x. x < room)) (take-append_seam xs ys) (All-take (λ x. x < room) (length xs) (xs ++ ys) h)

right : (room : ℕ) (xs ys : List ℕ) → All (λ x. x < room) (xs ++ ys) → All (λ x. x < room) ys
right room xs ys h = subst (All (λ x. x < room)) (drop-append_seam xs ys) (All-drop (λ x. x < room) (length xs) (xs ++ ys) h)

one_of : {A : Type 0} (P : A → Type 0) (x : A) → P x → All P (x ∷ [])
one_of P x h zero d lt = h
one_of P x h (suc k) d lt = absurd (omega arith)

pub opens : (room : ℕ) → Stands room [] (fresh ∷ [])
opens room = record { balanced = λ x. refl; below = λ k d lt. absurd (omega arith) }

pub admits : (room : ℕ) → Admits (Stands room) fresh
admits room held views h = record {
  balanced = λ x. let a = h.balanced x in let p = total_end (λ v. times x v.pushed) views fresh in let t = total_end (λ v. times x v.taken) views fresh in omega arith;
  below = h.below;
}

pub puts : (room pass : ℕ) (v : LaneView) (s : ℕ) → s < room → Pushes (Stands room) pass v (s ∷ []) (λ w. Pushed room (s ∷ []) v w)
puts room pass v s low held views h at =
    let xs : List ℕ = s ∷ [] in let w : LaneView = having_pushed xs v in
    let after : Stands room (held ++ xs) (set views pass w) = record {
      balanced = λ x. let a = h.balanced x in let p = total_set (λ u. times x u.pushed) views pass v w at in let t = total_set (λ u. times x u.taken) views pass v w at in
          let s = times_append x v.pushed xs in let i = times_append x held xs in omega arith;
      below = All-append (λ x. x < room) held xs h.below (one_of (λ x. x < room) s low);
    } in
    (w, after, record { held = held; views = views; pass = pass; before = h; had = at_place views pass v at; after = after; is = refl })

pub takes : (room pass : ℕ) (v : LaneView) → Takes (Stands room) pass v 1 (λ xs w. Took room xs v w)
takes room pass v xs held views more few h at =
    let w : LaneView = having_taken xs v in
    let after : Stands room held (set views pass w) = record {
      balanced = λ x. let a = h.balanced x in let p = total_set (λ u. times x u.pushed) views pass v w at in let t = total_set (λ u. times x u.taken) views pass v w at in
          let s = times_append x v.taken xs in let i = times_append x xs held in omega arith;
      below = right room xs held h.below;
    } in
    (w, after, record { rest = held; views = views; pass = pass; before = h; had = at_place views pass v at; after = after; is = refl })

-- What was taken is below the room.
pub took_below : (room x : ℕ) (v w : LaneView) → Took room (x ∷ []) v w → x < room
took_below room x v w t = left room (x ∷ []) t.rest t.before.below 0 0 (omega arith)
