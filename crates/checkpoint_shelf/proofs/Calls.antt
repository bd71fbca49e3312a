-- What the calls make of what the steps tell.
use Rattle.std.proofs.Common.{◌≡◌, ℕ, suc, ◌+◌, ◌<◌, ◌/◌, ◌%◌, Bool, true, false, List, [], ◌∷◌, ◌++◌, Option, Some, slice_get, sym, refl, ap, ◌∙◌, subst, arith, ◌==◌, ⊎_elim, nat_eq}
use mathlib.Core.Option.{none}
use Rattle.atomic_table.specs.Table.{Me, step}
use Rattle.atomic_table.specs.Seated.{TableId}
use Rattle.std.specs.declared.sync.Arc.{Arc}
use Rattle.shelf_core.specs.Views.{times}
use Rattle.shelf_core.specs.After.{with_claim, having_loaded}
use Rattle.shelf_core.specs.declared.plan.ShelfPlan.{ShelfPlan}
use Rattle.shelf_core.specs.declared.words.ClaimWord.TheVariants.{Taken}
use Rattle.shelf_core.specs.declared.words.Seen.{Seen}
use Rattle.shelf_core.specs.declared.words.Seen.TheVariants.{Claim as claim_seen}
use Rattle.shelf_core.specs.declared.seat.SeatView.{SeatView}
use Rattle.shelf_core.proofs.Lists.{bool_cases, some_same, times_append, times_here}
use Rattle.checkpoint_shelf.specs.declared.about.About.{About}
use Rattle.checkpoint_shelf.specs.declared.about.View.{View}
use Rattle.checkpoint_shelf.specs.Codes.{done_code}
use Rattle.checkpoint_shelf.specs.Told.{ShelfTold, told_of, shelf_of}
use Rattle.checkpoint_shelf.specs.Holds.{IsSeat, seeing, Hands}
use Rattle.checkpoint_shelf.specs.Tells.{ClaimTold, Becomes}
use Rattle.shelf_core.proofs.Facts.{loaded, at_true, at_false}

-- What holds of the seat's own plan and view holds of those that the clause names.
pub shown : (P : ShelfPlan → SeatView → Type 0) (p q : ShelfPlan) (v w : SeatView) → p ≡ q → v ≡ w → P p v → P q w
shown P p q v w e f x = subst (λ (z : ShelfPlan × SeatView). P z.0 z.1) (λ j. (e j, f j)) x

module _ {C Co : Type 0} where
  pub about_same : (a b : About C Co) → a.plan ≡ b.plan → a.seats ≡ b.seats → a.course.value ≡ b.course.value → a ≡ b
  about_same a b e f g = λ i. record { plan = e i; seats = f i; course = record { marker = a.course.marker; value = g i } }

  -- A seat and a shelf that are seen as of one shelf have one table, and were told one thing.
  pub one_table : (x y : TableId) (a b : About C Co) → told_of x a ≡ told_of y b → x ≡ y
  one_table x y a b e = ap (λ (t : ShelfTold Co). t.table) e

  pub one_about : (x y : TableId) (a b : About C Co) → told_of x a ≡ told_of y b → a ≡ b
  one_about x y a b e = about_same a b (ap (λ (t : ShelfTold Co). t.plan) e) (ap (λ (t : ShelfTold Co). t.seats) e) (ap (λ (t : ShelfTold Co). t.course) e)

module _ {C Co Z : Type 0} where
  -- The shelf that a seat is seen to be of is the one that its view was told of.
  pub seat_told : (t : TableId) (x : ShelfTold Co) (k : About C Co) (number : ℕ) (me : Me (Option (Arc C Z)) (View C Co)) → IsSeat {Z = Z} k number me → shelf_of t me.0.about ≡ Some x → told_of t k ≡ x
  seat_told t x k number me seat e = some_same (told_of t k) x (sym (ap (shelf_of t) seat.about) ∙ e)

  -- And a step leaves it so.
  pub same_shelf : (t u : TableId) (x : Option (ShelfTold Co)) (k : About C Co) (number : ℕ) (me new : Me (Option (Arc C Z)) (View C Co)) → IsSeat {Z = Z} k number me → IsSeat {Z = Z} k number new → u ≡ t → shelf_of t me.0.about ≡ x → shelf_of u new.0.about ≡ x
  same_shelf t u x k number me new seat after same e = ap (shelf_of u) after.about ∙ ap (λ t. Some (told_of t k)) same ∙ sym (ap (shelf_of t) seat.about) ∙ e

module _ {C Co Z : Type 0} (k : About C Co) (number : ℕ) (me new : Me (Option (Arc C Z)) (View C Co)) (seat : IsSeat k number me) where
  -- A seat stays one by a step that keeps its numbers, turns and loan.
  pub becomes : (w : SeatView) → w.numbers ≡ me.0.seen.numbers → w.spent ≡ me.0.seen.spent → w.turns ≡ me.0.seen.turns → w.loan ≡ me.0.seen.loan → Becomes me w new → IsSeat k number new
  becomes w numbers spent turns loan b =
      let made : IsSeat {Z = Z} k number (seeing me.0 w, me.1) = record {
        fits = seat.fits;
        about = seat.about;
        live = spent ∙ seat.live;
        numbers = (seat.numbers.0, numbers ∙ seat.numbers.1);
        small = seat.small;
        leads = seat.leads;
        made = seat.made;
        met = seat.met;
        idle = loan ∙ seat.idle;
        places = λ i turn e. seat.places i turn (ap (λ l. slice_get l i) (sym turns) ∙ e);
        hands = subst (λ l. Hands l me.1) (sym turns) seat.hands;
      } in
      subst (IsSeat {Z = Z} k number) (λ j. (sym b.0 j, sym b.1 j)) made

  pub becomes_loaded : (plan : Option ShelfPlan) (seen : Seen) → Becomes me (having_loaded plan (Some seen) me.0.seen) new → IsSeat k number new
  becomes_loaded plan seen b = let s = loaded plan seen me.0.seen in becomes (having_loaded plan (Some seen) me.0.seen) s.numbers s.spent s.turns s.loan b

  pub claim_seat : (slots i g n found : ℕ) → i ≡ suc (slots + g) → ClaimTold (step slots i 0 n none) me found new → IsSeat k number new
  claim_seat slots i g n found i_is told = let all = told k seat.about g i_is in ⊎_elim
      (λ (e : (found == 0) ≡ true). let x = at_true _ _ _ e all in becomes (with_claim g me.0.seen) refl refl refl refl x.0)
      (λ (e : (found == 0) ≡ false). let x = at_false _ _ _ e all in becomes_loaded (Some k.plan) (claim_seen g (Taken x.0)) x.1)
      (bool_cases (found == 0))

pub halves : (d : ℕ) (b : Bool) (n : ℕ) → n ≡ done_code d b → (n / 2 ≡ d) × (nat_eq (n % 2) 1 ≡ b)
halves d true n e = (omega arith, let h : n % 2 ≡ 1 = omega arith in ap (λ (m : ℕ). nat_eq m 1) h)
halves d false n e = (omega arith, let h : n % 2 ≡ 0 = omega arith in ap (λ (m : ℕ). nat_eq m 1) h)

-- A segment that was claimed last.
pub claimed_end : (n : ℕ) (ms : List ℕ) → 0 < times n (ms ++ n ∷ [])
claimed_end n ms = let a = times_append n ms (n ∷ []) in let b = times_here n [] in omega arith
