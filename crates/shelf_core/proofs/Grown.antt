-- What one event more adds: a view at most, and no plan but its own.
use Rattle.std.proofs.Common.{◌≡◌, ℕ, zero, suc, ◌+◌, ◌≤◌, Bool, true, false, List, [], ◌∷◌, Option, Some, None, slice_get, length, take, refl, ap, ◌∙◌, arith, if◌then◌else◌, length-append}
use Rattle.std.specs.List.{fold}
use Rattle.std.proofs.Math.ListN.{length-set}
use Rattle.shelf_core.specs.Views.{changed_at, live_view, new_view, spent_view}
use Rattle.shelf_core.specs.Possible.{possible}
use Rattle.shelf_core.specs.After.{after, step_of, left_by, opening, after_return, after_join, loan_of, joined_with, with_claim, with_turn, having_published, without_turn, with_loan, with_count, having_stopped, having_loaded, having_returned, key_place}
use Rattle.shelf_core.specs.Possible.{seen_at}
use Rattle.shelf_core.specs.declared.plan.Key.{Key}
use Rattle.shelf_core.specs.declared.seat.SeatView.{SeatView}
use Rattle.shelf_core.specs.declared.system.System.{System}
use Rattle.shelf_core.specs.declared.event.Event.{Event}
use Rattle.shelf_core.specs.declared.event.Event.TheVariants.{Lay, Claim, Begin, Publish, Abandon, Lend, Return, Count, Stop, Load, Split, Join}
use Rattle.shelf_core.proofs.Lists.{not_some, some_same}

as_long : (change : SeatView → SeatView) (views : List SeatView) (n : ℕ) → length (changed_at change views n) ≡ length views
as_long change [] n = refl
as_long change (v ∷ views) zero = refl
as_long change (v ∷ views) (suc n) = ap suc (as_long change views n)

pub after_seats : (s : System) (e : Event) → length (after s e).views ≤ length s.views + 1
after_seats s (Lay plan) = omega arith
after_seats s (Claim n g) = let a = as_long (with_claim g) s.views n in omega arith
after_seats s (Begin n key) = let a = as_long (with_turn (key_place s key) key) s.views n in omega arith
after_seats s (Publish n key) = let a = as_long (having_published s.plan key) s.views n in omega arith
after_seats s (Abandon n key) = let a = as_long (without_turn key) s.views n in omega arith
after_seats s (Lend n key) = let a = as_long (with_loan s.plan (key_place s key) key) s.views n in omega arith
after_seats s (Return n) = returned (loan_of (live_view s.views n))
  where
    returned : (o : Option (ℕ × Key)) → length (after_return s n o).views ≤ length s.views + 1
    returned None = omega arith
    returned (Some l) = let a = as_long (having_returned l.1) s.views n in omega arith
after_seats s (Count n) = let a = as_long with_count s.views n in omega arith
after_seats s (Stop n) = let a = as_long having_stopped s.views n in omega arith
after_seats s (Load n word) = let a = as_long (having_loaded s.plan (seen_at s word)) s.views n in omega arith
after_seats s (Split n) = let a = length-append s.views (new_view (length s.views) ∷ []) in omega arith
after_seats s (Join n m) = joins (live_view s.views m)
  where
    joins : (o : Option SeatView) → length (after_join s n m o).views ≤ length s.views + 1
    joins None = omega arith
    joins (Some w) = let a = as_long (joined_with w) s.views n in let b = length-set (changed_at (joined_with w) s.views n) m spent_view in omega arith

-- What the clauses of a step say together.
pub step_is : (s t : System) (e : Event) (answer : Bool) → answer ≡ possible s e → (answer ≡ true → t ≡ after s e) → (answer ≡ false → t ≡ s) → t ≡ step_of s e
step_is s t e true is made not_made = made refl ∙ ap (λ (b : Bool). if b then after s e else s) is
step_is s t e false is made not_made = not_made refl ∙ ap (λ (b : Bool). if b then after s e else s) is

-- One event more.
fold_next : (events : List Event) (i : ℕ) (e : Event) (s : System) → slice_get events i ≡ Some e → fold step_of s (take (suc i) events) ≡ step_of (fold step_of s (take i events)) e
fold_next [] i e s is = absurd (not_some e is)
fold_next (x ∷ events) zero e s is = ap (step_of s) (some_same x e is)
fold_next (x ∷ events) (suc i) e s is = fold_next events i e (step_of s x) is

pub left_next : (events : List Event) (i : ℕ) (e : Event) → slice_get events i ≡ Some e → left_by (take (i + 1) events) ≡ step_of (left_by (take i events)) e
left_next events i e is = let next : i + 1 ≡ suc i = omega arith in ap (λ j. left_by (take j events)) next ∙ fold_next events i e opening is
