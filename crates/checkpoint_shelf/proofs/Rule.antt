-- What the rule gives, and how a step keeps it.
use Rattle.std.proofs.Common.{◌≡◌, ◌≢◌, ℕ, suc, ◌+◌, ◌<◌, Bool, true, false, List, [], ◌∷◌, Option, Some, slice_get, map, length, get_or, set, sym, refl, ap, ◌∙◌, subst, ⊎_elim, arith, if◌then◌else◌, length-append}
use Rattle.std.proofs.Math.ListN.{length-set}
use mathlib.Core.Option as plain
use mathlib.Core.Option.{some}
use lib.ListN.{get_elem?}
use Rattle.atomic_table.specs.Table.{State, Me, Act, keeps, stepped, Valid, carried_after}
use Rattle.atomic_table.proofs.Lists.{at_set}
use Rattle.std.specs.declared.sync.Arc.{Arc}
use Rattle.shelf_core.specs.Plan.{place_count}
use Rattle.shelf_core.specs.Views.{changed_at}
use Rattle.shelf_core.specs.Possible.{possible, passes, through, seen_at}
use Rattle.shelf_core.specs.After.{after, having_loaded}
use Rattle.shelf_core.specs.Orderly.{Orderly, HasShape, IsLaid}
use Rattle.shelf_core.specs.declared.plan.Key.{Key}
use Rattle.shelf_core.specs.declared.words.PlaceWord.{PlaceWord}
use Rattle.shelf_core.specs.declared.words.Word.{Word}
use Rattle.shelf_core.specs.declared.words.Seen.{Seen}
use Rattle.shelf_core.specs.declared.seat.SeatView.{SeatView}
use Rattle.shelf_core.specs.declared.system.System.{System}
use Rattle.shelf_core.specs.declared.event.Event.{Event}
use Rattle.shelf_core.specs.declared.event.Event.TheVariants.{Load}
use Rattle.shelf_core.proofs.Lists.{some_same, changed_is_set, total_set, set_here}
use Rattle.shelf_core.proofs.Steps.{live_is, after_orderly}
use Rattle.shelf_core.proofs.Facts.{loaded}
use Rattle.checkpoint_shelf.specs.declared.about.About.{About}
use Rattle.checkpoint_shelf.specs.declared.about.View.{View}
use Rattle.checkpoint_shelf.specs.Codes.{claim_code, place_code, words_of}
use Rattle.shelf_core.specs.Views.{live_count}
use Rattle.checkpoint_shelf.specs.Holds.{Holds, Stands, Knows, IsSeat, seeing}
use Rattle.shelf_core.specs.Made.{Makes, Sees}
use Rattle.checkpoint_shelf.proofs.Rows.{length_map, at_mapped, set_map, set_same}

head_number : List ℕ → ℕ
head_number [] = 0
head_number (n ∷ ns) = n

-- Where an event through a seat is possible.
pub can_at : (s : System) (n : ℕ) (v : SeatView) (test : SeatView → Bool) → slice_get s.views n ≡ Some v → v.spent ≡ false → test v ≡ true → through s n test ≡ true
can_at s n v test at live e = ap (λ o. passes o test) (live_is s.views n v at live) ∙ e

abbrev pub weight : Bool → ℕ
weight b = if b then 0 else 1

live_set : (views : List SeatView) (n : ℕ) (v w : SeatView) → slice_get views n ≡ Some v → w.spent ≡ v.spent → live_count (set views n w) ≡ live_count views
live_set views n v w at e =
    let t : live_count (set views n w) + weight v.spent ≡ live_count views + weight w.spent = total_set (λ u. weight u.spent) views n v w at in
    let f : weight w.spent ≡ weight v.spent = ap weight e in omega arith

module _ {C Co : Type 0} (Z : Type 0) (key_of : C → Key) (course_of : C → Co) (k : About C Co) where
  abbrev pub St : Type 0
  St = State (Option (Arc C Z)) (View C Co)

  abbrev pub It : Type 0
  It = Me (Option (Arc C Z)) (View C Co)

  abbrev pub Rule : St → Type 0
  Rule = Holds {C = C} {Co = Co} {Z = Z} key_of course_of k

  abbrev pub Stood : PlaceWord → plain.Option (plain.Option (Option (Arc C Z))) → Type 0
  Stood = Stands {C = C} {Co = Co} {Z = Z} key_of course_of k.course.value

  -- What a step of the seat id at the word i owes, where m is found there.
  abbrev pub Goes : St → ℕ → It → ℕ → (ℕ → ℕ) → (ℕ → It → Type 0) → ℕ → Type 0
  Goes t id me i f told m = (w : View C Co) × (a : Act (Option (Arc C Z))) × Valid t.homes me.1 a × Rule (stepped t i (f m) id me.1 w a) × told m (w, carried_after me.1 a)

  pub view_at : (t : St) (h : Rule t) (id : ℕ) (v : View C Co) → get_elem? t.views id ≡ some v → slice_get h.sys.views id ≡ Some v.seen
  view_at t h id v at = subst (λ l. slice_get l id ≡ Some v.seen) h.views (at_mapped (λ (u : View C Co). u.seen) t.views id v at)

  pub shape_of : (t : St) (h : Rule t) → IsLaid k.plan h.sys
  shape_of t h = subst (λ o. HasShape o h.sys) h.laid h.orderly.shape

  pub words_long : (t : St) (h : Rule t) → length t.words ≡ suc (place_count k.plan + k.plan.segments)
  words_long t h = let s = shape_of t h in let a = s.claims in let b = s.places in
      ap length h.words ∙ omega (arith, length-append (map place_code h.sys.places) (map claim_code h.sys.claims), length_map claim_code h.sys.claims, length_map place_code h.sys.places)

  pub number_is : (t : St) (h : Rule t) (id number : ℕ) (me : It) → IsSeat {Z = Z} k number me → get_elem? t.views id ≡ some me.0 → number ≡ id
  unfolding head_number
  number_is t h id number me seat at = let o = h.orderly.own id me.0.seen (view_at t h id me.0 at) seat.live in
      ap head_number (sym seat.numbers.1 ∙ o.1)

  -- The same of another plan that the seat's view names.
  pub about_is : (number : ℕ) (me : It) (k' : About C Co) → IsSeat {Z = Z} k number me → me.0.about ≡ Some k' → k ≡ k'
  about_is number me k' seat e = some_same k k' (sym seat.about ∙ e)

  -- A step through a seat keeps the rule.
  pub keeps_rule : (t : St) (h : Rule t) (id : ℕ) (v : View C Co) (w : SeatView) (z : System) (words : List ℕ) (homes : List (plain.Option (Option (Arc C Z))))
      → get_elem? t.views id ≡ some v → w.spent ≡ v.seen.spent → Orderly z → z.plan ≡ h.sys.plan → words ≡ words_of z → z.views ≡ set h.sys.views id w
      → ((p : ℕ) (c : PlaceWord) → slice_get z.places p ≡ Some c → Stood c (get_elem? homes p))
      → Rule (record { words = words; homes = homes; views = set t.views id (seeing v w) })
  keeps_rule t h id v w z words homes at sp orderly plan is views slots =
      let v_at = view_at t h id v at in
      let l : length (set t.views id (seeing v w)) ≡ length t.views = length-set {A = View C Co} t.views id (seeing v w) in
      let live : live_count z.views ≡ live_count h.sys.views = ap live_count views ∙ live_set h.sys.views id v.seen w v_at sp in record {
        sys = z;
        orderly = orderly;
        laid = plan ∙ h.laid;
        words = is;
        views = sym (set_map (λ (u : View C Co). u.seen) t.views id (seeing v w)) ∙ ap (λ (l : List SeatView). set l id w) h.views ∙ sym views;
        seats = (let s = h.seats in omega arith);
        slots = slots;
        told = λ i u e. subst (λ (n : ℕ × ℕ). Knows k n.0 n.1 i u) (λ j. (sym l j, sym live j)) (⊎_elim
            (λ (x : (i ≡ id) × (seeing v w ≡ u)). let q = h.told id v at in
            subst (λ (y : ℕ × View C Co). Knows k (length t.views) (live_count h.sys.views) y.0 y.1) (λ j. (sym x.0 j, x.1 j))
            (record { about = λ f. q.about (sym sp ∙ f); leads = λ f. let r = q.leads f in (r.0, sp ∙ r.1, r.2, r.3) }))
            (λ (x : (i ≢ id) × (get_elem? t.views i ≡ some u)). h.told i u x.1)
            (at_set t.views id i (seeing v w) u e));
      }

  -- An event through a seat that is possible, and the view that it leaves the seat.
  pub makes : (t : St) (h : Rule t) (id : ℕ) (v w : SeatView) (event : ℕ → Event) (change : SeatView → SeatView) → slice_get h.sys.views id ≡ Some v → possible h.sys (event id) ≡ true
      → (after h.sys (event id)).views ≡ changed_at change h.sys.views id → change v ≡ w → Makes k.plan event v w
  makes t h id v w event change at can is same = record {
    seat = id;
    before = h.sys;
    orderly = h.orderly;
    laid = h.laid;
    had = at;
    can = can;
    has = ap (λ l. slice_get l id) (is ∙ changed_is_set change h.sys.views id v at) ∙ set_here h.sys.views id (change v) v at ∙ ap Some same;
  }

  -- A load of a word, or a compare-exchange that finds another number.
  module _ (t : St) (h : Rule t) (id number : ℕ) (me : It) (seat : IsSeat {Z = Z} k number me) (at : get_elem? t.views id ≡ some me.0) (word : Word) (seen : Seen) (sees : seen_at h.sys word ≡ Some seen) where
    abbrev pub Looked : SeatView
    Looked = having_loaded (Some k.plan) (Some seen) me.0.seen

    can_look : possible h.sys (Load id word) ≡ true
    can_look = can_at h.sys id me.0.seen (λ view. Rattle.std.proofs.Common.is_some (seen_at h.sys word)) (view_at t h id me.0 at) seat.live (ap Rattle.std.proofs.Common.is_some sees)

    look_is : having_loaded h.sys.plan (seen_at h.sys word) me.0.seen ≡ Looked
    look_is = ap (λ o. having_loaded o (seen_at h.sys word) me.0.seen) h.laid ∙ ap (λ o. having_loaded (Some k.plan) o me.0.seen) sees

    pub sees_it : Sees k.plan word seen me.0.seen Looked
    unfolding makes
    sees_it = record {
      step = makes t h id me.0.seen Looked (λ n. Load n word) (having_loaded h.sys.plan (seen_at h.sys word)) (view_at t h id me.0 at) can_look refl look_is;
      sees = sees;
      is = refl;
    }

    pub look_rule : (i m : ℕ) → i < length t.words → get_or t.words i 0 ≡ m → Rule (stepped t i m id me.1 (seeing me.0 Looked) keeps)
    look_rule i m lt e = let v_at = view_at t h id me.0 at in
        keeps_rule t h id me.0 Looked (after h.sys (Load id word)) (set t.words i m) t.homes at ((loaded (Some k.plan) seen me.0.seen).spent)
        (after_orderly h.sys (Load id word) h.orderly can_look) refl (set_same t.words i m lt e ∙ h.words)
        (changed_is_set (having_loaded h.sys.plan (seen_at h.sys word)) h.sys.views id me.0.seen v_at ∙ ap (λ w. set h.sys.views id w) look_is)
        h.slots
