-- A worker between two segments.
use Rattle.std.proofs.Common.{◌≡◌, ◌≢◌, ℕ, zero, suc, ◌+◌, ◌^◌, ◌<◌, ◌≤◌, List, [], ◌∷◌, ◌++◌, length, sum_by, sym, refl, ap, ◌∙◌, subst, arith, length-append, add-one}
use Rattle.std.proofs.lemmas.List.{map-append}
use Rattle.std.proofs.lemmas.List.Sums.{sum_by-append, sum_by-cons}
use Rattle.std.proofs.lemmas.List.Elements.{All-push}
use mathlib.Core.Logic.{dite}
use native.Mathlib.Decide.{ℕ_discrete}
use Rattle.branch_tree.specs.Segments.{segments_in, children_of}
use Rattle.shelf_core.specs.Plan.{is_in}
use Rattle.shelf_core.specs.Views.{times}
use Rattle.shelf_core.specs.After.{with_claim, having_stopped}
use Rattle.shelf_core.specs.Made.{Same, Stays}
use Rattle.shelf_core.specs.declared.seat.SeatView.{SeatView}
use Rattle.shelf_core.proofs.Lists.{times_here, times_else, times_append}
use Rattle.checkpoint_shelf.specs.Told.{ShelfTold, SeatTold}
use Rattle.kernel_copy.specs.declared.kept.Keep.{Keep}
use Rattle.kernel_copy.specs.declared.run.Outcome.{Outcome}
use Rattle.kernel_copy.specs.Segmentwise.{own_before, distinct}
use Rattle.kernel_copy.specs.Courses.{CourseTold, IsCourse}
use Rattle.kernel_copy.specs.Outcomes.{OutcomeTold, outcome_told, outcome_of}
use Rattle.kernel_copy.proofs.Adding.{own-more, own-all, distinct-bound}
use Rattle.kernel_copy.proofs.Trees.{course-few}
use Rattle.branch_workers.specs.Layout.{end_key, key_at}
use Rattle.branch_workers.specs.Runs.{HasStates, Remains}
use Rattle.branch_workers.specs.Claims.{AreClaims, HasPushed}
use Rattle.branch_workers.specs.Workers.{own_of, IsAtWork, HasEnded, HasFinished}
use Rattle.branch_workers.proofs.Sums.{upto, weighs_most}
use Rattle.branch_workers.proofs.Children.{pushed_more, pushed_few}
use Rattle.branch_workers.proofs.Forks.{segments_few}

-- the own events of the segments below n
pub own_upto : (c : CourseTold) (n : ℕ) → n ≤ length (segments_in c.plan) → upto n (own_of c) ≡ own_before c.opening c.plan n
own_upto c zero h = refl
own_upto c (suc n) h =
    let r = own_upto c n (omega arith) in let m = own-more c.opening c.plan n (omega arith) in
    let e = ap (λ (k : ℕ). own_before c.opening c.plan k) (add-one n) in omega arith

-- those of all segments
pub own_distinct : (c : CourseTold) → upto (length (segments_in c.plan)) (own_of c) ≡ distinct c.opening c.plan
own_distinct c = own_upto c (length (segments_in c.plan)) (omega arith) ∙ own-all c.opening c.plan (length (segments_in c.plan)) (omega arith)

-- segments that are claimed at most once have few events of their own
pub claims_few : (c : CourseTold) (claims : List ℕ) → IsCourse c → AreClaims c.plan claims → sum_by (own_of c) claims < 2 ^ 52
claims_few c claims k a =
    let most = weighs_most (own_of c) (length (segments_in c.plan)) claims a.below (λ s l. a.once s) in
    let all = own_distinct c in
    let few = segments_few c.plan (course-few c k) in
    let bound = distinct-bound c k (omega arith) in omega arith

-- one claim more, of a segment that wasn't claimed
pub claims_more : (c : CourseTold) (claims : List ℕ) (g : ℕ) → AreClaims c.plan claims → g < length (segments_in c.plan) → times g claims ≡ 0 → AreClaims c.plan (claims ++ g ∷ [])
claims_more c claims g a below new = record {
  below = All-push (λ s. s < length (segments_in c.plan)) claims g a.below below;
  once = λ s. let t = times_append s claims (g ∷ []) in let o = a.once s in dite (ℕ_discrete s g)
      (λ (one : s ≡ g).
      let z : times s claims ≡ 0 = ap (λ (y : ℕ). times y claims) one ∙ new in
      let y : times s (g ∷ []) ≡ 1 = ap (λ (w : ℕ). times w (g ∷ [])) one ∙ times_here g [] in omega arith)
      (λ (ne : s ≢ g). let y : times s (g ∷ []) ≡ 0 = times_else s g [] (λ z. ne (sym z)) in omega arith);
}

pub sum_more : (f : ℕ → ℕ) (xs : List ℕ) (g : ℕ) → sum_by f (xs ++ g ∷ []) ≡ sum_by f xs + f g
sum_more f xs g = let a = sum_by-append f xs (g ∷ []) in let b = sum_by-cons f g [] in omega arith

module _ (c : CourseTold) (keep : Keep) (shelf : ShelfTold CourseTold) (number : ℕ) (seat : SeatTold CourseTold) (steps : ℕ) (outcomes : List Outcome) (pushed : List ℕ)
    (h : IsAtWork c keep shelf number seat steps outcomes pushed) where
  -- Nothing changed but what the seat saw.
  pub stays_at_work : (w : SeatTold CourseTold) → w.shelf ≡ seat.shelf → Same seat.view w.view → Stays seat.view w.view → IsAtWork c keep shelf number w steps outcomes pushed
  stays_at_work w at same stays = record {
    course = h.course;
    of = at ∙ h.of;
    numbers = same.numbers ∙ h.numbers;
    turns = same.turns ∙ h.turns;
    claims = subst (λ (xs : List ℕ). AreClaims c.plan xs) (sym same.claims) h.claims;
    counts = same.counts ∙ h.counts ∙ sym (ap (λ (xs : List ℕ). length xs) same.claims);
    states = λ s pos. let old = h.states s (subst (λ (xs : List ℕ). 0 < times s xs) same.claims pos) in record {
      parent = λ q e. stays.found (end_key c.plan q) (old.parent q e);
      fork = λ l. stays.known (end_key c.plan s) (old.fork l);
      grid = λ e there sole passed. stays.known (key_at s e) (old.grid e there sole passed);
    };
    segments = h.segments ∙ sym same.claims;
    told = h.told;
    counted = h.counted ∙ sym (ap (λ (xs : List ℕ). sum_by (own_of c) xs) same.claims);
    lane = subst (λ (xs : List ℕ). HasPushed c.plan xs pushed) (sym same.claims) h.lane;
  }

  -- The worker ends here.
  pub ends_here : HasEnded c shelf number seat steps
  ends_here = record {
    of = h.of;
    numbers = h.numbers;
    turns = h.turns;
    counted = (let e = h.counted in omega arith);
    few = (let e = h.counted in let f = claims_few c seat.view.claims h.course h.claims in omega arith);
  }

  pub finishes_here : length (segments_in c.plan) ≤ seat.view.done_seen → HasFinished c keep shelf.plan seat.view outcomes
  finishes_here done = record { below = h.claims.below; states = h.states; segments = h.segments; told = h.told; done = done }

  module _ (g : ℕ) (below : g < length (segments_in c.plan)) (new : times g seat.view.claims ≡ 0) (claimed : SeatView) (is : claimed ≡ with_claim g seat.view)
      (w : SeatTold CourseTold) (at : w.shelf ≡ seat.shelf) (remains : Remains claimed w.view) (turns : w.view.turns ≡ []) where
    claims_are : w.view.claims ≡ seat.view.claims ++ g ∷ []
    claims_are = remains.claims ∙ ap (λ (v : SeatView). v.claims) is

    numbers_are : w.view.numbers ≡ number ∷ []
    numbers_are = remains.numbers ∙ ap (λ (v : SeatView). v.numbers) is ∙ h.numbers

    -- The segment that was claimed didn't run to its end, for want of memory.
    pub fails : (made : ℕ) → made ≤ steps + own_of c g → HasEnded c shelf number w made
    fails made most =
        let more = claims_more c seat.view.claims g h.claims below new in
        let s = sum_more (own_of c) seat.view.claims g in
        let f = claims_few c (seat.view.claims ++ g ∷ []) h.course more in
        let e = h.counted in
        let sums : sum_by (own_of c) w.view.claims ≡ sum_by (own_of c) (seat.view.claims ++ g ∷ []) = ap (λ (xs : List ℕ). sum_by (own_of c) xs) claims_are in
        record {
          of = at ∙ h.of;
          numbers = numbers_are;
          turns = turns;
          counted = omega arith;
          few = omega arith;
        }

    -- It ran.
    pub ran : w.view.counts ≡ claimed.counts + 1 → HasStates c shelf.plan g w.view → (o : Outcome) → outcome_told o ≡ outcome_of c keep g → (made : ℕ) → made ≡ steps + own_of c g
        → IsAtWork c keep shelf number w made (outcomes ++ o ∷ []) (pushed ++ children_of c.plan g)
    ran counts states o told made rose =
        let more = claims_more c seat.view.claims g h.claims below new in
        let s = sum_more (own_of c) seat.view.claims g in
        record {
          course = h.course;
          of = at ∙ h.of;
          numbers = numbers_are;
          turns = turns;
          claims = subst (λ (xs : List ℕ). AreClaims c.plan xs) (sym claims_are) more;
          counts = (let old : claimed.counts ≡ seat.view.counts = ap (λ (v : SeatView). v.counts) is in let l = ap (λ (xs : List ℕ). length xs) claims_are in let a = length-append seat.view.claims (g ∷ []) in let e = h.counts in omega arith);
          states = λ t pos. dite (ℕ_discrete t g)
              (λ (one : t ≡ g). subst (λ (x : ℕ). HasStates c shelf.plan x w.view) (sym one) states)
              (λ (ne : t ≢ g).
              let a = times_append t seat.view.claims (g ∷ []) in
              let z : times t (g ∷ []) ≡ 0 = times_else t g [] (λ e. ne (sym e)) in
              let p : times t w.view.claims ≡ times t (seat.view.claims ++ g ∷ []) = ap (λ (xs : List ℕ). times t xs) claims_are in
              let old = h.states t (omega arith) in record {
                parent = λ q e. remains.found (end_key c.plan q) (ap (λ (v : SeatView). is_in (end_key c.plan q) v.found) is ∙ old.parent q e);
                fork = λ l. remains.known (end_key c.plan t) (ap (λ (v : SeatView). is_in (end_key c.plan t) v.known) is ∙ old.fork l);
                grid = λ e there sole passed. remains.known (key_at t e) (ap (λ (v : SeatView). is_in (key_at t e) v.known) is ∙ old.grid e there sole passed);
              });
          segments = map-append (λ (x : Outcome). x.segment) outcomes (o ∷ []) ∙ ap (λ (xs : List ℕ). xs ++ o.segment ∷ []) h.segments
              ∙ ap (λ (x : ℕ). seat.view.claims ++ x ∷ []) (ap (λ (x : OutcomeTold). x.segment) told) ∙ sym claims_are;
          told = All-push (λ (x : Outcome). outcome_told x ≡ outcome_of c keep x.segment) outcomes o h.told
              (told ∙ ap (λ (x : ℕ). outcome_of c keep x) (sym (ap (λ (x : OutcomeTold). x.segment) told)));
          counted = (let e = h.counted in let sums : sum_by (own_of c) w.view.claims ≡ sum_by (own_of c) (seat.view.claims ++ g ∷ []) = ap (λ (xs : List ℕ). sum_by (own_of c) xs) claims_are in omega arith);
          lane = subst (λ (xs : List ℕ). HasPushed c.plan xs (pushed ++ children_of c.plan g)) (sym claims_are) (pushed_more c.plan seat.view.claims pushed g new h.lane);
        }

-- A claim more than is counted.
pub claimed_more : (v w : SeatView) (g : ℕ) → w ≡ with_claim g v → v.counts ≡ length v.claims → w.counts < length w.claims
claimed_more v w g is counts =
    let a = ap (λ (x : SeatView). x.counts) is in
    let b = ap (λ (x : SeatView). length x.claims) is in
    let l = length-append v.claims (g ∷ []) in omega arith

-- A worker that ended may say so to the others.
pub stops_ended : (c : CourseTold) (shelf : ShelfTold CourseTold) (number : ℕ) (seat : SeatTold CourseTold) (steps : ℕ) → HasEnded c shelf number seat steps → (w : SeatTold CourseTold) → w.shelf ≡ seat.shelf → w.view ≡ having_stopped seat.view
    → HasEnded c shelf number w steps
stops_ended c shelf number seat steps h w at is =
    let claims = ap (λ (v : SeatView). sum_by (own_of c) v.claims) is in
    let e = h.counted in
    record {
      of = at ∙ h.of;
      numbers = ap (λ (v : SeatView). v.numbers) is ∙ h.numbers;
      turns = ap (λ (v : SeatView). v.turns) is ∙ h.turns;
      counted = omega arith;
      few = h.few;
    }

-- Each segment that goes on from one more can be pushed.
pub pushes_few : (c : CourseTold) (claims pushed : List ℕ) (g : ℕ) → AreClaims c.plan claims → HasPushed c.plan claims pushed → g < length (segments_in c.plan) → times g claims ≡ 0
    → length pushed + length (children_of c.plan g) ≤ length (segments_in c.plan)
pushes_few c claims pushed g a h below new =
    let f = pushed_few c.plan (claims ++ g ∷ []) (pushed ++ children_of c.plan g) (claims_more c claims g a below new) (pushed_more c.plan claims pushed g new h) in
    let l = length-append pushed (children_of c.plan g) in omega arith
