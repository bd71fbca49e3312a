-- Workers as they are made and as they end.
use Rattle.std.proofs.Common.{◌≡◌, ℕ, zero, suc, ◌+◌, ◌^◌, ◌<◌, ◌≤◌, All, Bool, true, false, List, [], ◌∷◌, ◌++◌, Some, Vec, Global, length, map, take, sum_by, slice_get, get_or, sym, refl, ap, ◌∙◌, subst, arith}
use Rattle.std.proofs.lemmas.List.{length-map}
use Rattle.std.proofs.Math.Seq.{take-append_seam}
use Rattle.std.proofs.lemmas.List.Elements.{All-nil, All-cons, All-head, All-tail, All-weaker}
use Rattle.std.proofs.lemmas.List.Sums.{sum_by-cons}
use Rattle.branch_tree.specs.Segments.{segments_in}
use Rattle.shelf_core.specs.Views.{times, new_view}
use Rattle.shelf_core.specs.declared.seat.SeatView.{SeatView}
use Rattle.shelf_core.proofs.Lists.{not_some, some_same}
use Rattle.branch_deques.specs.Told.{LaneTold}
use Rattle.checkpoint_shelf.specs.Told.{ShelfTold, SeatTold}
use Rattle.checkpoint_shelf.specs.Seats.{AllBack, NewFrom}
use Rattle.kernel_copy.specs.declared.kept.Keep.{Keep}
use Rattle.kernel_copy.specs.declared.run.Outcome.{Outcome}
use Rattle.kernel_copy.specs.Courses.{CourseTold, IsCourse}
use Rattle.kernel_copy.specs.Outcomes.{outcome_told, outcome_of}
use Rattle.branch_workers.specs.Claims.{HasPushed}
use Rattle.branch_workers.specs.Workers.{own_of, AreNumbered, IsAtWork, HasEnded, HasFinished, HaveFinished, IsHandedBack}

-- A worker that is made: its seat is new, and it has done nothing.
pub made_ready : (c : CourseTold) (keep : Keep) (shelf : ShelfTold CourseTold) (number : ℕ) (seat : SeatTold CourseTold) (pushed : List ℕ) → IsCourse c → seat.shelf ≡ Some shelf → seat.view ≡ new_view number → HasPushed c.plan [] pushed
    → IsAtWork c keep shelf number seat 0 [] pushed
made_ready c keep shelf number seat pushed k at new h =
    let ready : IsAtWork c keep shelf number (record { shelf = seat.shelf; view = new_view number }) 0 [] pushed = record {
      course = k;
      of = at;
      numbers = refl;
      turns = refl;
      claims = record { below = All-nil (λ (s : ℕ). s < length (segments_in c.plan)); once = λ s. omega arith };
      counts = refl;
      states = λ s pos. absurd (none s pos);
      segments = refl;
      told = All-nil (λ (o : Outcome). outcome_told o ≡ outcome_of c keep o.segment);
      counted = refl;
      lane = h;
    } in
    subst (λ (v : SeatView). IsAtWork c keep shelf number (record { shelf = seat.shelf; view = v }) 0 [] pushed) (sym new) ready
  where
    none : (s : ℕ) → 0 < times s [] → ⊥
    none s pos = absurd (omega arith)

-- Workers of some type, of which a list is named first.
module _ {X : Type 0} (like : List X) (c : CourseTold) (keep : Keep) (shelf : ShelfTold CourseTold) (seat : X → SeatTold CourseTold) (steps : X → ℕ) (number : X → ℕ) (outcomes : X → Vec Outcome Global) (lane : X → LaneTold) (finished : X → Bool) where
  -- All workers that are made are ready.
  all_ready : IsCourse c → (n : ℕ) (ws : List X) → ((i : ℕ) (s : SeatTold CourseTold) → slice_get (map seat ws) i ≡ Some s → (s.shelf ≡ Some shelf) × (s.view ≡ new_view (n + i)))
      → ((i m : ℕ) → slice_get (map number ws) i ≡ Some m → m ≡ n + i) → All (λ (l : LaneTold). HasPushed c.plan [] l.own.view.pushed) (map lane ws)
      → All (λ w. (steps w ≡ 0) × ((outcomes w).items ≡ []) × (finished w ≡ false)) ws
      → All (λ w. IsAtWork c keep shelf (number w) (seat w) (steps w) (outcomes w).items (lane w).own.view.pushed) ws
  all_ready k n [] seats numbers lanes idle = All-nil (λ (w : X). IsAtWork c keep shelf (number w) (seat w) (steps w) (outcomes w).items (lane w).own.view.pushed)
  all_ready k n (w ∷ ws) seats numbers lanes idle =
      let s = seats 0 (seat w) refl in let m : number w ≡ n + 0 = numbers 0 (number w) refl in let i = All-head (λ (w : X). (steps w ≡ 0) × ((outcomes w).items ≡ []) × (finished w ≡ false)) w ws idle in
      let l = All-head (λ (l : LaneTold). HasPushed c.plan [] l.own.view.pushed) (lane w) (map lane ws) lanes in
      let view : (seat w).view ≡ new_view (number w) = s.1 ∙ ap (λ (x : ℕ). new_view x) (sym m) in
      let ready = made_ready c keep shelf (number w) (seat w) (lane w).own.view.pushed k s.0 view l in
      All-cons (λ (w : X). IsAtWork c keep shelf (number w) (seat w) (steps w) (outcomes w).items (lane w).own.view.pushed) w ws
      (subst (λ (m : ℕ). IsAtWork c keep shelf (number w) (seat w) m (outcomes w).items (lane w).own.view.pushed) (sym i.0)
      (subst (λ (os : List Outcome). IsAtWork c keep shelf (number w) (seat w) 0 os (lane w).own.view.pushed) (sym i.1) ready))
      (all_ready k (suc n) ws
      (λ j t e. let a = seats (suc j) t e in let e2 : n + suc j ≡ suc n + j = omega arith in (a.0, a.1 ∙ ap (λ (x : ℕ). new_view x) e2))
      (λ j t e. let a = numbers (suc j) t e in omega arith)
      (All-tail (λ (l : LaneTold). HasPushed c.plan [] l.own.view.pushed) (lane w) (map lane ws) lanes) (All-tail (λ (w : X). (steps w ≡ 0) × ((outcomes w).items ≡ []) × (finished w ≡ false)) w ws idle))

  -- All that ended handed their seats back.
  all_handed : (ws : List X) → length ws ≡ shelf.seats → AreNumbered (map number ws) → All (λ w. HasEnded c shelf (number w) (seat w) (steps w)) ws → AllBack shelf (map seat ws)
  all_handed ws count numbers ended = record {
    all = length-map ws seat ∙ count;
    each = λ i s e. each ws numbers ended i s e;
  }
    where
      at_number : (xs : List X) (k : ℕ) → ((i n : ℕ) → slice_get (map number xs) i ≡ Some n → n ≡ k + i) → All (λ w. HasEnded c shelf (number w) (seat w) (steps w)) xs → (i : ℕ) (s : SeatTold CourseTold) → slice_get (map seat xs) i ≡ Some s
          → (s.shelf ≡ Some shelf) × ((rest : List ℕ) × (s.view.numbers ≡ (k + i) ∷ rest)) × (s.view.turns ≡ [])
      at_number [] k nums ends i s e = absurd (not_some s e)
      at_number (x ∷ xs) k nums ends zero s e =
          let h = All-head (λ (w : X). HasEnded c shelf (number w) (seat w) (steps w)) x xs ends in let n : number x ≡ k + 0 = nums 0 (number x) refl in
          subst (λ (t : SeatTold CourseTold). (t.shelf ≡ Some shelf) × ((rest : List ℕ) × (t.view.numbers ≡ (k + 0) ∷ rest)) × (t.view.turns ≡ [])) (some_same (seat x) s e)
          (h.of, ([], h.numbers ∙ ap (λ (m : ℕ). m ∷ []) n), h.turns)
      at_number (x ∷ xs) k nums ends (suc i) s e =
          let r = at_number xs (suc k) (λ j n q. let a = nums (suc j) n q in omega arith) (All-tail (λ (w : X). HasEnded c shelf (number w) (seat w) (steps w)) x xs ends) i s e in
          let m : suc k + i ≡ k + suc i = omega arith in
          (r.0, (r.1.0, r.1.1 ∙ ap (λ (y : ℕ). y ∷ r.1.0) m), r.2)

      each : (xs : List X) → AreNumbered (map number xs) → All (λ w. HasEnded c shelf (number w) (seat w) (steps w)) xs → (i : ℕ) (s : SeatTold CourseTold) → slice_get (map seat xs) i ≡ Some s
          → (s.shelf ≡ Some shelf) × ((rest : List ℕ) × (s.view.numbers ≡ i ∷ rest)) × (s.view.turns ≡ [])
      each xs nums ends i s e =
          let r = at_number xs 0 (λ j n q. let a = nums j n q in omega arith) ends i s e in let m : 0 + i ≡ i = omega arith in
          (r.0, (r.1.0, r.1.1 ∙ ap (λ (y : ℕ). y ∷ r.1.0) m), r.2)

  all_finished : (ws : List X) → All (λ w. finished w ≡ true) ws → All (λ w. finished w ≡ true → HasFinished c keep shelf.plan (seat w).view (outcomes w).items) ws
      → HaveFinished c keep shelf.plan (map seat ws) (map (λ (v : Vec Outcome Global). v.items) (map outcomes ws))
  all_finished [] all each = tt
  all_finished (w ∷ ws) all each = (All-head (λ (w : X). finished w ≡ true → HasFinished c keep shelf.plan (seat w).view (outcomes w).items) w ws each (All-head (λ (w : X). finished w ≡ true) w ws all), all_finished ws (All-tail (λ (w : X). finished w ≡ true) w ws all) (All-tail (λ (w : X). finished w ≡ true → HasFinished c keep shelf.plan (seat w).view (outcomes w).items) w ws each))

  steps_most : (ws : List X) → All (λ w. HasEnded c shelf (number w) (seat w) (steps w)) ws
      → sum_by steps ws ≤ sum_by (λ (s : SeatTold CourseTold). sum_by (own_of c) s.view.claims) (map seat ws)
  steps_most [] ended = omega arith
  steps_most (w ∷ ws) ended = let h = All-head (λ (w : X). HasEnded c shelf (number w) (seat w) (steps w)) w ws ended in let m = h.counted in let r = steps_most ws (All-tail (λ (w : X). HasEnded c shelf (number w) (seat w) (steps w)) w ws ended) in let a = sum_by-cons steps w ws in let b = sum_by-cons (λ (s : SeatTold CourseTold). sum_by (own_of c) s.view.claims) (seat w) (map seat ws) in omega arith

  steps_all : (ws : List X) → All (λ w. finished w ≡ true) ws → All (λ w. finished w ≡ true → steps w ≡ sum_by (own_of c) (seat w).view.claims) ws
      → sum_by steps ws ≡ sum_by (λ (s : SeatTold CourseTold). sum_by (own_of c) s.view.claims) (map seat ws)
  steps_all [] all each = refl
  steps_all (w ∷ ws) all each = let e = All-head (λ (w : X). finished w ≡ true → steps w ≡ sum_by (own_of c) (seat w).view.claims) w ws each (All-head (λ (w : X). finished w ≡ true) w ws all) in let r = steps_all ws (All-tail (λ (w : X). finished w ≡ true) w ws all) (All-tail (λ (w : X). finished w ≡ true → steps w ≡ sum_by (own_of c) (seat w).view.claims) w ws each) in let a = sum_by-cons steps w ws in let b = sum_by-cons (λ (s : SeatTold CourseTold). sum_by (own_of c) s.view.claims) (seat w) (map seat ws) in omega arith

  pub steps_few : (ws : List X) → All (λ w. HasEnded c shelf (number w) (seat w) (steps w)) ws → All (λ w. steps w < 2 ^ 52) ws
  steps_few [] ended = All-nil (λ (w : X). steps w < 2 ^ 52)
  steps_few (w ∷ ws) ended = All-cons (λ (w : X). steps w < 2 ^ 52) w ws (All-head (λ (w : X). HasEnded c shelf (number w) (seat w) (steps w)) w ws ended).few (steps_few ws (All-tail (λ (w : X). HasEnded c shelf (number w) (seat w) (steps w)) w ws ended))

  at_map : (ws : List X) (i n : ℕ) → slice_get (map number ws) i ≡ Some n → (w : X) × (slice_get ws i ≡ Some w) × (number w ≡ n)
  at_map [] i n e = absurd (not_some n e)
  at_map (w ∷ ws) zero n e = (w, refl, some_same (number w) n e)
  at_map (w ∷ ws) (suc i) n e = at_map ws i n e

  index_is : (ws : List X) (i : ℕ) (d w : X) → slice_get ws i ≡ Some w → (get_or ws i d ≡ w) × (i < length ws)
  index_is [] i d w e = absurd (not_some w e)
  index_is (x ∷ ws) zero d w e = (some_same x w e, omega arith)
  index_is (x ∷ ws) (suc i) d w e = let r = index_is ws i d w e in (r.0, (let l = r.1 in omega arith))

  get_index : (ws : List X) (i : ℕ) (d : X) → i < length ws → slice_get (map number ws) i ≡ Some (number (get_or ws i d))
  get_index [] i d l = absurd (omega arith)
  get_index (x ∷ ws) zero d l = refl
  get_index (x ∷ ws) (suc i) d l = get_index ws i d (omega arith)

  -- Workers that keep their numbers are still numbered.
  pub numbered_still : (ws vs : List X) → length ws ≡ length vs → ((i : ℕ) (d : X) → i < length vs → number (get_or ws i d) ≡ number (get_or vs i d)) → AreNumbered (map number vs) → AreNumbered (map number ws)
  numbered_still ws vs long same h i n e =
      let a = at_map ws i n e in
      let x = index_is ws i a.0 a.0 a.1 in
      let l : i < length vs = (let y = x.1 in omega arith) in
      sym a.2 ∙ ap number (sym x.0) ∙ same i a.0 l ∙ h i (number (get_or vs i a.0)) (get_index vs i a.0 l)

  pub ready : IsCourse c → (ws : List X) (ss : List (SeatTold CourseTold)) → map seat ws ≡ ss → NewFrom shelf 0 ss → AreNumbered (map number ws)
      → (ls : List LaneTold) → map lane ws ≡ ls → All (λ (l : LaneTold). HasPushed c.plan [] l.own.view.pushed) ls
      → All (λ w. (steps w ≡ 0) × ((outcomes w).items ≡ []) × (finished w ≡ false)) ws
      → All (λ w. IsAtWork c keep shelf (number w) (seat w) (steps w) (outcomes w).items (lane w).own.view.pushed) ws
  ready k ws ss is new numbers ls are pushed idle = all_ready k 0 ws
      (subst (λ (xs : List (SeatTold CourseTold)). NewFrom shelf 0 xs) (sym is) new)
      (λ i m e. let a = numbers i m e in omega arith)
      (subst (λ (xs : List LaneTold). All (λ (l : LaneTold). HasPushed c.plan [] l.own.view.pushed) xs) (sym are) pushed) idle

  pub unfinished : (ws : List X) → All (λ w. (steps w ≡ 0) × ((outcomes w).items ≡ []) × (finished w ≡ false)) ws → All (λ w. finished w ≡ false) ws
  unfinished ws idle = All-weaker (λ w. (steps w ≡ 0) × ((outcomes w).items ≡ []) × (finished w ≡ false)) (λ w. finished w ≡ false) (λ w i. i.2) ws idle

  -- What workers that ended hand back.
  pub hands_back : (ws : List X) → length ws ≡ shelf.seats → AreNumbered (map number ws) → All (λ w. HasEnded c shelf (number w) (seat w) (steps w)) ws
      → All (λ w. finished w ≡ true → HasFinished c keep shelf.plan (seat w).view (outcomes w).items) ws
      → All (λ w. finished w ≡ true → steps w ≡ sum_by (own_of c) (seat w).view.claims) ws → (all : Bool) → (all ≡ true → All (λ w. finished w ≡ true) ws)
      → IsHandedBack c keep shelf (map seat ws) (map (λ (v : Vec Outcome Global). v.items) (map outcomes ws)) all (sum_by steps ws)
  hands_back ws count numbers ended done counted all each = record {
    back = all_handed ws count numbers ended;
    finished = λ a. all_finished ws (each a) done;
    counted = λ a. steps_all ws (each a) counted;
    most = steps_most ws ended;
  }

-- The same of equal lists and an equal number.
pub handed_as : (c : CourseTold) (keep : Keep) (shelf : ShelfTold CourseTold) (seats others : List (SeatTold CourseTold)) → others ≡ seats → (lists more : List (Vec Outcome Global)) → more ≡ lists
    → (all : Bool) (n m : ℕ) → m ≡ n → IsHandedBack c keep shelf seats (map (λ (v : Vec Outcome Global). v.items) lists) all n → IsHandedBack c keep shelf others (map (λ (v : Vec Outcome Global). v.items) more) all m
handed_as c keep shelf seats others same lists more equal all n m counted h =
    subst (λ (ss : List (SeatTold CourseTold)). IsHandedBack c keep shelf ss (map (λ (v : Vec Outcome Global). v.items) more) all m) (sym same)
    (subst (λ (vs : List (Vec Outcome Global)). IsHandedBack c keep shelf seats (map (λ (v : Vec Outcome Global). v.items) vs) all m) (sym equal)
    (subst (λ (x : ℕ). IsHandedBack c keep shelf seats (map (λ (v : Vec Outcome Global). v.items) lists) all x) (sym counted) h))

-- A fact of all of a list holds of all of an equal one.
pub moved : {X : Type 0} (xs ys : List X) → xs ≡ ys → (P : X → Type 0) → All P ys → All P xs
moved {X} xs ys e P h = subst (λ (zs : List X). All P zs) (sym e) h

pub mapped : {X S : Type 0} (xs ys : List X) → xs ≡ ys → (f : X → S) → map f xs ≡ map f ys
mapped {X} {S} xs ys e f = ap (λ (zs : List X). map f zs) e

pub summed : {X : Type 0} (xs ys : List X) → xs ≡ ys → (f : X → ℕ) → sum_by f xs ≡ sum_by f ys
summed {X} xs ys e f = ap (λ (zs : List X). sum_by f zs) e

-- What is written over all of a list.
pub written_over : {X : Type 0} (ws rest : List X) (n : ℕ) → length ws ≡ n → take n (ws ++ rest) ≡ ws
written_over {X} ws rest n long = ap (λ (m : ℕ). take m (ws ++ rest)) (sym long) ∙ take-append_seam ws rest

-- Lengths of equal lists have the same room.
pub still_few : {X : Type 0} (xs ys : List X) → xs ≡ ys → (m : ℕ) → length ys ≤ m → length xs ≤ m
still_few {X} xs ys e m h = subst (λ (zs : List X). length zs ≤ m) (sym e) h

pub still_fits : {X : Type 0} (xs ys : List X) → xs ≡ ys → (n m : ℕ) → n + length ys ≤ m → n + length xs ≤ m
still_fits {X} xs ys e n m h = subst (λ (zs : List X). n + length zs ≤ m) (sym e) h
