-- The events that change no place's word.
use Rattle.std.proofs.Common.{◌≡◌, ℕ, zero, suc, ◌+◌, ◌<◌, ◌≤◌, Bool, true, false, List, [], ◌∷◌, Option, Some, None, slice_get, length, set, sym, refl, ap, ◌∙◌, subst, arith, length-append}
use mathlib.Core.Logic.{dite}
use native.Mathlib.Decide.{ℕ_discrete}
use Rattle.std.proofs.Math.ListN.{length-set}
use Rattle.shelf_core.specs.Plan.{is_in, place_in}
use Rattle.shelf_core.specs.Words.{is_held, taken_count}
use Rattle.shelf_core.specs.Views.{times}
use Rattle.shelf_core.specs.Possible.{word_in}
use Rattle.shelf_core.specs.After.{with_claim, with_count, having_stopped, having_loaded, knowing}
use Rattle.shelf_core.specs.Sound.{IsKept}
use Rattle.shelf_core.specs.Orderly.{Orderly, HasShape, IsBare, SomeStopped}
use Rattle.shelf_core.specs.declared.plan.Key.{Key}
use Rattle.shelf_core.specs.declared.plan.ShelfPlan.{ShelfPlan}
use Rattle.shelf_core.specs.declared.words.ClaimWord.{ClaimWord}
use Rattle.shelf_core.specs.declared.words.ClaimWord.TheVariants.{Open, Taken}
use Rattle.shelf_core.specs.declared.words.PlaceWord.{PlaceWord}
use Rattle.shelf_core.specs.declared.words.PlaceWord.TheVariants.{Free, Writing, Ready, Lent}
use Rattle.shelf_core.specs.declared.words.Seen.{Seen}
use Rattle.shelf_core.specs.declared.words.Seen.TheVariants.{Claim as claim_seen, Place as place_seen, Done as done_seen}
use Rattle.shelf_core.specs.declared.seat.SeatView.{SeatView}
use Rattle.shelf_core.specs.declared.system.System.{System}
use Rattle.shelf_core.proofs.Lists.{some_same, not_some, within, set_here, times_here, times_else, times_append, total_set}
use Rattle.shelf_core.proofs.Numbers.{seats_set}
use Rattle.shelf_core.proofs.Plans.{key_self}
use Rattle.shelf_core.proofs.Parts.{orderly_of, seats_of, claims_same, claims_taken, places_same, counts_set, seen_set, stopped_set, known_set, segments_set, knowing_kept}

pub empty_of : {A : Type 0} (l : List A) → length l ≡ 0 → l ≡ []
empty_of [] e = refl
empty_of (x ∷ xs) e = absurd (omega arith)

-- The shape stays where the lengths do, and where with nothing laid the done word does.
pub shape_keeps : (plan : Option ShelfPlan) (s s' : System) → length s'.claims ≡ length s.claims → length s'.places ≡ length s.places → length s'.home ≡ length s.home
    → (plan ≡ None → (s'.done ≡ s.done) × (s'.stopped ≡ s.stopped)) → HasShape plan s → HasShape plan s'
shape_keeps None s s' c p m still h = record {
  claims = empty_of s'.claims (c ∙ ap length h.claims);
  places = empty_of s'.places (p ∙ ap length h.places);
  home = empty_of s'.home (m ∙ ap length h.home);
  done = (still refl).0 ∙ h.done;
  stopped = (still refl).1 ∙ h.stopped;
}
shape_keeps (Some plan) s s' c p m still h = record { claims = c ∙ h.claims; places = p ∙ h.places; home = m ∙ h.home; distinct = h.distinct }

-- A view changes, and the done word with it, but no other word and nothing of what the seat has.
pub quiet_orderly : (s : System) (n done : ℕ) (bit : Bool) (v w : SeatView) → Orderly s → slice_get s.views n ≡ Some v → v.spent ≡ false
    → w.spent ≡ v.spent → w.numbers ≡ v.numbers → w.claims ≡ v.claims → w.turns ≡ v.turns → w.loan ≡ v.loan
    → done + v.counts ≡ s.done + w.counts → w.counts ≤ length w.claims → s.done ≤ done → (s.stopped ≡ true → bit ≡ true) → (w.stopped ≡ true → bit ≡ true) → w.done_seen ≤ done → (bit ≡ true → SomeStopped (set s.views n w))
    → ((key : Key) → is_in key w.known ≡ true → IsKept s.plan s.places key)
    → (s.plan ≡ None → (done ≡ s.done) × (bit ≡ s.stopped))
    → Orderly (record s { done = done; stopped = bit; views = set s.views n w })
quiet_orderly s n done bit v w h e live sp num claims turns loan sum low more keeps stopped seen some known still =
    let seats = seats_of s h in
    let s' : System = record s { done = done; stopped = bit; views = set s.views n w } in
    orderly_of s'
    (seats_set s.views seats n v w e live sp num)
    (claims_same s.views seats n v w e s.claims claims num h.sound.claims)
    (places_same s.views seats n v w e s.plan s.places s.home turns loan num (λ g pos. subst (λ (l : List ℕ). 0 < times g l) (sym claims) pos) h.sound.places)
    (counts_set s.views seats n v w e s.done done sum low h.sound.counts)
    (seen_set s.views seats n v w e s.done done s.stopped bit more keeps stopped seen h.sound.seen)
    some
    (known_set s.views seats n v w e s.plan s.places s.places (λ key k. k) known h.sound.known)
    (segments_set s.views seats n v w e s.claims s.claims refl (λ g pos. h.segments n v e g (subst (λ (l : List ℕ). 0 < times g l) claims pos)) h.segments)
    (let t = total_set (λ u. length u.claims) s.views n v w e in let l : length w.claims ≡ length v.claims = ap length claims in let k = h.taken in omega arith)
    (shape_keeps s.plan s s' refl refl refl still h.shape)

taken_set : (words : List ClaimWord) (g n : ℕ) → slice_get words g ≡ Some Open → taken_count (set words g (Taken n)) ≡ suc (taken_count words)
taken_set [] g n e = absurd (not_some Open e)
taken_set (Open ∷ words) zero n e = refl
taken_set (Taken m ∷ words) zero n e = let same : Taken m ≡ Open = some_same (Taken m) Open e in cc
taken_set (Open ∷ words) (suc g) n e = taken_set words g n e
taken_set (Taken m ∷ words) (suc g) n e = ap suc (taken_set words g n e)

pub taken_le : (words : List ClaimWord) → taken_count words ≤ length words
taken_le [] = omega arith
taken_le (Open ∷ words) = let h : taken_count words ≤ length words = taken_le words in omega arith
taken_le (Taken n ∷ words) = let h : taken_count words ≤ length words = taken_le words in omega arith

pub claim_orderly : (s : System) (n g : ℕ) (v : SeatView) → Orderly s → slice_get s.views n ≡ Some v → v.spent ≡ false → slice_get s.claims g ≡ Some Open
    → Orderly (record s { claims = set s.claims g (Taken n); views = set s.views n (with_claim g v) })
claim_orderly s n g v h e live is_open =
    let seats = seats_of s h in
    let w : SeatView = with_claim g v in
    let s' : System = record s { claims = set s.claims g (Taken n); views = set s.views n w } in
    let long : length w.claims ≡ suc (length v.claims) = omega (arith, length-append v.claims (g ∷ [])) in
    orderly_of s'
    (seats_set s.views seats n v w e live refl refl)
    (claims_taken s.views seats n v w e s.claims g live is_open refl refl h.sound.claims)
    (places_same s.views seats n v w e s.plan s.places s.home refl refl refl (λ g' pos. let a = times_append g' v.claims (g ∷ []) in omega arith) h.sound.places)
    (counts_set s.views seats n v w e s.done s.done refl (let a = h.sound.counts.within n v e in omega arith) h.sound.counts)
    (seen_set s.views seats n v w e s.done s.done s.stopped s.stopped (omega arith) (λ f. f) (h.sound.seen.bit n v e) (h.sound.seen.number n v e) h.sound.seen)
    (λ f. stopped_set s.views seats n v w e refl (λ g. g) (h.stopped f))
    (known_set s.views seats n v w e s.plan s.places s.places (λ key k. k) (h.sound.known n v e) h.sound.known)
    (segments_set s.views seats n v w e s.claims s'.claims (length-set s.claims g (Taken n))
    (λ g' pos. let l = length-set s.claims g (Taken n) in let a = times_append g' v.claims (g ∷ []) in dite (ℕ_discrete g g')
    (λ same. let b = within s.claims g Open is_open in omega arith)
    (λ ne. let b = times_else g' g [] ne in let c = h.segments n v e g' (omega arith) in omega arith))
    h.segments)
    (let t = total_set (λ u. length u.claims) s.views n v w e in let k = h.taken in let b = taken_set s.claims g n is_open in omega arith)
    (shape_keeps s.plan s s' (length-set s.claims g (Taken n)) refl refl (λ f. (refl, refl)) h.shape)

-- Where nothing is laid no seat has a claim.
bare_counts : (s : System) (n : ℕ) (v : SeatView) → Orderly s → slice_get s.views n ≡ Some v → v.counts < length v.claims → s.plan ≡ None → ⊥
bare_counts s n v h e less none = let b : IsBare s = subst (λ (p : Option ShelfPlan). HasShape p s) none h.shape in
    let l : length s.claims ≡ 0 = ap length b.claims in no_claims v.claims (h.segments n v e) less
  where
    no_claims : (claims : List ℕ) → ((g : ℕ) → 0 < times g claims → g < length s.claims) → v.counts < length claims → ⊥
    no_claims [] low less = omega arith
    no_claims (g ∷ claims) low less = let t = times_here g claims in let a = low g (omega arith) in let b : IsBare s = subst (λ (p : Option ShelfPlan). HasShape p s) none h.shape in
        let l : length s.claims ≡ 0 = ap length b.claims in omega arith

pub count_orderly : (s : System) (n : ℕ) (v : SeatView) → Orderly s → slice_get s.views n ≡ Some v → v.spent ≡ false → v.counts < length v.claims
    → Orderly (record s { done = s.done + 1; views = set s.views n (with_count v) })
count_orderly s n v h e live less = quiet_orderly s n (s.done + 1) s.stopped v (with_count v) h e live refl refl refl refl refl
    (omega arith) (omega arith) (omega arith) (λ f. f) (h.sound.seen.bit n v e) (let a = h.sound.seen.number n v e in omega arith)
    (λ f. stopped_set s.views (seats_of s h) n v (with_count v) e refl (λ g. g) (h.stopped f)) (h.sound.known n v e)
    (λ none. absurd (bare_counts s n v h e less none))

pub stop_orderly : (s : System) (n : ℕ) (v : SeatView) → Orderly s → slice_get s.views n ≡ Some v → v.spent ≡ false → (s.plan ≡ None → ⊥)
    → Orderly (record s { stopped = true; views = set s.views n (having_stopped v) })
stop_orderly s n v h e live laid = quiet_orderly s n s.done true v (having_stopped v) h e live refl refl refl refl refl
    refl (h.sound.counts.within n v e) (omega arith) (λ f. refl) (λ f. refl) (h.sound.seen.number n v e)
    (λ f. (n, having_stopped v, set_here s.views n (having_stopped v) v e, live, refl)) (h.sound.known n v e)
    (λ none. absurd (laid none))

-- A load that learns nothing, a key, or the done word.
loaded : (s : System) (n : ℕ) (v u : SeatView) (more : ℕ) (saw : List Seen) → Orderly s → slice_get s.views n ≡ Some v → v.spent ≡ false
    → u.spent ≡ v.spent → u.numbers ≡ v.numbers → u.claims ≡ v.claims → u.turns ≡ v.turns → u.loan ≡ v.loan → u.counts ≡ v.counts → (u.stopped ≡ true → s.stopped ≡ true) → (s.stopped ≡ true → v.stopped ≡ true → u.stopped ≡ true) → u.done_seen ≤ s.done
    → ((key : Key) → is_in key u.known ≡ true → IsKept s.plan s.places key)
    → Orderly (record s { views = set s.views n (record u { loads = more; saw = saw }) })
loaded s n v u more saw h e live sp num claims turns loan counts stopped keeps seen known = quiet_orderly s n s.done s.stopped v (record u { loads = more; saw = saw }) h e live sp num claims turns loan
    (ap (λ k. s.done + k) (sym counts)) (let a = h.sound.counts.within n v e in let b : length u.claims ≡ length v.claims = ap length claims in omega arith) (omega arith) (λ f. f) stopped seen
    (λ f. stopped_set s.views (seats_of s h) n v (record u { loads = more; saw = saw }) e sp (keeps f) (h.stopped f)) known (λ f. (refl, refl))

-- Under a place's word that is Ready or Lent the key is held there.
held_under : (s : System) (p : ℕ) (key : Key) (word : PlaceWord) → slice_get s.places p ≡ Some word → place_in s.plan key ≡ Some p → is_held key (Some word) ≡ true
    → is_held key (word_in s.places (place_in s.plan key)) ≡ true
held_under s p key word is at held = subst (λ o. is_held key (word_in s.places o) ≡ true) (sym at) (subst (λ o. is_held key o ≡ true) (sym is) held)

pub seen_orderly : (s : System) (n : ℕ) (v : SeatView) (seen : Seen) → Orderly s → slice_get s.views n ≡ Some v → v.spent ≡ false
    → ((p : ℕ) (word : PlaceWord) → seen ≡ place_seen p word → slice_get s.places p ≡ Some word) → ((d : ℕ) (b : Bool) → seen ≡ done_seen d b → (d ≡ s.done) × (b ≡ s.stopped))
    → Orderly (record s { views = set s.views n (having_loaded s.plan (Some seen) v) })
seen_orderly s n v (claim_seen g word) h e live place done = loaded s n v v _ _ h e live refl refl refl refl refl refl (h.sound.seen.bit n v e) (λ f g. g) (h.sound.seen.number n v e) (h.sound.known n v e)
seen_orderly s n v (place_seen p Free) h e live place done = loaded s n v v _ _ h e live refl refl refl refl refl refl (h.sound.seen.bit n v e) (λ f g. g) (h.sound.seen.number n v e) (h.sound.known n v e)
seen_orderly s n v (place_seen p (Writing m)) h e live place done = loaded s n v v _ _ h e live refl refl refl refl refl refl (h.sound.seen.bit n v e) (λ f g. g) (h.sound.seen.number n v e) (h.sound.known n v e)
seen_orderly s n v (place_seen p (Ready key)) h e live place done = let is = place p (Ready key) refl in
    loaded s n v (record v { known = knowing s.plan key v.known }) _ _ h e live refl refl refl refl refl refl (h.sound.seen.bit n v e) (λ f g. g) (h.sound.seen.number n v e)
    (knowing_kept s.plan s.places key v.known (held_under s p key (Ready key) is (h.sound.places.words p (Ready key) is) (key_self key)) (h.sound.known n v e))
seen_orderly s n v (place_seen p (Lent key m)) h e live place done = let is = place p (Lent key m) refl in
    loaded s n v (record v { known = knowing s.plan key v.known }) _ _ h e live refl refl refl refl refl refl (h.sound.seen.bit n v e) (λ f g. g) (h.sound.seen.number n v e)
    (knowing_kept s.plan s.places key v.known (held_under s p key (Lent key m) is (h.sound.places.words p (Lent key m) is).0 (key_self key)) (h.sound.known n v e))
seen_orderly s n v (done_seen d b) h e live place done = let is = done d b refl in
    loaded s n v (record v { done_seen = d; stopped = b }) _ _ h e live refl refl refl refl refl refl (λ f. sym is.1 ∙ f) (λ f g. is.1 ∙ f) (let q = is.0 in omega arith) (h.sound.known n v e)
