-- What a step learns of a place's word follows from that word and the seat's own view.
use Rattle.std.proofs.Common.{◌≡◌, ◌≢◌, ℕ, ◌<◌, ◌≤◌, Bool, true, false, true≢false, MatchBool, List, [], ◌∷◌, ◌++◌, Option, Some, None, slice_get, length, sym, refl, ap, ◌∙◌, subst, arith, ⊎_elim, inl, inr, ◌⊎◌, ◌||◌, ◌&&◌, not, nat_le, option_map, if◌then◌else◌}
use Rattle.shelf_core.specs.Plan.{same_key, is_in, is_sole, sole_in, place_of, place_in}
use Rattle.shelf_core.specs.Words.{is_held}
use Rattle.shelf_core.specs.Views.{times, turns_at, has_turn}
use Rattle.shelf_core.specs.Possible.{word_in, allows}
use Rattle.shelf_core.specs.After.{having_loaded, knowing}
use Rattle.shelf_core.specs.Sound.{WordBelongs, loans_at, lent_by, turned_by}
use Rattle.shelf_core.specs.Orderly.{HasShape}
use Rattle.shelf_core.specs.Made.{Same, Sees}
use Rattle.shelf_core.specs.Calls.{SeesPlace, is_fork_place, Refused, Missed, LentElsewhere, WritingOwn, LentKnown}
use Rattle.shelf_core.specs.declared.plan.Key.{Key}
use Rattle.shelf_core.specs.declared.plan.ShelfPlan.{ShelfPlan}
use Rattle.shelf_core.specs.declared.words.PlaceWord.{PlaceWord}
use Rattle.shelf_core.specs.declared.words.PlaceWord.TheVariants.{Free, Writing, Ready, Lent}
use Rattle.shelf_core.specs.declared.words.Word.TheVariants.{Place as place_word, Done as done_word}
use Rattle.shelf_core.specs.declared.words.Seen.{Seen}
use Rattle.shelf_core.specs.declared.words.Seen.TheVariants.{Claim as claim_seen, Place as place_seen, Done as done_seen}
use Rattle.shelf_core.specs.declared.seat.SeatView.{SeatView}
use Rattle.shelf_core.proofs.Lists.{bool_cases, some_same, total_one, total_le}
use Rattle.shelf_core.proofs.Quiet.{taken_le}
use Rattle.shelf_core.proofs.Plans.{and_right, key_self, key_is, sole_alone}
use Rattle.shelf_core.proofs.Steps.{seen_place}

pub loaded : (plan : Option ShelfPlan) (seen : Seen) (v : SeatView) → Same v (having_loaded plan (Some seen) v)
loaded plan seen v = record { numbers = refl; spent = refl; claims = refl; counts = refl; turns = refl; loan = refl; found = refl }

pub at_true : (b : Bool) (P Q : Type 0) → b ≡ true → MatchBool b P Q → P
at_true b P Q e x = subst (λ c. MatchBool c P Q) e x

pub at_false : (b : Bool) (P Q : Type 0) → b ≡ false → MatchBool b P Q → Q
at_false b P Q e x = subst (λ c. MatchBool c P Q) e x

pub in_end : (key : Key) (keys : List Key) → is_in key (keys ++ key ∷ []) ≡ true
in_end key [] = rw (key_self key) refl
in_end key (k ∷ keys) = rw (in_end key keys) (or_true (same_key k key))
  where
    or_true : (b : Bool) → (b || true) ≡ true
    or_true true = refl
    or_true false = refl

module _ (plan : ShelfPlan) (place : ℕ) (word : PlaceWord) (v w : SeatView) (s : SeesPlace plan place word v w) where
  there : slice_get s.step.before.places place ≡ Some word
  there = seen_place s.step.before (place_word place) (place_seen place word) s.sees place word refl

  pub same : Same v w
  same = subst (Same v) (sym s.is) (loaded (Some plan) (place_seen place word) v)

  pub lent_elsewhere : v.loan ≡ None → LentElsewhere v word
  lent_elsewhere idle key n is = let m = s.step in
      let l : loans_at place key v.loan ≡ lent_by (Lent key n) key v.numbers = m.orderly.sound.places.loans place (Lent key n) key (there ∙ ap Some is) m.seat v m.had in
      let e : lent_by (Lent key n) key v.numbers ≡ times n v.numbers = ap (λ (b : Bool). if b then times n v.numbers else 0) (key_self key) in
      let z : loans_at place key v.loan ≡ 0 = ap (loans_at place key) idle in omega arith

  pub writing_own : (n : ℕ) → word ≡ Writing n → 0 < times n v.numbers → 0 < turns_at place v.turns
  writing_own n is pos = let m = s.step in let t : turns_at place v.turns ≡ turned_by (Writing n) v.numbers = m.orderly.sound.places.turns place (Writing n) (there ∙ ap Some is) m.seat v m.had in omega arith

  -- A key that the seat knows is still there.
  pub known_held : (key : Key) → place_of plan key ≡ Some place → is_in key v.known ≡ true → is_held key (Some word) ≡ true
  known_held key at known = let m = s.step in
      let e : place_in m.before.plan key ≡ Some place = ap (λ o. place_in o key) m.laid ∙ at in
      ap (is_held key) (sym (ap (word_in m.before.places) e ∙ there)) ∙ (m.orderly.sound.known m.seat v m.had key known).there

  -- At the place of a sole key whose segment the seat has, and at which it has no turn.
  pub sole_word : (key : Key) → place_of plan key ≡ Some place → is_sole plan key ≡ true → 0 < times key.segment v.claims → has_turn key v.turns ≡ false → (word ≡ Free) ⊎ (is_held key (Some word) ≡ true)
  sole_word key at sole claim none = by word refl
    where
      e : place_in s.step.before.plan key ≡ Some place
      e = ap (λ o. place_in o key) s.step.laid ∙ at

      here : (x : PlaceWord) → word ≡ x → word_in s.step.before.places (place_in s.step.before.plan key) ≡ Some x
      here x is = ap (word_in s.step.before.places) e ∙ there ∙ ap Some is

      belongs : (x : PlaceWord) → word ≡ x → WordBelongs (Some plan) (length s.step.before.views) place x
      belongs x is = subst (λ o. WordBelongs o (length s.step.before.views) place x) s.step.laid (s.step.orderly.sound.places.words place x (there ∙ ap Some is))

      by : (x : PlaceWord) → word ≡ x → (word ≡ Free) ⊎ (is_held key (Some word) ≡ true)
      by Free is = inl is
      by (Writing n) is = let m = s.step in let h = m.orderly.sound.writers m.seat v m.had key n (ap (λ o. sole_in o key) m.laid ∙ sole) claim (here (Writing n) is) in
          absurd (true≢false (sym h.1 ∙ none))
      by (Ready k) is = let same_one : k ≡ key = sole_alone plan key k place sole at (belongs (Ready k) is) in
          inr (ap (λ x. is_held key (Some x)) is ∙ ap (λ x. same_key x key) same_one ∙ key_self key)
      by (Lent k n) is = let same_one : k ≡ key = sole_alone plan key k place sole at (belongs (Lent k n) is).0 in
          inr (ap (λ x. is_held key (Some x)) is ∙ ap (λ x. same_key x key) same_one ∙ key_self key)

  -- What is there of a sole key is known afterwards.
  pub held_known : (key : Key) → is_sole plan key ≡ true → is_held key (Some word) ≡ true → is_in key w.known ≡ true
  held_known key sole held = ap (λ u. is_in key u.known) s.is ∙ by word held
    where
      added : (k : Key) → same_key k key ≡ true → is_in key (knowing (Some plan) k v.known) ≡ true
      added k e = let is = key_is k key e in
          ap (λ x. is_in key (knowing (Some plan) x v.known)) is ∙ ap (λ (b : Bool). is_in key (if b then v.known ++ key ∷ [] else v.known)) sole ∙ in_end key v.known

      by : (x : PlaceWord) → is_held key (Some x) ≡ true → is_in key (having_loaded (Some plan) (Some (place_seen place x)) v).known ≡ true
      by Free e = absurd (true≢false (sym e))
      by (Writing n) e = absurd (true≢false (sym e))
      by (Ready k) e = added k e
      by (Lent k n) e = added k e

-- The same of a refused `begin`.
module _ (plan : ShelfPlan) (key : Key) (word : PlaceWord) (v w : SeatView) where
  -- The last load, and the view before it, which has what the first view has.
  abbrev Last : Type 0
  Last = (place : ℕ) × (m : SeatView) × (place_of plan key ≡ Some place) × Same v m × SeesPlace plan place word m w × ((word ≡ Free → is_fork_place plan place ≡ false) × (word ≡ Free → (first : PlaceWord) × SeesPlace plan place first v m × (allows plan place key first ≡ true) × (word ≢ first)))

  same_self : (u : SeatView) → Same u u
  same_self u = record { numbers = refl; spent = refl; claims = refl; counts = refl; turns = refl; loan = refl; found = refl }

  last : Refused plan key word v w → Last
  last r = ⊎_elim
      (λ (fork : is_fork_place plan r.0 ≡ true). let x = at_true _ _ _ fork r.2 in (r.0, v, r.1, same_self v, x.0, (λ f. absurd (x.1 f), λ f. absurd (x.1 f))))
      (λ (grid : is_fork_place plan r.0 ≡ false). ⊎_elim
      (λ (x : SeesPlace plan r.0 word v w × (allows plan r.0 key word ≡ false)). (r.0, v, r.1, same_self v, x.0, (λ f. grid, λ f. absurd (true≢false (sym (ap (allows plan r.0 key) f) ∙ x.1)))))
      (λ (x : (m : SeatView) × (first : PlaceWord) × SeesPlace plan r.0 first v m × (allows plan r.0 key first ≡ true) × SeesPlace plan r.0 word m w × (word ≢ first)).
      (r.0, x.0, r.1, same plan r.0 x.1 v x.0 x.2, x.4, (λ f. grid, λ f. (x.1, x.2, x.3, x.5))))
      (at_false _ _ _ grid r.2))
      (bool_cases (is_fork_place plan r.0))

  pub refused_same : Refused plan key word v w → Same v w
  refused_same r = let l = last r in let a = l.3 in let b = same plan l.0 word l.1 w l.4 in record {
    numbers = b.numbers ∙ a.numbers;
    spent = b.spent ∙ a.spent;
    claims = b.claims ∙ a.claims;
    counts = b.counts ∙ a.counts;
    turns = b.turns ∙ a.turns;
    loan = b.loan ∙ a.loan;
    found = b.found ∙ a.found;
  }

  pub refused_elsewhere : Refused plan key word v w → v.loan ≡ None → LentElsewhere v word
  refused_elsewhere r idle = let l = last r in λ k n is. ap (times n) (sym l.3.numbers) ∙ lent_elsewhere plan l.0 word l.1 w l.4 (l.3.loan ∙ idle) k n is

  pub refused_own : Refused plan key word v w → WritingOwn plan key v word
  refused_own r place n at is pos = let l = last r in let p : l.0 ≡ place = some_same l.0 place (sym l.2 ∙ at) in
      subst (λ q. 0 < turns_at q v.turns) p (subst (λ t. 0 < turns_at l.0 t) l.3.turns (writing_own plan l.0 word l.1 w l.4 n is (subst (λ ns. 0 < times n ns) (sym l.3.numbers) pos)))

  -- A sole key of a segment of the seat's own, at which it has no turn, is there and known.
  pub refused_sole : Refused plan key word v w → is_sole plan key ≡ true → 0 < times key.segment v.claims → has_turn key v.turns ≡ false → (is_held key (Some word) ≡ true) × (is_in key w.known ≡ true)
  refused_sole r sole claim none = let l = last r in
      let claim' : 0 < times key.segment l.1.claims = subst (λ ns. 0 < times key.segment ns) (sym l.3.claims) claim in
      let none' : has_turn key l.1.turns ≡ false = ap (has_turn key) l.3.turns ∙ none in
      let held : is_held key (Some word) ≡ true = ⊎_elim
      (λ (free : word ≡ Free). let f = l.5.1 free in ⊎_elim
      (λ (first_free : f.0 ≡ Free). absurd (f.3 (free ∙ sym first_free)))
      (λ (first_held : is_held key (Some f.0) ≡ true). absurd (not_both f.0 first_held f.2))
      (sole_word plan l.0 f.0 v l.1 f.1 key l.2 sole claim none))
      (λ (h : is_held key (Some word) ≡ true). h)
      (sole_word plan l.0 word l.1 w l.4 key l.2 sole claim' none') in
      (held, held_known plan l.0 word l.1 w l.4 key sole held)
    where
      not_both : (x : PlaceWord) → is_held key (Some x) ≡ true → allows plan (last r).0 key x ≡ true → ⊥
      not_both Free h a = true≢false (sym h)
      not_both (Writing n) h a = true≢false (sym h)
      not_both (Ready k) h a = let e : (nat_le (length plan.forks) (last r).0 && not (same_key k key)) ≡ true = a in true≢false (sym (and_right (nat_le (length plan.forks) (last r).0) (not (same_key k key)) e) ∙ ap not h)
      not_both (Lent k n) h a = true≢false (sym a)

-- What a `find` that found another word says of it.
module _ (plan : ShelfPlan) (key : Key) (word : PlaceWord) (v w : SeatView) (r : Missed plan key word v w) where
  pub missed_same : Same v w
  missed_same = same plan r.0 word v w r.2

  pub missed_elsewhere : v.loan ≡ None → LentElsewhere v word
  missed_elsewhere idle = lent_elsewhere plan r.0 word v w r.2 idle

  pub missed_known : v.loan ≡ None → is_in key v.known ≡ true → LentKnown key v word
  missed_known idle known = by word refl (known_held plan r.0 word v w r.2 key r.1 known)
    where
      by : (x : PlaceWord) → word ≡ x → is_held key (Some word) ≡ true → LentKnown key v word
      by Free is h = absurd (true≢false (sym h ∙ ap (λ y. is_held key (Some y)) is))
      by (Writing n) is h = absurd (true≢false (sym h ∙ ap (λ y. is_held key (Some y)) is))
      by (Ready k) is h = let one : k ≡ key = key_is k key (sym (ap (λ y. is_held key (Some y)) is) ∙ h) in absurd (r.3 (is ∙ ap Ready one))
      by (Lent k n) is h = let one : k ≡ key = key_is k key (sym (ap (λ y. is_held key (Some y)) is) ∙ h) in
          (n, is ∙ ap (λ y. Lent y n) one, missed_elsewhere idle k n is)

-- What a step at the done word found.
done_is : Seen → ℕ
done_is (claim_seen g c) = 0
done_is (place_seen p w) = 0
done_is (done_seen d b) = d

bit_is : Seen → Bool
bit_is (claim_seen g c) = false
bit_is (place_seen p w) = false
bit_is (done_seen d b) = b

pub done_word_is : (plan : ShelfPlan) (d : ℕ) (b : Bool) (v w : SeatView) (s : Sees plan done_word (done_seen d b) v w) → (s.step.before.done ≡ d) × (s.step.before.stopped ≡ b)
unfolding done_is bit_is
done_word_is plan d b v w s = let y : done_seen s.step.before.done s.step.before.stopped ≡ done_seen d b =
    some_same _ _ (sym (ap (λ (o : Option ShelfPlan). option_map (λ (plan : ShelfPlan). done_seen s.step.before.done s.step.before.stopped) o) s.step.laid) ∙ s.sees) in
    (ap done_is y, ap bit_is y)

pub sees_no_less : (plan : ShelfPlan) (d : ℕ) (b : Bool) (v w : SeatView) → Sees plan done_word (done_seen d b) v w → (v.done_seen ≤ d) × (v.counts ≤ d) × (v.stopped ≡ true → b ≡ true)
sees_no_less plan d b v w s = let e = done_word_is plan d b v w s in let m = s.step in
    let a = m.orderly.sound.seen.number m.seat v m.had in
    let c = total_one (λ u. u.counts) m.before.views m.seat v m.had in let t = m.orderly.sound.counts.sum in let e0 = e.0 in
    (omega arith, omega arith, λ f. sym e.1 ∙ m.orderly.sound.seen.bit m.seat v m.had f)

-- No more is done than there are segments.
pub sees_few : (plan : ShelfPlan) (d : ℕ) (b : Bool) (v w : SeatView) → Sees plan done_word (done_seen d b) v w → d ≤ plan.segments
sees_few plan d b v w s = let e = done_word_is plan d b v w s in let m = s.step in let e0 = e.0 in
    let shape = subst (λ o. HasShape o m.before) m.laid m.orderly.shape in let n = shape.claims in
    let counts = m.orderly.sound.counts in let x = counts.sum in let y = total_le (λ u. u.counts) (λ u. length u.claims) m.before.views counts.within in let z = m.orderly.taken in let l = taken_le m.before.claims in omega arith
