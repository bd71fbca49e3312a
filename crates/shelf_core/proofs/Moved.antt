-- The events that change a place's word.
use Rattle.std.proofs.Common.{◌≡◌, ◌≢◌, ℕ, zero, suc, ◌+◌, ◌<◌, true, false, List, [], ◌∷◌, Some, None, slice_get, length, set, sym, refl, ap, ◌∙◌, subst, ⊎_elim, arith, true≢false, ◌==◌, ◌&&◌, if◌then◌else◌, ne_eqb, eq-eqb}
use Rattle.std.proofs.Math.ListN.{length-set}
use Rattle.shelf_core.specs.Plan.{is_in, place_in, sole_in, same_key}
use Rattle.shelf_core.specs.Words.{is_held, value_under}
use Rattle.shelf_core.specs.Views.{times, turns_at, has_turn, other_turns}
use Rattle.shelf_core.specs.Possible.{word_in}
use Rattle.shelf_core.specs.After.{with_turn, without_turn, having_published, with_loan, having_returned}
use Rattle.shelf_core.specs.Sound.{IsKept, WordBelongs, turned_by, lent_by, loans_at}
use Rattle.shelf_core.specs.Orderly.{Orderly}
use Rattle.shelf_core.specs.declared.plan.Key.{Key}
use Rattle.shelf_core.specs.declared.words.PlaceWord.{PlaceWord}
use Rattle.shelf_core.specs.declared.words.PlaceWord.TheVariants.{Free, Writing, Ready, Lent}
use Rattle.shelf_core.specs.declared.seat.SeatView.{SeatView}
use Rattle.shelf_core.specs.declared.system.System.{System}
use Rattle.shelf_core.proofs.Lists.{bool_cases, some_same, not_some, within, at_end, set_here, turns_here, turns_else, turns_append, total_set}
use Rattle.shelf_core.proofs.Numbers.{seats_set, mine, once}
use Rattle.shelf_core.proofs.Plans.{key_is, key_self, or_either, alone_in}
use Rattle.shelf_core.proofs.Parts.{orderly_of, seats_of, claims_same, places_move, counts_set, seen_set, stopped_set, known_set, segments_set, knowing_kept, kept_move, Moves, TurnKeys, LoanKeys}
use Rattle.shelf_core.proofs.Quiet.{shape_keeps}

-- The word of a place changes through a seat that keeps what it claimed and counted.
pub move_orderly : (s : System) (n p : ℕ) (old new : PlaceWord) (v w : SeatView) → Orderly s → slice_get s.views n ≡ Some v → v.spent ≡ false → slice_get s.places p ≡ Some old
    → w.spent ≡ v.spent → w.numbers ≡ v.numbers → w.claims ≡ v.claims → w.counts ≡ v.counts → w.stopped ≡ v.stopped → w.done_seen ≡ v.done_seen
    → WordBelongs s.plan (length s.views) p new → Moves old new p v w → TurnKeys s.plan w → LoanKeys s.plan w
    → ((key : Key) → sole_in s.plan key ≡ true → place_in s.plan key ≡ Some p → is_held key (Some old) ≡ true → is_held key (Some new) ≡ true)
    → ((key : Key) → is_in key w.known ≡ true → IsKept s.plan (set s.places p new) key)
    → Orderly (record s { places = set s.places p new; home = set s.home p (value_under new); views = set s.views n w })
move_orderly s n p old new v w h e live is sp num claims counts stopped seen belongs moves turn_keys loan_keys keeps known =
    let seats = seats_of s h in
    let s' : System = record s { places = set s.places p new; home = set s.home p (value_under new); views = set s.views n w } in
    orderly_of s'
    (seats_set s.views seats n v w e live sp num)
    (claims_same s.views seats n v w e s.claims claims num h.sound.claims)
    (places_move s.views seats n v w e s.plan s.places s.home p old new is num belongs moves turn_keys loan_keys h.sound.places)
    (counts_set s.views seats n v w e s.done s.done (ap (λ k. s.done + k) (sym counts)) (let a = h.sound.counts.within n v e in let b : length w.claims ≡ length v.claims = ap length claims in omega arith) h.sound.counts)
    (seen_set s.views seats n v w e s.done s.done s.stopped s.stopped (omega arith) (λ f. f) (λ f. h.sound.seen.bit n v e (sym stopped ∙ f)) (let a = h.sound.seen.number n v e in omega arith) h.sound.seen)
    (λ f. stopped_set s.views seats n v w e sp (λ g. stopped ∙ g) (h.stopped f))
    (known_set s.views seats n v w e s.plan s.places s'.places (kept_move s.plan s.places p old new is keeps) known h.sound.known)
    (segments_set s.views seats n v w e s.claims s.claims refl (λ g pos. h.segments n v e g (subst (λ (l : List ℕ). 0 < times g l) claims pos)) h.segments)
    (let t = total_set (λ u. length u.claims) s.views n v w e in let l : length w.claims ≡ length v.claims = ap length claims in let k = h.taken in omega arith)
    (shape_keeps s.plan s s' refl (length-set s.places p new) (length-set s.home p (value_under new)) (λ f. (refl, refl)) h.shape)

-- A word that shows no turn and no loan.
IsIdle : PlaceWord → Type 0
IsIdle Free = Unit {0}
IsIdle (Writing n) = ⊥
IsIdle (Ready key) = Unit {0}
IsIdle (Lent key n) = ⊥

idle_turns : (w : PlaceWord) (ns : List ℕ) → IsIdle w → turned_by w ns ≡ 0
unfolding IsIdle
idle_turns Free ns i = refl
idle_turns (Writing n) ns i = absurd i
idle_turns (Ready key) ns i = refl
idle_turns (Lent key n) ns i = absurd i

idle_loans : (w : PlaceWord) (k : Key) (ns : List ℕ) → IsIdle w → lent_by w k ns ≡ 0
unfolding IsIdle
idle_loans Free k ns i = refl
idle_loans (Writing n) k ns i = absurd i
idle_loans (Ready key) k ns i = refl
idle_loans (Lent key n) k ns i = absurd i

begins : (s : System) (n p : ℕ) (key : Key) (old : PlaceWord) (v : SeatView) → Orderly s → slice_get s.views n ≡ Some v → v.spent ≡ false → slice_get s.places p ≡ Some old → place_in s.plan key ≡ Some p
    → 0 < times key.segment v.claims → IsIdle old → ((k : Key) → sole_in s.plan k ≡ true → place_in s.plan k ≡ Some p → is_held k (Some old) ≡ true → ⊥)
    → Orderly (record s { places = set s.places p (Writing n); home = set s.home p None; views = set s.views n (with_turn p key v) })
begins s n p key old v h e live is at claim idle none =
    let m = mine s.views (seats_of s h) n v e live in
    let w : SeatView = with_turn p key v in
    let keeps : (k : Key) → sole_in s.plan k ≡ true → place_in s.plan k ≡ Some p → is_held k (Some old) ≡ true → is_held k (Some (Writing n)) ≡ true = λ k sole there held. absurd (none k sole there held) in
    move_orderly s n p old (Writing n) v w h e live is refl refl refl refl refl refl (within s.views n v e)
    (record {
      turns_here = λ x. let a = turns_append p v.turns ((p, key) ∷ []) in let b = turns_here p key [] in let c = idle_turns old v.numbers idle in omega arith;
      turns_else = λ q ne. let a = turns_append q v.turns ((p, key) ∷ []) in let b = turns_else q p key [] (λ z. ne (sym z)) in omega arith;
      turns_others = λ ms x. idle_turns old ms idle ∙ sym (x n (omega arith));
      loans_here = λ k x. x ∙ idle_loans old k v.numbers idle;
      loans_else = λ q k ne. refl;
      loans_others = λ k ms x. idle_loans old k ms idle;
    })
    (λ i t x. ⊎_elim (h.sound.places.turn_keys n v e i t)
    (λ (y : (i ≡ length v.turns) × ((p, key) ≡ t)). subst (λ (z : ℕ × Key). (place_in s.plan z.1 ≡ Some z.0) × (0 < times z.1.segment v.claims)) y.1 (at, claim))
    (at_end v.turns (p, key) t i x))
    (h.sound.places.loan_keys n v e) keeps
    (λ k f. kept_move s.plan s.places p old (Writing n) is keeps k (h.sound.known n v e k f))

pub begin_free : (s : System) (n p : ℕ) (key : Key) (v : SeatView) → Orderly s → slice_get s.views n ≡ Some v → v.spent ≡ false → slice_get s.places p ≡ Some Free → place_in s.plan key ≡ Some p
    → 0 < times key.segment v.claims → Orderly (record s { places = set s.places p (Writing n); home = set s.home p None; views = set s.views n (with_turn p key v) })
unfolding IsIdle
begin_free s n p key v h e live is at claim = begins s n p key Free v h e live is at claim tt (λ k sole there held. true≢false (sym held))

pub begin_other : (s : System) (n p : ℕ) (key other : Key) (v : SeatView) → Orderly s → slice_get s.views n ≡ Some v → v.spent ≡ false → slice_get s.places p ≡ Some (Ready other) → place_in s.plan key ≡ Some p
    → 0 < times key.segment v.claims → same_key other key ≡ false → Orderly (record s { places = set s.places p (Writing n); home = set s.home p None; views = set s.views n (with_turn p key v) })
unfolding IsIdle
begin_other s n p key other v h e live is at claim ne = begins s n p key (Ready other) v h e live is at claim tt
    (λ k sole there held. let a : other ≡ k = key_is other k held in let b : key ≡ k = alone_in s.plan k key p sole there at in
    true≢false (sym (subst (λ (x : Key). same_key other x ≡ true) (a ∙ sym b) (key_self other)) ∙ ne))

-- How many turns of a key are at a place.
pub turns_of : ℕ → Key → List (ℕ × Key) → ℕ
turns_of p key [] = 0
turns_of p key (t ∷ ts) = (if (t.0 == p) && same_key t.1 key then 1 else 0) + turns_of p key ts

pub turns_split : (p : ℕ) (key : Key) (ts : List (ℕ × Key)) → turns_at p (other_turns key ts) + turns_of p key ts ≡ turns_at p ts
unfolding turns_of
turns_split p key [] = refl
turns_split p key (t ∷ ts) = let r = turns_split p key ts in ⊎_elim
    (λ (y : same_key t.1 key ≡ true). ⊎_elim (λ (z : (t.0 == p) ≡ true). rw (y, z) (omega arith)) (λ (z : (t.0 == p) ≡ false). rw (y, z) (omega arith)) (bool_cases (t.0 == p)))
    (λ (y : same_key t.1 key ≡ false). ⊎_elim (λ (z : (t.0 == p) ≡ true). rw (y, z) (omega arith)) (λ (z : (t.0 == p) ≡ false). rw (y, z) (omega arith)) (bool_cases (t.0 == p)))
    (bool_cases (same_key t.1 key))

pub turn_counts : (p : ℕ) (key : Key) (ts : List (ℕ × Key)) (i : ℕ) (t : ℕ × Key) → slice_get ts i ≡ Some t → t.0 ≡ p → same_key t.1 key ≡ true → 0 < turns_of p key ts
unfolding turns_of
turn_counts p key [] i t e at same = absurd (not_some t e)
turn_counts p key (u ∷ ts) zero t e at same = let is = some_same u t e in
    let a : (u.0 == p) ≡ true = eq-eqb u.0 p (ap (λ (x : ℕ × Key). x.0) is ∙ at) in
    let b : same_key u.1 key ≡ true = subst (λ (x : ℕ × Key). same_key x.1 key ≡ true) (sym is) same in rw (a, b) (omega arith)
turn_counts p key (u ∷ ts) (suc i) t e at same = let r = turn_counts p key ts i t e at same in omega arith

pub no_turns : (q : ℕ) (key : Key) (ts : List (ℕ × Key)) → ((i : ℕ) (t : ℕ × Key) → slice_get ts i ≡ Some t → same_key t.1 key ≡ true → t.0 ≢ q) → turns_of q key ts ≡ 0
unfolding turns_of
no_turns q key [] h = refl
no_turns q key (t ∷ ts) h = let r : turns_of q key ts ≡ 0 = no_turns q key ts (λ i u e. h (suc i) u e) in ⊎_elim
    (λ (y : same_key t.1 key ≡ true). let z = ne_eqb t.0 q (h 0 t refl y) in rw z (omega arith))
    (λ (y : same_key t.1 key ≡ false). ⊎_elim (λ (z : (t.0 == q) ≡ true). rw (z, y) (omega arith)) (λ (z : (t.0 == q) ≡ false). rw z (omega arith)) (bool_cases (t.0 == q)))
    (bool_cases (same_key t.1 key))

-- the turns that stay are turns
pub stays : (key : Key) (ts : List (ℕ × Key)) (i : ℕ) (t : ℕ × Key) → slice_get (other_turns key ts) i ≡ Some t → (j : ℕ) × (slice_get ts j ≡ Some t)
stays key [] i t e = absurd (not_some t e)
stays key (u ∷ ts) i t e = ⊎_elim
    (λ (y : same_key u.1 key ≡ true). let e' : slice_get (other_turns key ts) i ≡ Some t = rw y at e in let r = stays key ts i t e' in (suc r.0, r.1))
    (λ (y : same_key u.1 key ≡ false). let e' : slice_get (u ∷ other_turns key ts) i ≡ Some t = rw y at e in kept (λ j x. stays key ts j t x) i e')
    (bool_cases (same_key u.1 key))
  where
    kept : ((i : ℕ) → slice_get (other_turns key ts) i ≡ Some t → (j : ℕ) × (slice_get ts j ≡ Some t)) → (i : ℕ) → slice_get (u ∷ other_turns key ts) i ≡ Some t → (j : ℕ) × (slice_get (u ∷ ts) j ≡ Some t)
    kept rest zero e = (0, e)
    kept rest (suc i) e = let r = rest i e in (suc r.0, r.1)

-- a key that is among the turns
pub turn_of_key : (key : Key) (ts : List (ℕ × Key)) → has_turn key ts ≡ true → (i : ℕ) × (t : ℕ × Key) × (slice_get ts i ≡ Some t) × (same_key t.1 key ≡ true)
turn_of_key key [] e = absurd (true≢false (sym e))
turn_of_key key (t ∷ ts) e = ⊎_elim
    (λ (y : same_key t.1 key ≡ true). (0, t, refl, y))
    (λ (y : has_turn key ts ≡ true). let r = turn_of_key key ts y in (suc r.0, r.1, r.2, r.3))
    (or_either (same_key t.1 key) (has_turn key ts) e)

pub turned_is : (w : PlaceWord) (ns : List ℕ) → 0 < turned_by w ns → (m : ℕ) × (w ≡ Writing m) × (0 < times m ns)
turned_is Free ns pos = absurd (omega arith)
turned_is (Writing m) ns pos = (m, refl, pos)
turned_is (Ready key) ns pos = absurd (omega arith)
turned_is (Lent key m) ns pos = absurd (omega arith)

-- The word of a place at which a seat has a turn.
pub turn_word : (s : System) (n p : ℕ) (key : Key) (old : PlaceWord) (v : SeatView) → Orderly s → slice_get s.views n ≡ Some v → slice_get s.places p ≡ Some old → place_in s.plan key ≡ Some p
    → has_turn key v.turns ≡ true → (m : ℕ) × (old ≡ Writing m) × (0 < times m v.numbers) × (0 < turns_of p key v.turns)
turn_word s n p key old v h e is at has =
    let r = turn_of_key key v.turns has in
    let t : ℕ × Key = r.1 in
    let k = h.sound.places.turn_keys n v e r.0 t r.2 in
    let tp : t.0 ≡ p = some_same t.0 p (sym k.0 ∙ ap (λ x. place_in s.plan x) (key_is t.1 key r.3) ∙ at) in
    let pos : 0 < turns_of p key v.turns = turn_counts p key v.turns r.0 t r.2 tp r.3 in
    let sum = turns_split p key v.turns in
    let by : turns_at p v.turns ≡ turned_by old v.numbers = h.sound.places.turns p old is n v e in
    let m = turned_is old v.numbers (omega arith) in
    (m.0, m.1, m.2, pos)

-- A turn is spent: the place's word becomes one that shows no turn and no loan.
spends : (s : System) (n p : ℕ) (key : Key) (old new : PlaceWord) (v w : SeatView) → Orderly s → slice_get s.views n ≡ Some v → v.spent ≡ false → slice_get s.places p ≡ Some old → place_in s.plan key ≡ Some p
    → has_turn key v.turns ≡ true → IsIdle new → WordBelongs s.plan (length s.views) p new
    → w.spent ≡ v.spent → w.numbers ≡ v.numbers → w.claims ≡ v.claims → w.counts ≡ v.counts → w.stopped ≡ v.stopped → w.done_seen ≡ v.done_seen → w.turns ≡ other_turns key v.turns → w.loan ≡ v.loan
    → ((((k : Key) → sole_in s.plan k ≡ true → place_in s.plan k ≡ Some p → is_held k (Some old) ≡ true → is_held k (Some new) ≡ true)) → (k : Key) → is_in k w.known ≡ true → IsKept s.plan (set s.places p new) k)
    → Orderly (record s { places = set s.places p new; home = set s.home p (value_under new); views = set s.views n w })
spends s n p key old new v w h e live is at has idle belongs sp num claims counts stopped seen turns loan known =
    let m = turn_word s n p key old v h e is at has in
    let pos : 0 < turns_of p key v.turns = m.3 in
    let sum = turns_split p key v.turns in
    let by : turns_at p v.turns ≡ turned_by old v.numbers = h.sound.places.turns p old is n v e in
    let one = once s.views (seats_of s h) n m.0 v e in
    let writing : old ≡ Writing m.0 = m.1 in
    let has_m : 0 < times m.0 v.numbers = m.2 in
    let by' : turned_by old v.numbers ≡ times m.0 v.numbers = ap (λ x. turned_by x v.numbers) writing in
    let keeps : (k : Key) → sole_in s.plan k ≡ true → place_in s.plan k ≡ Some p → is_held k (Some old) ≡ true → is_held k (Some new) ≡ true =
    λ x sole there held. absurd (true≢false (sym held ∙ ap (λ o. is_held x (Some o)) writing)) in
    move_orderly s n p old new v w h e live is sp num claims counts stopped seen belongs
    (record {
      turns_here = λ x. ap (turns_at p) turns ∙ (let i = idle_turns new v.numbers idle in omega arith);
      turns_else = λ q ne. ap (turns_at q) turns ∙ (let a = turns_split q key v.turns in
          let b = no_turns q key v.turns (λ i u y same z. let ku = h.sound.places.turn_keys n v e i u y in
          ne (sym z ∙ some_same u.0 p (sym ku.0 ∙ ap (λ x. place_in s.plan x) (key_is u.1 key same) ∙ at))) in omega arith);
      turns_others = λ ms x. ap (λ o. turned_by o ms) writing ∙ x m.0 has_m ∙ sym (idle_turns new ms idle);
      loans_here = λ c x. ap (loans_at p c) loan ∙ x ∙ ap (λ o. lent_by o c v.numbers) writing ∙ sym (idle_loans new c v.numbers idle);
      loans_else = λ q c ne. ap (loans_at q c) loan;
      loans_others = λ c ms x. ap (λ o. lent_by o c ms) writing ∙ sym (idle_loans new c ms idle);
    })
    (λ i u x. let j = stays key v.turns i u (ap (λ l. slice_get l i) (sym turns) ∙ x) in let y = h.sound.places.turn_keys n v e j.0 u j.1 in (y.0, subst (λ (l : List ℕ). 0 < times u.1.segment l) (sym claims) y.1))
    (λ l x. h.sound.places.loan_keys n v e l (sym loan ∙ x)) keeps (known keeps)

pub publish_orderly : (s : System) (n p : ℕ) (key : Key) (old : PlaceWord) (v : SeatView) → Orderly s → slice_get s.views n ≡ Some v → v.spent ≡ false → slice_get s.places p ≡ Some old → place_in s.plan key ≡ Some p
    → has_turn key v.turns ≡ true → Orderly (record s { places = set s.places p (Ready key); home = set s.home p (Some key); views = set s.views n (having_published s.plan key v) })
unfolding IsIdle
publish_orderly s n p key old v h e live is at has = spends s n p key old (Ready key) v (having_published s.plan key v) h e live is at has tt at refl refl refl refl refl refl refl refl
    (λ keeps. knowing_kept s.plan (set s.places p (Ready key)) key v.known
    (subst (λ o. is_held key (word_in (set s.places p (Ready key)) o) ≡ true) (sym at) (subst (λ o. is_held key o ≡ true) (sym (set_here s.places p (Ready key) old is)) (key_self key)))
    (λ k f. kept_move s.plan s.places p old (Ready key) is keeps k (h.sound.known n v e k f)))

pub abandon_orderly : (s : System) (n p : ℕ) (key : Key) (old : PlaceWord) (v : SeatView) → Orderly s → slice_get s.views n ≡ Some v → v.spent ≡ false → slice_get s.places p ≡ Some old → place_in s.plan key ≡ Some p
    → has_turn key v.turns ≡ true → Orderly (record s { places = set s.places p Free; home = set s.home p None; views = set s.views n (without_turn key v) })
unfolding IsIdle
abandon_orderly s n p key old v h e live is at has = spends s n p key old Free v (without_turn key v) h e live is at has tt tt refl refl refl refl refl refl refl refl
    (λ keeps k f. kept_move s.plan s.places p old Free is keeps k (h.sound.known n v e k f))

-- loans
loan_here : (p : ℕ) (key k : Key) → loans_at p k (Some (p, key)) ≡ (if same_key key k then 1 else 0)
loan_here p key k = rw (eq-eqb p p refl) refl

loan_else : (p q : ℕ) (key k : Key) → q ≢ p → loans_at q k (Some (p, key)) ≡ 0
loan_else p q key k ne = rw (ne_eqb p q (λ z. ne (sym z))) refl

pub lend_orderly : (s : System) (n p : ℕ) (key : Key) (v : SeatView) → Orderly s → slice_get s.views n ≡ Some v → v.spent ≡ false → slice_get s.places p ≡ Some (Ready key) → place_in s.plan key ≡ Some p
    → v.loan ≡ None → Orderly (record s { places = set s.places p (Lent key n); home = set s.home p None; views = set s.views n (with_loan s.plan p key v) })
lend_orderly s n p key v h e live is at none =
    let m : times n v.numbers ≡ 1 = mine s.views (seats_of s h) n v e live in
    let w : SeatView = with_loan s.plan p key v in
    let keeps : (k : Key) → sole_in s.plan k ≡ true → place_in s.plan k ≡ Some p → is_held k (Some (Ready key)) ≡ true → is_held k (Some (Lent key n)) ≡ true = λ k sole there held. held in
    move_orderly s n p (Ready key) (Lent key n) v w h e live is refl refl refl refl refl refl (at, within s.views n v e)
    (record {
      turns_here = λ x. x;
      turns_else = λ q ne. refl;
      turns_others = λ ms x. refl;
      loans_here = λ k x. loan_here p key k ∙ ap (λ i. if same_key key k then i else 0) (sym m);
      loans_else = λ q k ne. loan_else p q key k ne ∙ sym (ap (loans_at q k) none);
      loans_others = λ k ms x. let z : times n ms ≡ 0 = x n (omega arith) in ⊎_elim (λ (y : same_key key k ≡ true). rw y (sym z)) (λ (y : same_key key k ≡ false). rw y refl) (bool_cases (same_key key k));
    })
    (h.sound.places.turn_keys n v e)
    (λ l x. let same : (p, key) ≡ l = some_same (p, key) l x in subst (λ (z : ℕ × Key). place_in s.plan z.1 ≡ Some z.0) same at)
    keeps
    (knowing_kept s.plan (set s.places p (Lent key n)) key v.known
    (subst (λ o. is_held key (word_in (set s.places p (Lent key n)) o) ≡ true) (sym at) (subst (λ o. is_held key o ≡ true) (sym (set_here s.places p (Lent key n) (Ready key) is)) (key_self key)))
    (λ k f. kept_move s.plan s.places p (Ready key) (Lent key n) is keeps k (h.sound.known n v e k f)))

lent_is : (w : PlaceWord) (key : Key) (ns : List ℕ) → 0 < lent_by w key ns → (m : ℕ) × (w ≡ Lent key m) × (0 < times m ns)
lent_is Free key ns pos = absurd (omega arith)
lent_is (Writing m) key ns pos = absurd (omega arith)
lent_is (Ready k) key ns pos = absurd (omega arith)
lent_is (Lent k m) key ns pos = ⊎_elim
    (λ (y : same_key k key ≡ true). let pos' : 0 < times m ns = rw y at pos in (m, ap (λ x. Lent x m) (key_is k key y), pos'))
    (λ (y : same_key k key ≡ false). let pos' : 0 < 0 = rw y at pos in absurd (omega arith))
    (bool_cases (same_key k key))

pub return_orderly : (s : System) (n p : ℕ) (key : Key) (old : PlaceWord) (v : SeatView) → Orderly s → slice_get s.views n ≡ Some v → v.spent ≡ false → slice_get s.places p ≡ Some old
    → v.loan ≡ Some (p, key) → Orderly (record s { places = set s.places p (Ready key); home = set s.home p (Some key); views = set s.views n (having_returned key v) })
return_orderly s n p key old v h e live is loan =
    let at : place_in s.plan key ≡ Some p = h.sound.places.loan_keys n v e (p, key) loan in
    let by : loans_at p key v.loan ≡ lent_by old key v.numbers = h.sound.places.loans p old key is n v e in
    let one : loans_at p key v.loan ≡ 1 = ap (loans_at p key) loan ∙ loan_here p key key ∙ ap (λ b. if b then 1 else 0) (key_self key) in
    let m = lent_is old key v.numbers (omega arith) in
    let lent : old ≡ Lent key m.0 = m.1 in
    let has : 0 < times m.0 v.numbers = m.2 in
    let keeps : (k : Key) → sole_in s.plan k ≡ true → place_in s.plan k ≡ Some p → is_held k (Some old) ≡ true → is_held k (Some (Ready key)) ≡ true =
    λ k sole there held. subst (λ o. is_held k (Some o) ≡ true) lent held in
    move_orderly s n p old (Ready key) v (having_returned key v) h e live is refl refl refl refl refl refl at
    (record {
      turns_here = λ x. x ∙ ap (λ o. turned_by o v.numbers) lent;
      turns_else = λ q ne. refl;
      turns_others = λ ms x. ap (λ o. turned_by o ms) lent;
      loans_here = λ k x. refl;
      loans_else = λ q k ne. sym (ap (loans_at q k) loan ∙ loan_else p q key k ne);
      loans_others = λ k ms x. ap (λ o. lent_by o k ms) lent ∙ (let z : times m.0 ms ≡ 0 = x m.0 has in ⊎_elim (λ (y : same_key key k ≡ true). rw y z) (λ (y : same_key key k ≡ false). rw y refl) (bool_cases (same_key key k)));
    })
    (h.sound.places.turn_keys n v e)
    (λ l x. absurd (not_some l x)) keeps
    (λ k f. kept_move s.plan s.places p old (Ready key) is keeps k (h.sound.known n v e k f))
