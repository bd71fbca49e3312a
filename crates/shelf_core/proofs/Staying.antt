-- What the calls of a seat leave as it was.
use Rattle.std.proofs.Common.{◌≡◌, ℕ, Bool, true, false, true≢false, List, [], ◌∷◌, ◌++◌, Option, Some, None, sym, refl, ap, ◌∙◌, subst, ◌||◌, ◌&&◌, ⊎_elim, if◌then◌else◌, not, ◌==◌}
use Rattle.std.specs.List.{list_any}
use Rattle.shelf_core.specs.Plan.{same_key, is_in, is_sole, sole_in, place_of}
use Rattle.shelf_core.specs.Views.{other_turns, has_turn}
use Rattle.shelf_core.specs.Possible.{allows_writing, word_at, word_in}
use Rattle.shelf_core.specs.After.{knowing, having_loaded, with_loan, having_returned}
use Rattle.shelf_core.specs.Made.{Sees, Same, Stays}
use Rattle.shelf_core.specs.Calls.{SeesPlace, is_fork_place, Readied, Began, Refused, Published, Abandoned, Borrowed, Missed}
use Rattle.shelf_core.specs.declared.plan.Key.{Key}
use Rattle.shelf_core.specs.declared.plan.ShelfPlan.{ShelfPlan}
use Rattle.shelf_core.specs.declared.words.PlaceWord.{PlaceWord}
use Rattle.shelf_core.specs.declared.words.PlaceWord.TheVariants.{Free, Writing, Ready, Lent}
use Rattle.shelf_core.specs.declared.words.Word.{Word}
use Rattle.shelf_core.specs.declared.words.Word.TheVariants.{Place as place_word}
use Rattle.shelf_core.specs.declared.words.Seen.{Seen}
use Rattle.shelf_core.specs.declared.words.Seen.TheVariants.{Claim as claim_seen, Place as place_seen, Done as done_seen}
use Rattle.shelf_core.specs.declared.seat.SeatView.{SeatView}
use Rattle.shelf_core.proofs.Lists.{bool_cases}
use Rattle.shelf_core.proofs.Plans.{and_right, key_self}
use Rattle.shelf_core.proofs.Moved.{turn_word}
use Rattle.shelf_core.proofs.Steps.{live_seat, turn_place, word_there}
use Rattle.shelf_core.proofs.Facts.{loaded, same, in_end, at_true, at_false}

pub stays_self : (v : SeatView) → Stays v v
stays_self v = record { numbers = refl; claims = refl; counts = refl; known = λ key e. e; found = λ key e. e }

pub stays_then : (u v w : SeatView) → Stays u v → Stays v w → Stays u w
stays_then u v w a b = record {
  numbers = b.numbers ∙ a.numbers;
  claims = b.claims ∙ a.claims;
  counts = b.counts ∙ a.counts;
  known = λ key e. b.known key (a.known key e);
  found = λ key e. b.found key (a.found key e);
}

in_more : (key other : Key) (keys : List Key) → is_in key keys ≡ true → is_in key (keys ++ other ∷ []) ≡ true
in_more key other [] e = absurd (true≢false (sym e))
in_more key other (k ∷ keys) e = ⊎_elim
    (λ (y : same_key k key ≡ true). rw y refl)
    (λ (y : same_key k key ≡ false). let r : is_in key keys ≡ true = rw y at e in let m = in_more key other keys r in rw y m)
    (bool_cases (same_key k key))

knowing_more : (plan : Option ShelfPlan) (other key : Key) (known : List Key) → is_in key known ≡ true → is_in key (knowing plan other known) ≡ true
knowing_more plan other key known e = ⊎_elim
    (λ (y : sole_in plan other ≡ true). ap (λ (b : Bool). is_in key (if b then known ++ other ∷ [] else known)) y ∙ in_more key other known e)
    (λ (y : sole_in plan other ≡ false). ap (λ (b : Bool). is_in key (if b then known ++ other ∷ [] else known)) y ∙ e)
    (bool_cases (sole_in plan other))

known_loaded : (plan : Option ShelfPlan) (seen : Seen) (v : SeatView) (key : Key) → is_in key v.known ≡ true → is_in key (having_loaded plan (Some seen) v).known ≡ true
known_loaded plan (claim_seen g c) v key e = e
known_loaded plan (place_seen p Free) v key e = e
known_loaded plan (place_seen p (Writing n)) v key e = e
known_loaded plan (place_seen p (Ready k)) v key e = knowing_more plan k key v.known e
known_loaded plan (place_seen p (Lent k n)) v key e = knowing_more plan k key v.known e
known_loaded plan (done_seen d b) v key e = e

pub sees_same : (plan : ShelfPlan) (word : Word) (seen : Seen) (v w : SeatView) → Sees plan word seen v w → Same v w
sees_same plan word seen v w s = subst (Same v) (sym s.is) (loaded (Some plan) seen v)

pub sees_stays : (plan : ShelfPlan) (word : Word) (seen : Seen) (v w : SeatView) → Sees plan word seen v w → Stays v w
sees_stays plan word seen v w s = let a = sees_same plan word seen v w s in record {
  numbers = a.numbers;
  claims = a.claims;
  counts = a.counts;
  known = λ key e. ap (λ u. is_in key u.known) s.is ∙ known_loaded (Some plan) seen v key e;
  found = λ key e. ap (is_in key) a.found ∙ e;
}

place_stays : (plan : ShelfPlan) (place : ℕ) (word : PlaceWord) (v w : SeatView) → SeesPlace plan place word v w → Stays v w
place_stays plan place word v w s = sees_stays plan (place_word place) (place_seen place word) v w s

pub missed_stays : (plan : ShelfPlan) (key : Key) (word : PlaceWord) (v w : SeatView) → Missed plan key word v w → Stays v w
missed_stays plan key word v w r = place_stays plan r.0 word v w r.2

pub borrowed_stays : (plan : ShelfPlan) (key : Key) (v w : SeatView) → Borrowed plan key v w → Stays v w
borrowed_stays plan key v w r = let e : w ≡ having_returned key (with_loan (Some plan) r.0 key v) = r.5 ∙ ap (having_returned key) r.3 in
    subst (Stays v) (sym e) (record { numbers = refl; claims = refl; counts = refl; known = λ k x. knowing_more (Some plan) key k v.known x; found = λ k x. in_more k key v.found x })

pub borrowed_found : (plan : ShelfPlan) (key : Key) (v w : SeatView) → Borrowed plan key v w → (w.turns ≡ v.turns) × (w.loan ≡ None) × (is_in key w.found ≡ true)
borrowed_found plan key v w r = let e : w ≡ having_returned key (with_loan (Some plan) r.0 key v) = r.5 ∙ ap (having_returned key) r.3 in
    (ap (λ (u : SeatView). u.turns) e, ap (λ (u : SeatView). u.loan) e, ap (λ (u : SeatView). is_in key u.found) e ∙ in_end key v.found)

pub refused_stays : (plan : ShelfPlan) (key : Key) (word : PlaceWord) (v w : SeatView) → Refused plan key word v w → Stays v w
refused_stays plan key word v w r = ⊎_elim
    (λ (fork : is_fork_place plan r.0 ≡ true). place_stays plan r.0 word v w (at_true _ _ _ fork r.2).0)
    (λ (grid : is_fork_place plan r.0 ≡ false). ⊎_elim
    (λ x. place_stays plan r.0 word v w x.0)
    (λ x. stays_then v x.0 w (place_stays plan r.0 x.1 v x.0 x.2) (place_stays plan r.0 word x.0 w x.4))
    (at_false _ _ _ grid r.2))
    (bool_cases (is_fork_place plan r.0))

-- What comes before the step of a `begin`.
readied_stays : (plan : ShelfPlan) (place : ℕ) (key : Key) (v m : SeatView) → Readied plan place key v m → Stays v m × (m.turns ≡ v.turns)
readied_stays plan place key v m r = ⊎_elim
    (λ (fork : is_fork_place plan place ≡ true). let e = at_true _ _ _ fork r in (subst (Stays v) (sym e) (stays_self v), ap (λ (u : SeatView). u.turns) e))
    (λ (grid : is_fork_place plan place ≡ false). let s = at_false _ _ _ grid r in (place_stays plan place s.0 v m s.1, (same plan place s.0 v m s.1).turns))
    (bool_cases (is_fork_place plan place))

pub began_stays : (plan : ShelfPlan) (key : Key) (v w : SeatView) → Began plan key v w → Stays v w
began_stays plan key v w b = let a = readied_stays plan b.0 key v b.1 b.3 in subst (Stays v) (sym b.4)
    (record { numbers = a.0.numbers; claims = a.0.claims; counts = a.0.counts; known = a.0.known; found = a.0.found })

-- The turn is the last of the seat's.
pub began_turn : (plan : ShelfPlan) (key : Key) (v w : SeatView) → Began plan key v w → (place : ℕ) × (place_of plan key ≡ Some place) × (w.turns ≡ v.turns ++ (place, key) ∷ [])
began_turn plan key v w b = let a = readied_stays plan b.0 key v b.1 b.3 in
    (b.0, b.2, ap (λ (u : SeatView). u.turns) b.4 ∙ ap (λ ts. ts ++ (b.0, key) ∷ []) a.1)

has_end : (key : Key) (place : ℕ) (turns : List (ℕ × Key)) → has_turn key (turns ++ (place, key) ∷ []) ≡ true
has_end key place [] = rw (key_self key) refl
has_end key place (t ∷ ts) = rw (has_end key place ts) (or_true (same_key t.1 key))
  where
    or_true : (b : Bool) → (b || true) ≡ true
    or_true true = refl
    or_true false = refl

pub began_has : (plan : ShelfPlan) (key : Key) (v w : SeatView) → Began plan key v w → has_turn key w.turns ≡ true
began_has plan key v w b = let t = began_turn plan key v w b in ap (has_turn key) t.2 ∙ has_end key t.0 v.turns

-- A seat that has the turn of a key gets no second one.
pub began_once : (plan : ShelfPlan) (key : Key) (v w : SeatView) → Began plan key v w → has_turn key v.turns ≡ false
began_once plan key v w b = ⊎_elim
    (λ (has : has_turn key v.turns ≡ true).
    let m = b.5 in let s = m.before in let u : SeatView = b.1 in
    let has' : has_turn key u.turns ≡ true = ap (has_turn key) (readied_stays plan b.0 key v u b.3).1 ∙ has in
    let p = turn_place s m.seat key u m.orderly m.had has' in
    let w = word_there s key p.0 m.orderly p.1 in
    let is = turn_word s m.seat p.0 key w.0 u m.orderly m.had w.1 p.1 has' in
    let r = live_seat s m.seat (λ view. list_any (λ segment. segment == key.segment) view.claims && allows_writing s key (word_at s key)) m.can in
    let free : allows_writing s key (word_at s key) ≡ true = and_right (list_any (λ segment. segment == key.segment) r.0.claims) (allows_writing s key (word_at s key)) r.3 in
    let word : word_at s key ≡ Some (Writing is.0) = ap (word_in s.places) p.1 ∙ w.1 ∙ ap Some is.1 in
    absurd (true≢false (sym free ∙ ap (allows_writing s key) word)))
    (λ (none : has_turn key v.turns ≡ false). none)
    (bool_cases (has_turn key v.turns))

-- A turn that was got and spent leaves the turns that the seat had.
other_is : (key : Key) (turns : List (ℕ × Key)) → has_turn key turns ≡ false → other_turns key turns ≡ turns
other_is key [] none = refl
other_is key (t ∷ ts) none = ⊎_elim
    (λ (y : same_key t.1 key ≡ true). let h : true ≡ false = rw y at none in absurd (true≢false h))
    (λ (y : same_key t.1 key ≡ false). let h : has_turn key ts ≡ false = rw y at none in let r = other_is key ts h in ap (λ (b : Bool). if not b then t ∷ other_turns key ts else other_turns key ts) y ∙ ap (λ l. t ∷ l) r)
    (bool_cases (same_key t.1 key))

other_end : (key : Key) (place : ℕ) (turns : List (ℕ × Key)) → other_turns key (turns ++ (place, key) ∷ []) ≡ other_turns key turns
other_end key place [] = ap (λ (b : Bool). if not b then (place, key) ∷ [] else []) (key_self key)
other_end key place (t ∷ ts) = let r = other_end key place ts in
    ap (λ l. if not (same_key t.1 key) then t ∷ l else l) r

pub turn_is_spent : (key : Key) (place : ℕ) (turns : List (ℕ × Key)) → has_turn key turns ≡ false → other_turns key (turns ++ (place, key) ∷ []) ≡ turns
turn_is_spent key place turns none = other_end key place turns ∙ other_is key turns none

pub published_stays : (plan : ShelfPlan) (key : Key) (v w : SeatView) → Published plan key v w → Stays v w
published_stays plan key v w p = let a = place_stays plan p.0 p.2 v p.1 p.4 in subst (Stays v) (sym p.5)
    (record { numbers = a.numbers; claims = a.claims; counts = a.counts; known = λ k e. knowing_more (Some plan) key k p.1.known (a.known k e); found = a.found })

pub published_turns : (plan : ShelfPlan) (key : Key) (v w : SeatView) → Published plan key v w → w.turns ≡ other_turns key v.turns
published_turns plan key v w p = ap (λ (u : SeatView). u.turns) p.5 ∙ ap (other_turns key) (same plan p.0 p.2 v p.1 p.4).turns

pub published_known : (plan : ShelfPlan) (key : Key) (v w : SeatView) → Published plan key v w → is_sole plan key ≡ true → is_in key w.known ≡ true
published_known plan key v w p sole = ap (λ (u : SeatView). is_in key u.known) p.5 ∙ ap (λ (b : Bool). is_in key (if b then p.1.known ++ key ∷ [] else p.1.known)) sole ∙ in_end key p.1.known

pub abandoned_stays : (plan : ShelfPlan) (key : Key) (v w : SeatView) → Abandoned plan key v w → Stays v w
abandoned_stays plan key v w p = let a = place_stays plan p.0 p.2 v p.1 p.4 in subst (Stays v) (sym p.5)
    (record { numbers = a.numbers; claims = a.claims; counts = a.counts; known = a.known; found = a.found })

pub abandoned_turns : (plan : ShelfPlan) (key : Key) (v w : SeatView) → Abandoned plan key v w → w.turns ≡ other_turns key v.turns
abandoned_turns plan key v w p = ap (λ (u : SeatView). u.turns) p.5 ∙ ap (other_turns key) (same plan p.0 p.2 v p.1 p.4).turns
