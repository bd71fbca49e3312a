-- The steps that spend a turn.
use Rattle.std.proofs.Common.{◌≡◌, ◌≢◌, ℕ, suc, ◌+◌, ◌<◌, ◌≤◌, true, List, [], ◌∷◌, ◌++◌, Option, Some, None, length, set, sym, refl, ap, ◌∙◌, subst, arith}
use mathlib.Core.Logic.{dite}
use native.Mathlib.Decide.{ℕ_discrete, dec_le}
use mathlib.Core.Option as plain
use mathlib.Core.Option.{some, none}
use lib.ListN.{get_elem?}
use Rattle.atomic_table.specs.Table.{step, gives, stepped, Valid, Allows, rest, carried_after}
use Rattle.std.specs.declared.sync.Arc.{Arc}
use Rattle.shelf_core.specs.Plan.{place_of, place_count}
use Rattle.shelf_core.specs.Views.{times, turns_at, has_turn, other_turns}
use Rattle.shelf_core.specs.Possible.{possible}
use Rattle.shelf_core.specs.After.{after, key_place, without_turn, having_published}
use Rattle.shelf_core.specs.Sound.{turned_by}
use Rattle.shelf_core.specs.Orderly.{Orderly}
use Rattle.shelf_core.specs.declared.plan.Key.{Key}
use Rattle.shelf_core.specs.declared.words.PlaceWord.{PlaceWord}
use Rattle.shelf_core.specs.declared.words.PlaceWord.TheVariants.{Free, Writing, Ready}
use Rattle.shelf_core.specs.declared.seat.SeatView.{SeatView}
use Rattle.shelf_core.specs.declared.system.System.{System}
use Rattle.shelf_core.specs.declared.event.Event.TheVariants.{Publish, Abandon}
use Rattle.shelf_core.proofs.Lists.{some_same, changed_is_set, times_here, times_else, times_append}
use Rattle.shelf_core.proofs.Plans.{key_is, place_below}
use Rattle.shelf_core.proofs.Numbers.{once}
use Rattle.shelf_core.proofs.Parts.{seats_of, turn_there}
use Rattle.shelf_core.proofs.Moved.{turns_split, turns_of, no_turns, turn_word, turned_is}
use Rattle.shelf_core.proofs.Steps.{after_orderly, place_is}
use Rattle.checkpoint_shelf.specs.declared.about.About.{About}
use Rattle.checkpoint_shelf.specs.Codes.{place_code, words_of}
use Rattle.checkpoint_shelf.specs.Fronts.{held, NotIn, Distinct, AllOut, front}
use Rattle.checkpoint_shelf.specs.Holds.{IsSeat, seeing}
use Rattle.checkpoint_shelf.specs.Places.{OneLess, PlaceFound, BringTold, PublishTold, AbandonTold}
use Rattle.shelf_core.specs.Made.{Makes}
use Rattle.checkpoint_shelf.proofs.Brought.{brings}
use Rattle.checkpoint_shelf.proofs.Rule.{St, It, Rule, Stood, Goes, view_at, about_is, makes, can_at}
use Rattle.checkpoint_shelf.proofs.Words.{each}
use Rattle.checkpoint_shelf.proofs.Places.{word_of, key_word, found_at, Left, left_rule, left_found, moved}

-- Where a number stands in a list.
split_at : (p : ℕ) (l : List ℕ) → 0 < times p l → (qs : List ℕ) × (others : List ℕ) × (l ≡ qs ++ p ∷ others)
split_at p [] pos = absurd (omega arith)
split_at p (x ∷ xs) pos = dite (ℕ_discrete x p) (λ e. ([], xs, ap (λ y. y ∷ xs) e)) (λ ne. let t = times_else p x xs ne in let r = split_at p xs (omega arith) in (x ∷ r.0, r.1, ap (λ l. x ∷ l) r.2))

times_split : (q p : ℕ) (qs others : List ℕ) → times q (p ∷ []) + times q (qs ++ others) ≡ times q (qs ++ p ∷ others)
times_split q p qs others = let a = times_append q qs (p ∷ others) in let b = times_append q qs others in let c = times_append q (p ∷ []) others in omega arith

not_in : (p : ℕ) (l : List ℕ) → times p l ≡ 0 → NotIn p l
not_in p [] e = tt
not_in p (x ∷ xs) e = ((λ (z : x ≡ p). let P : ℕ → Type 0 = λ k. times k (x ∷ xs) ≡ suc (times k xs) in let t : times p (x ∷ xs) ≡ suc (times p xs) = subst P z (times_here x xs) in omega arith), not_in p xs (omega arith))

distinct : (l : List ℕ) → ((p : ℕ) → times p l ≤ 1) → Distinct l
distinct [] h = tt
distinct (x ∷ xs) h = (not_in x xs (let a = h x in let t = times_here x xs in omega arith), distinct xs (λ p. let a = h p in omega arith))

module _ {C Co : Type 0} (Z : Type 0) (key_of : C → Key) (course_of : C → Co) (k : About C Co) where
  -- A turn of a seat: its place's word, and its slot.
  module _ (t : St Z key_of course_of k) (h : Rule Z key_of course_of k t) (id number : ℕ) (me : It Z key_of course_of k) (seat : IsSeat {Z = Z} k number me) (at : get_elem? t.views id ≡ some me.0) where
    turn_at : (q : ℕ) → 0 < turns_at q me.0.seen.turns → (q < place_count k.plan) × (turns_at q me.0.seen.turns ≡ 1) × (get_elem? t.homes q ≡ some none)
    turn_at q pos = let v : SeatView = me.0.seen in let v_at = view_at Z key_of course_of k t h id me.0 at in
        let r = turn_there q v.turns pos in
        let low : q < place_count k.plan = place_below k.plan r.1.1 q (seat.places r.0 r.1 r.2 ∙ ap Some r.3) in
        let w = word_of Z key_of course_of k t h q low in
        let by : turns_at q v.turns ≡ turned_by w.0 v.numbers = h.orderly.sound.places.turns q w.0 w.1 id v v_at in
        let m = turned_is w.0 v.numbers (omega arith) in
        let one = once h.sys.views (seats_of h.sys h.orderly) id m.0 v v_at in
        let is : turned_by w.0 v.numbers ≡ times m.0 v.numbers = ap (λ x. turned_by x v.numbers) m.1 in
        (low, omega arith, h.slots q (Writing m.0) (w.1 ∙ ap Some m.1))

    turns_once : (q : ℕ) → turns_at q me.0.seen.turns ≤ 1
    turns_once q = dite (dec_le (turns_at q me.0.seen.turns) 0) (λ z. omega arith) (λ z. let a = turn_at q (omega arith) in let b = a.1 in omega arith)

    all_out : (l : List ℕ) → ((q : ℕ) → 0 < times q l → 0 < turns_at q me.0.seen.turns) → AllOut t.homes l
    all_out [] mine = tt
    all_out (p ∷ ps) mine = let a = turn_at p (mine p (let z = times_here p ps in omega arith)) in
        (a.2, all_out ps (λ q pos. mine q (let b : times q ps ≤ times q (p ∷ ps) = omega arith in omega arith)))

    -- One turn less at the place of a key whose turns are spent.
    one_less : (p : ℕ) (key : Key) → place_of k.plan key ≡ Some p → has_turn key me.0.seen.turns ≡ true → OneLess p me.0.seen.turns (other_turns key me.0.seen.turns)
    one_less p key key_at has q = let v : SeatView = me.0.seen in let v_at = view_at Z key_of course_of k t h id me.0 at in
        let sum = turns_split q key v.turns in dite (ℕ_discrete p q)
        (λ (same : p ≡ q). let w = word_of Z key_of course_of k t h p (place_below k.plan key p key_at) in
        let m = turn_word h.sys id p key w.0 v h.orderly v_at w.1 (key_word Z key_of course_of k t h key p w.0 key_at w.1).0 has in
        let pos : 0 < turns_of q key v.turns = subst (λ (x : ℕ). 0 < turns_of x key v.turns) same m.3 in
        let one = turns_once q in
        let here : times q (p ∷ []) ≡ 1 = subst (λ (x : ℕ). times x (p ∷ []) ≡ 1) same (times_here p []) in omega arith)
        (λ (ne : p ≢ q). let none = no_turns q key v.turns (λ i u e same z. ne (some_same p q (sym key_at ∙ sym (ap (λ x. place_of k.plan x) (key_is u.1 key same)) ∙ seat.places i u e ∙ ap Some z))) in
        let zero_here = times_else q p [] ne in omega arith)

  pub brings_front : (slots id number i p : ℕ) (me : It Z key_of course_of k) → IsSeat {Z = Z} k number me → i ≡ suc p → 0 < turns_at p me.0.seen.turns
      → Allows (Rule Z key_of course_of k) slots id me i (λ n. n) (BringTold {C = C} {Co = Co} {Z = Z} (step slots i 0 0 none) me)
  brings_front slots id number i p me seat i_is pos t h len at fits =
      let v : SeatView = me.0.seen in
      let places : List ℕ = seat.hands.0 in let counted = seat.hands.2 in
      let mine : 0 < times p places = (let c = counted p in omega arith) in
      let r = split_at p places mine in let qs : List ℕ = r.0 in let others : List ℕ = r.1 in
      let hands : me.1 ≡ held None (qs ++ p ∷ others) = seat.hands.1 ∙ ap (held None) r.2 in
      let dist : Distinct (qs ++ p ∷ others) = subst Distinct r.2 (distinct places (λ q. let a = turns_once t h id number me seat at q in let b = counted q in omega arith)) in
      let out : AllOut t.homes (qs ++ p ∷ others) = subst (AllOut t.homes) r.2 (all_out t h id number me seat at places (λ q x. let b = counted q in omega arith)) in
      let b = brings None qs others p t.homes dist out in
      let low = (turn_at t h id number me seat at p pos).0 in
      let w = word_of Z key_of course_of k t h p low in
      let u : SeatView = Left Z key_of course_of k t h id number me seat at i p i_is w.0 w.1 in
      let kept = left_rule Z key_of course_of k t h id number me seat at i p i_is w.0 w.1 in
      let P : List (plain.Option (Option (Arc C Z))) → Type 0 = λ hs. Rule Z key_of course_of k (record { words = set t.words i (place_code w.0); homes = hs; views = set t.views id (seeing me.0 u) }) in
      let G : List (ℕ × Option (Arc C Z)) → Type 0 = λ cs. Valid t.homes cs (front None qs p) × Rule Z key_of course_of k (stepped t i (place_code w.0) id cs (seeing me.0 u) (front None qs p)) × (carried_after cs (front None qs p) ≡ held None (p ∷ (qs ++ others))) in
      let g : G me.1 = subst G (sym hands) (b.0, subst P (sym b.1) kept, b.2) in
      let counts : (q : ℕ) → times q (p ∷ []) + times q (qs ++ others) ≡ turns_at q v.turns = λ q. times_split q p qs others ∙ sym (ap (times q) r.2) ∙ counted q in
      subst (λ m. Goes Z key_of course_of k t id me i (λ n. n) (BringTold {C = C} {Co = Co} {Z = Z} (step slots i 0 0 none) me) m) (sym (found_at Z key_of course_of k t h i p w.0 i_is w.1)) (
        seeing me.0 u,
        front None qs p,
        g.0,
        g.1,
        (λ k' e q q_is. each Z key_of course_of k
            (λ a b. (word : PlaceWord) × PlaceFound a b me (place_code w.0) (seeing me.0 u, carried_after me.1 (front None qs p)) word
            × ((os : List ℕ) × (carried_after me.1 (front None qs p) ≡ (b, None) ∷ held None os) × ((x : ℕ) → times x (b ∷ []) + times x os ≡ turns_at x v.turns)))
            k' p q (about_is Z key_of course_of k number me k' seat e) (omega arith)
            (w.0, left_found Z key_of course_of k t h id number me seat at i p i_is w.0 w.1 (carried_after me.1 (front None qs p)), (qs ++ others, g.2, counts))),
      )

  -- A step by which a turn is spent: the slot in front goes home. The seat is one with the slots that it had before the value came into that slot.
  module _ (t : St Z key_of course_of k) (h : Rule Z key_of course_of k t) (id number : ℕ) (me : It Z key_of course_of k) (had : List (ℕ × Option (Arc C Z))) (seat : IsSeat {Z = Z} k number (me.0, had)) (at : get_elem? t.views id ≡ some me.0)
      (i p n : ℕ) (i_is : i ≡ suc p) (key : Key) (key_at : place_of k.plan key ≡ Some p) (has : has_turn key me.0.seen.turns ≡ true) (slot : Option (Arc C Z)) (hand : me.1 ≡ (p, slot) ∷ rest me.1) (len : length t.homes ≡ place_count k.plan) where
    spent_rule : (new : PlaceWord) (w : SeatView) (z : System) → n ≡ place_code new → w.spent ≡ me.0.seen.spent → Orderly z → z.plan ≡ h.sys.plan
        → words_of z ≡ words_of (record h.sys { places = set h.sys.places (key_place h.sys key) new }) → z.places ≡ set h.sys.places (key_place h.sys key) new → z.views ≡ set h.sys.views id w
        → Stood Z key_of course_of k new (some (some slot)) → Rule Z key_of course_of k (stepped t i n id me.1 (seeing me.0 w) gives)
    spent_rule new w z n_is sp orderly plan words places views stands =
        let o = word_of Z key_of course_of k t h p (place_below k.plan key p key_at) in
        let pl : key_place h.sys key ≡ p = place_is h.sys key p (key_word Z key_of course_of k t h key p o.0 key_at o.1).0 in
        subst (λ c. Rule Z key_of course_of k (stepped t i n id c (seeing me.0 w) gives)) (sym hand)
        (moved Z key_of course_of k t h id me.0 p i n o.0 new (some slot) w z at i_is n_is o.1 len sp orderly plan
        (words ∙ ap (λ q. words_of (record h.sys { places = set h.sys.places q new })) pl) (places ∙ ap (λ q. set h.sys.places q new) pl) views stands)

  pub publishes : (slots id number i p n new : ℕ) (key : Key) (a : Arc C Z) (me : It Z key_of course_of k) (had : List (ℕ × Option (Arc C Z))) → IsSeat {Z = Z} k number (me.0, had) → slots ≡ place_count k.plan → i ≡ suc p → new ≡ place_code (Ready key)
      → place_of k.plan key ≡ Some p → has_turn key me.0.seen.turns ≡ true → me.1 ≡ (p, Some a) ∷ rest me.1 → key_of a.value ≡ key → course_of a.value ≡ k.course.value
      → Allows (Rule Z key_of course_of k) slots id me i (λ _. new) (λ _. PublishTold {C = C} {Co = Co} {Z = Z} key (step slots i new 0 none) me n)
  publishes slots id number i p n new key a me had seat many i_is new_is key_at has hand keyed course t h len at low =
      let v : SeatView = me.0.seen in let v_at = view_at Z key_of course_of k t h id me.0 at in
      let u : SeatView = having_published (Some k.plan) key v in
      let can : possible h.sys (Publish id key) ≡ true = can_at h.sys id v (λ view. has_turn key view.turns) v_at seat.live has in
      let same_view : having_published h.sys.plan key v ≡ u = ap (λ o. having_published o key v) h.laid in (
        seeing me.0 u,
        gives,
        tt,
        spent_rule t h id number me had seat at i p new i_is key key_at has (Some a) hand (len ∙ many) (Ready key) u (after h.sys (Publish id key)) new_is refl (after_orderly h.sys (Publish id key) h.orderly can) refl refl refl
            (changed_is_set (having_published h.sys.plan key) h.sys.views id v v_at ∙ ap (λ w. set h.sys.views id w) same_view) (a, refl, keyed, course),
        (λ k' e q q_is. each Z key_of course_of k
            (λ b c. (seeing me.0 u ≡ seeing me.0 (having_published (Some b.plan) key v)) × (rest me.1 ≡ rest me.1) × OneLess c v.turns (other_turns key v.turns) × Makes b.plan (λ n. Publish n key) v u) k' p q (about_is Z key_of course_of k number (me.0, had) k' seat e) (omega arith)
            (refl, refl, one_less t h id number (me.0, had) seat at p key key_at has, makes Z key_of course_of k t h id v u (λ n. Publish n key) (having_published h.sys.plan key) v_at can refl same_view)),
      )

  pub abandons : (slots id number i p n : ℕ) (key : Key) (me : It Z key_of course_of k) (had : List (ℕ × Option (Arc C Z))) → IsSeat {Z = Z} k number (me.0, had) → slots ≡ place_count k.plan → i ≡ suc p
      → place_of k.plan key ≡ Some p → has_turn key me.0.seen.turns ≡ true → me.1 ≡ (p, None) ∷ rest me.1
      → Allows (Rule Z key_of course_of k) slots id me i (λ _. 0) (λ _. AbandonTold {C = C} {Co = Co} {Z = Z} key (step slots i 0 0 none) me n)
  abandons slots id number i p n key me had seat many i_is key_at has hand t h len at low =
      let v : SeatView = me.0.seen in let v_at = view_at Z key_of course_of k t h id me.0 at in
      let u : SeatView = without_turn key v in
      let can : possible h.sys (Abandon id key) ≡ true = can_at h.sys id v (λ view. has_turn key view.turns) v_at seat.live has in (
        seeing me.0 u,
        gives,
        tt,
        spent_rule t h id number me had seat at i p 0 i_is key key_at has None hand (len ∙ many) Free u (after h.sys (Abandon id key)) refl refl (after_orderly h.sys (Abandon id key) h.orderly can) refl refl refl
            (changed_is_set (without_turn key) h.sys.views id v v_at) refl,
        (λ k' e q q_is. each Z key_of course_of k
            (λ b c. (seeing me.0 u ≡ seeing me.0 u) × (rest me.1 ≡ rest me.1) × OneLess c v.turns (other_turns key v.turns) × Makes b.plan (λ n. Abandon n key) v u) k' p q (about_is Z key_of course_of k number (me.0, had) k' seat e) (omega arith)
            (refl, refl, one_less t h id number (me.0, had) seat at p key key_at has, makes Z key_of course_of k t h id v u (λ n. Abandon n key) (without_turn key) v_at can refl refl)),
      )
