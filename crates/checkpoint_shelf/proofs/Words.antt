-- The steps on the words of segments and on the done word.
use Rattle.std.proofs.Common.{◌≡◌, ◌≢◌, ℕ, suc, ◌+◌, ◌*◌, ◌<◌, ◌≤◌, ◌%◌, ◌^◌, Bool, true, false, Option, Some, slice_get, length, get_or, set, slice_index, sym, refl, ap, ◌∙◌, subst, arith, eqb, ne_eqb, option_map, nat_lt, is_some}
use mathlib.Core.Option.{some, none}
use lib.ListN.{get_elem?}
use prog.Atomic.{either}
use Rattle.atomic_table.specs.Table.{step, keeps, Allows}
use Rattle.shelf_core.specs.Plan.{place_count}
use Rattle.shelf_core.specs.Words.{is_open}
use Rattle.shelf_core.specs.Views.{times}
use Rattle.shelf_core.specs.Possible.{seen_at}
use Rattle.shelf_core.specs.After.{after, with_claim, with_count, having_stopped, having_loaded}
use Rattle.shelf_core.specs.declared.plan.Key.{Key}
use Rattle.shelf_core.specs.declared.words.ClaimWord.{ClaimWord}
use Rattle.shelf_core.specs.declared.words.ClaimWord.TheVariants.{Open, Taken}
use Rattle.shelf_core.specs.declared.words.Word.TheVariants.{Claim as claim_word, Done as done_word}
use Rattle.shelf_core.specs.declared.words.Seen.TheVariants.{Claim as claim_seen, Done as done_seen}
use Rattle.shelf_core.specs.declared.seat.SeatView.{SeatView}
use Rattle.shelf_core.specs.declared.event.Event.TheVariants.{Claim, Count, Stop}
use Rattle.shelf_core.proofs.Lists.{there, within, changed_is_set}
use Rattle.shelf_core.proofs.Steps.{after_orderly}
use Rattle.checkpoint_shelf.specs.declared.about.About.{About}
use Rattle.checkpoint_shelf.specs.Codes.{claim_code, done_code, words_of}
use Rattle.checkpoint_shelf.specs.Holds.{IsSeat, seeing}
use Rattle.checkpoint_shelf.specs.Tells.{ClaimTold, DoneTold, CountTold, StopTold, Becomes}
use Rattle.shelf_core.specs.Made.{Makes, Sees}
use Rattle.std.proofs.lemmas.Bool.{lt-ltb}
use Rattle.std.specs.Int.Bits.{bit_or, or_add_and}
use Rattle.std.proofs.lemmas.Nat.{and_mask}
use Rattle.shelf_core.specs.declared.plan.ShelfPlan.{ShelfPlan}
use Rattle.shelf_core.proofs.Lists.{total_le}
use Rattle.shelf_core.proofs.Quiet.{taken_le}
use Rattle.checkpoint_shelf.proofs.Rows.{claim_at, set_claim}
use Rattle.checkpoint_shelf.proofs.Rule.{St, It, Rule, Goes, view_at, shape_of, words_long, number_is, about_is, keeps_rule, makes, can_at, sees_it, look_rule}

module _ {C Co : Type 0} (Z : Type 0) (key_of : C → Key) (course_of : C → Co) (k : About C Co) where
  -- What is told at one plan and one number is told at each that is the same.
  pub each : (P : About C Co → ℕ → Type 0) (k' : About C Co) (p q : ℕ) → k ≡ k' → p ≡ q → P k p → P k' q
  each P k' p q e f x = subst (λ (z : About C Co × ℕ). P z.0 z.1) (λ j. (e j, f j)) x

  claims_at : (t : St Z key_of course_of k) (h : Rule Z key_of course_of k t) (id number slots i g : ℕ) (me : It Z key_of course_of k) → IsSeat {Z = Z} k number me → slots ≡ place_count k.plan → i ≡ suc (slots + g)
      → get_elem? t.views id ≡ some me.0 → (w : ClaimWord) → slice_get h.sys.claims g ≡ Some w
      → Goes Z key_of course_of k t id me i (λ m. either (eqb m 0) (suc number) m) (ClaimTold {C = C} {Co = Co} {Z = Z} (step slots i 0 (suc number) none) me) (claim_code w)
  claims_at t h id number slots i g me seat many i_is at Open is =
      let v : SeatView = me.0.seen in let v_at = view_at Z key_of course_of k t h id me.0 at in
      let n_is = number_is Z key_of course_of k t h id number me seat at in
      let s = shape_of Z key_of course_of k t h in let places = s.places in
      let can = can_at h.sys id v (λ view. is_open (slice_get h.sys.claims g)) v_at seat.live (ap is_open is) in
      let i_so : i ≡ suc (length h.sys.places + g) = omega arith in
      let words : set t.words i (suc number) ≡ words_of (after h.sys (Claim id g)) =
      ap (λ l. set l i (suc number)) h.words ∙ ap (λ j. set (words_of h.sys) j (suc number)) i_so ∙ ap (λ n. set (words_of h.sys) (suc (length h.sys.places + g)) (suc n)) n_is ∙ set_claim h.sys g (Taken id) in (
        seeing me.0 (with_claim g v),
        keeps,
        tt,
        keeps_rule Z key_of course_of k t h id me.0 (with_claim g v) (after h.sys (Claim id g)) (set t.words i (suc number)) t.homes at refl
            (after_orderly h.sys (Claim id g) h.orderly can) refl words (changed_is_set (with_claim g) h.sys.views id v v_at) h.slots,
        (λ k' e g' i'. each (λ a b. Becomes me (with_claim b v) (seeing me.0 (with_claim g v), me.1) × (times b v.claims ≡ 0) × Makes a.plan (λ n. Claim n b) v (with_claim g v)) k' g g'
            (about_is Z key_of course_of k number me k' seat e) (omega arith)
            ((refl, refl), h.orderly.sound.claims.claimed g Open is id v v_at, makes Z key_of course_of k t h id v (with_claim g v) (λ n. Claim n g) (with_claim g) v_at can refl refl)),
      )
  claims_at t h id number slots i g me seat many i_is at (Taken m) is =
      let v : SeatView = me.0.seen in
      let s = shape_of Z key_of course_of k t h in let places = s.places in
      let i_so : i ≡ suc (length h.sys.places + g) = omega arith in
      let ne : suc m ≢ 0 = λ c. omega arith in
      let sees : seen_at h.sys (claim_word g) ≡ Some (claim_seen g (Taken m)) = ap (λ o. option_map (claim_seen g) o) is in
      let inside : g < length h.sys.claims = within h.sys.claims g (Taken m) is in
      let w : SeatView = having_loaded (Some k.plan) (Some (claim_seen g (Taken m))) v in rw (ne_eqb (suc m) 0 ne) (
        seeing me.0 w,
        keeps,
        tt,
        look_rule Z key_of course_of k t h id number me seat at (claim_word g) (claim_seen g (Taken m)) sees i (suc m) (let a = s.claims in omega (arith, words_long Z key_of course_of k t h))
            (ap (λ l. get_or l i 0) h.words ∙ ap (λ j. get_or (words_of h.sys) j 0) i_so ∙ claim_at h.sys g (Taken m) is),
        (λ k' e g' i'. each (λ a b. (m : ℕ) × Becomes me (having_loaded (Some a.plan) (Some (claim_seen b (Taken m))) v) (seeing me.0 w, me.1) × Sees a.plan (claim_word b) (claim_seen b (Taken m)) v w) k' g g'
            (about_is Z key_of course_of k number me k' seat e) (omega arith)
            (m, (refl, refl), sees_it Z key_of course_of k t h id number me seat at (claim_word g) (claim_seen g (Taken m)) sees)),
      )

  pub claims : (slots id number n i g : ℕ) (me : It Z key_of course_of k) → IsSeat {Z = Z} k number me → n ≡ suc number → slots ≡ place_count k.plan → i ≡ suc (slots + g) → g < k.plan.segments
      → Allows (Rule Z key_of course_of k) slots id me i (λ m. either (eqb m 0) n m) (ClaimTold {C = C} {Co = Co} {Z = Z} (step slots i 0 n none) me)
  claims slots id number n i g me seat n_is many i_is lt = subst (λ (n : ℕ). Allows (Rule Z key_of course_of k) slots id me i (λ m. either (eqb m 0) n m) (ClaimTold {C = C} {Co = Co} {Z = Z} (step slots i 0 n none) me)) (sym n_is) (allows number)
    where
      allows : (number' : ℕ) → Allows (Rule Z key_of course_of k) slots id me i (λ m. either (eqb m 0) (suc number) m) (ClaimTold {C = C} {Co = Co} {Z = Z} (step slots i 0 (suc number) none) me)
      allows number' t h len at fits =
          let s = shape_of Z key_of course_of k t h in let places = s.places in let all = s.claims in
          let w = there h.sys.claims g (omega arith) in
          let i_so : i ≡ suc (length h.sys.places + g) = omega arith in
          let found : slice_index t.words i ≡ claim_code w.0 = ap (λ l. get_or l i 0) h.words ∙ ap (λ j. get_or (words_of h.sys) j 0) i_so ∙ claim_at h.sys g w.0 w.1 in
          subst (λ m. Goes Z key_of course_of k t id me i (λ m. either (eqb m 0) (suc number) m) (ClaimTold {C = C} {Co = Co} {Z = Z} (step slots i 0 (suc number) none) me) m) (sym found)
          (claims_at t h id number slots i g me seat many i_is at w.0 w.1)

  done_at : (t : St Z key_of course_of k) (h : Rule Z key_of course_of k t) → slice_index t.words 0 ≡ done_code h.sys.done h.sys.stopped
  done_at t h = ap (λ l. get_or l 0 0) h.words

  sees_done : (t : St Z key_of course_of k) (h : Rule Z key_of course_of k t) → seen_at h.sys done_word ≡ Some (done_seen h.sys.done h.sys.stopped)
  sees_done t h = ap (λ (o : Option ShelfPlan). option_map (λ (plan : ShelfPlan). done_seen h.sys.done h.sys.stopped) o) h.laid

  pub reads : (slots id number : ℕ) (me : It Z key_of course_of k) → IsSeat {Z = Z} k number me
      → Allows (Rule Z key_of course_of k) slots id me 0 (λ n. n) (DoneTold {C = C} {Co = Co} {Z = Z} (step slots 0 0 0 none) me)
  reads slots id number me seat t h len at fits =
      let v : SeatView = me.0.seen in
      let d : ℕ = h.sys.done in let b : Bool = h.sys.stopped in
      let w : SeatView = having_loaded (Some k.plan) (Some (done_seen d b)) v in
      let long = words_long Z key_of course_of k t h in
      subst (λ m. Goes Z key_of course_of k t id me 0 (λ n. n) (DoneTold {C = C} {Co = Co} {Z = Z} (step slots 0 0 0 none) me) m) (sym (done_at t h)) (
        seeing me.0 w,
        keeps,
        tt,
        look_rule Z key_of course_of k t h id number me seat at done_word (done_seen d b) (sees_done t h) 0 (done_code d b) (omega arith) (done_at t h),
        (λ k' e. let P : About C Co → Type 0 = λ a. (done : ℕ) × (stopped : Bool) × (done_code d b ≡ done_code done stopped) × Becomes me (having_loaded (Some a.plan) (Some (done_seen done stopped)) v) (seeing me.0 w, me.1) × Sees a.plan done_word (done_seen done stopped) v w in
            subst P (about_is Z key_of course_of k number me k' seat e)
            (d, b, refl, (refl, refl), sees_it Z key_of course_of k t h id number me seat at done_word (done_seen d b) (sees_done t h))),
      )

  -- No more is done than there are segments.
  done_few : (t : St Z key_of course_of k) (h : Rule Z key_of course_of k t) → h.sys.done ≤ k.plan.segments
  done_few t h = let s = shape_of Z key_of course_of k t h in let a = s.claims in
      let counts = h.orderly.sound.counts in let b = counts.sum in let c = total_le (λ u. u.counts) (λ u. length u.claims) h.sys.views counts.within in let d = h.orderly.taken in let e = taken_le h.sys.claims in omega arith

  pub counts : (slots id number : ℕ) (me : It Z key_of course_of k) → IsSeat {Z = Z} k number me → me.0.seen.counts < length me.0.seen.claims
      → Allows (Rule Z key_of course_of k) slots id me 0 (λ m. (m + 2) % 2 ^ 64) (CountTold {C = C} {Co = Co} {Z = Z} (step slots 0 2 0 none) me)
  counts slots id number me seat less t h len at fits =
      let v : SeatView = me.0.seen in let v_at = view_at Z key_of course_of k t h id me.0 at in
      let can = can_at h.sys id v (λ view. nat_lt view.counts (length view.claims)) v_at seat.live (lt-ltb v.counts (length v.claims) less) in
      let few = done_few t h in let most = seat.fits.plan.segments in
      let next : (done_code h.sys.done h.sys.stopped + 2) % 2 ^ 64 ≡ done_code (h.sys.done + 1) h.sys.stopped = up h.sys.stopped h.sys.done (omega arith) in
      let found = done_at t h in
      subst (λ m. Goes Z key_of course_of k t id me 0 (λ m. (m + 2) % 2 ^ 64) (CountTold {C = C} {Co = Co} {Z = Z} (step slots 0 2 0 none) me) m) (sym found) (
        seeing me.0 (with_count v),
        keeps,
        tt,
        keeps_rule Z key_of course_of k t h id me.0 (with_count v) (after h.sys (Count id)) (set t.words 0 ((done_code h.sys.done h.sys.stopped + 2) % 2 ^ 64)) t.homes at refl
            (after_orderly h.sys (Count id) h.orderly can) refl (ap (λ l. set l 0 ((done_code h.sys.done h.sys.stopped + 2) % 2 ^ 64)) h.words ∙ ap (λ d. set (words_of h.sys) 0 d) next) (changed_is_set with_count h.sys.views id v v_at) h.slots,
        (λ k' e. let P : About C Co → Type 0 = λ a. Becomes me (with_count v) (seeing me.0 (with_count v), me.1) × Makes a.plan Count v (with_count v) in
            subst P (about_is Z key_of course_of k number me k' seat e) ((refl, refl), makes Z key_of course_of k t h id v (with_count v) (λ n. Count n) with_count v_at can refl refl)),
      )
    where
      up : (b : Bool) (d : ℕ) → d < 4096 → (done_code d b + 2) % 2 ^ 64 ≡ done_code (d + 1) b
      up true d lt = omega arith
      up false d lt = omega arith

  pub stops : (slots id number : ℕ) (me : It Z key_of course_of k) → IsSeat {Z = Z} k number me
      → Allows (Rule Z key_of course_of k) slots id me 0 (λ m. bit_or m 1) (StopTold {C = C} {Co = Co} {Z = Z} (step slots 0 1 0 none) me)
  stops slots id number me seat t h len at fits =
      let v : SeatView = me.0.seen in let v_at = view_at Z key_of course_of k t h id me.0 at in
      let can = can_at h.sys id v (λ view. is_some h.sys.plan) v_at seat.live (ap is_some h.laid) in
      let next = set_bit h.sys.stopped h.sys.done in
      subst (λ m. Goes Z key_of course_of k t id me 0 (λ m. bit_or m 1) (StopTold {C = C} {Co = Co} {Z = Z} (step slots 0 1 0 none) me) m) (sym (done_at t h)) (
        seeing me.0 (having_stopped v),
        keeps,
        tt,
        keeps_rule Z key_of course_of k t h id me.0 (having_stopped v) (after h.sys (Stop id)) (set t.words 0 (bit_or (done_code h.sys.done h.sys.stopped) 1)) t.homes at refl
            (after_orderly h.sys (Stop id) h.orderly can) refl (ap (λ l. set l 0 (bit_or (done_code h.sys.done h.sys.stopped) 1)) h.words ∙ ap (λ d. set (words_of h.sys) 0 d) next) (changed_is_set having_stopped h.sys.views id v v_at) h.slots,
        (λ k' e. let P : About C Co → Type 0 = λ a. Becomes me (having_stopped v) (seeing me.0 (having_stopped v), me.1) × Makes a.plan Stop v (having_stopped v) in
            subst P (about_is Z key_of course_of k number me k' seat e) ((refl, refl), makes Z key_of course_of k t h id v (having_stopped v) (λ n. Stop n) having_stopped v_at can refl refl)),
      )
    where
      set_bit : (b : Bool) (d : ℕ) → bit_or (done_code d b) 1 ≡ done_code d true
      set_bit true d = omega (arith, or_add_and (2 * d + 1) 1, and_mask (2 * d + 1) 1)
      set_bit false d = omega (arith, or_add_and (2 * d + 0) 1, and_mask (2 * d + 0) 1)
