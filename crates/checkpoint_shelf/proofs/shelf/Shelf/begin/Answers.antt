use Rattle.std.proofs.Common.{◌≡◌, ◌<◌, ℕ, ◌++◌, ◌∷◌, [], sym, ap, subst, ◌∙◌, refl, Some, true, false}
use Rattle.shelf_core.specs.Plan.{is_sole, is_in}
use Rattle.shelf_core.specs.Words.{is_held}
use Rattle.shelf_core.specs.Views.{has_turn, times}
use Rattle.checkpoint_shelf.specs.Holds.{IsSeat}
use Rattle.shelf_core.specs.Made.{Same}
use Rattle.shelf_core.specs.Calls.{Began, Refused, LentElsewhere, WritingOwn}
use Rattle.checkpoint_shelf.specs.Answers.{MatchBegun, IfTaken}
use Rattle.checkpoint_shelf.proofs.Calls.{one_about, shown, seat_told, same_shelf}
use Rattle.shelf_core.proofs.Facts.{refused_same, refused_elsewhere, refused_own, refused_sole}
use Rattle.checkpoint_shelf.proofs.Facts.{none_says, some_says, begun_says, taken_says}
use Rattle.shelf_core.specs.Made.{Stays}
use Rattle.shelf_core.specs.declared.plan.Key.{Key}
use Rattle.shelf_core.specs.declared.words.PlaceWord.{PlaceWord}
use Rattle.shelf_core.proofs.Staying.{began_stays, began_turn, began_has, began_once, refused_stays}
use Rattle.checkpoint_shelf.proofs.Facts.{both_say}
use Rattle.checkpoint_shelf.proofs.shelf.Shelf.begin.Goals as goal

pub begin_at-answer-requires-clause-seat : goal.begin_at-answer-requires-clause-seat
begin_at-answer-requires-clause-seat g c =
    let e = seat_told _ _ _ _ _ c.seat.invariant.1 (ap (λ s. s.shelf) c.seat.view_is ∙ c.requires.seat) ∙ sym c.self.view_is in
    subst (λ a. IsSeat a c.seat.inside.number c.seat.inside.seat.me) (one_about _ _ _ _ e) c.seat.invariant.1

pub invariant_of-seat : goal.invariant_of-seat
invariant_of-seat g c = (c.self.inside.table.shared.key, c.begin_at-answer.ensures.seat)

pub returns-clause-same : goal.returns-clause-same
returns-clause-same g c =
    let e = seat_told _ _ _ _ _ c.seat.invariant.1 (ap (λ s. s.shelf) c.seat.view_is ∙ c.requires.seat) ∙ sym c.self.view_is in
    let k = one_about _ _ _ _ e in
    same_shelf _ _ _ c.self.inside.table.shared.key c.seat.inside.number _ _ (subst (λ a. IsSeat a c.seat.inside.number c.seat.inside.seat.me) k c.seat.invariant.1) c.begin_at-answer.ensures.seat c.begin_at-answer.ensures.table (ap (λ s. s.shelf) c.seat.view_is)

pub returns-clause-begun : goal.returns-clause-begun
returns-clause-begun g c =
    let plan = ap (λ s. s.plan) (seat_told _ _ _ _ _ c.seat.invariant.1 (ap (λ s. s.shelf) c.seat.view_is ∙ c.requires.seat)) in let k = ap (λ s. s.plan) c.self.view_is in
    let p = k in
    let v = ap (λ s. s.view) c.seat.view_is in
    let key = c.args.key in let w = c.begin_at-answer.new.seat.me.0.seen in
    subst (λ b. MatchBegun b (λ turn. (turn ≡ key) × Began c.args.self.now.plan key c.args.seat.now.view w) (λ word. Refused c.args.self.now.plan key word c.args.seat.now.view w)) (sym c.begun.ensures)
    (begun_says key c.begin_at-answer.result (λ turn. (turn ≡ key) × Began c.args.self.now.plan key c.args.seat.now.view w) (λ word. Refused c.args.self.now.plan key word c.args.seat.now.view w)
    (none_says c.begin_at-answer.result (λ h. (refl, shown (λ q u. Began q key u w) _ _ _ _ p v h)) c.begin_at-answer.ensures.turn)
    (some_says c.begin_at-answer.result (λ word h. shown (λ q u. Refused q key word u w) _ _ _ _ p v h) c.begin_at-answer.ensures.taken))

pub returns-clause-kept : goal.returns-clause-kept
returns-clause-kept g c =
    let v = ap (λ s. s.view) c.seat.view_is in
    let w = c.begin_at-answer.new.seat.me.0.seen in
    subst (λ b. IfTaken b (λ word. Same c.args.seat.now.view w)) (sym c.begun.ensures)
    (taken_says c.args.key c.begin_at-answer.result _ _ (λ word h. subst (λ u. Same u w) v (refused_same _ _ word _ _ h)) c.begin_at-answer.ensures.taken)

pub returns-clause-elsewhere : goal.returns-clause-elsewhere
returns-clause-elsewhere g c =
    let v = ap (λ s. s.view) c.seat.view_is in
    subst (λ b. IfTaken b (λ word. LentElsewhere c.args.seat.now.view word)) (sym c.begun.ensures)
    (taken_says c.args.key c.begin_at-answer.result _ _ (λ word h. subst (λ u. LentElsewhere u word) v (refused_elsewhere _ _ word _ _ h c.seat.invariant.1.idle)) c.begin_at-answer.ensures.taken)

pub returns-clause-own : goal.returns-clause-own
returns-clause-own g c =
    let k = ap (λ s. s.plan) c.self.view_is in let p = k in
    let v = ap (λ s. s.view) c.seat.view_is in
    subst (λ b. IfTaken b (λ word. WritingOwn c.args.self.now.plan c.args.key c.args.seat.now.view word)) (sym c.begun.ensures)
    (taken_says c.args.key c.begin_at-answer.result _ _ (λ word h. shown (λ q u. WritingOwn q c.args.key u word) _ _ _ _ p v (refused_own _ _ word _ _ h)) c.begin_at-answer.ensures.taken)

pub returns-clause-sole : goal.returns-clause-sole
returns-clause-sole g c = λ sole none.
    let k = ap (λ s. s.plan) c.self.view_is in let p = k in
    let v = ap (λ s. s.view) c.seat.view_is in let key = c.args.key in let w = c.begin_at-answer.new.seat.me.0.seen in
    subst (λ b. IfTaken b (λ word. (is_held key (Some word) ≡ true) × (is_in key w.known ≡ true))) (sym c.begun.ensures)
    (taken_says key c.begin_at-answer.result _ _
    (λ word h. refused_sole _ key word _ w h (ap (λ q. is_sole q key) p ∙ sole) (subst (λ u. 0 < times key.segment u.claims) (sym v) c.requires.claim) (ap (λ u. has_turn key u.turns) v ∙ none)) c.begin_at-answer.ensures.taken)

pub returns-clause-stays : goal.returns-clause-stays
returns-clause-stays g c =
    let v = ap (λ s. s.view) c.seat.view_is in let w = c.begin_at-answer.new.seat.me.0.seen in
    subst (λ u. Stays u w) v (both_say c.begin_at-answer.result (λ h. began_stays c.self.inside.table.shared.key.plan c.args.key c.seat.inside.seat.me.0.seen w h) (λ word h. refused_stays c.self.inside.table.shared.key.plan c.args.key word c.seat.inside.seat.me.0.seen w h) c.begin_at-answer.ensures.turn c.begin_at-answer.ensures.taken)

pub returns-clause-turn : goal.returns-clause-turn
returns-clause-turn g c =
    let v = ap (λ s. s.view.turns) c.seat.view_is in let key = c.args.key in let w = c.begin_at-answer.new.seat.me.0.seen in
    let T : Key → Type 0 = λ turn. (has_turn turn c.args.seat.now.view.turns ≡ false) × (has_turn turn w.turns ≡ true) × ((place : ℕ) × (w.turns ≡ c.args.seat.now.view.turns ++ (place, turn) ∷ [])) in
    let W : PlaceWord → Type 0 = λ word. w.turns ≡ c.args.seat.now.view.turns in
    subst (λ b. MatchBegun b T W) (sym c.begun.ensures)
    (begun_says key c.begin_at-answer.result T W
    (none_says c.begin_at-answer.result (λ h. let t = began_turn _ _ _ w h in (ap (has_turn key) (sym v) ∙ began_once _ _ _ w h, began_has _ _ _ w h, (t.0, t.2 ∙ ap (λ ts. ts ++ (t.0, key) ∷ []) v))) c.begin_at-answer.ensures.turn)
    (some_says c.begin_at-answer.result (λ word h. (refused_same _ _ word _ w h).turns ∙ v) c.begin_at-answer.ensures.taken))
