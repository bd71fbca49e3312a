-- One more event after an edit.
use Rattle.std.proofs.Common.{◌≡◌, ◌∙◌, ℕ, ◌+◌, List, [], ◌∷◌, ◌++◌, length, refl, ap, subst, sym, arith}
use Rattle.std.proofs.lemmas.List.{length-append}
use Rattle.market_types.specs.Told.{EventTold, EditTold, EntryTold, event, edit}
use Rattle.study_report.specs.Difference.{events_in, AreNumbered}
use Rattle.study_report.proofs.ReportParts.{events_in-append}

numbered_push : (n : ℕ) (rs : List EventTold) (r : EventTold) → r.number ≡ n + length rs → AreNumbered n rs → AreNumbered n (rs ++ r ∷ [])
numbered_push n [] r is all = (omega arith, tt)
numbered_push n (s ∷ rs) r is all = (all.0, numbered_push (n + 1) rs r (omega arith) all.1)

append_nothing : (rs : List EventTold) → rs ++ [] ≡ rs
append_nothing [] = refl
append_nothing (r ∷ rs) = ap (λ ss. r ∷ ss) (append_nothing rs)

pub numbered_more : (before middle after : List EntryTold) (m : EditTold) (r : EventTold) (k : ℕ) → middle ≡ before ++ edit m ∷ [] → after ≡ middle ++ event r ∷ [] → r.number ≡ k + 1
    → AreNumbered 1 (events_in before) → length (events_in before) ≡ k → AreNumbered 1 (events_in after) × (length (events_in after) ≡ k + 1)
numbered_more before middle after m r k middle_is after_is is all len =
    let nothing : events_in middle ≡ events_in before = ap events_in middle_is ∙ events_in-append before (edit m ∷ []) ∙ append_nothing (events_in before) in
    let more : events_in after ≡ events_in before ++ r ∷ [] = ap events_in after_is ∙ events_in-append middle (event r ∷ []) ∙ ap (λ rs. rs ++ r ∷ []) nothing in
    let pushed : AreNumbered 1 (events_in before ++ r ∷ []) = numbered_push 1 (events_in before) r (omega arith) all in
    (subst (λ rs. AreNumbered 1 rs) (sym more) pushed, ap length more ∙ length-append (events_in before) (r ∷ []) ∙ ap (λ n. n + 1) len)
