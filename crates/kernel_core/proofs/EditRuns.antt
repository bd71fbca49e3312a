-- Edits are no events, and leave the entries before them in front.
use Rattle.std.proofs.Common.{◌≡◌, ℕ, ◌+◌, List, [], ◌∷◌, refl, ap, ◌∙◌, append_assoc}
use Rattle.market_types.specs.Told.{EntryTold, edit}
use Rattle.market_rules.specs.declared.edit.Edit.{Edit}
use Rattle.kernel_core.specs.Until.{Run, behind}
use Rattle.kernel_core.specs.Edited.{changed_by, edited_one, edited_from, edited, mark_of}

edited_one-events : (b i : ℕ) (e : Edit) (r : Run) → (edited_one b i e r).state.events ≡ r.state.events
unfolding edited_one
edited_one-events b i e r = refl

edited_one-behind : (b i : ℕ) (e : Edit) (xs : List EntryTold) (r : Run) → edited_one b i e (behind xs r) ≡ behind xs (edited_one b i e r)
unfolding edited_one
edited_one-behind b i e xs r =
    ap (λ (es : List EntryTold). let q : Run = record { state = changed_by r.state e; entries = es } in q) (append_assoc xs r.entries (edit (mark_of b i e r.state) ∷ []))

edited_from-events : (b i : ℕ) (es : List Edit) (r : Run) → (edited_from b i es r).state.events ≡ r.state.events
edited_from-events b i [] r = refl
edited_from-events b i (e ∷ es) r = edited_from-events b (i + 1) es (edited_one b i e r) ∙ edited_one-events b i e r

edited_from-behind : (b i : ℕ) (es : List Edit) (xs : List EntryTold) (r : Run) → edited_from b i es (behind xs r) ≡ behind xs (edited_from b i es r)
edited_from-behind b i [] xs r = refl
edited_from-behind b i (e ∷ es) xs r =
    ap (λ (q : Run). edited_from b (i + 1) es q) (edited_one-behind b i e xs r) ∙ edited_from-behind b (i + 1) es xs (edited_one b i e r)

pub edited-events : (b : ℕ) (es : List Edit) (r : Run) → (edited b es r).state.events ≡ r.state.events
edited-events b es r = edited_from-events b 0 es r

pub edited-behind : (b : ℕ) (es : List Edit) (xs : List EntryTold) (r : Run) → edited b es (behind xs r) ≡ behind xs (edited b es r)
edited-behind b es xs r = edited_from-behind b 0 es xs r
