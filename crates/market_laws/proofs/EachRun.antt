-- What each event and each edit keeps, each run of a course keeps.
use Rattle.std.proofs.Common.{◌≡◌, ℕ, ◌+◌, ◌-◌, zero, suc, true, false, inl, inr, List, [], ◌∷◌, ◌++◌, All, Some, None, sym, subst}
use Rattle.std.specs.Prelude.{nat_le, if◌then◌else◌}
use Rattle.std.proofs.lemmas.List.Elements.{All-cons, All-head, All-nil, All-tail}
use Rattle.market_types.specs.declared.message.Message.{Message}
use Rattle.market_types.specs.Told.{event}
use Rattle.market_rules.specs.declared.edit.Edit.{Edit}
use Rattle.event_queue.specs.Waiting.{least}
use Rattle.branch_tree.specs.declared.branch.Branch.{Branch}
use Rattle.branch_tree.specs.declared.stop.Stop.{Stop}
use Rattle.branch_tree.specs.declared.stop.Stop.TheVariants.{At, When}
use Rattle.branch_tree.specs.Plan.{branch_at, stop_at}
use Rattle.market_floor.specs.declared.opening.Opening.{Opening}
use Rattle.kernel_core.specs.Edited.{edited_from, edited_one}
use Rattle.kernel_core.specs.Step.{Happened, end_of, event_of}
use Rattle.kernel_core.specs.Until.{Run, advanced, advanced_by, until}
use Rattle.kernel_core.proofs.Runs.{advanced_ended, advanced_going}
use Rattle.kernel_core.proofs.Stops.{end_cases, next-message}
use Rattle.kernel_core.proofs.Times.{time-some}
use Rattle.kernel_copy.specs.Full.{edited_by, full_along}
use Rattle.kernel_copy.specs.UntilStop.{until_stop}

-- a run with an event more
abbrev pub with : Run → Happened → Run
with r h = record { state = h.state; entries = r.entries ++ event h.entry ∷ [] }

-- The next event keeps what is so of a run, and so does each edit that is allowed, by its branch and its index there.
pub record AreKept (o : Opening) (Is : Run → Type 0) (Allows : ℕ → ℕ → Edit → Type 0) : Type 0 where
  pub event : (r : Run) (m : Message) → end_of o r.state ≡ None → Some m ≡ least r.state.post.waiting → Is r → Is (with r (event_of o r.state m))
  pub edit : (b i : ℕ) (e : Edit) (r : Run) → Allows b i e → Is r → Is (edited_one b i e r)

-- each of a branch's edits is allowed, the first of which has this index
abbrev pub AllowsFrom : (ℕ → ℕ → Edit → Type 0) → ℕ → ℕ → List Edit → Type 0
AllowsFrom P b i [] = Unit {0}
AllowsFrom P b i (e ∷ es) = P b i e × AllowsFrom P b (i + 1) es

-- each edit of a branch is allowed
abbrev pub AllowsAll : (ℕ → ℕ → Edit → Type 0) → List Branch → ℕ → Type 0
AllowsAll P bs b = AllowsFrom P b 0 (branch_at bs b).edits

kept-advanced : (o : Opening) (Is : Run → Type 0) (P : ℕ → ℕ → Edit → Type 0) (r : Run) → AreKept o Is P → Is r → Is (advanced o r)
kept-advanced o Is P r k h = elim (end_cases (end_of o r.state)) [
  | inl going ↦
      let m = next-message o r.state going in
      subst Is (sym (advanced_going o r m.0 going m.1)) (k.event r m.0 going (sym m.1) h)
  | inr over ↦ subst Is (sym (advanced_ended o r over.0 over.1)) h
]

kept-by : (n : ℕ) (o : Opening) (Is : Run → Type 0) (P : ℕ → ℕ → Edit → Type 0) (r : Run) → AreKept o Is P → Is r → Is (advanced_by n o r)
kept-by zero o Is P r k h = h
kept-by (suc n) o Is P r k h = kept-by n o Is P (advanced o r) k (kept-advanced o Is P r k h)

kept-until : (o : Opening) (Is : Run → Type 0) (P : ℕ → ℕ → Edit → Type 0) (n : ℕ) (r : Run) → AreKept o Is P → Is r → Is (until o n r)
kept-until o Is P n r k h = kept-by (n - r.state.events) o Is P r k h

kept-stop : (o : Opening) (Is : Run → Type 0) (P : ℕ → ℕ → Edit → Type 0) (s : Stop) (r : Run) → AreKept o Is P → Is r → Is (until_stop o s r)
kept-stop o Is P (At n) r k h = kept-until o Is P n r k h
kept-stop o Is P (When w) r k h =
    let p = time-some (o.limit - r.state.events) o w r in
    subst Is (sym p.1) (kept-by p.0 o Is P r k h)

kept-edits : (o : Opening) (Is : Run → Type 0) (P : ℕ → ℕ → Edit → Type 0) (b i : ℕ) (es : List Edit) (r : Run) → AreKept o Is P → AllowsFrom P b i es → Is r → Is (edited_from b i es r)
kept-edits o Is P b i [] r k allows h = h
kept-edits o Is P b i (e ∷ es) r k allows h = kept-edits o Is P b (i + 1) es (edited_one b i e r) k allows.1 (k.edit b i e r allows.0 h)

-- a run along branches
pub kept-along : (o : Opening) (Is : Run → Type 0) (P : ℕ → ℕ → Edit → Type 0) (bs : List Branch) (n : ℕ) (cs : List ℕ) (r : Run) → AreKept o Is P → All (AllowsAll P bs) cs → Is r
    → Is (full_along o bs n cs r)
kept-along o Is P bs n [] r k allows h = kept-until o Is P n r k h
kept-along o Is P bs n (b ∷ cs) r k allows h =
    let t = until_stop o (stop_at bs b) r in
    let stopped = kept-stop o Is P (stop_at bs b) r k h in
    let made = kept-edits o Is P b 0 (branch_at bs b).edits t k (All-head (AllowsAll P bs) b cs allows) stopped in
    let more = kept-along o Is P bs n cs (edited_by bs b t) k (All-tail (AllowsAll P bs) b cs allows) made in
    let stays = kept-until o Is P n r k h in
    elim (nat_le t.state.events n) as (λ x. Is (if x then full_along o bs n cs (edited_by bs b t) else until o n r)) [ true ↦ more | false ↦ stays ]

-- what is allowed of every branch is so of those on a path
pub allowed : (P : ℕ → Type 0) (cs : List ℕ) → ((b : ℕ) → P b) → All P cs
allowed P [] h = All-nil P
allowed P (b ∷ cs) h = All-cons P b cs (h b) (allowed P cs h)
