-- The records of a run are numbered from 1 on, and its state counts them.
use Rattle.std.proofs.Common.{◌≡◌, ℕ, ◌+◌, ◌-◌, ◌∙◌, true, false, List, [], ◌∷◌, ◌++◌, Option, Some, None, option_map, is_some, cond, length, refl, ap, sym, subst, arith, suc, zero}
use Rattle.std.specs.Prelude.{nat_le, if◌then◌else◌}
use Rattle.std.proofs.lemmas.List.{length-append}
use Rattle.market_types.specs.declared.message.Message.{Message}
use Rattle.market_types.specs.declared.entry.End.{End}
use Rattle.market_types.specs.Told.{EventTold, EditTold, EntryTold, event, edit}
use Rattle.market_rules.specs.declared.edit.Edit.{Edit}
use Rattle.event_queue.specs.Waiting.{least}
use Rattle.branch_tree.specs.declared.branch.Branch.{Branch}
use Rattle.branch_tree.specs.declared.stop.Stop.{Stop}
use Rattle.branch_tree.specs.Plan.{Plan, branch_at, stop_at}
use Rattle.market_floor.specs.declared.opening.Opening.{Opening}
use Rattle.kernel_core.specs.Step.{Happened, event_of, end_of}
use Rattle.kernel_core.specs.Until.{Run, with_event, advanced, advanced_by, until}
use Rattle.kernel_core.specs.Edited.{edited_one, edited_from}
use Rattle.kernel_core.proofs.Runs.{event-number, event-events}
use Rattle.kernel_copy.specs.UntilStop.{until_stop}
use Rattle.kernel_copy.specs.Full.{opening_run, edited_by, forks_of, full_along, full}
use Rattle.trace_bundle.proofs.Origins.{stop-some}
use Rattle.study_report.specs.Difference.{events_in, AreNumbered}
use Rattle.study_report.proofs.ReportParts.{events_in-append}

pub record IsCounted (r : Run) : Type 0 where
  pub numbered : AreNumbered 1 (events_in r.entries)
  pub count : length (events_in r.entries) ≡ r.state.events

events_in-edit : (es : List EntryTold) (m : EditTold) → events_in (es ++ edit m ∷ []) ≡ events_in es
events_in-edit [] m = refl
events_in-edit (event r ∷ es) m = ap (λ rs. r ∷ rs) (events_in-edit es m)
events_in-edit (edit n ∷ es) m = events_in-edit es m

numbered-push : (n : ℕ) (rs : List EventTold) (r : EventTold) → r.number ≡ n + length rs → AreNumbered n rs → AreNumbered n (rs ++ r ∷ [])
numbered-push n [] r is all = (omega arith, tt)
numbered-push n (s ∷ rs) r is all = (all.0, numbered-push (n + 1) rs r (omega arith) all.1)

-- one event more, which has the next number
counted-event : (r : Run) (h : Happened) → h.entry.number ≡ r.state.events + 1 → h.state.events ≡ r.state.events + 1 → IsCounted r → IsCounted (with_event r (Some h))
counted-event r h number events c =
    let more : events_in (r.entries ++ event h.entry ∷ []) ≡ events_in r.entries ++ h.entry ∷ [] = events_in-append r.entries (event h.entry ∷ []) in
    record {
      numbered = subst (λ (rs : List EventTold). AreNumbered 1 rs) (sym more) (numbered-push 1 (events_in r.entries) h.entry (omega (arith, c.count)) c.numbered);
      count = omega (arith, ap (λ (rs : List EventTold). length rs) more, length-append (events_in r.entries) (h.entry ∷ []), c.count);
    }

counted-step : (r : Run) (f : Message → Happened) (e : Option End) (l : Option Message) → ((m : Message) → (f m).entry.number ≡ r.state.events + 1) → ((m : Message) → (f m).state.events ≡ r.state.events + 1)
    → IsCounted r → IsCounted (with_event r (cond (is_some e) None (option_map f l)))
counted-step r f None None number events c = c
counted-step r f None (Some m) number events c = counted-event r (f m) (number m) (events m) c
counted-step r f (Some x) l number events c = c

counted-advanced : (o : Opening) (r : Run) → IsCounted r → IsCounted (advanced o r)
unfolding advanced
counted-advanced o r c = counted-step r (event_of o r.state) (end_of o r.state) (least r.state.post.waiting) (event-number o r.state) (event-events o r.state) c

counted-by : (n : ℕ) (o : Opening) (r : Run) → IsCounted r → IsCounted (advanced_by n o r)
counted-by zero o r c = c
counted-by (suc n) o r c = counted-by n o (advanced o r) (counted-advanced o r c)

counted-until : (o : Opening) (stop : ℕ) (r : Run) → IsCounted r → IsCounted (until o stop r)
counted-until o stop r c = counted-by (stop - r.state.events) o r c

counted-stop : (o : Opening) (s : Stop) (r : Run) → IsCounted r → IsCounted (until_stop o s r)
counted-stop o s r c = let p = stop-some o s r in subst IsCounted (sym p.1) (counted-by p.0 o r c)

-- edits are no records
counted-edit : (b i : ℕ) (e : Edit) (r : Run) → IsCounted r → IsCounted (edited_one b i e r)
unfolding edited_one
counted-edit b i e r c =
    let same = events_in-edit r.entries _ in
    record {
      numbered = subst (λ (rs : List EventTold). AreNumbered 1 rs) (sym same) c.numbered;
      count = ap (λ (rs : List EventTold). length rs) same ∙ c.count;
    }

counted-edits : (b i : ℕ) (es : List Edit) (r : Run) → IsCounted r → IsCounted (edited_from b i es r)
counted-edits b i [] r c = c
counted-edits b i (e ∷ es) r c = counted-edits b (i + 1) es (edited_one b i e r) (counted-edit b i e r c)

counted-along : (o : Opening) (bs : List Branch) (n : ℕ) (cs : List ℕ) (r : Run) → IsCounted r → IsCounted (full_along o bs n cs r)
counted-along o bs n [] r c = counted-until o n r c
counted-along o bs n (b ∷ cs) r c =
    let t = until_stop o (stop_at bs b) r in
    let more = counted-along o bs n cs (edited_by bs b t) (counted-edits b 0 (branch_at bs b).edits t (counted-stop o (stop_at bs b) r c)) in
    let stays = counted-until o n r c in
    elim (nat_le t.state.events n) as (λ x. IsCounted (if x then full_along o bs n cs (edited_by bs b t) else until o n r)) [ true ↦ more | false ↦ stays ]

-- the records of a branch's full run
pub counted-full : (o : Opening) (p : Plan) (b e : ℕ) → IsCounted (full o p b e)
unfolding full
counted-full o p b e =
    let opening : IsCounted (opening_run o) = record { numbered = tt; count = refl } in
    counted-along o p.branches e (forks_of p.branches b) (opening_run o) opening
