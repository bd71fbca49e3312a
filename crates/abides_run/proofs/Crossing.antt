-- How a cross ends.
use Rattle.std.proofs.Common.{◌≡◌, ◌⊎◌, ◌≤◌, ◌+◌, ℕ, List, [], ◌∷◌, Option, None, Some, Result, length, refl, sym, ap, ◌∙◌, subst, arith}
use Rattle.command_words.specs.declared.asked.Crossing.{Crossing}
use Rattle.reopen_cross.specs.declared.cross.Interest.{Interest}
use Rattle.reopening_desk.specs.Orders.{orders_of}
use Rattle.reopening_desk.specs.declared.stock.StockNamed.{StockNamed}
use Rattle.reopening_desk.specs.Reopened.{reopened}
use Rattle.reopening_desk.specs.Stocks.{stock_of}
use Rattle.rewind_desk.specs.declared.past.Past.{Past}
use Rattle.rewind_desk.specs.declared.target.Target.{Target}
use Rattle.rewind_desk.specs.Targets.{past_of, target_of}
use Rattle.study_rules.specs.Accepted.{StudyTold}
use Rattle.abides_run.specs.Fetched.{IsAmong}
use Rattle.abides_run.specs.Notes.{past_event}
use Rattle.abides_run.specs.Output.{Probes, crossed, study_events}
use Rattle.abides_run.specs.Rewinds.{lasts_of, steps_to, target_state}
use Rattle.abides_run.specs.Verdict.{Verdict, accepted, bad_orders, no_stock, verdict_on_crossing, verdict_on_branch, verdict_on_late, verdict_on_orders, verdict_on_stock, ceiling}
use Rattle.abides_run.specs.Headline.{Seen}
use Rattle.abides_run.specs.Performed.{Finished, Performed}
use Rattle.abides_run.specs.declared.status.Status.{Status}
use Rattle.abides_run.specs.declared.status.Status.TheVariants as status
use Rattle.abides_run.proofs.Finishing.{eventless-finishes, refused-finishes, refused-still, wanting-finishes}
use Rattle.abides_run.proofs.Performing.{performed_finishes}

-- the branch, the stock and the orders of the file are there
pub crossing-branch : (crossing : Crossing) (places : ℕ) (text : List ℕ) (s : StudyTold) (target : Option Target)
    → target_of s.course.plan.branches crossing.mark ≡ target → verdict_on_crossing crossing places text s ≡ verdict_on_branch crossing places text s target
crossing-branch crossing places text s target aims = ap (λ (t : Option Target). verdict_on_branch crossing places text s t) aims

pub crossing-stock : (crossing : Crossing) (places : ℕ) (text : List ℕ) (s : StudyTold) (target : Target) (stock : Option StockNamed)
    → target_of s.course.plan.branches crossing.mark ≡ Some target → stock_of s.course.opening.stocks crossing.symbol ≡ stock
    → verdict_on_crossing crossing places text s ≡ verdict_on_stock crossing target places text s stock
crossing-stock crossing places text s target stock aims named =
    crossing-branch crossing places text s (Some target) aims ∙ ap (λ (k : Option StockNamed). verdict_on_stock crossing target places text s k) named

pub crossing-orders : (crossing : Crossing) (places : ℕ) (text : List ℕ) (s : StudyTold) (target : Target) (stock : StockNamed) (orders : Result (List Interest) ℕ)
    → target_of s.course.plan.branches crossing.mark ≡ Some target → stock_of s.course.opening.stocks crossing.symbol ≡ Some stock
    → orders_of (length s.course.opening.traders) text ≡ orders
    → verdict_on_crossing crossing places text s ≡ verdict_on_orders crossing.mark.word target stock places s orders
crossing-orders crossing places text s target stock orders aims named read =
    crossing-stock crossing places text s target (Some stock) aims named ∙ ap (λ (r : Result (List Interest) ℕ). verdict_on_orders crossing.mark.word target stock places s r) read

-- the stock isn't there, and nothing was done
pub stockless-finishes : (come : Verdict) (word : List ℕ) (probes : Probes) (arguments : List (List ℕ)) (reads writes steps : ℕ) (taken : Option (List ℕ)) (st : Status) (name : List ℕ)
    → come ≡ no_stock word → (st ≡ status.Memory) ⊎ ((st ≡ status.NoStock) × (name ≡ word)) → IsAmong word arguments
    → Finished come probes arguments (record { reads = reads; writes = writes; taken = taken; steps = steps }) (record { reads = reads; writes = writes; taken = taken; steps = steps }) st name
stockless-finishes come word probes arguments reads writes steps taken st name is told among =
    let seen : Seen = record { reads = reads; writes = writes; taken = taken; steps = steps } in
    subst (λ (v : Verdict). Finished v probes arguments seen seen st name) (sym is)
    (refused-finishes (no_stock word) probes arguments reads writes steps taken status.NoStock st word name told refl tt tt (λ fetched. refl) among)

-- a record of the file breaks a rule, and nothing was done
pub orderless-finishes : (come : Verdict) (number : ℕ) (probes : Probes) (arguments : List (List ℕ)) (reads writes steps : ℕ) (taken : Option (List ℕ)) (st : Status) (name : List ℕ)
    → come ≡ bad_orders number → st ≡ status.BadOrders number
    → Finished come probes arguments (record { reads = reads; writes = writes; taken = taken; steps = steps }) (record { reads = reads; writes = writes; taken = taken; steps = steps }) st name
orderless-finishes come number probes arguments reads writes steps taken st name is told =
    let seen : Seen = record { reads = reads; writes = writes; taken = taken; steps = steps } in
    subst (λ (v : Verdict). Finished v probes arguments seen seen st name) (sym is)
    (subst (λ (x : Status). Finished (bad_orders number) probes arguments seen seen x name) (sym told)
    (refused-still (bad_orders number) probes arguments seen (status.BadOrders number) name refl tt tt (λ fetched. tt) tt))

-- the study may be simulated
simulated-late : (word : List ℕ) (target : Target) (stock : StockNamed) (orders : List Interest) (places : ℕ) (s : StudyTold) (past : Option Past)
    → study_events s.course ≤ ceiling (verdict_on_late word target stock orders places s past)
simulated-late word target stock orders places s None = omega arith
simulated-late word target stock orders places s (Some past) = omega arith

-- memory was wanting once the study was simulated or before
pub late-wanting : (word : List ℕ) (target : Target) (stock : StockNamed) (orders : List Interest) (places : ℕ) (s : StudyTold) (past : Option Past) (probes : Probes) (arguments : List (List ℕ)) (reads writes old new : ℕ) (taken : Option (List ℕ)) (st : Status) (name : List ℕ)
    → st ≡ status.Memory → old ≤ new → new ≤ old + study_events s.course
    → Finished (verdict_on_late word target stock orders places s past) probes arguments (record { reads = reads; writes = writes; taken = taken; steps = old }) (record { reads = reads; writes = writes; taken = taken; steps = new }) st name
late-wanting word target stock orders places s past probes arguments reads writes old new taken st name is least most =
    wanting-finishes (verdict_on_late word target stock orders places s past) probes arguments reads writes old new taken st name is least
    (omega (arith, most, simulated-late word target stock orders places s past))

-- the event is past its branch's last
pub late-eventless : (word : List ℕ) (target : Target) (stock : StockNamed) (orders : List Interest) (places : ℕ) (s : StudyTold) (past : Past) (probes : Probes) (arguments : List (List ℕ)) (reads writes old new : ℕ) (taken : Option (List ℕ)) (st : Status) (name : List ℕ)
    → past_of (lasts_of s.course) (target ∷ []) ≡ Some past → (st ≡ status.Memory) ⊎ ((st ≡ status.NoEvent) × (name ≡ past_event word past.last)) → new ≡ old + study_events s.course → IsAmong word arguments
    → Finished (verdict_on_late word target stock orders places s (past_of (lasts_of s.course) (target ∷ []))) probes arguments (record { reads = reads; writes = writes; taken = taken; steps = old }) (record { reads = reads; writes = writes; taken = taken; steps = new }) st name
late-eventless word target stock orders places s past probes arguments reads writes old new taken st name is told rose among =
    eventless-finishes (verdict_on_late word target stock orders places s (past_of (lasts_of s.course) (target ∷ []))) word past.last s 0 probes arguments reads writes old new taken st name
    (ap (λ (p : Option Past). verdict_on_late word target stock orders places s p) is) told (omega (arith, rose)) (omega (arith, rose)) among

-- it is there, and the answer was written, or why not
pub late-finishes : (word : List ℕ) (target : Target) (stock : StockNamed) (orders : List Interest) (places : ℕ) (s : StudyTold) (probes : Probes) (arguments : List (List ℕ)) (before after : Seen) (st told : Status) (name : List ℕ)
    → past_of (lasts_of s.course) (target ∷ []) ≡ None → told ≡ st
    → Performed (reopened (target_state s.course target) stock orders) (study_events s.course) (steps_to s places target) (study_events s.course + steps_to s places target) before after st
    → Finished (verdict_on_late word target stock orders places s (past_of (lasts_of s.course) (target ∷ []))) probes arguments before after told name
late-finishes word target stock orders places s probes arguments before after st told name none same p =
    let due = crossed target stock orders places s in
    subst (λ (v : Verdict). Finished v probes arguments before after told name)
    (sym (ap (λ (x : Option Past). verdict_on_late word target stock orders places s x) none))
    (subst (λ (x : Status). Finished (accepted due) probes arguments before after x name) (sym same)
    (performed_finishes probes due arguments before after st name p (λ e. tt)))
