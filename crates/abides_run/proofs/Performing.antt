-- What is done with a study ends as its parts end.
use Rattle.std.proofs.Common.{◌≡◌, ◌⊎◌, ◌≤◌, ◌+◌, ℕ, List, Option, None, Result, unwrap_or, Ok, Err, IfErr, OnOk, [], append-nil, refl, sym, ap, ◌∙◌, subst, inl, inr, arith}
use Rattle.command_words.specs.declared.mark.Mark.{Mark}
use Rattle.outside.specs.Rose.{Rose}
use Rattle.outside.specs.Taken.{appended, TookPrefix}
use Rattle.study_rules.specs.Accepted.{StudyTold}
use Rattle.command_words.specs.declared.asked.Task.{Task}
use Rattle.command_words.specs.declared.asked.Crossing.{Crossing}
use Rattle.command_words.specs.declared.asked.Task.TheVariants.{Rewind, Cross, Session}
use Rattle.abides_run.specs.Fetched.{arguments_of}
use Rattle.abides_run.specs.Output.{Probes, Due, RoseFor, written, simulated, allowed, most_for}
use Rattle.abides_run.specs.Verdict.{Verdict, accepted, verdict_on_crossing, verdict_on_session, verdict_on_found, IsDue}
use Rattle.abides_run.specs.Statuses.{Cause, Counts, IsRefusal, IsStill, Names, NamesOne}
use Rattle.abides_run.specs.Headline.{Seen, Fulfilled}
use Rattle.abides_run.specs.Performed.{Finished, IsFinal, Performed, Sent, IsUnsent}
use Rattle.abides_run.specs.declared.status.Status.{Status}
use Rattle.abides_run.specs.declared.status.Status.TheVariants as status
use Rattle.abides_run.proofs.Answered.{nothing_taken}

-- enough steps were counted before anything was sent, and no more than may be
unsent_counts : (events more most old new : ℕ) (took_before took : Option (List ℕ)) (st : Status) → IsUnsent st → old + events ≤ new → new ≤ old + most
    → Counts events more most old new took_before took st
unsent_counts events more most old new took_before took status.WriteFault u least within = (least, within)
unsent_counts events more most old new took_before took status.Memory u least within = (omega (arith, least), within, λ n. least)
unsent_counts events more most old new took_before took _ u least within = absurd u

unsent_other : (st : Status) → IsUnsent st → ¬ (st ≡ status.Ok)
unsent_other st u e = subst IsUnsent e u

-- all bytes are a first part of them
whole_taken : (old new : Option (List ℕ)) (bytes : List ℕ) → new ≡ appended old bytes → TookPrefix old new bytes
whole_taken old new bytes took = record { part = bytes; rest = []; split = append-nil bytes; took = took }

-- the bytes were sent
pub sent_all : (bytes : List ℕ) (events more most reads writes now old new : ℕ) (before after : Option (List ℕ)) → old + events ≤ new → new ≤ old + events + more
    → Sent bytes writes now before after (Ok tt)
    → Performed bytes events more most (record { reads = reads; writes = writes; taken = before; steps = old }) (record { reads = reads; writes = now; taken = after; steps = new }) status.Ok
sent_all bytes events more most reads writes now old new before after least within s = record {
  ended = inl refl;
  whole = λ e. s.whole;
  counter = (least, within);
  cut = whole_taken before after bytes s.whole;
  fault = λ e. cc;
  steady = λ e. s.steady;
  never_falls = s.never_falls;
}

-- they were not, or not all
pub sent_some : (bytes : List ℕ) (events more most reads writes now old new : ℕ) (before after : Option (List ℕ)) (st : Status) → old + events ≤ new → new ≤ old + most
    → Sent bytes writes now before after (Err st)
    → Performed bytes events more most (record { reads = reads; writes = writes; taken = before; steps = old }) (record { reads = reads; writes = now; taken = after; steps = new }) st
sent_some bytes events more most reads writes now old new before after st least within s = record {
  ended = inr s.unsent;
  whole = λ e. absurd (unsent_other st s.unsent e);
  counter = unsent_counts events more most old new before after st s.unsent least within;
  cut = s.cut;
  fault = s.fault;
  steady = s.wanting;
  never_falls = s.never_falls;
}

-- they were or they were not, as the status says
pub sent_done : (bytes : List ℕ) (events more most reads writes now old new : ℕ) (before after : Option (List ℕ)) (r : Result (Unit {0}) Status) (st : Status) → OnOk r (st ≡ status.Ok) → IfErr r (λ x. st ≡ x)
    → old + events ≤ new → new ≤ old + events + more → new ≤ old + most → Sent bytes writes now before after r
    → Performed bytes events more most (record { reads = reads; writes = writes; taken = before; steps = old }) (record { reads = reads; writes = now; taken = after; steps = new }) st
sent_done bytes events more most reads writes now old new before after (Ok u) st is told least within few s =
    subst (λ (x : Status). Performed bytes events more most (record { reads = reads; writes = writes; taken = before; steps = old }) (record { reads = reads; writes = now; taken = after; steps = new }) x) (sym is)
    (sent_all bytes events more most reads writes now old new before after least within s)
sent_done bytes events more most reads writes now old new before after (Err x) st is told least within few s =
    subst (λ (y : Status). Performed bytes events more most (record { reads = reads; writes = writes; taken = before; steps = old }) (record { reads = reads; writes = now; taken = after; steps = new }) y) (sym told)
    (sent_some bytes events more most reads writes now old new before after x least few s)

-- the same where all steps were counted before
pub sent_ends : (bytes : List ℕ) (events reads writes now old new : ℕ) (before after : Option (List ℕ)) (r : Result (Unit {0}) Status) (st : Status) → OnOk r (st ≡ status.Ok) → IfErr r (λ x. st ≡ x)
    → new ≡ old + events → Sent bytes writes now before after r
    → Performed bytes events 0 events (record { reads = reads; writes = writes; taken = before; steps = old }) (record { reads = reads; writes = now; taken = after; steps = new }) st
sent_ends bytes events reads writes now old new before after r st is told rose s =
    sent_done bytes events 0 events reads writes now old new before after r st is told (omega (arith, rose)) (omega (arith, rose)) (omega (arith, rose)) s

-- memory was wanting before anything was sent
pub wanting : (bytes : List ℕ) (events more most reads writes old new : ℕ) (taken : Option (List ℕ)) → old ≤ new → new ≤ old + most
    → Performed bytes events more most (record { reads = reads; writes = writes; taken = taken; steps = old }) (record { reads = reads; writes = writes; taken = taken; steps = new }) status.Memory
wanting bytes events more most reads writes old new taken least within = record {
  ended = inr tt;
  whole = λ e. cc;
  counter = (least, within, λ n. absurd (n refl));
  cut = nothing_taken taken bytes;
  fault = λ e. cc;
  steady = λ e. refl;
  never_falls = omega arith;
}

-- What is done with an accepted study ends with 0, 7 or 10.
unsent_cause : (come : Verdict) (st : Status) → IsDue come → IsUnsent st → Cause come st
unsent_cause come status.WriteFault s u = s
unsent_cause come status.Memory s u = tt
unsent_cause come _ s u = absurd u

performed_cause : (come : Verdict) (st : Status) → IsDue come → (st ≡ status.Ok) ⊎ IsUnsent st → Cause come st
performed_cause come st s (inl ok) = subst (λ (x : Status). Cause come x) (sym ok) s
performed_cause come st s (inr u) = unsent_cause come st s u

unsent_wanting : (st : Status) (old new : ℕ) → IsUnsent st → (st ≡ status.WriteFault → Rose old new) → ¬ (Rose old new) → st ≡ status.Memory
unsent_wanting status.WriteFault old new u fault r = absurd (r (fault refl))
unsent_wanting status.Memory old new u fault r = refl
unsent_wanting _ old new u fault r = absurd u

performed_complete : (st : Status) (old new : ℕ) → (st ≡ status.Ok) ⊎ IsUnsent st → (st ≡ status.WriteFault → Rose old new) → ¬ (Rose old new)
    → (st ≡ status.Ok) ⊎ (st ≡ status.Memory)
performed_complete st old new (inl ok) fault r = inl ok
performed_complete st old new (inr u) fault r = inr (unsent_wanting st old new u fault r)

performed_fulfils : (probes : Probes) (due : Due) (before after : Seen) (st : Status)
    → Performed (written probes due) (simulated due) (allowed due) (most_for due) before after st
    → (st ≡ status.Ok → RoseFor due before.steps after.steps)
    → Fulfilled (accepted due) (written probes due) (simulated due) (allowed due) (most_for due) before after st
performed_fulfils probes due before after st p rose = record {
  output = p.whole;
  counter = p.counter;
  session = rose;
  cause = performed_cause (accepted due) st tt p.ended;
  exact = λ n r. absurd (n tt);
  prefix = p.cut;
  complete = λ n r w. performed_complete st before.writes after.writes p.ended p.fault w;
}

-- what such a status says
record IsDone (st : Status) : Type 0 where
  final : IsFinal st
  going : ¬ IsRefusal st
  moving : ¬ IsStill st
  names : (come : Verdict) (fetched : List (List ℕ)) (name : List ℕ) → Names come fetched st name
  argument : (arguments : List (List ℕ)) (name : List ℕ) → NamesOne arguments st name

unsent_done : (st : Status) → IsUnsent st → IsDone st
unsent_done status.WriteFault u = record { final = tt; going = λ r. r; moving = λ r. r; names = λ come fetched name. tt; argument = λ arguments name. tt }
unsent_done status.Memory u = record { final = tt; going = λ r. r; moving = λ r. r; names = λ come fetched name. tt; argument = λ arguments name. tt }
unsent_done _ u = absurd u

performed_done : (st : Status) → (st ≡ status.Ok) ⊎ IsUnsent st → IsDone st
performed_done st (inl ok) =
    subst IsDone (sym ok) (record { final = tt; going = λ r. r; moving = λ r. r; names = λ come fetched name. tt; argument = λ arguments name. tt })
performed_done st (inr u) = unsent_done st u

-- what is due was done
pub performed_finishes : (probes : Probes) (due : Due) (arguments : List (List ℕ)) (before after : Seen) (st : Status) (name : List ℕ)
    → Performed (written probes due) (simulated due) (allowed due) (most_for due) before after st
    → (st ≡ status.Ok → RoseFor due before.steps after.steps)
    → Finished (accepted due) probes arguments before after st name
performed_finishes probes due arguments before after st name p rose =
    let done = performed_done st p.ended in record {
      final = done.final;
      fulfilled = performed_fulfils probes due before after st p rose;
      named = λ fetched. done.names (accepted due) fetched name;
      argument = done.argument arguments name;
      fault = p.fault;
      steady = p.steady;
      refused = λ r. absurd (done.going r);
      unmoved = λ r. absurd (done.moving r);
      out_still = λ r. absurd (done.going r);
      never_falls = p.never_falls;
    }

-- the same, and its status was told with a name
pub due_finishes : (probes : Probes) (due : Due) (arguments : List (List ℕ)) (before after : Seen) (st told : Status) (name : List ℕ) → told ≡ st
    → Performed (written probes due) (simulated due) (allowed due) (most_for due) before after st
    → (st ≡ status.Ok → RoseFor due before.steps after.steps)
    → Finished (accepted due) probes arguments before after told name
due_finishes probes due arguments before after st told name same p rose =
    subst (λ (x : Status). Finished (accepted due) probes arguments before after x name) (sym same)
    (performed_finishes probes due arguments before after st name p rose)

-- a task of which this is due was performed
pub task_finishes : (probes : Probes) (t u : Task) (further : Option (List ℕ)) (due : Due) (s : StudyTold) (writes now old new : ℕ) (before after : Option (List ℕ)) (st told : Status) (name : List ℕ)
    → t ≡ u → told ≡ st → verdict_on_found u further s ≡ accepted due
    → ((reads : ℕ) → Performed (written probes due) (simulated due) (allowed due) (most_for due) (record { reads = reads; writes = writes; taken = before; steps = old }) (record { reads = reads; writes = now; taken = after; steps = new }) st)
    → (st ≡ status.Ok → RoseFor due old new)
    → (reads : ℕ) → Finished (verdict_on_found t further s) probes (arguments_of t) (record { reads = reads; writes = writes; taken = before; steps = old }) (record { reads = reads; writes = now; taken = after; steps = new }) told name
task_finishes probes t u further due s writes now old new before after st told name is same come p rose reads =
    let was : Seen = record { reads = reads; writes = writes; taken = before; steps = old } in
    let seen : Seen = record { reads = reads; writes = now; taken = after; steps = new } in
    subst (λ (x : Task). Finished (verdict_on_found x further s) probes (arguments_of x) was seen told name) (sym is)
    (subst (λ (v : Verdict). Finished v probes (arguments_of u) was seen told name) (sym come)
    (due_finishes probes due (arguments_of u) was seen st told name same (p reads) rose))

-- the same of a rewind, which ends as its parts say
pub rewind_finishes : (probes : Probes) (t : Task) (further : Option (List ℕ)) (marks shown : List Mark) (places : ℕ) (s : StudyTold) (writes now old new : ℕ) (before after : Option (List ℕ)) (st : Status) (name : List ℕ)
    → t ≡ Rewind marks places → shown ≡ marks
    → ((reads : ℕ) (given : Probes) → Finished (verdict_on_found (Rewind shown places) None s) given (arguments_of (Rewind shown places)) (record { reads = reads; writes = writes; taken = before; steps = old }) (record { reads = reads; writes = now; taken = after; steps = new }) st name)
    → (reads : ℕ) → Finished (verdict_on_found t further s) probes (arguments_of t) (record { reads = reads; writes = writes; taken = before; steps = old }) (record { reads = reads; writes = now; taken = after; steps = new }) st name
rewind_finishes probes t further marks shown places s writes now old new before after st name is same f reads =
    let was : Seen = record { reads = reads; writes = writes; taken = before; steps = old } in
    let seen : Seen = record { reads = reads; writes = now; taken = after; steps = new } in
    let whole : Rewind shown places ≡ t = ap (λ (ms : List Mark). Rewind ms places) same ∙ sym is in
    subst (λ (x : Task). Finished (verdict_on_found x further s) probes (arguments_of x) was seen st name) whole (f reads probes)

-- the same of a cross with the bytes of its file
pub cross_finishes : (probes : Probes) (t : Task) (further : Option (List ℕ)) (crossing shown : Crossing) (places : ℕ) (text : List ℕ) (s : StudyTold) (writes now old new : ℕ) (before after : Option (List ℕ)) (st : Status) (name : List ℕ)
    → t ≡ Cross crossing places → shown ≡ crossing → text ≡ unwrap_or further []
    → ((reads : ℕ) (given : Probes) → Finished (verdict_on_crossing shown places text s) given (arguments_of (Cross shown places)) (record { reads = reads; writes = writes; taken = before; steps = old }) (record { reads = reads; writes = now; taken = after; steps = new }) st name)
    → (reads : ℕ) → Finished (verdict_on_found t further s) probes (arguments_of t) (record { reads = reads; writes = writes; taken = before; steps = old }) (record { reads = reads; writes = now; taken = after; steps = new }) st name
cross_finishes probes t further crossing shown places text s writes now old new before after st name is same read f reads =
    let was : Seen = record { reads = reads; writes = writes; taken = before; steps = old } in
    let seen : Seen = record { reads = reads; writes = now; taken = after; steps = new } in
    let whole : Cross shown places ≡ t = ap (λ (x : Crossing). Cross x places) same ∙ sym is in
    subst (λ (x : Task). Finished (verdict_on_found x further s) probes (arguments_of x) was seen st name) whole
    (subst (λ (bytes : List ℕ). Finished (verdict_on_crossing shown places bytes s) probes (arguments_of (Cross shown places)) was seen st name) read (f reads probes))

-- the same of a session with the bytes of its script
pub session_finishes : (probes : Probes) (t : Task) (further : Option (List ℕ)) (script : List ℕ) (places : ℕ) (text : List ℕ) (s : StudyTold) (writes now old new : ℕ) (before after : Option (List ℕ)) (st : Status) (name : List ℕ)
    → t ≡ Session script places → text ≡ unwrap_or further []
    → ((reads : ℕ) → Finished (verdict_on_session places text s) probes (arguments_of (Session script places)) (record { reads = reads; writes = writes; taken = before; steps = old }) (record { reads = reads; writes = now; taken = after; steps = new }) st name)
    → (reads : ℕ) → Finished (verdict_on_found t further s) probes (arguments_of t) (record { reads = reads; writes = writes; taken = before; steps = old }) (record { reads = reads; writes = now; taken = after; steps = new }) st name
session_finishes probes t further script places text s writes now old new before after st name is read f reads =
    let was : Seen = record { reads = reads; writes = writes; taken = before; steps = old } in
    let seen : Seen = record { reads = reads; writes = now; taken = after; steps = new } in
    subst (λ (x : Task). Finished (verdict_on_found x further s) probes (arguments_of x) was seen st name) (sym is)
    (subst (λ (bytes : List ℕ). Finished (verdict_on_session places bytes s) probes (arguments_of (Session script places)) was seen st name) read (f reads))
