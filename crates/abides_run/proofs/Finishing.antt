-- How a rewind ends.
use Rattle.std.proofs.Common.{◌≡◌, ◌⊎◌, ◌≤◌, ◌+◌, ℕ, List, Option, None, Some, refl, sym, ap, ◌∙◌, subst, inl, inr, arith}
use Rattle.command_words.specs.declared.mark.Mark.{Mark}
use Rattle.rewind_desk.specs.declared.past.Past.{Past}
use Rattle.rewind_desk.specs.declared.aimed.Aimed.{Aimed}
use Rattle.rewind_desk.specs.declared.aimed.Aimed.TheVariants.{At}
use Rattle.rewind_desk.specs.declared.target.Target.{Target}
use Rattle.rewind_desk.specs.Targets.{aimed_at, past_of}
use Rattle.command_words.specs.declared.asked.Task.TheVariants.{Rewind}
use Rattle.abides_run.specs.Rewinds.{lasts_of, rewinds_of, steps_to_all, argument_at}
use Rattle.study_rules.specs.Accepted.{StudyTold}
use Rattle.abides_run.specs.Fetched.{IsAmong}
use Rattle.abides_run.specs.Notes.{past_event}
use Rattle.abides_run.specs.Output.{Probes, rewound, study_events}
use Rattle.abides_run.specs.Verdict.{Verdict, accepted, no_branch, no_event, verdict_on_aimed, verdict_on_past, verdict_on_found, output, distinct, allowance, ceiling}
use Rattle.abides_run.specs.Headline.{Seen}
use Rattle.abides_run.specs.Performed.{Finished, IsFinal, Performed}
use Rattle.abides_run.specs.declared.status.Status.{Status}
use Rattle.abides_run.specs.declared.status.Status.TheVariants as status
use Rattle.abides_run.specs.Statuses.{Cause, Counts, IsStill, Names, NamesOne, status_of}
use Rattle.abides_run.proofs.Answered.{nothing_taken, refusal}
use Rattle.abides_run.proofs.Performing.{performed_finishes}

-- where each mark has a target, the study may be simulated
pub simulated-past : (marks : List Mark) (targets : List Target) (places : ℕ) (s : StudyTold) (past : Option Past) → study_events s.course ≤ ceiling (verdict_on_past marks targets places s past)
simulated-past marks targets places s None = omega arith
simulated-past marks targets places s (Some past) = omega arith

wants : (come : Verdict) (probes : Probes) (arguments : List (List ℕ)) (reads writes old new : ℕ) (taken : Option (List ℕ)) (name : List ℕ)
    → old ≤ new → new ≤ old + ceiling come
    → Finished come probes arguments (record { reads = reads; writes = writes; taken = taken; steps = old }) (record { reads = reads; writes = writes; taken = taken; steps = new }) status.Memory name
wants come probes arguments reads writes old new taken name least most = record {
  final = tt;
  fulfilled = record {
    output = λ e. cc;
    counter = (least, most, λ n. absurd (n refl));
    cause = tt;
    session = λ e. cc;
    exact = λ n r. inr refl;
    prefix = nothing_taken taken (output probes come);
    complete = λ s r w. inr refl;
  };
  named = λ fetched. tt;
  argument = tt;
  fault = λ e. cc;
  steady = λ e. refl;
  refused = λ r. absurd r;
  unmoved = λ r. absurd r;
  out_still = λ r. absurd r;
  never_falls = omega arith;
}

-- memory was wanting before anything was sent
pub wanting-finishes : (come : Verdict) (probes : Probes) (arguments : List (List ℕ)) (reads writes old new : ℕ) (taken : Option (List ℕ)) (st : Status) (name : List ℕ)
    → st ≡ status.Memory → old ≤ new → new ≤ old + ceiling come
    → Finished come probes arguments (record { reads = reads; writes = writes; taken = taken; steps = old }) (record { reads = reads; writes = writes; taken = taken; steps = new }) st name
wanting-finishes come probes arguments reads writes old new taken st name is least most =
    subst (λ (x : Status). Finished come probes arguments (record { reads = reads; writes = writes; taken = taken; steps = old }) (record { reads = reads; writes = writes; taken = taken; steps = new }) x name) (sym is)
    (wants come probes arguments reads writes old new taken name least most)

still-counts : (events more most steps : ℕ) (taken : Option (List ℕ)) (st : Status) → IsStill st → Counts events more most steps steps taken taken st
still-counts events more most steps taken status.Ok still = absurd still
still-counts events more most steps taken status.WriteFault still = absurd still
still-counts events more most steps taken status.NoEvent still = absurd still
still-counts events more most steps taken status.Memory still = absurd still
still-counts events more most steps taken _ still = refl

-- a status that words and files give before the first step, once a study was found, is its own cause
still-cause : (come : Verdict) (st : Status) → IsStill st → IsFinal st → status_of come ≡ st → Cause come st
still-cause come status.Ok still final is = absurd still
still-cause come status.ReadFault still final is = absurd final
still-cause come status.WriteFault still final is = absurd still
still-cause come status.NoEvent still final is = absurd still
still-cause come status.Memory still final is = absurd still
still-cause come _ still final is = is

still-other : (st other : Status) → IsStill st → ¬ IsStill other → ¬ (st ≡ other)
still-other st other still moving is = moving (subst IsStill is still)

-- what the words ask for isn't there, and nothing was done
pub refused-still : (come : Verdict) (probes : Probes) (arguments : List (List ℕ)) (seen : Seen) (st : Status) (name : List ℕ)
    → status_of come ≡ st → IsStill st → IsFinal st → ((fetched : List (List ℕ)) → Names come fetched st name) → NamesOne arguments st name
    → Finished come probes arguments seen seen st name
refused-still come probes arguments seen st name is still final names argument = record {
  final = final;
  fulfilled = refusal come (output probes come) (distinct come) (allowance come) (ceiling come) seen.reads seen.reads seen.writes seen.steps seen.taken st is
      (still-other st status.Ok still (λ ok. ok)) (still-cause come st still final is)
      (still-counts (distinct come) (allowance come) (ceiling come) seen.steps seen.taken st still);
  named = names;
  argument = argument;
  fault = λ e. absurd (still-other st status.WriteFault still (λ fault. fault) e);
  steady = λ e. refl;
  refused = λ r. refl;
  unmoved = λ r. refl;
  out_still = λ r. refl;
  never_falls = omega arith;
}

-- the same, told with a name where there was memory for it
pub refused-finishes : (come : Verdict) (probes : Probes) (arguments : List (List ℕ)) (reads writes steps : ℕ) (taken : Option (List ℕ)) (want st : Status) (word name : List ℕ)
    → (st ≡ status.Memory) ⊎ ((st ≡ want) × (name ≡ word))
    → status_of come ≡ want → IsStill want → IsFinal want → ((fetched : List (List ℕ)) → Names come fetched want word) → NamesOne arguments want word
    → Finished come probes arguments (record { reads = reads; writes = writes; taken = taken; steps = steps }) (record { reads = reads; writes = writes; taken = taken; steps = steps }) st name
refused-finishes come probes arguments reads writes steps taken want st word name (inl wanting) is still final names argument =
    wanting-finishes come probes arguments reads writes steps steps taken st name wanting (omega arith) (omega arith)
refused-finishes come probes arguments reads writes steps taken want st word name (inr told) is still final names argument =
    let seen : Seen = record { reads = reads; writes = writes; taken = taken; steps = steps } in
    subst (λ (x : Status). Finished come probes arguments seen seen x name) (sym told.0)
    (subst (λ (n : List ℕ). Finished come probes arguments seen seen want n) (sym told.1)
    (refused-still come probes arguments seen want word is still final names argument))

-- a branch isn't there, and nothing was done
pub branchless-finishes : (come : Verdict) (word : List ℕ) (probes : Probes) (arguments : List (List ℕ)) (reads writes steps : ℕ) (taken : Option (List ℕ)) (st : Status) (name : List ℕ)
    → come ≡ no_branch word → (st ≡ status.Memory) ⊎ ((st ≡ status.NoBranch) × (name ≡ word)) → IsAmong word arguments
    → Finished come probes arguments (record { reads = reads; writes = writes; taken = taken; steps = steps }) (record { reads = reads; writes = writes; taken = taken; steps = steps }) st name
branchless-finishes come word probes arguments reads writes steps taken st name is told among =
    let seen : Seen = record { reads = reads; writes = writes; taken = taken; steps = steps } in
    subst (λ (v : Verdict). Finished v probes arguments seen seen st name) (sym is)
    (refused-finishes (no_branch word) probes arguments reads writes steps taken status.NoBranch st word name told refl tt tt (λ fetched. refl) among)

lacks-event : (word : List ℕ) (last : ℕ) (s : StudyTold) (past : ℕ) (probes : Probes) (arguments : List (List ℕ)) (reads writes old new : ℕ) (taken : Option (List ℕ))
    → old + study_events s.course ≤ new → new ≤ old + study_events s.course + past → IsAmong word arguments
    → Finished (no_event word last s past) probes arguments (record { reads = reads; writes = writes; taken = taken; steps = old }) (record { reads = reads; writes = writes; taken = taken; steps = new }) status.NoEvent (past_event word last)
lacks-event word last s past probes arguments reads writes old new taken least most among = record {
  final = tt;
  fulfilled = record {
    output = λ e. cc;
    counter = (least, omega (arith, most));
    cause = refl;
    session = λ e. cc;
    exact = λ n r. inl refl;
    prefix = nothing_taken taken (output probes (no_event word last s past));
    complete = λ s r w. absurd s;
  };
  named = λ fetched. record { word = word; last = last; study = s; past = past; is = refl; said = refl };
  argument = record { word = word; last = last; among = among; said = refl };
  fault = λ e. cc;
  steady = λ e. refl;
  refused = λ r. refl;
  unmoved = λ r. absurd r;
  out_still = λ r. refl;
  never_falls = omega arith;
}

-- an event isn't there, and the study was simulated
pub eventless-finishes : (come : Verdict) (word : List ℕ) (last : ℕ) (s : StudyTold) (past : ℕ) (probes : Probes) (arguments : List (List ℕ)) (reads writes old new : ℕ) (taken : Option (List ℕ)) (st : Status) (name : List ℕ)
    → come ≡ no_event word last s past → (st ≡ status.Memory) ⊎ ((st ≡ status.NoEvent) × (name ≡ past_event word last))
    → old + study_events s.course ≤ new → new ≤ old + study_events s.course + past → IsAmong word arguments
    → Finished come probes arguments (record { reads = reads; writes = writes; taken = taken; steps = old }) (record { reads = reads; writes = writes; taken = taken; steps = new }) st name
eventless-finishes come word last s past probes arguments reads writes old new taken st name is told least most among =
    let was : Seen = record { reads = reads; writes = writes; taken = taken; steps = old } in
    let seen : Seen = record { reads = reads; writes = writes; taken = taken; steps = new } in
    subst (λ (v : Verdict). Finished v probes arguments was seen st name) (sym is) (by told)
  where
    by : (st ≡ status.Memory) ⊎ ((st ≡ status.NoEvent) × (name ≡ past_event word last))
        → Finished (no_event word last s past) probes arguments (record { reads = reads; writes = writes; taken = taken; steps = old }) (record { reads = reads; writes = writes; taken = taken; steps = new }) st name
    by (inl wanting) = wanting-finishes (no_event word last s past) probes arguments reads writes old new taken st name wanting (omega (arith, least)) (omega (arith, most))
    by (inr is) =
        let was : Seen = record { reads = reads; writes = writes; taken = taken; steps = old } in
        let seen : Seen = record { reads = reads; writes = writes; taken = taken; steps = new } in
        subst (λ (x : Status). Finished (no_event word last s past) probes arguments was seen x name) (sym is.0)
        (subst (λ (n : List ℕ). Finished (no_event word last s past) probes arguments was seen status.NoEvent n) (sym is.1)
        (lacks-event word last s past probes arguments reads writes old new taken least most among))

-- each mark has a target, and memory was wanting once the study was simulated or before
pub aimed-wanting : (marks : List Mark) (places : ℕ) (s : StudyTold) (targets : List Target) (probes : Probes) (arguments : List (List ℕ)) (reads writes old new : ℕ) (taken : Option (List ℕ)) (st : Status) (name : List ℕ)
    → aimed_at s.course.plan.branches marks ≡ At targets → st ≡ status.Memory → old ≤ new → new ≤ old + study_events s.course
    → Finished (verdict_on_found (Rewind marks places) None s) probes arguments (record { reads = reads; writes = writes; taken = taken; steps = old }) (record { reads = reads; writes = writes; taken = taken; steps = new }) st name
aimed-wanting marks places s targets probes arguments reads writes old new taken st name aims is least most =
    let past = past_of (lasts_of s.course) targets in
    subst (λ (v : Verdict). Finished v probes arguments (record { reads = reads; writes = writes; taken = taken; steps = old }) (record { reads = reads; writes = writes; taken = taken; steps = new }) st name)
    (sym (ap (λ (a : Aimed). verdict_on_aimed marks places s a) aims))
    (wanting-finishes (verdict_on_past marks targets places s past) probes arguments reads writes old new taken st name is least (omega (arith, most, simulated-past marks targets places s past)))

-- each mark has a target, of which this is the first that is past its branch's last event
pub aimed-eventless : (marks : List Mark) (places : ℕ) (s : StudyTold) (targets : List Target) (past : Past) (probes : Probes) (arguments : List (List ℕ)) (reads writes old new : ℕ) (taken : Option (List ℕ)) (st : Status) (name : List ℕ)
    → aimed_at s.course.plan.branches marks ≡ At targets → past_of (lasts_of s.course) targets ≡ Some past
    → (st ≡ status.Memory) ⊎ ((st ≡ status.NoEvent) × (name ≡ past_event (argument_at marks past.index) past.last)) → new ≡ old + study_events s.course → IsAmong (argument_at marks past.index) arguments
    → Finished (verdict_on_found (Rewind marks places) None s) probes arguments (record { reads = reads; writes = writes; taken = taken; steps = old }) (record { reads = reads; writes = writes; taken = taken; steps = new }) st name
aimed-eventless marks places s targets past probes arguments reads writes old new taken st name aims is told rose among =
    eventless-finishes (verdict_on_found (Rewind marks places) None s) (argument_at marks past.index) past.last s 0 probes arguments reads writes old new taken st name
    (ap (λ (a : Aimed). verdict_on_aimed marks places s a) aims ∙ ap (λ (p : Option Past). verdict_on_past marks targets places s p) is)
    told (omega (arith, rose)) (omega (arith, rose)) among

-- each mark has a target, none of which is past its branch's last event, and their states were written, or why not
pub aimed-finishes : (marks : List Mark) (places : ℕ) (s : StudyTold) (targets : List Target) (probes : Probes) (arguments : List (List ℕ)) (before after : Seen) (st told : Status) (name : List ℕ)
    → aimed_at s.course.plan.branches marks ≡ At targets → past_of (lasts_of s.course) targets ≡ None → told ≡ st
    → Performed (rewinds_of s.course targets) (study_events s.course) (steps_to_all s places targets) (study_events s.course + steps_to_all s places targets) before after st
    → Finished (verdict_on_found (Rewind marks places) None s) probes arguments before after told name
aimed-finishes marks places s targets probes arguments before after st told name aims none same p =
    let due = rewound targets places s in
    subst (λ (v : Verdict). Finished v probes arguments before after told name)
    (sym (ap (λ (a : Aimed). verdict_on_aimed marks places s a) aims ∙ ap (λ (x : Option Past). verdict_on_past marks targets places s x) none))
    (subst (λ (x : Status). Finished (accepted due) probes arguments before after x name) (sym same)
    (performed_finishes probes due arguments before after st name p (λ e. tt)))
