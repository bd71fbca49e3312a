-- How the clauses of the one call follow from those of the search, of what is done with a study, and of the note.
use Rattle.std.proofs.Common.{◌≡◌, ◌⊎◌, ◌≤◌, ℕ, List, [], Option, Some, None, IfSome, refl, sym, ap, ◌∙◌, subst, inl, inr, arith, append-nil}
use Rattle.outside.specs.Rose.{Rose}
use Rattle.outside.specs.Taken.{TookPrefix}
use Rattle.abides_run.specs.Words.{asked_of, IsLarge}
use Rattle.abides_run.specs.Verdict.{Verdict, Files, usage, no_file, file_too_long, refused, no_branch, no_stock, bad_orders, bad_bundle, audit_failed, bad_script, refused_act, no_event, accepted, IsDue, output, distinct, allowance, ceiling}
use Rattle.abides_run.specs.Output.{Probes}
use Rattle.abides_run.specs.Ahead.{asked_ahead, fetched, verdict}
use Rattle.abides_run.specs.Statuses.{Cause, Counts, IsRefusal, Names, status_of}
use Rattle.abides_run.specs.Searched.{Ends, IsSought}
use Rattle.abides_run.specs.Headline.{Seen, Fulfilled, Answered}
use Rattle.abides_run.specs.Performed.{Finished, IsFinal}
use Rattle.abides_run.specs.declared.status.Status.{Status}
use Rattle.abides_run.specs.declared.status.Status.TheVariants as status

-- a sink that stands still has taken a first part of anything
pub nothing_taken : (taken : Option (List ℕ)) (bytes : List ℕ) → TookPrefix taken taken bytes
nothing_taken None bytes = record { part = []; rest = bytes; split = refl; took = refl }
nothing_taken (Some old) bytes = record { part = []; rest = bytes; split = refl; took = ap Some (sym (append-nil old)) }

-- a study has status 0 where nothing fails
due_is_ok : (come : Verdict) → IsDue come → status_of come ≡ status.Ok
due_is_ok (accepted due) s = refl
due_is_ok _ s = absurd s

-- another status says that there is no study
nothing_due : (come : Verdict) (st : Status) → status_of come ≡ st → ¬ (st ≡ status.Ok) → ¬ IsDue come
nothing_due come st is other s = other (sym is ∙ due_is_ok come s)

-- a refusal that words and files give
pub refusal : (come : Verdict) (bytes : List ℕ) (events more most old new writes steps : ℕ) (taken : Option (List ℕ)) (st : Status)
    → status_of come ≡ st → ¬ (st ≡ status.Ok) → Cause come st → Counts events more most steps steps taken taken st
    → Fulfilled come bytes events more most (record { reads = old; writes = writes; taken = taken; steps = steps }) (record { reads = new; writes = writes; taken = taken; steps = steps }) st
refusal come bytes events more most old new writes steps taken st is other cause counts = record {
  output = λ e. absurd (other e);
  counter = counts;
  cause = cause;
  session = λ e. absurd (other e);
  exact = λ n r. inl (sym is);
  prefix = nothing_taken taken bytes;
  complete = λ s r w. absurd (nothing_due come st is other s);
}

-- a status with which the search ends, once the words are read or not
abbrev pub IsEarly : Status → Type 0
IsEarly st = (st ≡ status.Usage) ⊎ IsSought st

fulfilled : (come : Verdict) (bytes : List ℕ) (events more most old new writes steps : ℕ) (taken : Option (List ℕ)) (st : Status)
    → IsEarly st → Cause come st → (st ≡ status.ReadFault → Rose old new)
    → Fulfilled come bytes events more most (record { reads = old; writes = writes; taken = taken; steps = steps }) (record { reads = new; writes = writes; taken = taken; steps = steps }) st
fulfilled come bytes events more most old new writes steps taken status.Usage early cause fault =
    refusal come bytes events more most old new writes steps taken status.Usage cause (λ e. cc) cause refl
fulfilled come bytes events more most old new writes steps taken status.NoStudy early cause fault =
    refusal come bytes events more most old new writes steps taken status.NoStudy cause (λ e. cc) cause refl
fulfilled come bytes events more most old new writes steps taken status.TooLong early cause fault =
    refusal come bytes events more most old new writes steps taken status.TooLong cause (λ e. cc) cause refl
fulfilled come bytes events more most old new writes steps taken (status.Refused rule place) early cause fault =
    refusal come bytes events more most old new writes steps taken (status.Refused rule place) cause (λ e. cc) cause refl
fulfilled come bytes events more most old new writes steps taken status.ReadFault early cause fault = record {
  output = λ e. cc;
  counter = refl;
  cause = cause;
  session = λ e. cc;
  exact = λ n r. absurd (r (fault refl));
  prefix = nothing_taken taken bytes;
  complete = λ s r w. absurd (r (fault refl));
}
fulfilled come bytes events more most old new writes steps taken status.Memory early cause fault = record {
  output = λ e. cc;
  counter = (omega arith, omega arith, λ n. absurd (n refl));
  cause = tt;
  session = λ e. cc;
  exact = λ n r. inr refl;
  prefix = nothing_taken taken bytes;
  complete = λ s r w. inr refl;
}
fulfilled come bytes events more most old new writes steps taken _ (inl early) cause fault = cc
fulfilled come bytes events more most old new writes steps taken _ (inr early) cause fault = absurd early

early_told : (files : Option Files) (words : List (List ℕ)) (probes : Probes) (name : List ℕ) (old new writes steps : ℕ) (taken : Option (List ℕ)) (st : Status)
    → IsEarly st → IfSome files (λ library. Ends (asked_ahead library (asked_of words)) st name) → (st ≡ status.ReadFault → Rose old new)
    → IfSome files (λ library. Fulfilled (verdict library words) (output probes (verdict library words)) (distinct (verdict library words)) (allowance (verdict library words)) (ceiling (verdict library words)) (record { reads = old; writes = writes; taken = taken; steps = steps }) (record { reads = new; writes = writes; taken = taken; steps = steps }) st)
early_told None words probes name old new writes steps taken st early ends fault = tt
early_told (Some library) words probes name old new writes steps taken st early ends fault =
    fulfilled (verdict library words) (output probes (verdict library words)) (distinct (verdict library words)) (allowance (verdict library words)) (ceiling (verdict library words)) old new writes steps taken st early ends.cause fault

early_write : (st : Status) → IsEarly st → ¬ (st ≡ status.WriteFault)
early_write st (inl e) w = let other : status.Usage ≡ status.WriteFault = sym e ∙ w in cc
early_write st (inr e) w = subst IsSought w e

-- the search ended without a study
pub ended_early : (files : Option Files) (words : List (List ℕ)) (probes : Probes) (name : List ℕ) (old new writes steps : ℕ) (taken : Option (List ℕ)) (st : Status)
    → IsEarly st → IfSome files (λ library. Ends (asked_ahead library (asked_of words)) st name)
    → (st ≡ status.Usage → asked_of words ≡ None) → (asked_of words ≡ None → (st ≡ status.Usage) ⊎ (st ≡ status.Memory))
    → (¬ (st ≡ status.ReadFault) → new ≡ old) → (IsLarge (asked_of words) → new ≡ old) → (st ≡ status.ReadFault → Rose old new) → old ≤ new
    → Answered files words probes (record { reads = old; writes = writes; taken = taken; steps = steps }) (record { reads = new; writes = writes; taken = taken; steps = steps }) st
ended_early files words probes name old new writes steps taken st early ends faulty not_asked stands unread fault rises = record {
  told = early_told files words probes name old new writes steps taken st early ends fault;
  usage = faulty;
  not_asked = not_asked;
  unasked = λ e. stands (λ fault. let other : status.Usage ≡ status.ReadFault = sym e ∙ fault in cc);
  unread = unread;
  read_fault = fault;
  write_fault = λ e. absurd (early_write st early e);
  no_read_fault = λ other wants. stands other;
  no_write_fault = λ other wants. refl;
  refused = λ r. refl;
  unmoved = λ r. refl;
  out_still = λ r. refl;
  reads_never_fall = rises;
  writes_never_fall = omega arith;
}

final_read : (st : Status) → IsFinal st → ¬ (st ≡ status.ReadFault)
final_read st f e = subst IsFinal e f

final_usage : (st : Status) → IsFinal st → ¬ (st ≡ status.Usage)
final_usage st f e = subst IsFinal e f

finished_told : (files : Option Files) (words : List (List ℕ)) (probes : Probes) (arguments : List (List ℕ)) (come : Verdict) (before after : Seen) (st : Status) (name : List ℕ)
    → IfSome files (λ library. verdict library words ≡ come) → Finished come probes arguments before after st name
    → IfSome files (λ library. Fulfilled (verdict library words) (output probes (verdict library words)) (distinct (verdict library words)) (allowance (verdict library words)) (ceiling (verdict library words)) before after st)
finished_told None words probes arguments come before after st name is f = tt
finished_told (Some library) words probes arguments come before after st name is f =
    subst (λ (v : Verdict). Fulfilled v (output probes v) (distinct v) (allowance v) (ceiling v) before after st) (sym is) f.fulfilled

-- something was done with the study, or what is asked for of it isn't there
pub finished_answers : (files : Option Files) (words : List (List ℕ)) (probes : Probes) (arguments : List (List ℕ)) (come : Verdict) (before after : Seen) (st : Status) (name : List ℕ)
    → IfSome files (λ library. verdict library words ≡ come) → ¬ (asked_of words ≡ None) → after.reads ≡ before.reads
    → Finished come probes arguments before after st name → Answered files words probes before after st
finished_answers files words probes arguments come before after st name is asked reads f = record {
  told = finished_told files words probes arguments come before after st name is f;
  usage = λ e. absurd (final_usage st f.final e);
  not_asked = λ n. absurd (asked n);
  unasked = λ e. reads;
  unread = λ l. reads;
  read_fault = λ e. absurd (final_read st f.final e);
  write_fault = f.fault;
  no_read_fault = λ other wants. reads;
  no_write_fault = λ other wants. f.steady other;
  refused = f.refused;
  unmoved = f.unmoved;
  out_still = f.out_still;
  reads_never_fall = omega (arith, reads);
  writes_never_fall = f.never_falls;
}

pub finished_named : (files : Option Files) (words : List (List ℕ)) (probes : Probes) (arguments : List (List ℕ)) (come : Verdict) (before after : Seen) (st : Status) (name : List ℕ)
    → IfSome files (λ library. verdict library words ≡ come) → Finished come probes arguments before after st name
    → IfSome files (λ library. Names (verdict library words) (fetched library words) st name)
finished_named None words probes arguments come before after st name is f = tt
finished_named (Some library) words probes arguments come before after st name is f =
    subst (λ (v : Verdict). Names v (fetched library words) st name) (sym is) (f.named (fetched library words))

pub ended_named : (files : Option Files) (words : List (List ℕ)) (st : Status) (name : List ℕ)
    → IfSome files (λ library. Ends (asked_ahead library (asked_of words)) st name)
    → IfSome files (λ library. Names (verdict library words) (fetched library words) st name)
ended_named None words st name ends = tt
ended_named (Some library) words st name ends = ends.named

turned_counter : (events more most old new : ℕ) (before after : Option (List ℕ)) (st : Status) → ¬ (st ≡ status.Ok) → (IsRefusal st → after ≡ before)
    → Counts events more most old new before after st → Counts events more most old new before after status.Memory
turned_counter events more most old new before after status.Ok other still h = absurd (other refl)
turned_counter events more most old new before after status.WriteFault other still h = (omega (arith, h.0), h.1, λ n. h.0)
turned_counter events more most old new before after status.NoEvent other still h = (omega (arith, h.0), h.1, λ n. h.0)
turned_counter events more most old new before after status.Memory other still h = h
turned_counter events more most old new before after _ other still h = (omega (arith, h), omega (arith, h), λ n. absurd (n (still tt)))

turned_told : (files : Option Files) (words : List (List ℕ)) (probes : Probes) (before after : Seen) (st : Status) → ¬ (st ≡ status.Ok) → (IsRefusal st → after.taken ≡ before.taken)
    → IfSome files (λ library. Fulfilled (verdict library words) (output probes (verdict library words)) (distinct (verdict library words)) (allowance (verdict library words)) (ceiling (verdict library words)) before after st)
    → IfSome files (λ library. Fulfilled (verdict library words) (output probes (verdict library words)) (distinct (verdict library words)) (allowance (verdict library words)) (ceiling (verdict library words)) before after status.Memory)
turned_told None words probes before after st other still f = tt
turned_told (Some library) words probes before after st other still f = record {
  output = λ e. cc;
  counter = turned_counter (distinct (verdict library words)) (allowance (verdict library words)) (ceiling (verdict library words)) before.steps after.steps before.taken after.taken st other still f.counter;
  cause = tt;
  session = λ e. cc;
  exact = λ n r. inr refl;
  prefix = f.prefix;
  complete = λ e r w. inr refl;
}

-- where memory was wanting for the line, that is the status
turned : (files : Option Files) (words : List (List ℕ)) (probes : Probes) (before after : Seen) (st : Status) → ¬ (st ≡ status.Ok)
    → Answered files words probes before after st → Answered files words probes before after status.Memory
turned files words probes before after st other a = record {
  told = turned_told files words probes before after st other a.refused a.told;
  usage = λ e. cc;
  not_asked = λ n. inr refl;
  unasked = λ e. cc;
  unread = a.unread;
  read_fault = λ e. cc;
  write_fault = λ e. cc;
  no_read_fault = λ other wants. absurd (wants refl);
  no_write_fault = λ other wants. absurd (wants refl);
  refused = λ r. absurd r;
  unmoved = λ r. absurd r;
  out_still = λ r. absurd r;
  reads_never_fall = a.reads_never_fall;
  writes_never_fall = a.writes_never_fall;
}

-- the status stays, or memory was wanting for its line
pub noted_answered : (files : Option Files) (words : List (List ℕ)) (probes : Probes) (before after : Seen) (now st : Status)
    → (now ≡ st) ⊎ ((now ≡ status.Memory) × ¬ (st ≡ status.Ok))
    → Answered files words probes before after st → Answered files words probes before after now
noted_answered files words probes before after now st (inl same) a = subst (λ (x : Status). Answered files words probes before after x) (sym same) a
noted_answered files words probes before after now st (inr (wanting, other)) a = subst (λ (x : Status). Answered files words probes before after x) (sym wanting) (turned files words probes before after st other a)

pub noted_named : (files : Option Files) (words : List (List ℕ)) (name : List ℕ) (now st : Status)
    → (now ≡ st) ⊎ ((now ≡ status.Memory) × ¬ (st ≡ status.Ok))
    → IfSome files (λ library. Names (verdict library words) (fetched library words) st name)
    → IfSome files (λ library. Names (verdict library words) (fetched library words) now name)
noted_named None words name now st kept n = tt
noted_named (Some library) words name now st (inl same) n = subst (λ (x : Status). Names (verdict library words) (fetched library words) x name) (sym same) n
noted_named (Some library) words name now st (inr (wanting, other)) n = subst (λ (x : Status). Names (verdict library words) (fetched library words) x name) (sym wanting) tt
