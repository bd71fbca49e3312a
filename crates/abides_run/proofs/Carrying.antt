-- How a session ends.
use Rattle.std.proofs.Common.{◌≡◌, ◌⊎◌, ◌<◌, ◌≤◌, ◌+◌, ◌-◌, ◌*◌, ℕ, zero, suc, nat_lt, Bool, true, false, ◌&&◌, not, if◌then◌else◌, List, [], ◌∷◌, Option, None, Some, Result, Ok, Err, length, refl, sym, ap, ◌∙◌, subst, inl, inr, arith}
use Rattle.toml.specs.Data.{Members}
use Rattle.kernel_copy.specs.Courses.{CourseTold}
use Rattle.study_file.specs.Tables.{table_of}
use Rattle.session_desk.specs.declared.act.Act.{Act}
use Rattle.session_desk.specs.declared.act.ScriptError.{ScriptError}
use Rattle.session_desk.specs.declared.act.ScriptError.TheVariants as error
use Rattle.study_rules.specs.Scope.{scope_of_opening}
use Rattle.session_desk.specs.Script.{act_entries, acts_in, acts_of, forks_by_time, is_fit, is_script, script_of}
use Rattle.session_desk.specs.Session.{SessionTold, first_session}
use Rattle.session_desk.specs.declared.end.PastAct.{PastAct}
use Rattle.session_desk.specs.declared.end.SessionEnd.{SessionEnd}
use Rattle.session_desk.specs.declared.end.SessionEnd.TheVariants as end
use Rattle.session_desk.specs.Acting.{after_act}
use Rattle.session_desk.specs.Answered.{session_bytes}
use Rattle.session_desk.specs.Counted.{all_run}
use Rattle.session_desk.specs.Past.{past_act, past_from, past_last, past_or}
use Rattle.session_desk.specs.Refused.{act_refused}
use Rattle.study_rules.specs.Accepted.{StudyTold}
use Rattle.abides_run.specs.Fetched.{IsAmong}
use Rattle.abides_run.specs.Notes.{past_event}
use Rattle.abides_run.specs.Output.{Probes, carried_out, SessionRose, least_reached, most_reached, study_events}
use Rattle.abides_run.specs.Sessions.{act_word, act_words, act_words_before, status_for}
use Rattle.abides_run.specs.Verdict.{Verdict, accepted, bad_script, refused_act, ceiling, verdict_on_acts, verdict_on_past_act, verdict_on_script, verdict_on_session}
use Rattle.abides_run.specs.Headline.{Seen}
use Rattle.abides_run.specs.Performed.{Finished, Performed}
use Rattle.abides_run.specs.declared.status.Status.{Status}
use Rattle.abides_run.specs.declared.status.Status.TheVariants as status
use Rattle.abides_run.proofs.Among.{among_before, among_behind}
use Rattle.abides_run.proofs.Finishing.{eventless-finishes, refused-still, wanting-finishes}
use Rattle.abides_run.proofs.Performing.{performed_finishes}

-- an act that a script may have is among them
act-among : (n i : ℕ) → i < n → IsAmong (act_word i) (act_words_before n)
act-among zero i less = absurd (omega (arith, less))
act-among (suc n) i less = elim (nat_lt i n) as (λ b. nat_lt i n ≡ b → IsAmong (act_word i) (act_words_before (suc n))) [
  | true ↦ λ e.
      let below : i < n = grind (arith, e) in
      among_before (act_word i) (act_words_before n) (act_word n ∷ []) (act-among n i below)
  | false ↦ λ e.
      let least : n ≤ i = grind (arith, e) in
      let same : i ≡ n = omega (arith, least, less) in
      among_behind (act_word i) (act_words_before n) (act_word n ∷ []) (inl (ap act_word same))
] refl

-- the first act past a last event is one of the acts
past-or-below : (i n : ℕ) (o : Option ℕ) (behind : Option PastAct) (p : PastAct) → ((q : PastAct) → behind ≡ Some q → q.act < i + 1 + n)
    → past_or i o behind ≡ Some p → p.act < i + suc n
past-or-below i n None behind p h is = omega (arith, h p is)
past-or-below i n (Some last) behind p h is =
    let same : record { act = i; last = last } ≡ p = cc is in
    subst (λ (q : PastAct). q.act < i + suc n) same (omega arith)

past-below : (i : ℕ) (s : SessionTold) (acts : List Act) (p : PastAct) → past_from i s acts ≡ Some p → p.act < i + length acts
past-below i s [] p is = cc
past-below i s (a ∷ acts) p is =
    past-or-below i (length acts) (past_last s a) (past_from (i + 1) (after_act s a) acts) p
    (λ q e. past-below (i + 1) (after_act s a) acts q e) is

pub past-among : (s : SessionTold) (acts : List Act) (p : PastAct) → past_act s acts ≡ Some p → length acts ≤ 64 → IsAmong (act_word p.act) act_words
past-among s acts p is few = act-among 64 p.act (omega (arith, past-below 0 s acts p is, few))

-- the end of acts that says which goes past a last event
pub told-past : (e : SessionEnd) (past : PastAct) (found : Option PastAct) → e ≡ end.NoEvent past → (e ≡ end.Memory) ⊎ ((p : PastAct) × (e ≡ end.NoEvent p) × (found ≡ Some p)) → found ≡ Some past
told-past e past found is (inl wanting) = let bad : end.NoEvent past ≡ end.Memory = sym is ∙ wanting in cc
told-past e past found is (inr (p, told, first)) =
    let same : end.NoEvent p ≡ end.NoEvent past = sym told ∙ is in
    let one : p ≡ past = cc in
    first ∙ ap Some one

-- the script says no acts, or memory was wanting to read it
refuses-script : (place : ℕ) (come : Verdict) (probes : Probes) (arguments : List (List ℕ)) (reads writes steps : ℕ) (taken : Option (List ℕ)) (st : Status) (name : List ℕ)
    → come ≡ bad_script place → st ≡ status.BadScript place
    → Finished come probes arguments (record { reads = reads; writes = writes; taken = taken; steps = steps }) (record { reads = reads; writes = writes; taken = taken; steps = steps }) st name
refuses-script place come probes arguments reads writes steps taken st name is same =
    let seen : Seen = record { reads = reads; writes = writes; taken = taken; steps = steps } in
    subst (λ (v : Verdict). Finished v probes arguments seen seen st name) (sym is)
    (subst (λ (x : Status). Finished (bad_script place) probes arguments seen seen x name) (sym same)
    (refused-still (bad_script place) probes arguments seen (status.BadScript place) name refl tt tt (λ fetched. tt) tt))

pub unread-script-finishes : (e : ScriptError) (places : ℕ) (text : List ℕ) (s : StudyTold) (probes : Probes) (reads writes steps : ℕ) (taken : Option (List ℕ)) (st : Status) (name : List ℕ)
    → (e ≡ error.Memory) ⊎ (script_of s.course text ≡ Err e) → st ≡ status_for e
    → Finished (verdict_on_session places text s) probes act_words (record { reads = reads; writes = writes; taken = taken; steps = steps }) (record { reads = reads; writes = writes; taken = taken; steps = steps }) st name
unread-script-finishes error.NotToml places text s probes reads writes steps taken st name (inl wanting) same = cc
unread-script-finishes error.NotToml places text s probes reads writes steps taken st name (inr is) same =
    refuses-script 64 (verdict_on_session places text s) probes act_words reads writes steps taken st name (ap (λ (r : Result (List Act) ScriptError). verdict_on_script places s r) is) same
unread-script-finishes (error.BadAct i) places text s probes reads writes steps taken st name (inl wanting) same = cc
unread-script-finishes (error.BadAct i) places text s probes reads writes steps taken st name (inr is) same =
    refuses-script i (verdict_on_session places text s) probes act_words reads writes steps taken st name (ap (λ (r : Result (List Act) ScriptError). verdict_on_script places s r) is) same
unread-script-finishes error.Memory places text s probes reads writes steps taken st name why same =
    wanting-finishes (verdict_on_session places text s) probes act_words reads writes steps steps taken st name same (omega arith) (omega arith)

-- a script says acts only over a study that forks by event number
fits : (c : CourseTold) (t : Members) (whole : Bool) (acts : List Act) → (if whole then acts_of (scope_of_opening c.opening) (act_entries t) else Err (error.BadAct 64)) ≡ Ok acts → whole ≡ true
fits c t true acts is = refl
fits c t false acts is = cc

unlike-times : (whole times : Bool) → (whole && not times) ≡ true → times ≡ false
unlike-times whole false is = refl
unlike-times true true is = sym is
unlike-times false true is = sym is

said-numbers : (c : CourseTold) (acts : List Act) (table : Option Members)
    → ◌≡◌ {A = Result (List Act) ScriptError} (elim table [ None ↦ Err error.NotToml | Some t ↦ acts_in c t ]) (Ok acts) → forks_by_time c ≡ false
said-numbers c acts None is = absurd (cc is)
said-numbers c acts (Some t) is = unlike-times (is_script t) (forks_by_time c) (fits c t (is_fit c t) acts is)

pub numbers-alone : (c : CourseTold) (bytes : List ℕ) (acts : List Act) → script_of c bytes ≡ Ok acts → forks_by_time c ≡ false
unfolding script_of
numbers-alone c bytes acts is = said-numbers c acts (table_of bytes) is

-- the script says acts
script-comes : (places : ℕ) (text : List ℕ) (s : StudyTold) (acts : List Act) (refused : Option ℕ) → script_of s.course text ≡ Ok acts → act_refused (first_session s.course) acts ≡ refused
    → verdict_on_session places text s ≡ verdict_on_acts acts places s refused
script-comes places text s acts refused said is =
    ap (λ (r : Result (List Act) ScriptError). verdict_on_script places s r) said ∙ ap (λ (o : Option ℕ). verdict_on_acts acts places s o) is

-- the tree refuses one of them
pub refused-act-finishes : (act places : ℕ) (text : List ℕ) (s : StudyTold) (acts : List Act) (probes : Probes) (reads writes steps : ℕ) (taken : Option (List ℕ)) (st : Status) (name : List ℕ)
    → script_of s.course text ≡ Ok acts → act_refused (first_session s.course) acts ≡ Some act → st ≡ status.ActRefused act
    → Finished (verdict_on_session places text s) probes act_words (record { reads = reads; writes = writes; taken = taken; steps = steps }) (record { reads = reads; writes = writes; taken = taken; steps = steps }) st name
refused-act-finishes act places text s acts probes reads writes steps taken st name said is same =
    let seen : Seen = record { reads = reads; writes = writes; taken = taken; steps = steps } in
    subst (λ (v : Verdict). Finished v probes act_words seen seen st name) (sym (script-comes places text s acts (Some act) said is))
    (subst (λ (x : Status). Finished (refused_act act) probes act_words seen seen x name) (sym same)
    (refused-still (refused_act act) probes act_words seen (status.ActRefused act) name refl tt tt (λ fetched. tt) tt))

-- it refuses none, and what they come to is what the session comes to
pub acts-finish : (places : ℕ) (text : List ℕ) (s : StudyTold) (acts : List Act) (probes : Probes) (before after : Seen) (st : Status) (name : List ℕ)
    → script_of s.course text ≡ Ok acts → act_refused (first_session s.course) acts ≡ None
    → Finished (verdict_on_past_act acts places s (past_act (first_session s.course) acts)) probes act_words before after st name
    → Finished (verdict_on_session places text s) probes act_words before after st name
acts-finish places text s acts probes before after st name said none f =
    subst (λ (v : Verdict). Finished v probes act_words before after st name) (sym (script-comes places text s acts None said none)) f

-- the study may be simulated, and each act make as many steps as the study's limit of events
acts-ceiling : (acts : List Act) (places : ℕ) (s : StudyTold) (past : Option PastAct) → study_events s.course + length acts * s.course.opening.limit ≡ ceiling (verdict_on_past_act acts places s past)
acts-ceiling acts places s None = refl
acts-ceiling acts places s (Some past) = refl

-- memory was wanting before the first byte
pub acts-wanting : (acts : List Act) (places : ℕ) (s : StudyTold) (past : Option PastAct) (probes : Probes) (arguments : List (List ℕ)) (reads writes old new : ℕ) (taken : Option (List ℕ)) (st : Status) (name : List ℕ)
    → st ≡ status.Memory → old ≤ new → new ≤ old + study_events s.course + length acts * s.course.opening.limit
    → Finished (verdict_on_past_act acts places s past) probes arguments (record { reads = reads; writes = writes; taken = taken; steps = old }) (record { reads = reads; writes = writes; taken = taken; steps = new }) st name
acts-wanting acts places s past probes arguments reads writes old new taken st name is least most =
    wanting-finishes (verdict_on_past_act acts places s past) probes arguments reads writes old new taken st name is least
    (omega (arith, most, acts-ceiling acts places s past))

-- one goes to an event past its branch's last
pub acts-eventless : (acts : List Act) (places : ℕ) (s : StudyTold) (past : PastAct) (probes : Probes) (reads writes old new : ℕ) (taken : Option (List ℕ)) (st : Status) (name : List ℕ)
    → past_act (first_session s.course) acts ≡ Some past → length acts ≤ 64
    → (st ≡ status.Memory) ⊎ ((st ≡ status.NoEvent) × (name ≡ past_event (act_word past.act) past.last))
    → old + study_events s.course ≤ new → new ≤ old + study_events s.course + length acts * s.course.opening.limit
    → Finished (verdict_on_past_act acts places s (past_act (first_session s.course) acts)) probes act_words (record { reads = reads; writes = writes; taken = taken; steps = old }) (record { reads = reads; writes = writes; taken = taken; steps = new }) st name
acts-eventless acts places s past probes reads writes old new taken st name is few told least most =
    eventless-finishes (verdict_on_past_act acts places s (past_act (first_session s.course) acts)) (act_word past.act) past.last s (length acts * s.course.opening.limit) probes act_words reads writes old new taken st name
    (ap (λ (p : Option PastAct). verdict_on_past_act acts places s p) is) told least most
    (past-among (first_session s.course) acts past is few)

-- none does, and the answers were written, or why not
pub acts-answered : (acts : List Act) (places : ℕ) (s : StudyTold) (probes : Probes) (arguments : List (List ℕ)) (before after : Seen) (st told : Status) (name : List ℕ)
    → past_act (first_session s.course) acts ≡ None → told ≡ st
    → Performed (session_bytes probes.meanings (first_session s.course) acts) (study_events s.course + all_run (first_session s.course) acts + least_reached s places acts)
    (most_reached s places acts - least_reached s places acts) (study_events s.course + length acts * s.course.opening.limit) before after st
    → (st ≡ status.Ok → SessionRose s places acts before.steps after.steps)
    → Finished (verdict_on_past_act acts places s (past_act (first_session s.course) acts)) probes arguments before after told name
acts-answered acts places s probes arguments before after st told name none same p rose =
    let due = carried_out acts places s in
    subst (λ (v : Verdict). Finished v probes arguments before after told name) (sym (ap (λ (x : Option PastAct). verdict_on_past_act acts places s x) none))
    (subst (λ (x : Status). Finished (accepted due) probes arguments before after x name) (sym same)
    (performed_finishes probes due arguments before after st name p rose))
