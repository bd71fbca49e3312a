-- The steps of the search for a study, one behind another.
use Rattle.std.proofs.Common.{◌≡◌, ◌⊎◌, ◌≤◌, ℕ, List, [], ◌∷◌, ◌++◌, Option, Some, None, IfSome, Result, Ok, Err, string_bytes, refl, sym, ap, ◌∙◌, subst, inl, inr, le_refl, append_assoc}
use Rattle.outside.specs.Files.{Content, absent, too_long, whole, held, content}
use Rattle.outside.specs.Rose.{Rose}
use Rattle.study_market.specs.declared.early_refusal.Refusal.{Refusal}
use Rattle.study_rules.specs.Accepted.{StudyTold}
use Rattle.toml.specs.Data.{Members}
use Rattle.abides_run.specs.Ahead.{Ahead, file_ahead, judged, settled, tabled}
use Rattle.abides_run.specs.Fetched.{IsAmong}
use Rattle.abides_run.specs.Searched.{Came, Ends, IsSought, Leads, LibraryTold, Searched, Stopped}
use Rattle.abides_run.specs.Statuses.{Cause, Names, Speaks, status_of}
use Rattle.abides_run.specs.Verdict.{Files, Verdict, IsAsked}
use Rattle.abides_run.specs.declared.ending.Ending.{Ending}
use Rattle.abides_run.specs.declared.status.Status.{Status}
use Rattle.abides_run.specs.declared.status.Status.TheVariants as status
use Rattle.abides_run.proofs.Among.{among_behind}
use Rattle.abides_run.proofs.Speaking.{speaks_more}

-- a name among more files that were fetched
names_more : (come : Verdict) (some more : List (List ℕ)) (st : Status) (name : List ℕ) → (IsAmong name some → IsAmong name more)
    → Names come some st name → Names come more st name
names_more come some more status.NoStudy name among n = n
names_more come some more status.TooLong name among n = n
names_more come some more status.ReadFault name among n = among n
names_more come some more status.NoBranch name among n = n
names_more come some more status.NoStock name among n = n
names_more come some more status.NoEvent name among n = n
names_more come some more _ name among n = tt

-- a step leads where the step that it leads to leads
leads_on : (a b c : Ahead) → Leads a b → Leads b c → Leads a c
leads_on a b c first then = record {
  verdict = first.verdict ∙ then.verdict;
  passed = first.passed ++ then.passed;
  fetched = first.fetched ∙ ap (λ (l : List (List ℕ)). first.passed ++ l) then.fetched ∙ sym (append_assoc first.passed then.passed c.fetched);
}

-- an end at a later step is one of the step that leads there
ends_before : (a b : Ahead) (st : Status) (name : List ℕ) → Leads a b → Ends b st name → Ends a st name
ends_before a b st name l e = record {
  cause = subst (λ (v : Verdict). Cause v st) (sym l.verdict) e.cause;
  named = subst (λ (names : List (List ℕ)). Names a.verdict names st name) (sym l.fetched)
      (names_more a.verdict b.fetched (l.passed ++ b.fetched) st name (among_behind name l.passed b.fetched)
      (subst (λ (v : Verdict). Names v b.fetched st name) (sym l.verdict) e.named));
}

lead_on : (a b c : Files → Ahead) (p q : Option Files) → q ≡ p → IfSome p (λ files. Leads (a files) (b files)) → IfSome q (λ files. Leads (b files) (c files))
    → IfSome p (λ files. Leads (a files) (c files))
lead_on a b c None q same first then = tt
lead_on a b c (Some files) q same first then =
    leads_on (a files) (b files) (c files) first (subst (λ (x : Option Files). IfSome x (λ files. Leads (b files) (c files))) same then)

end_before : (a b : Files → Ahead) (p q : Option Files) (st : Status) (name : List ℕ) → q ≡ p → IfSome p (λ files. Leads (a files) (b files))
    → IfSome q (λ files. Ends (b files) st name) → IfSome p (λ files. Ends (a files) st name)
end_before a b None q st name same first then = tt
end_before a b (Some files) q st name same first then =
    ends_before (a files) (b files) st name first (subst (λ (x : Option Files). IfSome x (λ files. Ends (b files) st name)) same then)

-- one step behind another
pub came_on : (a b c : Files → Ahead) (p q r : LibraryTold) → Came a b p q → Came b c q r → Came a c p r
came_on a b c p q r first then = record {
  leads = lead_on a b c p.files q.files first.files first.leads then.leads;
  steady = then.steady ∙ first.steady;
  files = then.files ∙ first.files;
}

-- a step behind which the search ended
pub stopped_behind : (a b : Files → Ahead) (some more : List (List ℕ)) (p q r : LibraryTold) (st : Status) (name : List ℕ) → Came a b p q
    → (IsAmong name some → IsAmong name more) → Stopped b some q r st name → Stopped a more p r st name
stopped_behind a b some more p q r st name first among s = record {
  ended = end_before a b p.files q.files st name first.files first.leads s.ended;
  speaks = speaks_more some more st name among s.speaks;
  sought = s.sought;
  fault = λ e. subst (λ (n : ℕ). Rose n r.faults) first.steady (s.fault e);
  steady = λ other. s.steady other ∙ first.steady;
  never_falls = subst (λ (n : ℕ). n ≤ r.faults) first.steady s.never_falls;
  files = s.files ∙ first.files;
}

-- the search ended where it began, and may name more files
pub stopped_more : (a : Files → Ahead) (some more : List (List ℕ)) (p r : LibraryTold) (st : Status) (name : List ℕ)
    → (IsAmong name some → IsAmong name more) → Stopped a some p r st name → Stopped a more p r st name
stopped_more a some more p r st name among s = record {
  ended = s.ended;
  speaks = speaks_more some more st name among s.speaks;
  sought = s.sought;
  fault = s.fault;
  steady = s.steady;
  never_falls = s.never_falls;
  files = s.files;
}

pub searched_behind : {X : Type 0} (a b : Files → Ahead) (to : Files → X → Ahead) (some more : List (List ℕ)) (p q r : LibraryTold) (result : Result X Ending)
    → Came a b p q → ((name : List ℕ) → IsAmong name some → IsAmong name more) → Searched b to some q r result → Searched a to more p r result
searched_behind a b to some more p q r (Ok found) first among s = came_on a b (λ files. to files found) p q r first s
searched_behind a b to some more p q r (Err e) first among s =
    stopped_behind a b some more p q r e.status (string_bytes e.name) first (among (string_bytes e.name)) s

lead_nowhere : (a b : Files → Ahead) (p : Option Files) → ((files : Files) → a files ≡ b files) → IfSome p (λ files. Leads (a files) (b files))
lead_nowhere a b None same = tt
lead_nowhere a b (Some files) same = record {
  verdict = ap (λ (x : Ahead). x.verdict) (same files);
  passed = [];
  fetched = ap (λ (x : Ahead). x.fetched) (same files);
}

-- the step that was taken needed no file
pub came_nowhere : (a b : Files → Ahead) (p : LibraryTold) → ((files : Files) → a files ≡ b files) → Came a b p p
came_nowhere a b p same = record { leads = lead_nowhere a b p.files same; steady = refl; files = refl }

lead_settled : (a : Ahead) (p : Option Files) → a.fetched ≡ [] → IfSome p (λ files. Leads (settled a.verdict) a)
lead_settled a None none = tt
lead_settled a (Some files) none = record { verdict = refl; passed = []; fetched = sym none }

-- a step behind which nothing is fetched
pub came_settled : (a : Ahead) (p : LibraryTold) → a.fetched ≡ [] → Came (λ files. settled a.verdict) (λ files. a) p p
came_settled a p none = record { leads = lead_settled a p.files none; steady = refl; files = refl }

-- want of memory may end the search at any step
pub wanting_ends : (a : Ahead) (st : Status) (name : List ℕ) → st ≡ status.Memory → Ends a st name
wanting_ends a st name is = subst (λ (x : Status). Ends a x name) (sym is) (record { cause = tt; named = tt })

wanting_end : (a : Files → Ahead) (p : Option Files) (st : Status) (name : List ℕ) → st ≡ status.Memory → IfSome p (λ files. Ends (a files) st name)
wanting_end a None st name is = tt
wanting_end a (Some files) st name is = wanting_ends (a files) st name is

not_read : (st other : Status) → st ≡ other → ¬ (other ≡ status.ReadFault) → ¬ (st ≡ status.ReadFault)
not_read st other is differs e = differs (sym is ∙ e)

pub stopped_wanting : (a : Files → Ahead) (mentioned : List (List ℕ)) (p q : LibraryTold) (st : Status) (name : List ℕ)
    → st ≡ status.Memory → q.files ≡ p.files → q.faults ≡ p.faults → Stopped a mentioned p q st name
stopped_wanting a mentioned p q st name is files faults = record {
  ended = wanting_end a p.files st name is;
  speaks = subst (λ (x : Status). Speaks mentioned x name) (sym is) tt;
  sought = subst IsSought (sym is) tt;
  fault = λ e. absurd (not_read st status.Memory is (λ e. cc) e);
  steady = λ other. faults;
  never_falls = subst (λ (n : ℕ). p.faults ≤ n) (sym faults) (le_refl p.faults);
  files = files;
}

refusal_end : (a : Files → Ahead) (p : Option Files) (rule place : ℕ) (st : Status) (name : List ℕ)
    → st ≡ status.Refused rule place → ((files : Files) → status_of (a files).verdict ≡ status.Refused rule place) → IfSome p (λ files. Ends (a files) st name)
refusal_end a None rule place st name is comes = tt
refusal_end a (Some files) rule place st name is comes =
    subst (λ (x : Status). Ends (a files) x name) (sym is) (record { cause = comes files; named = tt })

-- a broken rule ends the search, whatever the library is
pub stopped_refused : (a : Files → Ahead) (mentioned : List (List ℕ)) (p : LibraryTold) (rule place : ℕ) (st : Status) (name : List ℕ)
    → st ≡ status.Refused rule place → ((files : Files) → status_of (a files).verdict ≡ status.Refused rule place) → Stopped a mentioned p p st name
stopped_refused a mentioned p rule place st name is comes = record {
  ended = refusal_end a p.files rule place st name is comes;
  speaks = subst (λ (x : Status). Speaks mentioned x name) (sym is) tt;
  sought = subst IsSought (sym is) tt;
  fault = λ e. absurd (not_read st (status.Refused rule place) is (λ e. cc) e);
  steady = λ other. refl;
  never_falls = le_refl p.faults;
  files = refl;
}

-- the bytes of a study are the text of a table, or of none
pub tabled_came : (next : Files → Members → Ahead) (table : Option Members) (is : Members) (p : LibraryTold) → table ≡ Some is
    → Came (λ files. tabled (next files) table) (λ files. next files is) p p
tabled_came next table is p has =
    came_nowhere (λ files. tabled (next files) table) (λ files. next files is) p (λ files. ap (λ (t : Option Members). tabled (next files) t) has)

pub tabled_stopped : (next : Files → Members → Ahead) (table : Option Members) (p : LibraryTold) (st : Status) (name : List ℕ)
    → st ≡ status.Refused 0 0 → table ≡ None → Stopped (λ files. tabled (next files) table) [] p p st name
tabled_stopped next table p st name is none =
    stopped_refused (λ files. tabled (next files) table) [] p 0 0 st name is
    (λ files. ap (λ (t : Option Members). status_of (tabled (next files) t).verdict) none)

-- the rules accept a study, or refuse it
pub judged_came : (next : Files → StudyTold → Ahead) (r : Result StudyTold Refusal) (s : StudyTold) (p : LibraryTold) → r ≡ Ok s
    → Came (λ files. judged (next files) r) (λ files. next files s) p p
judged_came next r s p is =
    came_nowhere (λ files. judged (next files) r) (λ files. next files s) p (λ files. ap (λ (x : Result StudyTold Refusal). judged (next files) x) is)

pub judged_stopped : (next : Files → StudyTold → Ahead) (r : Result StudyTold Refusal) (refusal : Refusal) (p : LibraryTold) (st : Status) (name : List ℕ)
    → st ≡ status.Refused refusal.rule refusal.place → r ≡ Err refusal → Stopped (λ files. judged (next files) r) [] p p st name
judged_stopped next r refusal p st name is broken =
    stopped_refused (λ files. judged (next files) r) [] p refusal.rule refusal.place st name is
    (λ files. ap (λ (x : Result StudyTold Refusal). status_of (judged (next files) x).verdict) broken)

-- a library answered the fetch of a file
lead_whole : (next : Files → List ℕ → Ahead) (name bytes : List ℕ) (most : ℕ) (answer : Content) (p : Option Files)
    → IfSome p (λ files. answer ≡ content (held files name) most) → answer ≡ whole bytes
    → IfSome p (λ files. Leads (file_ahead name (next files) (content (held files name) most)) (next files bytes))
lead_whole next name bytes most answer None told is = tt
lead_whole next name bytes most answer (Some files) told is =
    subst (λ (c : Content). Leads (file_ahead name (next files) c) (next files bytes)) (sym is ∙ told)
    (record { verdict = refl; passed = name ∷ []; fetched = refl })

pub file_came : (next : Files → List ℕ → Ahead) (name bytes : List ℕ) (most : ℕ) (answer : Content) (p q : LibraryTold)
    → IfSome p.files (λ files. answer ≡ content (held files name) most) → answer ≡ whole bytes → q.files ≡ p.files → q.faults ≡ p.faults
    → Came (λ files. file_ahead name (next files) (content (held files name) most)) (λ files. next files bytes) p q
file_came next name bytes most answer p q told is files faults = record {
  leads = lead_whole next name bytes most answer p.files told is;
  steady = faults;
  files = files;
}

end_without : (next : Files → List ℕ → Ahead) (name : List ℕ) (most : ℕ) (answer : Content) (p : Option Files) (st : Status)
    → ((files : Files) → Ends (file_ahead name (next files) answer) st name) → IfSome p (λ files. answer ≡ content (held files name) most)
    → IfSome p (λ files. Ends (file_ahead name (next files) (content (held files name) most)) st name)
end_without next name most answer None st ends told = tt
end_without next name most answer (Some files) st ends told =
    subst (λ (c : Content). Ends (file_ahead name (next files) c) st name) told (ends files)

-- it holds no file under the name, or one that is too long
pub file_absent : (next : Files → List ℕ → Ahead) (name said : List ℕ) (most : ℕ) (answer : Content) (p q : LibraryTold)
    → IfSome p.files (λ files. answer ≡ content (held files name) most) → answer ≡ absent → said ≡ name → q.files ≡ p.files → q.faults ≡ p.faults
    → Stopped (λ files. file_ahead name (next files) (content (held files name) most)) (name ∷ []) p q status.NoStudy said
file_absent next name said most answer p q told is same files faults =
    subst (λ (x : List ℕ). Stopped (λ files. file_ahead name (next files) (content (held files name) most)) (name ∷ []) p q status.NoStudy x) (sym same) (record {
      ended = end_without next name most answer p.files status.NoStudy
          (λ files. subst (λ (c : Content). Ends (file_ahead name (next files) c) status.NoStudy name) (sym is) (record { cause = refl; named = refl })) told;
      speaks = inl refl;
      sought = tt;
      fault = λ e. absurd cc;
      steady = λ other. faults;
      never_falls = subst (λ (n : ℕ). p.faults ≤ n) (sym faults) (le_refl p.faults);
      files = files;
    })

pub file_long : (next : Files → List ℕ → Ahead) (name said : List ℕ) (most : ℕ) (answer : Content) (p q : LibraryTold)
    → IfSome p.files (λ files. answer ≡ content (held files name) most) → answer ≡ too_long → said ≡ name → q.files ≡ p.files → q.faults ≡ p.faults
    → Stopped (λ files. file_ahead name (next files) (content (held files name) most)) (name ∷ []) p q status.TooLong said
file_long next name said most answer p q told is same files faults =
    subst (λ (x : List ℕ). Stopped (λ files. file_ahead name (next files) (content (held files name) most)) (name ∷ []) p q status.TooLong x) (sym same) (record {
      ended = end_without next name most answer p.files status.TooLong
          (λ files. subst (λ (c : Content). Ends (file_ahead name (next files) c) status.TooLong name) (sym is) (record { cause = refl; named = refl })) told;
      speaks = inl refl;
      sought = tt;
      fault = λ e. absurd cc;
      steady = λ other. faults;
      never_falls = subst (λ (n : ℕ). p.faults ≤ n) (sym faults) (le_refl p.faults);
      files = files;
    })

-- the file is the first that is fetched
fetched_first : (next : List ℕ → Ahead) (name : List ℕ) (answer : Content) → IsAmong name (file_ahead name next answer).fetched
fetched_first next name absent = inl refl
fetched_first next name too_long = inl refl
fetched_first next name (whole bytes) = inl refl

fault_end : (next : Files → List ℕ → Ahead) (name : List ℕ) (most : ℕ) (p : Option Files)
    → ((files : Files) (answer : Content) → IsAsked (file_ahead name (next files) answer).verdict)
    → IfSome p (λ files. Ends (file_ahead name (next files) (content (held files name) most)) status.ReadFault name)
fault_end next name most None asked = tt
fault_end next name most (Some files) asked = record {
  cause = asked files (content (held files name) most);
  named = fetched_first (next files) name (content (held files name) most);
}

-- the read failed
pub file_failed : (next : Files → List ℕ → Ahead) (name said : List ℕ) (most : ℕ) (p q : LibraryTold)
    → ((files : Files) (answer : Content) → IsAsked (file_ahead name (next files) answer).verdict)
    → said ≡ name → q.files ≡ p.files → Rose p.faults q.faults → p.faults ≤ q.faults
    → Stopped (λ files. file_ahead name (next files) (content (held files name) most)) (name ∷ []) p q status.ReadFault said
file_failed next name said most p q asked same files rose rises =
    subst (λ (x : List ℕ). Stopped (λ files. file_ahead name (next files) (content (held files name) most)) (name ∷ []) p q status.ReadFault x) (sym same) (record {
      ended = fault_end next name most p.files asked;
      speaks = inl refl;
      sought = tt;
      fault = λ e. rose;
      steady = λ other. absurd (other refl);
      never_falls = rises;
      files = files;
    })
