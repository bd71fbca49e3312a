-- What the search comes to by the words that it was made for.
use Rattle.std.proofs.Common.{◌≡◌, ◌⊎◌, ◌≤◌, ℕ, List, [], Option, Some, None, IfSome, refl, sym, ap, ◌∙◌, subst, inl, inr, le_refl}
use Rattle.outside.specs.Rose.{Rose}
use Rattle.command_words.specs.declared.asked.Request.{Request}
use Rattle.abides_run.specs.Ahead.{asked_ahead, request_ahead, settled, verdict}
use Rattle.abides_run.specs.Fetched.{files_of}
use Rattle.abides_run.specs.Searched.{Came, Ends, IsSought, Leads, LibraryTold, Stopped}
use Rattle.abides_run.specs.Statuses.{Speaks}
use Rattle.abides_run.specs.Verdict.{Files, Verdict}
use Rattle.abides_run.specs.Words.{asked_of}
use Rattle.abides_run.specs.declared.status.Status.{Status}
use Rattle.abides_run.specs.declared.status.Status.TheVariants as status
use Rattle.abides_run.proofs.Searching.{wanting_ends}

-- a search for what is asked for found it
abbrev pub CameFor : Request → Verdict → LibraryTold → LibraryTold → Type 0
CameFor request come p q = Came (λ files. request_ahead files request) (λ files. settled come) p q

-- or ended without it
abbrev pub StoppedFor : Request → LibraryTold → LibraryTold → Status → List ℕ → Type 0
StoppedFor request p q st name = (bytes : List ℕ) × Stopped (λ files. request_ahead files request) (files_of (Some request) bytes) p q st name

-- words that are no faulty ones lead to what was found
pub asked_came : (o : Option Request) (come : Verdict) (p q : LibraryTold) → ¬ (o ≡ None)
    → ((request : Request) → o ≡ Some request → List ℕ × CameFor request come p q)
    → Came (λ files. asked_ahead files o) (λ files. settled come) p q
asked_came None come p q some came = absurd (some refl)
asked_came (Some request) come p q some came = (came request refl).1

-- so they come to it
pub comes_to : (words : List (List ℕ)) (files : Option Files) (come : Verdict)
    → IfSome files (λ library. Leads (asked_ahead library (asked_of words)) (settled come)) → IfSome files (λ library. verdict library words ≡ come)
comes_to words None come leads = tt
comes_to words (Some library) come leads = leads.verdict

-- How the search ends for words that may be faulty.
pub record EndsEarly (o : Option Request) (p q : LibraryTold) (st : Status) (name : List ℕ) : Type 0 where
  pub early : (st ≡ status.Usage) ⊎ IsSought st
  pub ended : IfSome p.files (λ library. Ends (asked_ahead library o) st name)
  pub speaks : (bytes : List ℕ) × Speaks (files_of o bytes) st name
  pub usage : st ≡ status.Usage → o ≡ None
  pub not_asked : o ≡ None → (st ≡ status.Usage) ⊎ (st ≡ status.Memory)
  pub fault : st ≡ status.ReadFault → Rose p.faults q.faults
  pub steady : ¬ (st ≡ status.ReadFault) → q.faults ≡ p.faults
  pub never_falls : p.faults ≤ q.faults
  pub files : q.files ≡ p.files

-- faulty words, or want of memory while they were read
abbrev pub IsFaulty : Status → Type 0
IsFaulty st = (st ≡ status.Usage) ⊎ (st ≡ status.Memory)

faulty_early : (st : Status) → IsFaulty st → (st ≡ status.Usage) ⊎ IsSought st
faulty_early st (inl usage) = inl usage
faulty_early st (inr wanting) = inr (subst IsSought (sym wanting) tt)

faulty_ends : (library : Files) (st : Status) (name : List ℕ) → IsFaulty st → Ends (asked_ahead library None) st name
faulty_ends library st name (inl usage) = subst (λ (x : Status). Ends (asked_ahead library None) x name) (sym usage) (record { cause = refl; named = tt })
faulty_ends library st name (inr wanting) = wanting_ends (asked_ahead library None) st name wanting

faulty_end : (files : Option Files) (st : Status) (name : List ℕ) → IsFaulty st → IfSome files (λ library. Ends (asked_ahead library None) st name)
faulty_end None st name f = tt
faulty_end (Some library) st name f = faulty_ends library st name f

faulty_speaks : (st : Status) (name : List ℕ) → IsFaulty st → Speaks [] st name
faulty_speaks st name (inl usage) = subst (λ (x : Status). Speaks [] x name) (sym usage) tt
faulty_speaks st name (inr wanting) = subst (λ (x : Status). Speaks [] x name) (sym wanting) tt

faulty_silent : (st : Status) → IsFaulty st → ¬ (st ≡ status.ReadFault)
faulty_silent st (inl usage) e = let bad : status.Usage ≡ status.ReadFault = sym usage ∙ e in cc
faulty_silent st (inr wanting) e = let bad : status.Memory ≡ status.ReadFault = sym wanting ∙ e in cc

sought_asked : (st : Status) → IsSought st → ¬ (st ≡ status.Usage)
sought_asked st sought e = subst IsSought e sought

pub ends_early : (o : Option Request) (p q : LibraryTold) (st : Status) (name : List ℕ)
    → (o ≡ None → IsFaulty st × (q ≡ p)) → ((request : Request) → o ≡ Some request → StoppedFor request p q st name) → EndsEarly o p q st name
ends_early None p q st name faulty stopped =
    let f = (faulty refl).0 in
    let same = ap (λ (l : LibraryTold). l.faults) (faulty refl).1 in
    record {
      early = faulty_early st f;
      ended = faulty_end p.files st name f;
      speaks = ([], faulty_speaks st name f);
      usage = λ e. refl;
      not_asked = λ e. f;
      fault = λ e. absurd (faulty_silent st f e);
      steady = λ other. same;
      never_falls = subst (λ (n : ℕ). p.faults ≤ n) (sym same) (le_refl p.faults);
      files = ap (λ (l : LibraryTold). l.files) (faulty refl).1;
    }
ends_early (Some request) p q st name faulty stopped =
    let s = stopped request refl in
    record {
      early = inr s.1.sought;
      ended = s.1.ended;
      speaks = (s.0, s.1.speaks);
      usage = λ e. absurd (sought_asked st s.1.sought e);
      not_asked = λ e. absurd cc;
      fault = s.1.fault;
      steady = s.1.steady;
      never_falls = s.1.never_falls;
      files = s.1.files;
    }
