-- Which files the line of an end may name.
use Rattle.std.proofs.Common.{◌≡◌, ◌⊎◌, ℕ, List, [], Option, Some, None, IfSome, sym, subst, inl, inr}
use Rattle.abides_run.specs.Words.{asked_of}
use Rattle.abides_run.specs.Verdict.{Verdict, Files}
use Rattle.abides_run.specs.Ahead.{asked_ahead, fetched, verdict}
use Rattle.abides_run.specs.Output.{Probes}
use Rattle.abides_run.specs.Fetched.{IsAmong, files_of, arguments_in}
use Rattle.abides_run.specs.Statuses.{NamesOne, Speaks, SpeaksFor}
use Rattle.abides_run.specs.Searched.{Ends, IsSought}
use Rattle.abides_run.specs.Headline.{Named, Seen}
use Rattle.abides_run.specs.Performed.{Finished, IsFinal}
use Rattle.abides_run.specs.declared.status.Status.{Status}
use Rattle.abides_run.specs.declared.status.Status.TheVariants as status
use Rattle.abides_run.proofs.Answered.{ended_named, finished_named, noted_named}

-- a file among more
pub speaks_more : (some more : List (List ℕ)) (st : Status) (name : List ℕ) → (IsAmong name some → IsAmong name more) → Speaks some st name → Speaks more st name
speaks_more some more status.NoStudy name among s = among s
speaks_more some more status.TooLong name among s = among s
speaks_more some more status.ReadFault name among s = among s
speaks_more some more _ name among s = tt

wanting_speaks : (files : List (List ℕ)) (st : Status) (name : List ℕ) → st ≡ status.Memory → Speaks files st name
wanting_speaks files st name is = subst (λ (x : Status). Speaks files x name) (sym is) tt

-- what is done with a study ends with a status that speaks of no file
final_speaks : (files : List (List ℕ)) (st : Status) (name : List ℕ) → IsFinal st → Speaks files st name
final_speaks files status.NoStudy name f = absurd f
final_speaks files status.TooLong name f = absurd f
final_speaks files status.ReadFault name f = absurd f
final_speaks files _ name f = tt

-- something was done with the study, or what is asked for of it isn't there
pub finished_is_named : (files : Option Files) (words : List (List ℕ)) (probes : Probes) (arguments : List (List ℕ)) (come : Verdict) (before after : Seen) (st : Status) (name : List ℕ)
    → IfSome files (λ library. verdict library words ≡ come) → arguments ≡ arguments_in (asked_of words)
    → Finished come probes arguments before after st name → Named files words st name
finished_is_named files words probes arguments come before after st name is given f = record {
  told = finished_named files words probes arguments come before after st name is f;
  always = ([], final_speaks (files_of (asked_of words) []) st name f.final);
  argument = subst (λ (words : List (List ℕ)). NamesOne words st name) given f.argument;
}

-- the search for a study ends with a status that speaks of no argument
sought_one : (arguments : List (List ℕ)) (st : Status) (name : List ℕ) → IsSought st → NamesOne arguments st name
sought_one arguments status.NoBranch name s = absurd s
sought_one arguments status.NoStock name s = absurd s
sought_one arguments status.NoEvent name s = absurd s
sought_one arguments _ name s = tt

early_one : (arguments : List (List ℕ)) (st : Status) (name : List ℕ) → (st ≡ status.Usage) ⊎ IsSought st → NamesOne arguments st name
early_one arguments st name (inl faulty) = subst (λ (x : Status). NamesOne arguments x name) (sym faulty) tt
early_one arguments st name (inr sought) = sought_one arguments st name sought

-- the search ended without a study
pub ended_is_named : (files : Option Files) (words : List (List ℕ)) (st : Status) (name : List ℕ)
    → (st ≡ status.Usage) ⊎ IsSought st → IfSome files (λ library. Ends (asked_ahead library (asked_of words)) st name) → SpeaksFor words st name
    → Named files words st name
ended_is_named files words st name early ends speaks = record {
  told = ended_named files words st name ends;
  always = speaks;
  argument = early_one (arguments_in (asked_of words)) st name early;
}

-- the status stays, or memory was wanting for its line
pub noted_stays : (files : Option Files) (words : List (List ℕ)) (name : List ℕ) (now st : Status)
    → (now ≡ st) ⊎ ((now ≡ status.Memory) × ¬ (st ≡ status.Ok)) → Named files words st name → Named files words now name
noted_stays files words name now st (inl same) n = subst (λ (x : Status). Named files words x name) (sym same) n
noted_stays files words name now st (inr (wanting, other)) n = record {
  told = noted_named files words name now st (inr (wanting, other)) n.told;
  always = ([], wanting_speaks (files_of (asked_of words) []) now name wanting);
  argument = subst (λ (x : Status). NamesOne (arguments_in (asked_of words)) x name) (sym wanting) tt;
}
