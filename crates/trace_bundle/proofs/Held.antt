-- The outcome of each segment in a list of all.
use Rattle.std.proofs.Common.{◌≡◌, ℕ, zero, suc, ◌<◌, ◌≤◌, inl, inr, List, [], ◌∷◌, ◌++◌, length, map, get_or, refl, ap, ◌∙◌, subst, arith}
use Rattle.std.proofs.lemmas.Bool.{cases_lt}
use Rattle.std.proofs.lemmas.List.{get_or_append_left, get_or_push, length-map, length_push}
use Rattle.bundle_frames.specs.declared.closing.Closing.{Closing}
use Rattle.branch_tree.specs.Segments.{segments_in}
use Rattle.kernel_copy.specs.Courses.{CourseTold}
use Rattle.kernel_copy.specs.Kept.{KeepsFrames, KeepsTally, KeptTold}
use Rattle.kernel_copy.specs.declared.kept.Keep.{Keep}
use Rattle.kernel_copy.specs.declared.kept.Keep.TheVariants as keeping
use Rattle.kernel_copy.specs.declared.run.Outcome.{Outcome}
use Rattle.kernel_copy.specs.Outcomes.{OutcomeTold, outcome_of, outcome_told, outcomes_before}
use Rattle.trace_bundle.specs.Outcomes.{all_told, no_outcome, outcome_at}
use Rattle.trace_bundle.specs.Ran.{IsFramedRunOf, IsListedRunOf, IsRunOf, IsTalliedRunOf}

outcomes-length : (c : CourseTold) (k : Keep) (n : ℕ) → length (outcomes_before c k n) ≡ n
outcomes-length c k zero = refl
outcomes-length c k (suc n) = omega (arith, length_push (outcomes_before c k n) (outcome_of c k n), outcomes-length c k n)

outcomes-at : (c : CourseTold) (k : Keep) (n s : ℕ) → s < n → get_or (outcomes_before c k n) s no_outcome ≡ outcome_of c k s
outcomes-at c k zero s h = absurd (omega arith)
outcomes-at c k (suc n) s h = elim (cases_lt s n) [
  | inl l ↦ get_or_append_left (outcomes_before c k n) (outcome_of c k n ∷ []) no_outcome s (omega (arith, outcomes-length c k n)) ∙ outcomes-at c k n s l
  | inr m ↦ let same : n ≡ s = omega arith in
      subst (λ (i : ℕ). get_or (outcomes_before c k n ++ outcome_of c k n ∷ []) i no_outcome ≡ outcome_of c k i) same (get_or_push (outcomes_before c k n) (outcome_of c k n) no_outcome n (outcomes-length c k n))
]

held-all : (c : CourseTold) (k : Keep) (xs : List Outcome) → map outcome_told xs ≡ outcomes_before c k (length (segments_in c.plan)) → length (segments_in c.plan) ≤ length xs
held-all c k xs e =
    let n = length (segments_in c.plan) in
    let count : length (map outcome_told xs) ≡ n = ap (λ (ys : List OutcomeTold). length ys) e ∙ outcomes-length c k n in
    omega (arith, count, length-map xs outcome_told)

held-at : (c : CourseTold) (k : Keep) (xs : List Outcome) → map outcome_told xs ≡ outcomes_before c k (length (segments_in c.plan)) → (s : ℕ) → s < length (segments_in c.plan)
    → outcome_at (all_told xs) s ≡ outcome_of c k s
held-at c k xs e s l = ap (λ (ys : List OutcomeTold). outcome_at ys s) e ∙ outcomes-at c k (length (segments_in c.plan)) s l

pub run-of : (c : CourseTold) (k : Keep) (xs : List Outcome) → map outcome_told xs ≡ outcomes_before c k (length (segments_in c.plan))
    → IsRunOf c (length xs) (λ s. (outcome_at (all_told xs) s).kept) (λ s. (outcome_at (all_told xs) s).closing)
run-of c k xs e = record {
  all = held-all c k xs e;
  keep = k;
  kept = λ s l. ap (λ (x : OutcomeTold). x.kept) (held-at c k xs e s l);
  closing = λ s l. ap (λ (x : OutcomeTold). x.closing) (held-at c k xs e s l);
}

-- with the frames, or with their tally, where what is kept of each segment tells them
pub framed-run-of : (c : CourseTold) (k : Keep) (xs : List Outcome) → KeepsFrames k → map outcome_told xs ≡ outcomes_before c k (length (segments_in c.plan))
    → IsFramedRunOf c (length xs) (λ s. (outcome_at (all_told xs) s).kept) (λ s. (outcome_at (all_told xs) s).closing)
unfolding run-of
framed-run-of c k xs keeps e = record { run = run-of c k xs e; frames = keeps }

pub tallied-run-of : (c : CourseTold) (k : Keep) (xs : List Outcome) → KeepsTally k → map outcome_told xs ≡ outcomes_before c k (length (segments_in c.plan))
    → IsTalliedRunOf c (length xs) (λ s. (outcome_at (all_told xs) s).kept) (λ s. (outcome_at (all_told xs) s).closing)
unfolding run-of
tallied-run-of c k xs keeps e = record { run = run-of c k xs e; tally = keeps }

pub listed-run-of : (c : CourseTold) (xs : List Outcome) → map outcome_told xs ≡ outcomes_before c keeping.Entries (length (segments_in c.plan))
    → IsListedRunOf c (length xs) (λ s. (outcome_at (all_told xs) s).kept) (λ s. (outcome_at (all_told xs) s).closing)
listed-run-of c xs e = record {
  all = held-all c keeping.Entries xs e;
  entries = λ s l. ap (λ (x : OutcomeTold). x.kept) (held-at c keeping.Entries xs e s l);
  closing = λ s l. ap (λ (x : OutcomeTold). x.closing) (held-at c keeping.Entries xs e s l);
}

-- a run that holds the entries themselves
pub run-of-listed : (c : CourseTold) (held : ℕ) (kept_of : ℕ → KeptTold) (closing_of : ℕ → Closing) → IsListedRunOf c held kept_of closing_of → IsRunOf c held kept_of closing_of
run-of-listed c held kept_of closing_of run = record { all = run.all; keep = keeping.Entries; kept = run.entries; closing = run.closing }

pub framed-of-listed : (c : CourseTold) (held : ℕ) (kept_of : ℕ → KeptTold) (closing_of : ℕ → Closing) → IsListedRunOf c held kept_of closing_of → IsFramedRunOf c held kept_of closing_of
unfolding run-of-listed
framed-of-listed c held kept_of closing_of run = record { run = run-of-listed c held kept_of closing_of run; frames = tt }
