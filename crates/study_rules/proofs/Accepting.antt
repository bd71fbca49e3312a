-- From what the rules say of a study to the study that it says.
use Rattle.std.proofs.Common.{◌≡◌, ◌∙◌, ℕ, List, [], Option, None, Some, Ok, Err, refl, ap}
use Rattle.std.specs.Prelude.{Result, IfErr}
use Rattle.std.specs.Option.{option_or}
use Rattle.std.specs.Result.{result_unwrap_or}
use Rattle.toml.specs.Data.{Members}
use Rattle.fundamental_series.specs.declared.rule.SeriesRow.{SeriesRow}
use Rattle.study_market.specs.declared.early_refusal.Refusal.{Refusal}
use Rattle.study_market.specs.FirstBroken.{first_of_rules}
use Rattle.study_market.specs.FirstOfMarket.{first_broken, tables_of}
use Rattle.study_rules.specs.FirstBroken.{branch_rules}
use Rattle.study_rules.specs.Accepted.{StudyTold, first_refusal, told_of, study_of}

none-after : (o p : Option Refusal) → o ≡ None → p ≡ None → option_or o p ≡ None
none-after None p e f = f
none-after (Some r) p e f = absurd (cc e)

first-told : (o p : Option Refusal) (r : Refusal) → o ≡ Some r → option_or o p ≡ Some r
first-told None p r e = absurd (cc e)
first-told (Some x) p r e = e

second-told : (o p : Option Refusal) (r : Refusal) → o ≡ None → p ≡ Some r → option_or o p ≡ Some r
second-told None p r e f = f
second-told (Some x) p r e f = absurd (cc e)

told-if : (o : Option Refusal) (x : StudyTold) → o ≡ None → ◌≡◌ {A = Result StudyTold Refusal} (elim o [ Some refusal ↦ Err refusal | None ↦ Ok x ]) (Ok x)
told-if None x h = refl
told-if (Some refusal) x h = absurd (cc h)

refused-if : (o : Option Refusal) (x : StudyTold) (r : Refusal) → o ≡ Some r → ◌≡◌ {A = Result StudyTold Refusal} (elim o [ Some refusal ↦ Err refusal | None ↦ Ok x ]) (Err r)
refused-if None x r h = absurd (cc h)
refused-if (Some refusal) x r h = let same : refusal ≡ r = cc h in ap Err same

pub accepted_told : (t : Members) (series : Option (List ℕ)) (tables : List (List SeriesRow)) → first_broken t series ≡ None → first_of_rules branch_rules t ≡ None → tables_of t series ≡ Ok tables
    → study_of t series ≡ Ok (told_of t tables)
unfolding study_of
accepted_told t series tables e b f =
    told-if (first_refusal t series) (told_of t (result_unwrap_or (tables_of t series) [])) (none-after (first_broken t series) (first_of_rules branch_rules t) e b)
    ∙ ap (λ (r : Result (List (List SeriesRow)) ℕ). Ok (told_of t (result_unwrap_or r []))) f

pub refused_told : (t : Members) (series : Option (List ℕ)) (r : Refusal) → first_broken t series ≡ Some r → study_of t series ≡ Err r
unfolding study_of
refused_told t series r e =
    refused-if (first_refusal t series) (told_of t (result_unwrap_or (tables_of t series) [])) r (first-told (first_broken t series) (first_of_rules branch_rules t) r e)

pub branches_refused : (t : Members) (series : Option (List ℕ)) (r : Refusal) → first_broken t series ≡ None → first_of_rules branch_rules t ≡ Some r → study_of t series ≡ Err r
unfolding study_of
branches_refused t series r e b =
    refused-if (first_refusal t series) (told_of t (result_unwrap_or (tables_of t series) [])) r (second-told (first_broken t series) (first_of_rules branch_rules t) r e b)

pub if-err : {A E : Type 0} (r : Result A E) (P Q : E → Type 0) → ((e : E) → P e → Q e) → IfErr r P → IfErr r Q
if-err (Ok a) P Q f h = h
if-err (Err e) P Q f h = f e h
