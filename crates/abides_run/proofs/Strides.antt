-- The stride of an accepted study.
use Rattle.std.proofs.Common.{◌≡◌, ℕ, List, Option, None, Some, Ok, Err, refl, subst}
use Rattle.std.specs.Prelude.{Result}
use Rattle.std.specs.Option.{option_or}
use Rattle.toml.specs.Data.{Members}
use Rattle.fundamental_series.specs.declared.rule.SeriesRow.{SeriesRow}
use Rattle.study_market.specs.declared.early_refusal.Refusal.{Refusal}
use Rattle.study_market.specs.FirstBroken.{first_of_rules}
use Rattle.study_market.specs.FirstOfMarket.{early_refusal, first_broken, last_refusal, late_refusal, series_refusal, tables_of}
use Rattle.study_rules.specs.FirstBroken.{branch_rules}
use Rattle.study_market.specs.Opening.{stride_of}
use Rattle.study_market.proofs.Held.{are-held, both-none}
use Rattle.study_market.proofs.Openings.{limits}
use Rattle.study_rules.specs.Accepted.{StudyTold, first_refusal, rows_in, told_of, study_of}
use Rattle.abides_run.specs.Ranges.{IsStride}

some-rows : (r : Result (List (List SeriesRow)) ℕ) (t : Members)
    → ◌≡◌ {A = Option Refusal} (elim r [ Err number ↦ Some (record { rule = 19; place = number }) | Ok rows ↦ late_refusal t rows ]) None
    → (rows : List (List SeriesRow)) × (r ≡ Ok rows)
some-rows (Ok rows) t h = (rows, refl)
some-rows (Err number) t h = absurd (cc h)

table-stride : (t : Members) (series : Option (List ℕ)) → first_broken t series ≡ None → IsStride (stride_of t)
table-stride t series h =
    let early = both-none (early_refusal t) (option_or (series_refusal t series) (last_refusal t)) h in
    let late = both-none (series_refusal t series) (last_refusal t) early.1 in
    let rows = some-rows (tables_of t series) t late.0 in
    let held = are-held t rows.0 (record { series = series; accepted = h; rows = rows.1 }) in
    let within = (limits t held.limits).1 in
    (within.not_below, within.not_above)

told-stride : (t : Members) (series : Option (List ℕ)) (s : StudyTold) (o : Option Refusal) → first_refusal t series ≡ o
    → ◌≡◌ {A = Result StudyTold Refusal} (elim o [ Some refusal ↦ Err refusal | None ↦ Ok (told_of t (rows_in t series)) ]) (Ok s) → IsStride s.stride
told-stride t series s (Some refusal) none is = absurd (cc is)
told-stride t series s None none is =
    let same : told_of t (rows_in t series) ≡ s = cc is in
    subst (λ (x : StudyTold). IsStride x.stride) same (table-stride t series (both-none (first_broken t series) (first_of_rules branch_rules t) none).0)

pub study-stride : (t : Members) (series : Option (List ℕ)) (s : StudyTold) → study_of t series ≡ Ok s → IsStride s.stride
unfolding study_of
study-stride t series s is = told-stride t series s (first_refusal t series) refl is
