-- Lemmas on the values of a rule.
use Rattle.std.proofs.Common.{◌≡◌, ℕ, suc, zero, ◌+◌, ◌-◌, ◌<◌, ◌≤◌, List, [], ◌∷◌, ◌++◌, length, ap, ◌∙◌, arith, inl, inr, add-one, length-append, ◌/◌, ◌^◌}
use Rattle.std.specs.Prelude.{min}
use Rattle.std.proofs.Math.Nat.{div-mul-le_self}
use Rattle.std.proofs.lemmas.Bool.{cases_lt}
use Rattle.std.proofs.lemmas.Nat.{le-div}
use Rattle.std.proofs.lemmas.List.{get_or_append_left, get_or_push}
use Rattle.std.specs.Prelude.{ℤ, pos, negsuc, ◌+ℤ◌, ◌-ℤ◌, ◌*ℤ◌}
use Rattle.draw_streams.specs.Centred.{centred_of}
use Rattle.draw_streams.specs.Draw.{draw_of}
use Rattle.fundamental_series.specs.declared.rule.SeriesRule.{SeriesRule}
use Rattle.fundamental_series.specs.Ranges.{IsPrice}
use Rattle.fundamental_series.specs.Table.{IsTable}
use Rattle.fundamental_series.specs.Value.{clamped, floor_of, stepped, value_after}

-- one step more
pub value_more : (key : List ℕ) (stock : ℕ) (rule : SeriesRule) (n : ℕ) → value_after key stock rule (n + 1) ≡ stepped rule (value_after key stock rule n) (draw_of key (2 ^ 33 + stock) n)
value_more key stock rule n = ap (value_after key stock rule) (add-one n)

-- the next value at the end of a table
pub table-push : (key : List ℕ) (stock : ℕ) (rule : SeriesRule) (values : List ℕ) (v : ℕ) → IsTable key stock rule values → v ≡ value_after key stock rule (length values) → IsTable key stock rule (values ++ v ∷ [])
table-push key stock rule values v t e k h =
    elim (cases_lt k (length values)) [
      | inl less ↦ get_or_append_left values (v ∷ []) 0 k less ∙ t k less
      | inr more ↦ (let same : length values ≡ k = omega (arith, length-append values (v ∷ [])) in get_or_push values v 0 k same ∙ e ∙ ap (value_after key stock rule) same)
    ]

-- the step of a time is one of the table
pub within_table : (time close start every long n : ℕ) → 1 ≤ every → long ≡ (close - start) / every + 1 → n ≡ min time close - start → n / every < long
within_table time close start every long n some is same =
    omega (arith, le-div (n / every) (close - start) every (omega arith) (omega (arith, div-mul-le_self n every)))

clamped_price : (z : ℤ) → IsPrice (clamped z)
clamped_price (pos n) = record { low = omega arith; high = omega arith }
clamped_price (negsuc n) = record { low = omega arith; high = omega arith }

-- each value of a rule is a price
pub value_price : (key : List ℕ) (stock : ℕ) (rule : SeriesRule) → IsPrice rule.start → (n : ℕ) → IsPrice (value_after key stock rule n)
value_price key stock rule h zero = h
value_price key stock rule h (suc n) =
    clamped_price (pos (value_after key stock rule n) +ℤ floor_of (pos rule.pull *ℤ (pos rule.mean -ℤ pos (value_after key stock rule n))) 1000000 +ℤ centred_of (draw_of key (2 ^ 33 + stock) n) rule.shock)
