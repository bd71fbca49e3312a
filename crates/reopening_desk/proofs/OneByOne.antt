-- Lemmas on reading records one by one.
use Rattle.std.proofs.Common.{◌≡◌, ◌∙◌, ◌≤◌, ℕ, ◌+◌, ◌++◌, List, [], ◌∷◌, Option, Some, None, Result, Ok, Err, refl, sym, ap, append_assoc, option_map, arith}
use Rattle.std.proofs.lemmas.Option.{none-some, same_Some}
use Rattle.reopen_cross.specs.declared.cross.Interest.{Interest}
use Rattle.reopening_desk.specs.declared.file.OrdersError.TheVariants.{Refused}
use Rattle.reopening_desk.specs.Orders.{before, orders_from, said_by, with_rest}

-- behind no orders
pub nothing-before : (r : Result (List Interest) ℕ) → before [] r ≡ r
nothing-before (Ok more) = refl
nothing-before (Err number) = refl

-- behind some orders and then others
pub twice-before : (a b : List Interest) (r : Result (List Interest) ℕ) → before (a ++ b) r ≡ before a (before b r)
twice-before a b (Ok more) = ap Ok (append_assoc a b more)
twice-before a b (Err number) = refl

goes-on : (number : ℕ) (orders more : List Interest) (o : Option (List Interest)) (r : Result (List Interest) ℕ)
    → option_map (λ xs. orders ++ xs) o ≡ Some more → before orders (with_rest number o r) ≡ before more r
goes-on number orders more None r e = absurd (none-some more e)
goes-on number orders more (Some xs) r e = sym (twice-before orders xs r) ∙ ap (λ ys. before ys r) (same_Some (orders ++ xs) more e)

stops : (number : ℕ) (orders : List Interest) (o : Option (List Interest)) (r : Result (List Interest) ℕ)
    → option_map (λ xs. orders ++ xs) o ≡ None → before orders (with_rest number o r) ≡ Err number
stops number orders None r e = refl
stops number orders (Some xs) r e = absurd (none-some (orders ++ xs) (sym e))

-- a record that is taken
pub taken : (traders number : ℕ) (orders more : List Interest) (fields : List (List ℕ)) (rest : List (List (List ℕ)))
    → option_map (λ xs. orders ++ xs) (said_by traders number fields) ≡ Some more
    → before orders (orders_from traders number (fields ∷ rest)) ≡ before more (orders_from traders (number + 1) rest)
taken traders number orders more fields rest e =
    goes-on number orders more (said_by traders number fields) (orders_from traders (number + 1) rest) e

-- a record that is refused
pub refused : (traders number : ℕ) (orders : List Interest) (fields : List (List ℕ)) (rest : List (List (List ℕ)))
    → option_map (λ xs. orders ++ xs) (said_by traders number fields) ≡ None
    → before orders (orders_from traders number (fields ∷ rest)) ≡ Err number
refused traders number orders fields rest e = stops number orders (said_by traders number fields) (orders_from traders (number + 1) rest) e

-- the record after one that is taken is at most the one after the last that may be
pub low-taken : (traders number : ℕ) (orders more : List Interest) (fields : List (List ℕ))
    → option_map (λ xs. orders ++ xs) (said_by traders number fields) ≡ Some more
    → number + 1 ≤ 16385
low-taken traders number orders more fields e = grind arith

pub same-refusal : (m n : ℕ) → Refused m ≡ Refused n → m ≡ n
same-refusal m n e = cc e
