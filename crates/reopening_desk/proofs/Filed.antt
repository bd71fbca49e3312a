-- What a file says is orders in their ranges, numbered one by one.
use Rattle.std.proofs.Common.{◌≡◌, ◌∙◌, ◌≤◌, ◌<◌, ℕ, ◌+◌, ◌==◌, ◌&&◌, ◌++◌, nat_le, Bool, true, false, if◌then◌else◌, List, [], ◌∷◌, length, Option, Some, None, Result, Ok, Err, refl, sym, ap, subst, option_map, arith}
use Rattle.std.specs.Int.{is_in_range}
use Rattle.std.specs.List.{AllByRecursion}
use Rattle.std.specs.Result.{result_ok}
use Rattle.std.proofs.lemmas.Bool.{false≢true}
use Rattle.std.proofs.lemmas.Bool.Decides.{nat_tests}
use Rattle.std.proofs.lemmas.List.Elements.{All-from_recursion}
use Rattle.std.proofs.lemmas.Option.{none-some, option_and_then_some, same_Some}
use Rattle.market_types.specs.declared.order.Side.{Side}
use Rattle.market_types.specs.declared.error.TypeError.TheVariants.{BadPrice, BadShares}
use Rattle.market_types.specs.Limits.{highest_price}
use Rattle.market_types.specs.Readers.{price_of, shares_of}
use Rattle.reopen_cross.specs.declared.cross.Interest.{Interest}
use Rattle.reopen_cross.specs.Orderly.{IsRising}
use Rattle.study_market.specs.Records.{field_of, records_of}
use Rattle.reopening_desk.specs.Fields.{is_trader, number_in, price_in, shares_in, side_in}
use Rattle.reopening_desk.specs.Orders.{is_header, order_in, order_of, orders_from, orders_of, said_by, with_rest}
use Rattle.reopening_desk.specs.Filed.{AreFiled, AreNumbered}
use Rattle.study_market.proofs.Numbers.{Within, natural-in-range}

-- a displayed order in its ranges, under a number
record IsOrder (n : ℕ) (o : Interest) : Type 0 where
  number : o.reference ≡ n
  shown : o.shown ≡ true
  left : Within 1 999999 o.left
  price : Within 1 highest_price o.price

-- orders in their ranges, numbered from one number on
abbrev Follow : ℕ → List Interest → Type 0
Follow n [] = Unit {0}
Follow n (o ∷ os) = IsOrder n o × Follow (n + 1) os

same-Ok : {T E : Type 0} (x y : T) → ◌≡◌ {A = Result T E} (Ok x) (Ok y) → x ≡ y
same-Ok x y h = cc h

pub err-ok : {T E P : Type 0} (e : E) (x : T) → ◌≡◌ {A = Result T E} (Err e) (Ok x) → P
err-ok e x h = absurd (cc h)

read : {E : Type 0} (b : Bool) (m n : ℕ) (e : E) → result_ok {T = ℕ} {E = E} (if b then Ok m else Err e) ≡ Some n → (b ≡ true) × (m ≡ n)
read true m n e h = (refl, same_Some m n h)
read false m n e h = absurd (none-some n h)

-- a number that is read is in its range
in-range : (low high m n : ℕ) → (is_in_range low high m ≡ true) × (m ≡ n) → Within low high n
in-range low high m n h = subst (Within low high) h.1 (natural-in-range low high m h.0)

shares-within : (text : List ℕ) (n : ℕ) → shares_in text ≡ Some n → Within 1 999999 n
shares-within text n h =
    option_and_then_some (λ m. result_ok (shares_of m)) (number_in 6 text) n h
    (λ m from said. in-range 1 999999 m n (read (is_in_range 1 999999 m) m n BadShares said))

price-within : (text : List ℕ) (n : ℕ) → price_in text ≡ Some n → Within 1 highest_price n
price-within text n h =
    option_and_then_some (λ m. result_ok (price_of m)) (number_in 10 text) n h
    (λ m from said. in-range 1 highest_price m n (read (is_in_range 1 1999999900 m) m n BadPrice said))

is-order : (number : ℕ) (side : Option Side) (shares price : Option ℕ) (o : Interest)
    → ((n : ℕ) → shares ≡ Some n → Within 1 999999 n) → ((n : ℕ) → price ≡ Some n → Within 1 highest_price n)
    → order_of number side shares price ≡ Some o → IsOrder number o
is-order number (Some side) (Some n) (Some p) o size dear h =
    subst (IsOrder number) (same_Some (record { reference = number; side = side; price = p; left = n; shown = true }) o h)
    (record { number = refl; shown = refl; left = size n refl; price = dear p refl })
is-order number (Some side) (Some n) None o size dear h = absurd (none-some o h)
is-order number (Some side) None price o size dear h = absurd (none-some o h)
is-order number None shares price o size dear h = absurd (none-some o h)

chosen : {X : Type 0} (b : Bool) (o : Option X) (x : X) → (if b then o else None) ≡ Some x → (b ≡ true) × (o ≡ Some x)
chosen true o x h = (refl, h)
chosen false o x h = absurd (none-some x h)

order-said : (traders number : ℕ) (fields : List (List ℕ)) (o : Interest) → order_in traders number fields ≡ Some o → IsOrder number o
order-said traders number fields o h =
    let said = chosen ((length fields == 4) && is_trader traders (field_of fields 0))
    (order_of number (side_in (field_of fields 1)) (shares_in (field_of fields 2)) (price_in (field_of fields 3))) o h in
    is-order number (side_in (field_of fields 1)) (shares_in (field_of fields 2)) (price_in (field_of fields 3)) o
    (shares-within (field_of fields 2)) (price-within (field_of fields 3)) said.1

one : (o : Option Interest) (xs : List Interest) → option_map (λ x. x ∷ []) o ≡ Some xs → (x : Interest) × (o ≡ Some x) × (x ∷ [] ≡ xs)
one None xs h = absurd (none-some xs h)
one (Some x) xs h = (x, refl, same_Some (x ∷ []) xs h)

pub later : {X : Type 0} (b : Bool) (x y : X) → b ≡ false → (if b then x else y) ≡ y
later true x y h = absurd (false≢true (sym h))
later false x y h = refl

-- a record after the header says one order
pub adds : (traders number : ℕ) (fields : List (List ℕ)) (xs : List Interest) → 1 ≤ number → said_by traders number fields ≡ Some xs
    → (number ≤ 16384) × (o : Interest) × (order_in traders number fields ≡ Some o) × (o ∷ [] ≡ xs)
adds traders number fields xs some h =
    let first : (number == 0) ≡ false = grind (arith, nat_tests) in
    let header : Option (List Interest) = if is_header fields then Some [] else None in
    let own : Option (List Interest) = option_map (λ o. o ∷ []) (order_in traders number fields) in
    let said : (if nat_le number 16384 then own else None) ≡ Some xs
    = sym (later (number == 0) header (if nat_le number 16384 then own else None) first) ∙ h in
    let few = chosen (nat_le number 16384) own xs said in
    let test : nat_le number 16384 ≡ true = few.0 in
    let (o, from, list) = one (order_in traders number fields) xs few.1 in
    (grind (arith, nat_tests, test), o, from, list)

pub goes-on : (number : ℕ) (o : Option (List Interest)) (r : Result (List Interest) ℕ) (os : List Interest) → with_rest number o r ≡ Ok os
    → (xs : List Interest) × (more : List Interest) × (o ≡ Some xs) × (r ≡ Ok more) × (xs ++ more ≡ os)
goes-on number None r os h = err-ok number os h
goes-on number (Some xs) (Ok more) os h = (xs, more, refl, refl, same-Ok (xs ++ more) os h)
goes-on number (Some xs) (Err n) os h = err-ok n os h

pub none-left : (b : Bool) (os : List Interest) → ◌≡◌ {A = Result (List Interest) ℕ} (if b then Err 0 else Ok []) (Ok os) → [] ≡ os
none-left true os h = err-ok 0 os h
none-left false os h = same-Ok [] os h

-- the records from a number on say as many orders, numbered as they
follow : (traders number : ℕ) (rs : List (List (List ℕ))) (os : List Interest) → 1 ≤ number → number ≤ 16385 → orders_from traders number rs ≡ Ok os
    → Follow number os × (length os + number ≤ 16385)
follow traders number [] os some low h =
    let none : [] ≡ os = none-left (number == 0) os h in
    subst (λ (xs : List Interest). Follow number xs × (length xs + number ≤ 16385)) none (tt, omega (arith, low))
follow traders number (fields ∷ rest) os some low h =
    let (xs, more, said, left, all) = goes-on number (said_by traders number fields) (orders_from traders (number + 1) rest) os h in
    let (few, o, from, list) = adds traders number fields xs some said in
    let behind = follow traders (number + 1) rest more (omega arith) (omega (arith, few)) left in
    let same : o ∷ more ≡ os = ap (λ (ys : List Interest). ys ++ more) list ∙ all in
    subst (λ (ys : List Interest). Follow number ys × (length ys + number ≤ 16385)) same
    ((order-said traders number fields o from, behind.0), omega (arith, behind.1))

header-adds : (b : Bool) (xs : List Interest) → ◌≡◌ {A = Option (List Interest)} (if b then Some [] else None) (Some xs) → [] ≡ xs
header-adds true xs h = same_Some [] xs h
header-adds false xs h = absurd (none-some xs h)

-- all records, the header first
all-follow : (traders : ℕ) (rs : List (List (List ℕ))) (os : List Interest) → orders_from traders 0 rs ≡ Ok os → Follow 1 os × (length os ≤ 16384)
all-follow traders [] os h = err-ok 0 os h
all-follow traders (fields ∷ rest) os h =
    let (xs, more, said, left, all) = goes-on 0 (said_by traders 0 fields) (orders_from traders 1 rest) os h in
    let none : [] ≡ xs = header-adds (is_header fields) xs said in
    let behind = follow traders 1 rest more (omega arith) (omega arith) left in
    let same : more ≡ os = ap (λ (ys : List Interest). ys ++ more) none ∙ all in
    subst (λ (ys : List Interest). Follow 1 ys × (length ys ≤ 16384)) same (behind.0, omega (arith, behind.1))

each : (P : Interest → Type 0) → ((n : ℕ) (o : Interest) → IsOrder n o → P o) → (n : ℕ) (os : List Interest) → Follow n os → AllByRecursion P os
each P holds n [] h = tt
each P holds n (o ∷ os) h = (holds n o h.0, each P holds (n + 1) os h.1)

numbered : (n : ℕ) (os : List Interest) → Follow n os → AreNumbered n os
numbered n [] h = tt
numbered n (o ∷ os) h = (h.0.number, numbered (n + 1) os h.1)

pub above : (m n : ℕ) (os : List Interest) → m < n → AreNumbered n os → AllByRecursion (λ (o : Interest). m < o.reference) os
above m n [] less h = tt
above m n (o ∷ os) less h = (omega (arith, less, h.0), above m (n + 1) os (omega (arith, less)) h.1)

pub rising : (n : ℕ) (os : List Interest) → AreNumbered n os → IsRising os
rising n [] h = tt
rising n (o ∷ os) h = (above o.reference (n + 1) os (omega (arith, h.0)) h.1, rising (n + 1) os h.1)

are-filed : (os : List Interest) → Follow 1 os → length os ≤ 16384 → AreFiled os
are-filed os h few = record {
  few = few;
  numbered = numbered 1 os h;
  shown = All-from_recursion (λ (o : Interest). o.shown ≡ true) os (each (λ (o : Interest). o.shown ≡ true) (λ n o i. i.shown) 1 os h);
  interests = record {
    few = omega (arith, few);
    rising = rising 1 os (numbered 1 os h);
    some = All-from_recursion (λ (o : Interest). 1 ≤ o.left) os (each (λ (o : Interest). 1 ≤ o.left) (λ n o i. i.left.not_below) 1 os h);
    small = All-from_recursion (λ (o : Interest). o.left ≤ 999999) os (each (λ (o : Interest). o.left ≤ 999999) (λ n o i. i.left.not_above) 1 os h);
    priced = All-from_recursion (λ (o : Interest). 1 ≤ o.price) os (each (λ (o : Interest). 1 ≤ o.price) (λ n o i. i.price.not_below) 1 os h);
    within = All-from_recursion (λ (o : Interest). o.price ≤ highest_price) os (each (λ (o : Interest). o.price ≤ highest_price) (λ n o i. i.price.not_above) 1 os h);
  };
}

-- what a file says is orders in their ranges, numbered 1, 2, 3 and so on
pub file-says : (traders : ℕ) (text : List ℕ) (os : List Interest) → orders_of traders text ≡ Ok os → AreFiled os
file-says traders text os h =
    let all = all-follow traders (records_of text) os h in are-filed os all.0 all.1
