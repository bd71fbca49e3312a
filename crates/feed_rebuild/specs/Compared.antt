-- Whether rebuilt books and states are those of a closing.
use Rattle.std.specs.Prelude.{ℕ, ◌==◌, ◌&&◌, ◌||◌, not, nat_lt, Bool, true, if◌then◌else◌, List, [], ◌∷◌, ◌++◌, min, Option, None, Some, option_map, filter, find, map, bytes_eq, zero, suc}
use Rattle.std.specs.List.{list_any}
use Rattle.std.specs.Cmp.Lexicographic.{pointwise}
use Rattle.market_types.specs.Sides.{is_same_side}
use Rattle.feed_rebuild.specs.declared.shown.Shown.{Shown}

-- the same in every field
abbrev pub is_same : Shown → Shown → Bool
is_same a b =
    (a.reference == b.reference) && ((a.stock == b.stock) && (is_same_side a.side b.side && ((a.left == b.left) && (a.price == b.price))))

-- the orders of the first so many stocks, each stock's in the order of the list
abbrev pub by_stock : ℕ → List Shown → List Shown
by_stock zero os = []
by_stock (suc n) os = by_stock n os ++ filter (λ o. o.stock == n) os

-- an order stands among others
abbrev pub is_among : List Shown → Shown → Bool
is_among others o = list_any (is_same o) others

-- an order stands in one list alone, or differs in a field from each of its reference in the other
abbrev pub is_odd_in : List Shown → Shown → Bool
is_odd_in others o = not (is_among others o)

-- the references of the odd ones of a list
abbrev pub odd_in : List Shown → List Shown → List ℕ
odd_in others os = map (λ o. o.reference) (filter (is_odd_in others) os)

-- the references of the odd ones of both
abbrev pub odd_of : List Shown → List Shown → List ℕ
odd_of os live = odd_in live os ++ odd_in os live

-- the lesser of two numbers, or the one that there is
abbrev pub lesser : Option ℕ → Option ℕ → Option ℕ
lesser None b = b
lesser (Some a) None = Some a
lesser (Some a) (Some b) = Some (min a b)

-- the least of some numbers, where there are any
abbrev pub least : List ℕ → Option ℕ
least [] = None
least (n ∷ ns) = lesser (Some n) (least ns)

-- a number, or 0 where there is none
abbrev pub or_zero : Option ℕ → ℕ
or_zero None = 0
or_zero (Some n) = n

-- None exactly where orders, in order, and states are the same; else the least odd reference, or 0 where only the order or a
-- state differs
abbrev pub difference : ℕ → List Shown → List ℕ → List Shown → List ℕ → Option ℕ
difference stocks os states live told =
    if pointwise is_same (by_stock stocks os) live && bytes_eq states told then None else Some (or_zero (least (odd_of os live)))

-- the same for orders alone
abbrev pub order_difference : ℕ → List Shown → List Shown → Option ℕ
order_difference stocks os live = if pointwise is_same (by_stock stocks os) live then None else Some (or_zero (least (odd_of os live)))

-- what tells orders from a list: the least odd reference, else 0 where the list is not grouped
abbrev pub settled : Option ℕ → Bool → Option ℕ
settled (Some n) grouped = Some n
settled None grouped = if grouped then None else Some 0

-- the reference of the first odd one
abbrev pub first_odd : List Shown → List Shown → Option ℕ
first_odd others os = option_map (λ o. o.reference) (find (is_odd_in others) os)

-- an order follows another, or none: of a greater stock, or of the same one with a greater reference
abbrev pub follows : Option Shown → Shown → Bool
follows None b = true
follows (Some a) b = nat_lt a.stock b.stock || ((a.stock == b.stock) && nat_lt a.reference b.reference)

-- orders by stock, and those of a stock by reference
abbrev pub is_grouped : Option Shown → List Shown → Bool
is_grouped before [] = true
is_grouped before (o ∷ os) = follows before o && is_grouped (Some o) os
