-- The price at which interest crosses.
use Rattle.std.specs.Prelude.{ℕ, ◌+◌, ◌-◌, ◌==◌, ◌&&◌, ◌||◌, min, nat_le, nat_lt, Bool, if◌then◌else◌, List, [], ◌∷◌, Option, None, Some, filter, map, sum_by}
use Rattle.std.specs.List.{best_of}
use Rattle.market_types.specs.declared.order.Side.TheVariants.{Buy, Sell}
use Rattle.market_types.specs.Limits.{highest_price}
use Rattle.market_types.specs.Sides.{is_same_side}
use Rattle.reopen_cross.specs.declared.cross.Interest.{Interest}
use Rattle.reopen_cross.specs.declared.cross.Cross.{Cross}

-- the open shares of orders to buy at a price or above
abbrev pub buys : List Interest → ℕ → ℕ
buys list p = sum_by (λ o. o.left) (filter (λ o. is_same_side o.side Buy && nat_le p o.price) list)

-- those of orders to sell at a price or below
abbrev pub sells : List Interest → ℕ → ℕ
sells list p = sum_by (λ o. o.left) (filter (λ o. is_same_side o.side Sell && nat_le o.price p) list)

-- the shares that would trade at a price
abbrev pub executed : List Interest → ℕ → ℕ
executed list p = min (buys list p) (sells list p)

-- by how many one side has more than the other
abbrev pub surplus : List Interest → ℕ → ℕ
surplus list p = (buys list p - sells list p) + (sells list p - buys list p)

-- more shares trade at a price than at another; or as many, with a lesser surplus; or with as much, and it is lower
abbrev pub is_better : List Interest → ℕ → ℕ → Bool
is_better list p q =
    nat_lt (executed list q) (executed list p)
    || ((executed list q == executed list p)
    && (nat_lt (surplus list p) (surplus list q) || ((surplus list p == surplus list q) && nat_lt p q)))

-- the best of the prices of some orders
abbrev pub best_price : List Interest → List Interest → Option ℕ
best_price list [] = None
best_price list (o ∷ os) = Some (best_of (is_better list) o.price (map (λ x. x.price) os))

-- an order is to sell, and more shares are to be sold up to its price than so many
abbrev pub is_beyond : List Interest → ℕ → Interest → Bool
is_beyond list shares o = is_same_side o.side Sell && nat_lt shares (sells list o.price)

-- the least price of such an order; above all prices where there is none
abbrev pub first_beyond : List Interest → ℕ → List Interest → ℕ
first_beyond list shares [] = highest_price + 1
first_beyond list shares (o ∷ os) =
    if is_beyond list shares o
    then min o.price (first_beyond list shares os)
    else first_beyond list shares os

-- the greatest price up to which no more shares are to be sold than so many
abbrev pub cut_of : List Interest → ℕ → ℕ
cut_of list shares = first_beyond list shares list - 1

-- a price with its certificate
abbrev pub cross_at : List Interest → ℕ → Cross
cross_at list p = record {
  price = p;
  shares = executed list p;
  buys = buys list p;
  sells = sells list p;
  cut = cut_of list (executed list p);
  below = sells list (cut_of list (executed list p));
  above = buys list (cut_of list (executed list p) + 1);
}

-- the cross at a price, if there is one and some shares trade there
abbrev pub cross_where : List Interest → Option ℕ → Option Cross
cross_where list None = None
cross_where list (Some p) = if executed list p == 0 then None else Some (cross_at list p)

-- the cross of a list: at the best of its prices, where some shares trade there
abbrev pub cross_of : List Interest → Option Cross
cross_of list = cross_where list (best_price list list)
