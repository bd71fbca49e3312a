-- What the levels and the links say of the orders in the vector of arrival.
use Rattle.std.specs.Prelude.{Bool, true, false, ◌≡◌, ◌+◌, ◌*◌, ◌<◌, ◌≤◌, ℕ, ◌==◌, if◌then◌else◌, List, [], ◌∷◌, map, length, All, Contains, slice_index, slice_index_or}
use Rattle.std.specs.List.{AllByRecursion}
use Rattle.market_types.specs.declared.order.Side.{Side}
use Rattle.market_types.specs.declared.order.Side.TheVariants.{Buy, Sell}
use Rattle.price_time_book.specs.declared.resting.Resting.{Resting}
use Rattle.price_time_book.specs.declared.levels.Level.{Level}
use Rattle.price_time_book.specs.declared.levels.Queue.{Queue}
use Rattle.price_time_book.specs.Queues.{queue_of}

-- the orders that are open, in order of arrival: an order at 0 open shares has left
abbrev pub open_orders : List Resting → List Resting
open_orders [] = []
open_orders (o ∷ os) = if o.left == 0 then open_orders os else o ∷ open_orders os

abbrev pub bit : Side → ℕ
bit Buy = 0
bit Sell = 1

abbrev pub hidden_bit : Bool → ℕ
hidden_bit true = 0
hidden_bit false = 1

-- a queue and a price as one number
abbrev pub key : Queue → ℕ → ℕ
key q price = 4 * price + (2 * bit q.side + hidden_bit q.shown)

abbrev pub key_of : Resting → ℕ
key_of o = key (queue_of o) o.price

abbrev pub prices : List Level → List ℕ
prices ls = map (λ (l : Level). l.price) ls

-- a price is worse than another for orders that rest on this side: a lower one to buy, a higher one to sell
abbrev pub IsWorse : Side → ℕ → ℕ → Type 0
IsWorse Buy p q = p < q
IsWorse Sell p q = q < p

-- a price is another, or worse
abbrev pub IsNoBetter : Side → ℕ → ℕ → Type 0
IsNoBetter Buy p q = p ≤ q
IsNoBetter Sell p q = q ≤ p

-- each price is worse than all that follow it
abbrev pub IsImproving : Side → List ℕ → Type 0
IsImproving s [] = Unit {0}
IsImproving s (p ∷ ps) = AllByRecursion (λ (q : ℕ). IsWorse s p q) ps × IsImproving s ps

-- the open shares at a key
abbrev pub shares_by : ℕ → List Resting → ℕ
shares_by p [] = 0
shares_by p (o ∷ os) = (if key_of o == p then o.left else 0) + shares_by p os

abbrev pub nothing : Resting
nothing = record { reference = 0; agent = 0; token = record { 0 = [] }; side = Buy; price = 0; intended = 0; left = 0; tif = 0; shown = false }

-- the order at a place is open and has this key
pub record IsOpenAt (os : List Resting) (p k : ℕ) : Type 0 where
  pub within : k < length os
  pub left : 0 < (slice_index_or os k nothing).left
  pub price : key_of (slice_index_or os k nothing) ≡ p

-- no order from one place up to another is open at this key
pub record IsClear (os : List Resting) (p low high : ℕ) : Type 0 where
  pub closed : (k : ℕ) → low ≤ k → k < high → IsOpenAt os p k → ⊥

-- the order at a place has this key, open or not
pub record IsPlacedAt (os : List Resting) (p k : ℕ) : Type 0 where
  pub within : k < length os
  pub price : key_of (slice_index_or os k nothing) ≡ p

-- no order from one place up to another has this key, open or not
pub record IsFree (os : List Resting) (p low high : ℕ) : Type 0 where
  pub closed : (k : ℕ) → low ≤ k → k < high → IsPlacedAt os p k → ⊥

-- n is the place of the next order with key p after place k, or at most k where there is none
pub record IsLinked (os : List Resting) (p k n : ℕ) : Type 0 where
  pub next : k < n → IsPlacedAt os p n
  pub between : k < n → IsFree os p (k + 1) n
  pub none : n ≤ k → IsFree os p (k + 1) (length os)

-- a level's chain begins no later than its first open order and ends with the last order of its queue and price
pub record IsRight (q : Queue) (os : List Resting) (nexts : List ℕ) (l : Level) : Type 0 where
  pub first : IsPlacedAt os (key q l.price) l.first
  pub before : IsClear os (key q l.price) 0 l.first
  pub last : IsPlacedAt os (key q l.price) l.last
  pub after : IsFree os (key q l.price) (l.last + 1) (length os)
  pub linked : (k : ℕ) → l.first ≤ k → IsPlacedAt os (key q l.price) k → IsLinked os (key q l.price) k (slice_index nexts k)
  pub shares : l.shares ≡ shares_by (key q l.price) (open_orders os)
  pub live : 0 < l.shares

-- the levels of a queue, the best one last, and the links
pub record IsIndexed (q : Queue) (os : List Resting) (nexts : List ℕ) (ls : List Level) : Type 0 where
  pub same : length nexts ≡ length os
  pub rising : IsImproving q.side (prices ls)
  pub right : All (λ (l : Level). IsRight q os nexts l) ls
  pub covered : (p k : ℕ) → IsOpenAt os (key q p) k → Contains (prices ls) p

-- no order has more open shares than an order can have
abbrev pub IsSmall : List Resting → Type 0
IsSmall w = AllByRecursion (λ (o : Resting). o.left ≤ 4294967295) w
