-- A sorted index of the vector of arrival, and orders that change in their places.
use Rattle.std.specs.Prelude.{◌≡◌, ◌<◌, ◌≤◌, ℕ, List, All, length, slice_index_or}
use Rattle.std.specs.Ordering.{nat_cmp}
use Rattle.std.specs.declared.cmp.Ordering.{Ordering}
use Rattle.std.specs.declared.cmp.Ordering.TheVariants.{Less}
use Rattle.price_time_book.specs.declared.resting.Resting.{Resting}
use Rattle.price_time_book.specs.declared.index.ReferenceEntry.{ReferenceEntry}
use Rattle.price_time_book.specs.Indexed.{nothing}

-- entries whose keys rise: each stands for an order of the vector that has its key, and each open order
-- has its entry. An order that has left may have one too.
pub record IsIndex {E K : Type 0} (key : E → K) (place : E → ℕ) (cmp : K → K → Ordering) (of : Resting → K) (os : List Resting) (es : List E) : Type 0 where
  pub rising : (i j : ℕ) (d : E) → i < j → j < length es → cmp (key (slice_index_or es i d)) (key (slice_index_or es j d)) ≡ Less
  pub right : All (λ (e : E). (place e < length os) × (of (slice_index_or os (place e) nothing) ≡ key e)) es
  pub covered : (k : ℕ) → k < length os → 0 < (slice_index_or os k nothing).left → (i : ℕ) × (i < length es) × ((d : E) → place (slice_index_or es i d) ≡ k)

abbrev pub IsByReference : List Resting → List ReferenceEntry → Type 0
IsByReference os es = IsIndex (λ (e : ReferenceEntry). e.reference) (λ (e : ReferenceEntry). e.place) nat_cmp (λ (o : Resting). o.reference) os es

-- an order that became another with the same reference, agent and token, and no more open shares
pub record IsLessened (o x : Resting) : Type 0 where
  pub reference : x.reference ≡ o.reference
  pub agent : x.agent ≡ o.agent
  pub token : x.token ≡ o.token
  pub left : x.left ≤ o.left

-- orders that became such others in their places
pub record AreLessened (os new : List Resting) : Type 0 where
  pub same : length new ≡ length os
  pub each : (k : ℕ) → IsLessened (slice_index_or os k nothing) (slice_index_or new k nothing)
