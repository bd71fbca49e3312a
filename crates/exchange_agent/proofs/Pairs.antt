-- A set of pairs with one more.
use Rattle.std.proofs.Common.{◌≡◌, ◌≤◌, ◌+◌, Bool, true, false, ◌||◌, List, [], ◌∷◌, length, arith, refl}
use Rattle.std.specs.List.{list_any}
use Rattle.std.specs.Ordering.{match_ordering, is_eq}
use Rattle.std.specs.BTreeSet.{insert_key}
use Rattle.std.specs.BTreeMap.{is_at}
use Rattle.std.specs.declared.cmp.Ordering.{Ordering}
use Rattle.std.specs.declared.cmp.Ordering.TheVariants.{Less, Equal, Greater}

step-length : {K : Type 0} (o : Ordering) (k x : K) (xs ys : List K) (found : Bool) → (is_eq o || found) ≡ false → (found ≡ false → length ys ≡ length xs + 1) → length (match_ordering o (k ∷ x ∷ xs) (x ∷ xs) (x ∷ ys)) ≡ length (x ∷ xs) + 1
step-length Less k x xs ys found e h = omega arith
step-length Equal k x xs ys found e h = absurd cc
step-length Greater k x xs ys found e h = omega (arith, h e)

-- a key that is not there yet is one more
pub length-insert_key : {K : Type 0} (cmp : K → K → Ordering) (k : K) (ks : List K) → list_any (is_at (cmp k)) ks ≡ false → length (insert_key cmp ks k) ≡ length ks + 1
length-insert_key cmp k [] e = omega arith
length-insert_key cmp k (x ∷ xs) e = step-length (cmp k x) k x xs (insert_key cmp xs k) (list_any (is_at (cmp k)) xs) e (length-insert_key cmp k xs)

bounds-step : {K : Type 0} (o : Ordering) (k x : K) (xs ys : List K) → (length xs ≤ length ys) × (length ys ≤ length xs + 1) → (length (x ∷ xs) ≤ length (match_ordering o (k ∷ x ∷ xs) (x ∷ xs) (x ∷ ys))) × (length (match_ordering o (k ∷ x ∷ xs) (x ∷ xs) (x ∷ ys)) ≤ length (x ∷ xs) + 1)
bounds-step Less k x xs ys h = omega arith
bounds-step Equal k x xs ys h = omega arith
bounds-step Greater k x xs ys h = omega (arith, h)

-- a key that comes is one more at most
pub bounds-insert_key : {K : Type 0} (cmp : K → K → Ordering) (k : K) (ks : List K) → (length ks ≤ length (insert_key cmp ks k)) × (length (insert_key cmp ks k) ≤ length ks + 1)
bounds-insert_key cmp k [] = omega arith
bounds-insert_key cmp k (x ∷ xs) = bounds-step (cmp k x) k x xs (insert_key cmp xs k) (bounds-insert_key cmp k xs)

pub or-right : (a b : Bool) → b ≡ true → (a || b) ≡ true
or-right true b e = refl
or-right false b e = e

step-or : (a b c : Bool) → (a || b) ≡ true → (b ≡ true → c ≡ true) → (a || c) ≡ true
step-or true b c e h = refl
step-or false b c e h = h e

step-kept : {K : Type 0} (t : K → Bool) (o : Ordering) (k x : K) (xs ys : List K) → (t x || list_any t xs) ≡ true → (list_any t xs ≡ true → list_any t ys ≡ true) → list_any t (match_ordering o (k ∷ x ∷ xs) (x ∷ xs) (x ∷ ys)) ≡ true
step-kept t Less k x xs ys e h = or-right (t k) (t x || list_any t xs) e
step-kept t Equal k x xs ys e h = e
step-kept t Greater k x xs ys e h = step-or (t x) (list_any t xs) (list_any t ys) e h

-- what a test finds among the keys it finds once there is one more
pub any-insert_key : {K : Type 0} (t : K → Bool) (cmp : K → K → Ordering) (k : K) (ks : List K) → list_any t ks ≡ true → list_any t (insert_key cmp ks k) ≡ true
any-insert_key t cmp k [] e = absurd cc
any-insert_key t cmp k (x ∷ xs) e = step-kept t (cmp k x) k x xs (insert_key cmp xs k) e (any-insert_key t cmp k xs)
