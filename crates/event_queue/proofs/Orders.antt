-- Lemmas on waiting messages in order of number.
use Rattle.std.proofs.Common.{◌≡◌, ◌≢◌, ℕ, ◌+◌, ◌<◌, Bool, true, false, not, cond, ltb, eqb, List, [], ◌∷◌, length, get_or, refl, sym, ap, arith, inl, inr, suc, zero, filter}
use Rattle.std.specs.Cmp.{IsStrictWeakOrder}
use Rattle.std.specs.List.{AllByRecursion}
use Rattle.std.proofs.lemmas.Bool.{cases_lt, lt-ltb, le-ltb}
use Rattle.std.proofs.lemmas.Bool.Decides.{nat_tests}
use Rattle.std.proofs.lemmas.List.Elements.{All-from_recursion, All-weaker, filter_passes}
use Rattle.market_types.specs.declared.message.Message.{Message}
use Rattle.event_queue.specs.Waiting.{before, IsNew, without, joined}
use Rattle.event_queue.specs.Rising.{IsRising}

-- (time, number) ranks messages
pub before-order : IsStrictWeakOrder before
before-order = record { one_way = λ x y h. grind (arith, nat_tests); chain = λ x y z h k. grind (arith, nat_tests) }

pub each-weaker : (P Q : Message → Type 0) → ((x : Message) → P x → Q x) → (w : List Message) → AllByRecursion P w → AllByRecursion Q w
each-weaker P Q f [] a = tt
each-weaker P Q f (x ∷ w) a = (f x a.0, each-weaker P Q f w a.1)

pub each-filter : (P : Message → Type 0) (p : Message → Bool) (w : List Message) → AllByRecursion P w → AllByRecursion P (filter p w)
each-filter P p [] a = tt
each-filter P p (x ∷ w) a = elim (p x) as (λ b. AllByRecursion P (cond b (x ∷ filter p w) (filter p w))) [ true ↦ (a.0, each-filter P p w a.1) | false ↦ each-filter P p w a.1 ]

pub rising-filter : (p : Message → Bool) (w : List Message) → IsRising w → IsRising (filter p w)
rising-filter p [] r = tt
rising-filter p (x ∷ w) r = elim (p x) as (λ b. IsRising (cond b (x ∷ filter p w) (filter p w))) [ true ↦ (each-filter (λ (y : Message). x.seq < y.seq) p w r.0, rising-filter p w r.1) | false ↦ rising-filter p w r.1 ]

pub each-joined : (P : Message → Type 0) (m : Message) (w : List Message) → P m → AllByRecursion P w → AllByRecursion P (joined m w)
each-joined P m [] p a = (p, tt)
each-joined P m (x ∷ w) p a = elim (ltb m.seq x.seq) as (λ b. AllByRecursion P (cond b (m ∷ (x ∷ w)) (x ∷ joined m w))) [ true ↦ (p, a) | false ↦ (a.0, each-joined P m w p a.1) ]

pub rising-joined : (m : Message) (w : List Message) → AllByRecursion (λ (x : Message). x.seq ≢ m.seq) w → IsRising w → IsRising (joined m w)
rising-joined m [] new r = (tt, tt)
rising-joined m (x ∷ w) new r =
    elim (cases_lt m.seq x.seq) [
      | inl h ↦ rw (lt-ltb m.seq x.seq h) ((h, each-weaker (λ (y : Message). x.seq < y.seq) (λ (y : Message). m.seq < y.seq) (λ y k. omega arith) w r.0), r)
      | inr h ↦ rw (le-ltb m.seq x.seq h) (each-joined (λ (y : Message). x.seq < y.seq) m w (omega (arith, new.0)) r.0, rising-joined m w new.1 r.1)
    ]

-- once a number has left it is new
pub new-without : (n : ℕ) (w : List Message) → IsNew n (without n w)
new-without n w = All-weaker (λ (m : Message). not (eqb m.seq n) ≡ true) (λ (m : Message). m.seq ≢ n) (λ m h. other m.seq h) (without n w) (filter_passes (λ (m : Message). not (eqb m.seq n)) w)
  where
    other : (k : ℕ) → not (eqb k n) ≡ true → k ≢ n
    other k h = grind (arith, nat_tests)

-- a number that no message has takes none out
pub keep_all : (n : ℕ) (w : List Message) → AllByRecursion (λ (x : Message). x.seq ≢ n) w → without n w ≡ w
keep_all n [] a = refl
keep_all n (x ∷ w) a = let e : eqb x.seq n ≡ false = grind (arith, nat_tests, a.0) in rw e (ap (λ r. x ∷ r) (keep_all n w a.1))

-- a message that leaves is one fewer
length_step : (t : Bool) (m x : Message) (w : List Message) → eqb x.seq m.seq ≡ t → AllByRecursion (λ (y : Message). x.seq < y.seq) w → (x.seq ≢ m.seq → length (without m.seq w) + 1 ≡ length w) → length (cond (not t) (x ∷ without m.seq w) (without m.seq w)) + 1 ≡ length (x ∷ w)
length_step true m x w e r h =
    let same : x.seq ≡ m.seq = grind (arith, nat_tests) in
    let kept : without m.seq w ≡ w = keep_all m.seq w (each-weaker (λ (y : Message). x.seq < y.seq) (λ (y : Message). y.seq ≢ m.seq) (λ y l q. absurd (omega arith)) w r) in
    omega (arith, ap length kept)
length_step false m x w e r h =
    let other : x.seq ≢ m.seq = grind (arith, nat_tests) in
    omega (arith, h other)

pub length-without : (m : Message) (w : List Message) → IsRising w → ((P : Message → Type 0) → AllByRecursion P w → P m) → length (without m.seq w) + 1 ≡ length w
length-without m [] r member = absurd (member (λ _. ⊥) tt)
length-without m (x ∷ w) r member =
    length_step (eqb x.seq m.seq) m x w refl r.0
    (λ other. length-without m w r.1
    (λ P a. member (λ (y : Message). y.seq ≢ x.seq → P y) ((λ n. absurd (n refl)), each-weaker P (λ (y : Message). y.seq ≢ x.seq → P y) (λ y p _. p) w a) (λ e. other (sym e))))

-- numbers that rise, by places
pub rising_at : (w : List Message) (j k : ℕ) (d : Message) → IsRising w → j < k → k < length w → (get_or w j d).seq < (get_or w k d).seq
rising_at [] j k d r h l = absurd (omega arith)
rising_at (x ∷ w) j zero d r h l = absurd (omega arith)
rising_at (x ∷ w) zero (suc k) d r h l = All-from_recursion (λ (y : Message). x.seq < y.seq) w r.0 k d (omega arith)
rising_at (x ∷ w) (suc j) (suc k) d r h l = rising_at w j k d r.1 (omega arith) (omega arith)
