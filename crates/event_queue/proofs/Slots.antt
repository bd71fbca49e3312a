-- Lemmas on the heaps' keys and the slots of their messages.
use Rattle.std.proofs.Common.{◌≡◌, ◌≢◌, ℕ, Bool, true, zero, suc, ◌+◌, ◌<◌, ◌≤◌, false, cond, ltb, eqb, List, [], ◌∷◌, ◌++◌, Some, length, length-append, get_or, refl, sym, ap, ◌∙◌, arith, subst, sum_by, All}
use Rattle.std.specs.List.{AllByRecursion}
use Rattle.std.specs.List.Sorted.{IsPermutation}
use Rattle.std.proofs.lemmas.Bool.Decides.{nat_tests}
use Rattle.std.proofs.lemmas.List.{length-map}
use Rattle.std.specs.Ordering.{is_lt}
use Rattle.std.specs.BinaryHeap.{IsUpperBound}
use Rattle.std.proofs.lemmas.List.Elements.{All-from_recursion}
use Rattle.std.proofs.lemmas.List.Recursion.{is_sum_by}
use Rattle.std.proofs.lemmas.List.Sorted.{IsPermutation-map, sum_by-IsPermutation}
use Rattle.market_types.specs.declared.message.Message.{Message}
use Rattle.event_queue.specs.Keys.{AreByKind, Due, Keys, all_of, by_due}
use Rattle.event_queue.specs.Dues.{is_wake, vacant, wakes, message_at, held, times_held, times_free, IsFirst, IsTold, IsSharedOut}
use Rattle.event_queue.specs.Numbered.{by_number, IsApart}
use Rattle.event_queue.specs.Waiting.{before, least, IsNew, joined, without}
use Rattle.event_queue.proofs.Keys.{each_permutation}
use Rattle.event_queue.proofs.Orders.{new-without}
use Rattle.event_queue.proofs.Numbers.{IsPushed, IsPopped, pushed, popped, length-by_number, by_number-permutation, apart-permutation}

-- what a count of none says
other : (a b k : ℕ) → cond (eqb a b) 1 0 + k ≡ 0 → a ≢ b
other a b k h = grind (arith, nat_tests)

rest : (a b k : ℕ) → cond (eqb a b) 1 0 + k ≡ 0 → k ≡ 0
rest a b k h = omega arith

-- a write to a slot that no key names changes no message of a key
held-elsewhere : (old slots : List Message) (at : ℕ) (ds : List Due) → ((n : ℕ) → n ≢ at → get_or slots n vacant ≡ get_or old n vacant) → times_held at ds ≡ 0 → held slots ds ≡ held old ds
held-elsewhere old slots at [] f e = refl
held-elsewhere old slots at (d ∷ ds) f e =
    let here : message_at slots d ≡ message_at old d = f d.slot (other d.slot at (times_held at ds) e) in
    let more : held slots ds ≡ held old ds = held-elsewhere old slots at ds f (rest d.slot at (times_held at ds) e) in
    λ i. here i ∷ more i

told-elsewhere : (old slots : List Message) (at : ℕ) (ds : List Due) → ((n : ℕ) → n ≢ at → get_or slots n vacant ≡ get_or old n vacant) → times_held at ds ≡ 0 → AllByRecursion (IsTold old) ds → AllByRecursion (IsTold slots) ds
told-elsewhere old slots at [] f e a = tt
told-elsewhere old slots at (d ∷ ds) f e a =
    let here : message_at slots d ≡ message_at old d = f d.slot (other d.slot at (times_held at ds) e) in
    ((ap (λ (m : Message). m.time) here ∙ a.0.0, ap (λ (m : Message). m.seq) here ∙ a.0.1), told-elsewhere old slots at ds f (rest d.slot at (times_held at ds) e) a.1)

-- a count forgets the order
held-sum : (n : ℕ) (ds : List Due) → times_held n ds ≡ sum_by (λ (d : Due). cond (eqb d.slot n) 1 0) ds
held-sum n ds = is_sum_by (times_held n) (λ (d : Due). cond (eqb d.slot n) 1 0) refl (λ _ _. refl) ds

times_held-permutation : (n : ℕ) (v w : List Due) → IsPermutation v w → times_held n v ≡ times_held n w
times_held-permutation n v w p = omega (arith, held-sum n v, held-sum n w, sum_by-IsPermutation (λ (d : Due). cond (eqb d.slot n) 1 0) v w p)

held-permutation : (slots : List Message) (v w : List Due) → IsPermutation v w → IsPermutation (held slots v) (held slots w)
held-permutation slots v w p = IsPermutation-map (λ (d : Due). message_at slots d) v w p

-- the order of the keys is that of their messages
due-before : (a b : Message) (d e : Due) → (a.time ≡ d.time) × (a.seq ≡ d.seq) → (b.time ≡ e.time) × (b.seq ≡ e.seq) → is_lt (by_due d e) ≡ false → before b a ≡ false
due-before a b d e s t h = grind (arith, nat_tests, s.0, s.1, t.0, t.1)

bound_messages : (slots : List Message) (d : Due) (ds : List Due) → IsTold slots d → AllByRecursion (IsTold slots) ds → IsUpperBound by_due d ds → AllByRecursion (λ (x : Message). before x (message_at slots d) ≡ false) (held slots ds)
bound_messages slots d [] t ts h = tt
bound_messages slots d (e ∷ ds) t ts h = (due-before (message_at slots d) (message_at slots e) d e t ts.0 h.0, bound_messages slots d ds t ts.1 h.1)

-- vacant slots that are added change no message
pub vacant_last : (slots : List Message) (n : ℕ) → get_or (slots ++ vacant ∷ []) n vacant ≡ get_or slots n vacant
vacant_last [] zero = refl
vacant_last [] (suc n) = refl
vacant_last (m ∷ slots) zero = refl
vacant_last (m ∷ slots) (suc n) = vacant_last slots n

one_more : (n l : ℕ) → cond (ltb n (l + 1)) 1 0 ≡ cond (ltb n l) 1 0 + cond (eqb l n) 1 0
one_more n l = grind (arith, nat_tests)

pub held-same : (old slots : List Message) (ds : List Due) → ((n : ℕ) → get_or slots n vacant ≡ get_or old n vacant) → held slots ds ≡ held old ds
held-same old slots [] f = refl
held-same old slots (d ∷ ds) f =
    let more : held slots ds ≡ held old ds = held-same old slots ds f in
    λ i. f d.slot i ∷ more i

pub told-same : (old slots : List Message) (ds : List Due) → ((n : ℕ) → get_or slots n vacant ≡ get_or old n vacant) → AllByRecursion (IsTold old) ds → AllByRecursion (IsTold slots) ds
told-same old slots [] f a = tt
told-same old slots (d ∷ ds) f a = ((ap (λ (m : Message). m.time) (f d.slot) ∙ a.0.0, ap (λ (m : Message). m.seq) (f d.slot) ∙ a.0.1), told-same old slots ds f a.1)

-- what a message that was written and whose key joined leaves
pub record IsJoined (old slots : List Message) (free : List ℕ) (v w : List Due) (m : Message) : Type 0 where
  pub told : AllByRecursion (IsTold slots) w
  pub shared_out : IsSharedOut slots free w
  pub messages : IsPushed (held old v) (held slots w) m

pub join : (old slots : List Message) (was free : List ℕ) (v w : List Due) (m : Message) (d : Due)
    → IsSharedOut old was v → AllByRecursion (IsTold old) v → IsApart (held old v) → All (λ (x : Message). x.seq ≢ m.seq) (by_number (held old v))
    → (m.time ≡ d.time) × (m.seq ≡ d.seq)
    → message_at slots d ≡ m
    → ((n : ℕ) → n ≢ d.slot → get_or slots n vacant ≡ get_or old n vacant)
    → cond (ltb d.slot (length old)) 1 0 ≤ times_free d.slot was
    → ((n : ℕ) → cond (eqb d.slot n) 1 0 + times_free n free + cond (ltb n (length old)) 1 0 ≡ times_free n was + cond (ltb n (length slots)) 1 0)
    → IsPermutation (d ∷ v) w → IsJoined old slots free v w m
join old slots was free v w m d shared told apart new key written others unheld taken p =
    let none : times_held d.slot v ≡ 0 = omega (arith, shared d.slot, unheld) in
    let same : held slots v ≡ held old v = held-elsewhere old slots d.slot v others none in
    let itself : IsTold slots d = (ap (λ (x : Message). x.time) written ∙ key.0, ap (λ (x : Message). x.seq) written ∙ key.1) in
    let both : message_at slots d ∷ held slots v ≡ m ∷ held old v = λ i. written i ∷ same i in
    let moved = subst (λ (u : List Message). IsPermutation u (held slots w)) both (held-permutation slots (d ∷ v) w p) in
    record {
      told = each_permutation (IsTold slots) (d ∷ v) w p (itself, told-elsewhere old slots d.slot v others none told);
      shared_out = λ n. omega (arith, shared n, taken n, times_held-permutation n (d ∷ v) w p);
      messages = pushed (held old v) (held slots w) m moved new apart;
    }

-- vacant slots were added, each of which is free
pub grown : (old slots : List Message) (was free : List ℕ) (v : List Due) → IsSharedOut old was v
    → ((n : ℕ) → times_free n free + cond (ltb n (length old)) 1 0 ≡ times_free n was + cond (ltb n (length slots)) 1 0) → IsSharedOut slots free v
grown old slots was free v shared added = λ n. omega (arith, shared n, added n)

-- a message was written and its key joined, after vacant slots were added
pub join_grown : (old mid slots : List Message) (was kept free : List ℕ) (v w : List Due) (m : Message) (d : Due)
    → IsSharedOut old was v → AllByRecursion (IsTold old) v → IsApart (held old v) → All (λ (x : Message). x.seq ≢ m.seq) (by_number (held old v))
    → (m.time ≡ d.time) × (m.seq ≡ d.seq)
    → ((n : ℕ) → get_or mid n vacant ≡ get_or old n vacant)
    → ((n : ℕ) → times_free n kept + cond (ltb n (length old)) 1 0 ≡ times_free n was + cond (ltb n (length mid)) 1 0)
    → message_at slots d ≡ m
    → ((n : ℕ) → n ≢ d.slot → get_or slots n vacant ≡ get_or mid n vacant)
    → cond (ltb d.slot (length mid)) 1 0 ≤ times_free d.slot kept
    → ((n : ℕ) → cond (eqb d.slot n) 1 0 + times_free n free + cond (ltb n (length mid)) 1 0 ≡ times_free n kept + cond (ltb n (length slots)) 1 0)
    → IsPermutation (d ∷ v) w → IsJoined old slots free v w m
join_grown old mid slots was kept free v w m d shared told apart new key same added written others unheld taken p =
    let seen : held mid v ≡ held old v = held-same old mid v same in
    let j = join mid slots kept free v w m d (grown old mid was kept v shared added) (told-same old mid v same told) (subst IsApart (sym seen) apart) (subst (λ (u : List Message). All (λ (x : Message). x.seq ≢ m.seq) (by_number u)) (sym seen) new) key written others unheld taken p in
    record {
      told = j.told;
      shared_out = j.shared_out;
      messages = subst (λ (u : List Message). IsPushed u (held slots w) m) seen j.messages;
    }

-- what a key that left leaves
pub record IsLeft (slots : List Message) (free : List ℕ) (v w : List Due) (d : Due) : Type 0 where
  pub within : d.slot < length slots
  pub itself : IsTold slots d
  pub told : AllByRecursion (IsTold slots) w
  pub shared_out : IsSharedOut slots (free ++ d.slot ∷ []) w
  pub messages : IsPopped (held slots v) (held slots w) (message_at slots d)

pub times_free-last : (n k : ℕ) (free : List ℕ) → times_free n (free ++ k ∷ []) ≡ times_free n free + cond (eqb k n) 1 0
times_free-last n k [] = omega arith
times_free-last n k (x ∷ free) = omega (arith, times_free-last n k free)

-- one vacant slot more is free
pub added_one : (n : ℕ) (old slots : List Message) (was free : List ℕ) → times_free n free + cond (ltb n (length old)) 1 0 ≡ times_free n was + cond (ltb n (length slots)) 1 0
    → times_free n (free ++ length slots ∷ []) + cond (ltb n (length old)) 1 0 ≡ times_free n was + cond (ltb n (length (slots ++ vacant ∷ []))) 1 0
added_one n old slots was free h =
    omega (arith, h, times_free-last n (length slots) free, one_more n (length slots), ap {B = ℕ} (λ (k : ℕ). cond (ltb n k) 1 0) (length-append slots (vacant ∷ [])))

-- a free slot that is listed last is listed
last_one : (k t l : ℕ) → cond (ltb k l) 1 0 ≤ t + cond (eqb k k) 1 0
last_one k t l = grind (arith, nat_tests)

pub last_free : (k : ℕ) (free was : List ℕ) (l : ℕ) → was ≡ free ++ k ∷ [] → cond (ltb k l) 1 0 ≤ times_free k was
last_free k free was l e = omega (arith, last_one k (times_free k free) l, times_free-last k k free, ap (times_free k) e)

named_within : (n a b l : ℕ) → cond (eqb n n) 1 0 + a + b ≡ cond (ltb n l) 1 0 → n < l
named_within n a b l h = grind (arith, nat_tests)

pub leave : (slots : List Message) (free : List ℕ) (v w : List Due) (d : Due)
    → IsSharedOut slots free v → AllByRecursion (IsTold slots) v → IsApart (held slots v)
    → IsPermutation v (d ∷ w) → IsUpperBound by_due d w → IsLeft slots free v w d
leave slots free v w d shared told apart p top =
    let tolds = each_permutation (IsTold slots) v (d ∷ w) p told in
    record {
      within = named_within d.slot (times_held d.slot w) (times_free d.slot free) (length slots) (ap (λ k. k + times_free d.slot free) (sym (times_held-permutation d.slot v (d ∷ w) p)) ∙ shared d.slot);
      itself = tolds.0;
      told = tolds.1;
      shared_out = λ n. omega (arith, shared n, times_held-permutation n v (d ∷ w) p, times_free-last n d.slot free);
      messages = popped (held slots v) (held slots w) (message_at slots d) (held-permutation slots v (d ∷ w) p) (bound_messages slots d w tolds.0 tolds.1 top) apart;
    }

-- what the first key at another time leaves, once its message has it too
pub record IsDelayed (old slots : List Message) (free : List ℕ) (v u : List Due) (d : Due) (m : Message) : Type 0 where
  pub told : AllByRecursion (IsTold slots) u
  pub shared_out : IsSharedOut slots free u
  pub apart : IsApart (held slots u)
  pub delayed : by_number (held slots u) ≡ joined m (without (message_at old d).seq (by_number (held old v)))

-- it leaves, and joins again under its number with the slot that it left free
pub delay : (old slots : List Message) (free : List ℕ) (v w u : List Due) (d : Due) (m : Message)
    → IsLeft old free v w d
    → m.seq ≡ (message_at old d).seq
    → get_or slots d.slot vacant ≡ m
    → ((n : ℕ) → n ≢ d.slot → get_or slots n vacant ≡ get_or old n vacant)
    → length slots ≡ length old
    → IsPermutation (record { time = m.time; seq = d.seq; slot = d.slot } ∷ w) u → IsDelayed old slots free v u d m
delay old slots free v w u d m q own written others long p =
    let e : Due = record { time = m.time; seq = d.seq; slot = d.slot } in
    let was = free ++ d.slot ∷ [] in
    let seen = by_number (held old v) in
    let new = subst (λ (n : ℕ). IsNew n (without (message_at old d).seq seen)) (sym own) (new-without (message_at old d).seq seen) in
    let apart = subst (λ (x : List Message). IsNew m.seq x) (sym q.messages.left) new in
    let taken = λ (n : ℕ). free_taken n d.slot (times_free n free) (times_free n was) (length old) (length slots) (times_free-last n d.slot free) long in
    let j = join old slots was free w u m e q.shared_out q.told q.messages.apart apart (refl, own ∙ q.itself.1) written others (last_free d.slot free was (length old) refl) taken p in
    record {
      told = j.told;
      shared_out = j.shared_out;
      apart = j.messages.apart;
      delayed = j.messages.joins ∙ ap (joined m) q.messages.left;
    }
  where
    free_taken : (n k a b l r : ℕ) → b ≡ a + cond (eqb k n) 1 0 → r ≡ l → cond (eqb k n) 1 0 + a + cond (ltb n l) 1 0 ≡ b + cond (ltb n r) 1 0
    free_taken n k a b l r h e = rw e (omega (arith, h))

-- the key that is due first stays
pub peeked : (slots : List Message) (free : List ℕ) (v : List Due) (d : Due) → IsSharedOut slots free v → AllByRecursion (IsTold slots) v → IsApart (held slots v) → IsFirst v d
    → (d.slot < length slots) × (least (by_number (held slots v)) ≡ Some (message_at slots d))
peeked slots free v d shared told apart f =
    let q = leave slots free v f.rest d shared told apart f.split f.first in
    (q.within, q.messages.first)

pub length_seen : (slots : List Message) (v : List Due) → length (by_number (held slots v)) ≡ length v
length_seen slots v = length-by_number (held slots v) ∙ length-map v (λ (d : Due). message_at slots d)

-- the slots that keys name and those that are free are within the row
first_within : (a k l : ℕ) → cond (eqb a a) 1 0 + k ≤ cond (ltb a l) 1 0 → a < l
first_within a k l h = grind (arith, nat_tests)

frees_within : (l : ℕ) (free : List ℕ) → ((n : ℕ) → times_free n free ≤ cond (ltb n l) 1 0) → AllByRecursion (λ (n : ℕ). n < l) free
frees_within l [] h = tt
frees_within l (k ∷ free) h = (first_within k (times_free k free) l (h k), frees_within l free (λ n. omega (arith, h n)))

dues_within : (l : ℕ) (ds : List Due) → ((n : ℕ) → times_held n ds ≤ cond (ltb n l) 1 0) → AllByRecursion (λ (d : Due). d.slot < l) ds
dues_within l [] h = tt
dues_within l (d ∷ ds) h = (first_within d.slot (times_held d.slot ds) l (h d.slot), dues_within l ds (λ n. omega (arith, h n)))

pub free-within : (slots : List Message) (free : List ℕ) (ds : List Due) → IsSharedOut slots free ds → All (λ (n : ℕ). n < length slots) free
free-within slots free ds h = All-from_recursion (λ (n : ℕ). n < length slots) free (frees_within (length slots) free (λ n. omega (arith, h n)))

pub held-within : (slots : List Message) (free : List ℕ) (ds : List Due) → IsSharedOut slots free ds → All (λ (d : Due). d.slot < length slots) ds
held-within slots free ds h = All-from_recursion (λ (d : Due). d.slot < length slots) ds (dues_within (length slots) ds (λ n. omega (arith, h n)))

-- heaps made of the same keys are seen as the same list
pub record IsCopied (slots : List Message) (free : List ℕ) (v w : List Due) : Type 0 where
  pub told : AllByRecursion (IsTold slots) w
  pub shared_out : IsSharedOut slots free w
  pub apart : IsApart (held slots w)
  pub same : by_number (held slots w) ≡ by_number (held slots v)

pub copied : (slots : List Message) (free : List ℕ) (v w : List Due) → IsSharedOut slots free v → AllByRecursion (IsTold slots) v → IsApart (held slots v) → IsPermutation v w → IsCopied slots free v w
copied slots free v w shared told apart p =
    let moved = held-permutation slots v w p in
    record {
      told = each_permutation (IsTold slots) v w p told;
      shared_out = λ n. omega (arith, shared n, times_held-permutation n v w p);
      apart = apart-permutation (held slots v) (held slots w) moved apart;
      same = sym (by_number-permutation (held slots v) (held slots w) moved apart);
    }

-- the keys that name a slot, in two lists
times_held-append : (n : ℕ) (v w : List Due) → times_held n (v ++ w) ≡ times_held n v + times_held n w
times_held-append n [] w = omega arith
times_held-append n (d ∷ v) w = omega (arith, times_held-append n v w)

-- a test of slots that gives the same at each slot that the keys name
kind-elsewhere : (p q : ℕ → Bool) (b : Bool) (at : ℕ) (ds : List Due) → ((n : ℕ) → n ≢ at → q n ≡ p n) → times_held at ds ≡ 0 → AllByRecursion (λ (d : Due). p d.slot ≡ b) ds → AllByRecursion (λ (d : Due). q d.slot ≡ b) ds
kind-elsewhere p q b at [] f e a = tt
kind-elsewhere p q b at (d ∷ ds) f e a = (f d.slot (other d.slot at (times_held at ds) e) ∙ a.0, kind-elsewhere p q b at ds f (rest d.slot at (times_held at ds) e) a.1)

kind-same : (p q : ℕ → Bool) (b : Bool) (ds : List Due) → ((n : ℕ) → q n ≡ p n) → AllByRecursion (λ (d : Due). p d.slot ≡ b) ds → AllByRecursion (λ (d : Due). q d.slot ≡ b) ds
kind-same p q b [] f a = tt
kind-same p q b (d ∷ ds) f a = (f d.slot ∙ a.0, kind-same p q b ds f a.1)

pub kinds-same : (p q : ℕ → Bool) (k : Keys) → ((n : ℕ) → q n ≡ p n) → AreByKind p k → AreByKind q k
kinds-same p q k f a = (kind-same p q false k.others f a.0, kind-same p q true k.wakeups f a.1)

-- a message was written to a slot that no key names, after vacant slots were added
pub kinds_grown : (old mid slots : List Message) (was kept : List ℕ) (k : Keys) (at : ℕ)
    → IsSharedOut old was (all_of k)
    → ((n : ℕ) → get_or mid n vacant ≡ get_or old n vacant)
    → ((n : ℕ) → times_free n kept + cond (ltb n (length old)) 1 0 ≡ times_free n was + cond (ltb n (length mid)) 1 0)
    → ((n : ℕ) → n ≢ at → get_or slots n vacant ≡ get_or mid n vacant)
    → cond (ltb at (length mid)) 1 0 ≤ times_free at kept
    → AreByKind (wakes old) k → AreByKind (wakes slots) k
kinds_grown old mid slots was kept k at shared same added others unheld a =
    let none : times_held at (all_of k) ≡ 0 = omega (arith, shared at, added at, unheld) in
    let both = times_held-append at k.others k.wakeups in
    let f = λ (n : ℕ) (h : n ≢ at). ap (λ (m : Message). is_wake m.body) (others n h) ∙ ap (λ (m : Message). is_wake m.body) (same n) in
    (kind-elsewhere (wakes old) (wakes slots) false at k.others f (omega (arith, none, both)) a.0, kind-elsewhere (wakes old) (wakes slots) true at k.wakeups f (omega (arith, none, both)) a.1)

-- a message was put off in its slot
pub kinds_delayed : (old slots : List Message) (k : Keys) (at time : ℕ)
    → get_or slots at vacant ≡ record (get_or old at vacant) { time = time }
    → ((n : ℕ) → n ≢ at → get_or slots n vacant ≡ get_or old n vacant)
    → AreByKind (wakes old) k → AreByKind (wakes slots) k
kinds_delayed old slots k at time written others a = kinds-same (wakes old) (wakes slots) k (λ n. here n (eqb n at) refl) a
  where
    here : (n : ℕ) (b : Bool) → b ≡ eqb n at → wakes slots n ≡ wakes old n
    here n true e =
        let is : n ≡ at = grind (arith, nat_tests) in
        rw is (ap (λ (m : Message). is_wake m.body) written)
    here n false e =
        let not : n ≢ at = grind (arith, nat_tests) in
        ap (λ (m : Message). is_wake m.body) (others n not)
