-- What the answer tells of a file.
use Rattle.std.proofs.Common.{◌≡◌, ◌∙◌, ◌≤◌, ◌<◌, ℕ, zero, suc, ◌+◌, ◌==◌, ◌++◌, Bool, true, false, if◌then◌else◌, List, [], ◌∷◌, length, get_or, Option, Some, None, Result, Ok, Err, refl, sym, ap, subst, inl, inr, ◌⊎◌, arith}
use Rattle.std.specs.Prelude.{is_some}
use Rattle.std.proofs.lemmas.Bool.Decides.{nat_tests}
use Rattle.std.proofs.lemmas.Option.{none-some, same_Some}
use Rattle.reopen_cross.specs.declared.cross.Interest.{Interest}
use Rattle.reopening_desk.specs.Orders.{is_header, order_in, orders_from, said_by, with_rest}
use Rattle.reopening_desk.specs.Told.{AreSaidBy, IsFirstFaulty}
use Rattle.reopening_desk.proofs.Filed.{adds, err-ok, goes-on, later, none-left}

same-Err : (m n : ℕ) → ◌≡◌ {A = Result (List Interest) ℕ} (Err m) (Err n) → m ≡ n
same-Err m n h = cc h

ok-err : {P : Type 0} (os : List Interest) (n : ℕ) → ◌≡◌ {A = Result (List Interest) ℕ} (Ok os) (Err n) → P
ok-err os n h = absurd (cc h)

-- each of some records says its order, from a number on
record Say (traders number : ℕ) (rs : List (List (List ℕ))) (os : List Interest) : Type 0 where
  count : length rs ≡ length os
  each : (k : ℕ) (d : Interest) → k < length os → order_in traders (number + k) (get_or rs k []) ≡ Some (get_or os k d)

said-at : (traders number : ℕ) (fields : List (List ℕ)) (rest : List (List (List ℕ))) (o : Interest) (more : List Interest)
    → order_in traders number fields ≡ Some o → Say traders (number + 1) rest more
    → (k : ℕ) (d : Interest) → k < length (o ∷ more) → order_in traders (number + k) (get_or (fields ∷ rest) k []) ≡ Some (get_or (o ∷ more) k d)
said-at traders number fields rest o more said behind zero d low =
    subst (λ (n : ℕ). order_in traders n fields ≡ Some o) (omega arith) said
said-at traders number fields rest o more said behind (suc k) d low =
    subst (λ (n : ℕ). order_in traders n (get_or rest k []) ≡ Some (get_or more k d)) (omega arith) (behind.each k d (omega (arith, low)))

one-more : (traders number : ℕ) (fields : List (List ℕ)) (rest : List (List (List ℕ))) (o : Interest) (more : List Interest)
    → order_in traders number fields ≡ Some o → Say traders (number + 1) rest more → Say traders number (fields ∷ rest) (o ∷ more)
one-more traders number fields rest o more said behind =
    record { count = omega (arith, behind.count); each = said-at traders number fields rest o more said behind }

all-say : (traders number : ℕ) (rs : List (List (List ℕ))) (os : List Interest) → 1 ≤ number → orders_from traders number rs ≡ Ok os → Say traders number rs os
all-say traders number [] os some h =
    subst (Say traders number []) (none-left (number == 0) os h) (record { count = refl; each = λ k d low. absurd (omega (arith, low)) })
all-say traders number (fields ∷ rest) os some h =
    let (xs, more, said, left, all) = goes-on number (said_by traders number fields) (orders_from traders (number + 1) rest) os h in
    let (few, o, from, list) = adds traders number fields xs some said in
    let behind = all-say traders (number + 1) rest more (omega arith) left in
    let same : o ∷ more ≡ os = ap (λ (ys : List Interest). ys ++ more) list ∙ all in
    subst (Say traders number (fields ∷ rest)) same (one-more traders number fields rest o more from behind)

item-behind : {X : Type 0} (x : X) (xs : List X) (k : ℕ) (d : X) → get_or (x ∷ xs) (k + 1) d ≡ get_or xs k d
item-behind x xs k d = let next : k + 1 ≡ suc k = omega arith in ap (λ (n : ℕ). get_or (x ∷ xs) n d) next

header-there : (b : Bool) (xs : List Interest) → ◌≡◌ {A = Option (List Interest)} (if b then Some [] else None) (Some xs) → (b ≡ true) × ([] ≡ xs)
header-there true xs h = (refl, same_Some [] xs h)
header-there false xs h = absurd (none-some xs h)

-- the records of a file that is taken say its orders
pub file-is-said : (traders : ℕ) (rs : List (List (List ℕ))) (os : List Interest) → orders_from traders 0 rs ≡ Ok os → AreSaidBy traders rs os
file-is-said traders [] os h = err-ok 0 os h
file-is-said traders (fields ∷ rest) os h =
    let (xs, more, said, left, all) = goes-on 0 (said_by traders 0 fields) (orders_from traders 1 rest) os h in
    let head = header-there (is_header fields) xs said in
    let behind = all-say traders 1 rest more (omega arith) left in
    let same : more ≡ os = ap (λ (ys : List Interest). ys ++ more) head.1 ∙ all in
    subst (AreSaidBy traders (fields ∷ rest)) same (record {
      header = head.0;
      count = omega (arith, behind.count);
      each = λ k d low.
          let number : k + 1 ≡ 1 + k = omega arith in
          ap (order_in traders (k + 1)) (item-behind fields rest k []) ∙ ap (λ (n : ℕ). order_in traders n (get_or rest k [])) number ∙ behind.each k d low;
    })

-- of some records, from a number on, the first that breaks a rule
record Breaks (traders number : ℕ) (rs : List (List (List ℕ))) (n : ℕ) : Type 0 where
  place : ℕ
  number_of_it : n ≡ number + place
  low : place < length rs
  faulty : said_by traders n (get_or rs place []) ≡ None
  earlier : (k : ℕ) → k < place → is_some (said_by traders (number + k) (get_or rs k [])) ≡ true

here-or-later : (number : ℕ) (o : Option (List Interest)) (r : Result (List Interest) ℕ) (n : ℕ) → with_rest number o r ≡ Err n
    → ((o ≡ None) × (number ≡ n)) ⊎ ((is_some o ≡ true) × (r ≡ Err n))
here-or-later number None r n h = inl (refl, same-Err number n h)
here-or-later number (Some xs) (Ok more) n h = ok-err (xs ++ more) n h
here-or-later number (Some xs) (Err m) n h = inr (refl, h)

kept-before : (traders number : ℕ) (fields : List (List ℕ)) (rest : List (List (List ℕ))) (place : ℕ) → is_some (said_by traders number fields) ≡ true
    → ((k : ℕ) → k < place → is_some (said_by traders (number + 1 + k) (get_or rest k [])) ≡ true)
    → (k : ℕ) → k < place + 1 → is_some (said_by traders (number + k) (get_or (fields ∷ rest) k [])) ≡ true
kept-before traders number fields rest place first more zero low =
    let same : number + 0 ≡ number = omega arith in
    ap (λ (n : ℕ). is_some (said_by traders n fields)) same ∙ first
kept-before traders number fields rest place first more (suc k) low =
    let same : number + suc k ≡ number + 1 + k = omega arith in
    ap (λ (n : ℕ). is_some (said_by traders n (get_or rest k []))) same ∙ more k (omega (arith, low))

breaks-later : (traders number : ℕ) (fields : List (List ℕ)) (rest : List (List (List ℕ))) (n : ℕ) → is_some (said_by traders number fields) ≡ true
    → Breaks traders (number + 1) rest n → Breaks traders number (fields ∷ rest) n
breaks-later traders number fields rest n first b = record {
  place = suc b.place;
  number_of_it = omega (arith, b.number_of_it);
  low = omega (arith, b.low);
  faulty = b.faulty;
  earlier = λ k low. kept-before traders number fields rest b.place first b.earlier k (omega (arith, low));
}

breaks-here : (traders number : ℕ) (fields : List (List ℕ)) (rest : List (List (List ℕ))) (n : ℕ) → said_by traders number fields ≡ None → number ≡ n
    → Breaks traders number (fields ∷ rest) n
breaks-here traders number fields rest n none same = record {
  place = 0;
  number_of_it = omega (arith, same);
  low = omega arith;
  faulty = subst (λ (m : ℕ). said_by traders m fields ≡ None) same none;
  earlier = λ k low. absurd (omega (arith, low));
}

taken-at-end : (number n : ℕ) {P : Type 0} → 1 ≤ number → ◌≡◌ {A = Result (List Interest) ℕ} (if number == 0 then Err 0 else Ok []) (Err n) → P
taken-at-end number n some h =
    let first : (number == 0) ≡ false = grind (arith, nat_tests) in
    ok-err [] n (sym (later (number == 0) (Err 0) (Ok []) first) ∙ h)

first-breaks : (traders number : ℕ) (rs : List (List (List ℕ))) (n : ℕ) → 1 ≤ number → orders_from traders number rs ≡ Err n → Breaks traders number rs n
first-breaks traders number [] n some h = taken-at-end number n some h
first-breaks traders number (fields ∷ rest) n some h =
    elim (here-or-later number (said_by traders number fields) (orders_from traders (number + 1) rest) n h) [
      | inl e ↦ breaks-here traders number fields rest n e.0 e.1
      | inr e ↦ breaks-later traders number fields rest n e.0 (first-breaks traders (number + 1) rest n (omega arith) e.1)
    ]

told : (traders : ℕ) (rs : List (List (List ℕ))) (n : ℕ) → Breaks traders 0 rs n → IsFirstFaulty traders rs n
told traders rs n b =
    let place : b.place ≡ n = omega (arith, b.number_of_it) in record {
      earlier = λ k low.
          let same : k ≡ 0 + k = omega arith in
          ap (λ (m : ℕ). is_some (said_by traders m (get_or rs k []))) same ∙ b.earlier k (omega (arith, low, place));
      there = λ some. (omega (arith, b.low, place), subst (λ (m : ℕ). said_by traders n (get_or rs m []) ≡ None) place b.faulty);
      nothing = λ none. absurd (omega (arith, none, b.low));
    }

-- the record that is told is the first that breaks a rule
pub first-faulty-told : (traders : ℕ) (rs : List (List (List ℕ))) (n : ℕ) → orders_from traders 0 rs ≡ Err n → IsFirstFaulty traders rs n
first-faulty-told traders [] n h =
    let zero : 0 ≡ n = same-Err 0 n h in record {
      earlier = λ k low. absurd (omega (arith, low, zero));
      there = λ some. absurd (omega (arith, some));
      nothing = λ none. sym zero;
    }
first-faulty-told traders (fields ∷ rest) n h =
    elim (here-or-later 0 (said_by traders 0 fields) (orders_from traders 1 rest) n h) [
      | inl e ↦ told traders (fields ∷ rest) n (breaks-here traders 0 fields rest n e.0 e.1)
      | inr e ↦ told traders (fields ∷ rest) n (breaks-later traders 0 fields rest n e.0 (first-breaks traders 1 rest n (omega arith) e.1))
    ]
