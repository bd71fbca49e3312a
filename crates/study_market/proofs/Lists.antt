-- Lists of entries, each of which keeps a rule.
use Rattle.std.proofs.Common.{◌≡◌, ◌∙◌, ◌<◌, ◌+◌, nat_lt, Bool, true, false, not, ℕ, suc, List, [], ◌∷◌, length, get_or, map, Option, Some, None, All, unwrap_or, refl, sym, ap, subst, inl, inr, arith}
use Rattle.std.specs.Prelude.{position, ◌||◌, is_some}
use Rattle.std.specs.List.{list_all, list_any, flat_map, position_or_len, enumerate_from, range_with_len}
use Rattle.std.proofs.lemmas.Bool.{and_parts, or_parts, cases_Bool, cases_lt, cond-true, cond-false, lt-ltb, le-ltb, not-false, false≢true}
use Rattle.std.proofs.lemmas.List.{get_or-map, length-map}
use Rattle.std.proofs.lemmas.List.Sums.{fails_before_first, passes_at_first}
use Rattle.std.proofs.lemmas.List.Elements.{All-nil, All-cons, All-append, All-map}
use Rattle.std.proofs.lemmas.List.FromFn.{length-range_with_len, get_or-range_with_len, get_or-enumerate_from}
use Rattle.toml.specs.Data.{Data, Members, no_members, as_table}
use Rattle.toml.specs.View.{view}
use Rattle.toml.specs.declared.value.Value.{Value}
use Rattle.study_file.specs.Keys.{passes}
use Rattle.study_file.specs.Values.{first_failing}
use Rattle.study_market.specs.Entries.{entry_of}

pub position-none : {X : Type 0} (p : X → Bool) (xs : List X) → position p xs ≡ None → All (λ (x : X). p x ≡ false) xs
position-none p xs h =
    elim (cases_lt (position_or_len p xs) (length xs)) [
      | inl less ↦
          let found : position p xs ≡ Some (position_or_len p xs)
          = cond-true (nat_lt (position_or_len p xs) (length xs)) (Some (position_or_len p xs)) None (lt-ltb (position_or_len p xs) (length xs) less) in
          absurd (cc (sym found ∙ h))
      | inr more ↦ λ k d within. fails_before_first p xs k d (omega (arith, more, within))
    ]

pub all-pass : {X : Type 0} (p : X → Bool) (xs : List X) → list_all p xs ≡ true → All (λ (x : X). p x ≡ true) xs
all-pass {X} p [] h = All-nil (λ (x : X). p x ≡ true)
all-pass {X} p (x ∷ xs) h =
    let parts : (p x ≡ true) × (list_all p xs ≡ true) = and_parts (p x) (list_all p xs) h in
    All-cons (λ (y : X). p y ≡ true) x xs parts.0 (all-pass p xs parts.1)

pub any-fails : {X : Type 0} (p : X → Bool) (xs : List X) → list_any p xs ≡ false → All (λ (x : X). p x ≡ false) xs
any-fails {X} p [] h = All-nil (λ (x : X). p x ≡ false)
any-fails {X} p (x ∷ xs) h =
    let parts : (p x ≡ false) × (list_any p xs ≡ false) = or_parts (p x) (list_any p xs) h in
    All-cons (λ (y : X). p y ≡ false) x xs parts.0 (any-fails p xs parts.1)

passing : (test : Members → Bool) (o : Option Members) → passes test o ≡ true → test (unwrap_or o no_members) ≡ true
passing test None h = absurd (cc h)
passing test (Some t) h = h

-- each entry keeps the rule
pub each-passes : (test : Members → Bool) (ds : List Data) → first_failing test ds ≡ None → All (λ (d : Data). passes test (as_table d) ≡ true) ds
each-passes test ds h = λ k d within.
    not-false (passes test (as_table (get_or ds k d))) (position-none (λ (e : Data). not (passes test (as_table e))) ds h k d within)

pub each-kept : (test : Members → Bool) (ds : List Data) → first_failing test ds ≡ None → All (λ (d : Data). test (entry_of d) ≡ true) ds
each-kept test ds h = λ k d within. passing test (as_table (get_or ds k d)) (each-passes test ds h k d within)

-- the same of the values that say the entries
pub value-passes : (test : Members → Bool) (vs : List Value) (i : ℕ) (d : Value) → i < length vs → first_failing test (map view vs) ≡ None
    → passes test (as_table (view (get_or vs i d))) ≡ true
value-passes test vs i d within h =
    subst (λ (e : Data). passes test (as_table e) ≡ true) (get_or-map view vs i d (view d) within)
    (each-passes test (map view vs) h i (view d) (omega (arith, within, length-map vs view)))

no-place : {X : Type 0} (p : X → Bool) (xs : List X) → All (λ (x : X). p x ≡ false) xs → position_or_len p xs < length xs → ⊥
no-place p [] h less = omega (arith, less)
no-place p (x ∷ xs) h less =
    false≢true (sym (h (position_or_len p (x ∷ xs)) x less) ∙ passes_at_first p (x ∷ xs) x less)

all-position : {X : Type 0} (p : X → Bool) (xs : List X) → All (λ (x : X). p x ≡ false) xs → position p xs ≡ None
all-position p xs h =
    elim (cases_lt (position_or_len p xs) (length xs)) [
      | inl less ↦ absurd (no-place p xs h less)
      | inr more ↦ cond-false (nat_lt (position_or_len p xs) (length xs)) (Some (position_or_len p xs)) None (le-ltb (position_or_len p xs) (length xs) more)
    ]

-- an entry that keeps a rule is a table
pub is-entry : (test : Members → Bool) (o : Option Members) → passes test o ≡ true → is_some o ≡ true
is-entry test None h = absurd (cc h)
is-entry test (Some t) h = refl

-- an item with its place
pub numbered : {X : Type 0} (xs : List X) (i : ℕ) (d : ℕ × X) → i < length xs → get_or (enumerate_from 0 xs) i d ≡ (i, get_or xs i d.1)
numbered xs i d h =
    let e : 0 + i ≡ i = omega arith in
    subst (λ (n : ℕ). get_or (enumerate_from 0 xs) i d ≡ (n, get_or xs i d.1)) e (get_or-enumerate_from 0 xs i d h)

pub any-found : {X : Type 0} (p : X → Bool) (xs : List X) → list_any p xs ≡ true → position_or_len p xs < length xs
any-found p [] h = absurd (cc h)
any-found {X} p (x ∷ xs) h =
    elim (cases_Bool (p x)) [
      | inl e ↦ let first : position_or_len p (x ∷ xs) ≡ 0 = rw e refl in omega (arith, first)
      | inr e ↦
          let later : position_or_len p (x ∷ xs) ≡ 1 + position_or_len p xs = rw e refl in
          let rest : list_any p xs ≡ true = ap (λ (b : Bool). b || list_any p xs) (sym e) ∙ h in
          omega (arith, later, any-found p xs rest)
    ]

pub found-place : {X : Type 0} (p : X → Bool) (xs : List X) → list_any p xs ≡ true → unwrap_or (position p xs) 0 < length xs
found-place p xs h =
    let less : position_or_len p xs < length xs = any-found p xs h in
    let found : position p xs ≡ Some (position_or_len p xs)
    = cond-true (nat_lt (position_or_len p xs) (length xs)) (Some (position_or_len p xs)) None (lt-ltb (position_or_len p xs) (length xs) less) in
    rw found less

pub all-flat : {X A : Type 0} (P : A → Type 0) (f : X → List A) (xs : List X) → All (λ (x : X). All P (f x)) xs → All P (flat_map f xs)
all-flat P f [] h = All-nil P
all-flat P f (x ∷ xs) h = All-append P (f x) (flat_map f xs) (h 0 x (omega arith)) (all-flat P f xs (λ k d within. h (suc k) d (omega (arith, within))))

pub all-counted : {A : Type 0} (P : A → Type 0) (f : ℕ → A) (n : ℕ) → ((k : ℕ) → k < n → P (f k)) → All P (map f (range_with_len 0 n))
all-counted P f n h =
    All-map P f (range_with_len 0 n)
    (λ k d within. let few : k < n = omega (arith, within, length-range_with_len 0 n) in
    subst (λ (i : ℕ). P (f i)) (sym (get_or-range_with_len 0 n k d few)) (h (0 + k) (omega (arith, few))))

-- a place is found where some item passes
pub position-any : {X : Type 0} (p : X → Bool) (xs : List X) → is_some (position p xs) ≡ list_any p xs
position-any p xs =
    elim (cases_Bool (list_any p xs)) [
      | inl e ↦
          ap is_some (cond-true (nat_lt (position_or_len p xs) (length xs)) (Some (position_or_len p xs)) None (lt-ltb (position_or_len p xs) (length xs) (any-found p xs e)))
          ∙ sym e
      | inr e ↦ ap is_some (all-position p xs (any-fails p xs e)) ∙ sym e
    ]
