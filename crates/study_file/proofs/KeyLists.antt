-- Lemmas on lists of keys.
use Rattle.std.proofs.Common.{◌≡◌, ◌&&◌, not, Bool, true, false, cond, ℕ, suc, ◌+◌, ◌<◌, ◌≤◌, List, [], ◌∷◌, map, refl, ap, arith, ◌∙◌, length, bytes_eq, string_bytes, String, Global, nat_lt, IfSome, Option, None, Some}
use Rattle.std.specs.Prelude.{◌||◌, filter, position}
use Rattle.std.proofs.lemmas.Bool.Decides.{nat_tests}
use Rattle.std.specs.List.{list_all, list_any, prefix_len, position_or_len}
use Rattle.std.specs.Map.{keys_of}
use Rattle.toml.specs.View.{members_view}
use Rattle.toml.specs.declared.value.Value.{Value}
use Rattle.study_file.specs.declared.keys.Key.{Key}
use Rattle.study_file.specs.Keys.{KeyRule, belongs, keys_for, has_no_other}
use Rattle.study_file.specs.KeyRules.{rule_of}

map-cond : {X Y : Type 0} (f : X → Y) (b : Bool) (x : X) (xs : List X)
    → cond b (f x ∷ map f xs) (map f xs) ≡ map f (cond b (x ∷ xs) xs)
map-cond f true x xs = refl
map-cond f false x xs = refl

-- the keys of a table of a kind, as keys of the definitions
pub keys-for : (word : List ℕ) (ks : List Key)
    → keys_for word (map rule_of ks) ≡ map rule_of (filter (λ (k : Key). belongs word (rule_of k)) ks)
keys-for word [] = refl
keys-for word (k ∷ ks) =
    ap (λ zs. cond (belongs word (rule_of k)) (rule_of k ∷ zs) zs) (keys-for word ks)
    ∙ map-cond rule_of (belongs word (rule_of k)) k (filter (λ (x : Key). belongs word (rule_of x)) ks)

prefix-map : {X Y : Type 0} (f : X → Y) (p : Y → Bool) (xs : List X) → prefix_len p (map f xs) ≡ prefix_len (λ x. p (f x)) xs
prefix-map f p [] = refl
prefix-map f p (x ∷ xs) = ap (λ n. cond (p (f x)) (1 + n) 0) (prefix-map f p xs)

pub length-mapped : {X Y : Type 0} (f : X → Y) (xs : List X) → length (map f xs) ≡ length xs
length-mapped f [] = refl
length-mapped f (x ∷ xs) = ap suc (length-mapped f xs)

pub all-map : {X Y : Type 0} (f : X → Y) (p : Y → Bool) (xs : List X) → list_all p (map f xs) ≡ list_all (λ x. p (f x)) xs
all-map f p [] = refl
all-map f p (x ∷ xs) = ap (λ b. p (f x) && b) (all-map f p xs)

pub any-map : {X Y : Type 0} (f : X → Y) (p : Y → Bool) (xs : List X) → list_any p (map f xs) ≡ list_any (λ x. p (f x)) xs
any-map f p [] = refl
any-map f p (x ∷ xs) = ap (λ b. p (f x) || b) (any-map f p xs)

pub position-map : {X Y : Type 0} (f : X → Y) (p : Y → Bool) (xs : List X) → position p (map f xs) ≡ position (λ x. p (f x)) xs
position-map f p xs =
    ap (λ n. cond (nat_lt n (length (map f xs))) (Some n) None) (prefix-map f (λ y. not (p y)) xs)
    ∙ ap (λ m. cond (nat_lt (position_or_len (λ x. p (f x)) xs) m) (Some (position_or_len (λ x. p (f x)) xs)) None) (length-mapped f xs)

below : (b : Bool) (n m : ℕ) → nat_lt n m ≡ b → IfSome (cond b (Some n) None) (λ at. at < m)
below true n m h = grind (arith, nat_tests, h)
below false n m h = tt

pub position-below : {X : Type 0} (p : X → Bool) (xs : List X) → IfSome (position p xs) (λ at. at < length xs)
position-below p xs = below (nat_lt (position_or_len p xs) (length xs)) (position_or_len p xs) (length xs) refl

pub weaker : (r : Option ℕ) (n m : ℕ) → n ≤ m → IfSome r (λ at. at < n) → IfSome r (λ at. at < m)
weaker None n m le h = tt
weaker (Some k) n m le h = omega (arith, h, le)

shorter : {X : Type 0} (b : Bool) (x : X) (xs : List X) (n : ℕ) → length xs ≤ n → length (cond b (x ∷ xs) xs) ≤ suc n
shorter true x xs n h = omega (arith, h)
shorter false x xs n h = omega (arith, h)

filter-shorter : {X : Type 0} (t : X → Bool) (xs : List X) → length (filter t xs) ≤ length xs
filter-shorter t [] = omega arith
filter-shorter t (x ∷ xs) = shorter (t x) x (filter t xs) (length xs) (filter-shorter t xs)

pub position-low : {X : Type 0} (p t : X → Bool) (xs : List X) → IfSome (position p (filter t xs)) (λ at. at < length xs)
position-low p t xs = weaker (position p (filter t xs)) (length (filter t xs)) (length xs) (filter-shorter t xs) (position-below p (filter t xs))

any-rule : (name : List ℕ) (ks : List Key)
    → list_any (λ (k : Key). bytes_eq k.name.now name) ks ≡ list_any (λ (k : KeyRule). bytes_eq k.name name) (map rule_of ks)
any-rule name [] = refl
any-rule name (k ∷ ks) = ap (λ b. bytes_eq k.name.now name || b) (any-rule name ks)

pub no-other : (ks : List Key) (es : List (String Global × Value))
    → list_all (λ (name : String Global). list_any (λ (k : Key). bytes_eq k.name.now (string_bytes name)) ks) (keys_of es)
    ≡ has_no_other (map rule_of ks) (members_view es)
no-other ks [] = refl
no-other ks (e ∷ es) =
    ap (λ b. b && list_all (λ (name : String Global). list_any (λ (k : Key). bytes_eq k.name.now (string_bytes name)) ks) (keys_of es)) (any-rule (string_bytes e.0) ks)
    ∙ ap (λ b. list_any (λ (k : KeyRule). bytes_eq k.name (string_bytes e.0)) (map rule_of ks) && b) (no-other ks es)

-- keys of the code say keys of the definitions
abbrev pub Says : List Key → List KeyRule → Type 0
Says [] [] = Unit {0}
Says [] (r ∷ rs) = ⊥
Says (k ∷ ks) [] = ⊥
Says (k ∷ ks) (r ∷ rs) = (rule_of k ≡ r) × Says ks rs

pub says : (ks : List Key) (rs : List KeyRule) → Says ks rs → map rule_of ks ≡ rs
says [] [] h = refl
says [] (r ∷ rs) h = absurd h
says (k ∷ ks) [] h = absurd h
says (k ∷ ks) (r ∷ rs) h = ap (λ x. x ∷ map rule_of ks) h.0 ∙ ap (λ xs. r ∷ xs) (says ks rs h.1)

pub position-found : {X : Type 0} (p : X → Bool) (xs : List X) (r : Option ℕ) → r ≡ position p xs → IfSome r (λ at. at < length xs)
position-found p xs r e = rw e (position-below p xs)
