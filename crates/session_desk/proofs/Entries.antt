-- Entries that say acts, and those that don't.
use Rattle.std.proofs.Common.{◌≡◌, ◌∙◌, ◌<◌, nat_lt, Bool, true, false, not, ℕ, zero, suc, List, [], ◌∷◌, length, get_or, Option, Some, None, All, unwrap_or, refl, sym, ap, arith}
use Rattle.std.specs.Prelude.{position, is_some}
use Rattle.std.specs.List.{filter_map, cons_option, position_or_len}
use Rattle.std.proofs.lemmas.Bool.Decides.{nat_tests}
use Rattle.std.proofs.lemmas.List.Sums.{fails_before_first, passes_at_first}
use Rattle.toml.specs.Data.{Data, Members, no_members, as_table}
use Rattle.study_file.specs.Keys.{passes}
use Rattle.study_file.specs.Values.{first_failing}
use Rattle.study_market.proofs.Lists.{position-none}
use Rattle.study_rules.specs.Entries.{entry_of}
use Rattle.study_rules.specs.Scope.{Scope}
use Rattle.session_desk.specs.declared.act.Act.{Act}
use Rattle.session_desk.specs.Acts.{act_in, is_act}
use Rattle.study_rules.proofs.Tests.{not-true}
use Rattle.study_rules.proofs.Beside.{not-false}
use Rattle.study_rules.proofs.OpeningScopes.{found-if}

-- an entry that is no table says no act
entry-says : (scope : Scope) (o : Option Members) → passes (is_act scope) o ≡ is_act scope (unwrap_or o no_members)
entry-says scope None = refl
entry-says scope (Some t) = refl

pub says : (scope : Scope) (d : Data) → passes (is_act scope) (as_table d) ≡ is_act scope (entry_of d)
says scope d = entry-says scope (as_table d)

pub none-said : (o : Option Act) → is_some o ≡ false → o ≡ None
none-said None h = refl
none-said (Some a) h = absurd (cc h)

-- where no entry fails, each says an act
pub each-says : (scope : Scope) (ds : List Data) → first_failing (is_act scope) ds ≡ None → All (λ (d : Data). is_act scope (entry_of d) ≡ true) ds
each-says scope ds h = λ k d within.
    sym (says scope (get_or ds k d))
    ∙ not-false (passes (is_act scope) (as_table (get_or ds k d))) (position-none (λ (e : Data). not (passes (is_act scope) (as_table e))) ds h k d within)

pub first-place : {X : Type 0} (p : X → Bool) (xs : List X) (at : ℕ) → position p xs ≡ Some at → (at < length xs) × (position_or_len p xs ≡ at)
first-place p xs at h =
    let found = found-if (nat_lt (position_or_len p xs) (length xs)) (position_or_len p xs) at h in
    let less : at < length xs = grind (arith, nat_tests, found.0, found.1) in
    (less, found.1)

-- the first that fails says none, and those before it say one
pub first-says : (scope : Scope) (ds : List Data) (n : ℕ) → first_failing (is_act scope) ds ≡ Some n
    → (n < length ds) × (((d : Data) → act_in scope (entry_of (get_or ds n d)) ≡ None) × ((k : ℕ) (d : Data) → k < n → is_act scope (entry_of (get_or ds k d)) ≡ true))
first-says scope ds n h =
    let p : Data → Bool = λ e. not (passes (is_act scope) (as_table e)) in
    let found = first-place p ds n h in
    let less : n < length ds = found.0 in
    let is : position_or_len p ds ≡ n = found.1 in (
      less,
      (
        (λ d. none-said (act_in scope (entry_of (get_or ds n d)))
            (sym (says scope (get_or ds n d)) ∙ not-true (passes (is_act scope) (as_table (get_or ds n d)))
            (ap (λ i. p (get_or ds i d)) (sym is) ∙ passes_at_first p ds d (omega (arith, less, is))))),
        (λ k d below. sym (says scope (get_or ds k d)) ∙ not-false (passes (is_act scope) (as_table (get_or ds k d))) (fails_before_first p ds k d (omega (arith, below, is)))),
      ),
    )

-- the acts of entries each of which says one
pub record Said {X Y : Type 0} (f : X → Option Y) (xs : List X) (ys : List Y) : Type 0 where
  pub count : length ys ≡ length xs
  pub each : (k : ℕ) (x : X) (y : Y) → k < length xs → f (get_or xs k x) ≡ Some (get_or ys k y)

said-at : {X Y : Type 0} (f : X → Option Y) (x : X) (y : Y) (xs : List X) (ys : List Y) → f x ≡ Some y → Said f xs ys
    → (k : ℕ) (d : X) (e : Y) → k < suc (length xs) → f (get_or (x ∷ xs) k d) ≡ Some (get_or (y ∷ ys) k e)
said-at f x y xs ys is more zero d e within = is
said-at f x y xs ys is more (suc k) d e within = more.each k d e (omega (arith, within))

said-more : {X Y : Type 0} (f : X → Option Y) (x : X) (xs : List X) (ys : List Y) (o : Option Y) → f x ≡ o → is_some o ≡ true → Said f xs ys
    → Said f (x ∷ xs) (cons_option o ys)
said-more f x xs ys None e h more = absurd (cc h)
said-more f x xs ys (Some y) e h more = record { count = ap suc more.count; each = said-at f x y xs ys e more }

pub all-said : {X Y : Type 0} (f : X → Option Y) (xs : List X) → All (λ (x : X). is_some (f x) ≡ true) xs → Said f xs (filter_map f xs)
all-said f [] h = record { count = refl; each = λ k x y within. absurd (omega (arith, within)) }
all-said f (x ∷ xs) h =
    said-more f x xs (filter_map f xs) (f x) refl (h 0 x (omega arith)) (all-said f xs (λ k d within. h (suc k) d (omega (arith, within))))
