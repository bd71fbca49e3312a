-- An entry is of one kind.
use Rattle.std.proofs.Common.{◌≡◌, ◌∙◌, ◌&&◌, Bool, true, false, not, List, ℕ, refl, ap, codes, bytes_eq}
use Rattle.std.specs.Prelude.{◌||◌}
use Rattle.std.specs.Cmp.Lexicographic.{bytes_decides}
use Rattle.toml.specs.Data.{Members}
use Rattle.study_file.specs.Values.{string_at}
use Rattle.study_market.specs.StockRules.{has_bands, has_fees}
use Rattle.study_market.specs.ChangeRules.{is_kind, has_new_rules}
use Rattle.study_market.specs.AgentRules.{has_size, has_guess, has_spans, has_levels, has_own}

other-word : (a b c : List ℕ) → bytes_eq a b ≡ true → bytes_eq b c ≡ false → bytes_eq a c ≡ false
other-word a b c e f = ap (λ (x : List ℕ). bytes_eq x c) ((bytes_decides a b).0 e) ∙ f

only-true : (a : Bool) → (a && true) ≡ a
only-true true = refl
only-true false = refl

-- of four rules, each for a kind of its own

own-first : (n v m k a b c d : Bool) → n ≡ true → v ≡ false → m ≡ false → k ≡ false
    → ((not n || a) && (not v || b) && (not m || c) && (not k || d)) ≡ a
own-first n v m k a b c d e f g h = rw (e, f, g, h) (only-true (a && true && true) ∙ only-true (a && true) ∙ only-true a)

own-second : (n v m k a b c d : Bool) → n ≡ false → v ≡ true → m ≡ false → k ≡ false
    → ((not n || a) && (not v || b) && (not m || c) && (not k || d)) ≡ b
own-second n v m k a b c d e f g h = rw (e, f, g, h) (only-true (b && true) ∙ only-true b)

own-third : (n v m k a b c d : Bool) → n ≡ false → v ≡ false → m ≡ true → k ≡ false
    → ((not n || a) && (not v || b) && (not m || c) && (not k || d)) ≡ c
own-third n v m k a b c d e f g h = rw (e, f, g, h) (only-true c)

own-fourth : (n v m k a b c d : Bool) → n ≡ false → v ≡ false → m ≡ false → k ≡ true
    → ((not n || a) && (not v || b) && (not m || c) && (not k || d)) ≡ d
own-fourth n v m k a b c d e f g h = rw (e, f, g, h) refl

own-none : (n v m k a b c d : Bool) → n ≡ false → v ≡ false → m ≡ false → k ≡ false
    → ((not n || a) && (not v || b) && (not m || c) && (not k || d)) ≡ true
own-none n v m k a b c d e f g h = rw (e, f, g, h) refl

pub noise_own : (t : Members) → is_kind (codes "noise") t ≡ true → has_own t ≡ has_size t
noise_own t e =
    let word = string_at (codes "kind") t in
    own-first (is_kind (codes "noise") t) (is_kind (codes "value") t) (is_kind (codes "momentum") t) (is_kind (codes "maker") t) (has_size t) (has_guess t) (has_spans t) (has_levels t)
    e (other-word word (codes "noise") (codes "value") e refl) (other-word word (codes "noise") (codes "momentum") e refl) (other-word word (codes "noise") (codes "maker") e refl)

pub value_own : (t : Members) → is_kind (codes "noise") t ≡ false → is_kind (codes "value") t ≡ true → has_own t ≡ has_guess t
value_own t e f =
    let word = string_at (codes "kind") t in
    own-second (is_kind (codes "noise") t) (is_kind (codes "value") t) (is_kind (codes "momentum") t) (is_kind (codes "maker") t) (has_size t) (has_guess t) (has_spans t) (has_levels t)
    e f (other-word word (codes "value") (codes "momentum") f refl) (other-word word (codes "value") (codes "maker") f refl)

pub momentum_own : (t : Members) → is_kind (codes "noise") t ≡ false → is_kind (codes "value") t ≡ false → is_kind (codes "momentum") t ≡ true → has_own t ≡ has_spans t
momentum_own t e f g =
    own-third (is_kind (codes "noise") t) (is_kind (codes "value") t) (is_kind (codes "momentum") t) (is_kind (codes "maker") t) (has_size t) (has_guess t) (has_spans t) (has_levels t)
    e f g (other-word (string_at (codes "kind") t) (codes "momentum") (codes "maker") g refl)

pub maker_own : (t : Members) → is_kind (codes "noise") t ≡ false → is_kind (codes "value") t ≡ false → is_kind (codes "momentum") t ≡ false → is_kind (codes "maker") t ≡ true
    → has_own t ≡ has_levels t
maker_own t e f g h =
    own-fourth (is_kind (codes "noise") t) (is_kind (codes "value") t) (is_kind (codes "momentum") t) (is_kind (codes "maker") t) (has_size t) (has_guess t) (has_spans t) (has_levels t) e f g h

pub watcher_own : (t : Members) → is_kind (codes "noise") t ≡ false → is_kind (codes "value") t ≡ false → is_kind (codes "momentum") t ≡ false → is_kind (codes "maker") t ≡ false
    → has_own t ≡ true
watcher_own t e f g h =
    own-none (is_kind (codes "noise") t) (is_kind (codes "value") t) (is_kind (codes "momentum") t) (is_kind (codes "maker") t) (has_size t) (has_guess t) (has_spans t) (has_levels t) e f g h

-- of two rules

pub tick_rules : (t : Members) → is_kind (codes "tick") t ≡ true → has_new_rules t ≡ has_bands t
tick_rules t e =
    let apart : is_kind (codes "fee") t ≡ false = other-word (string_at (codes "kind") t) (codes "tick") (codes "fee") e refl in
    ap (λ (b : Bool). (not b || has_bands t) && (not (is_kind (codes "fee") t) || has_fees t)) e
    ∙ ap (λ (b : Bool). has_bands t && (not b || has_fees t)) apart
    ∙ only-true (has_bands t)

pub fee_rules : (t : Members) → is_kind (codes "tick") t ≡ false → is_kind (codes "fee") t ≡ true → has_new_rules t ≡ has_fees t
fee_rules t e f =
    ap (λ (b : Bool). (not b || has_bands t) && (not (is_kind (codes "fee") t) || has_fees t)) e
    ∙ ap (λ (b : Bool). not b || has_fees t) f

pub no_rules : (t : Members) → is_kind (codes "tick") t ≡ false → is_kind (codes "fee") t ≡ false → has_new_rules t ≡ true
no_rules t e f =
    ap (λ (b : Bool). (not b || has_bands t) && (not (is_kind (codes "fee") t) || has_fees t)) e
    ∙ ap (λ (b : Bool). not b || has_fees t) f
