-- The tokens that traders give may stand in a token's field.
use Rattle.std.proofs.Common.{◌≡◌, ◌∙◌, ℕ, zero, suc, ◌+◌, ◌/◌, ◌%◌, true, ◌&&◌, List, [], ◌∷◌, ◌++◌, length, length-append, drop, refl, ap, sym, subst, arith}
use Rattle.std.specs.Prelude.{nat_lt, ◌==◌}
use Rattle.std.specs.Char.{is_ascii_alphanumeric}
use Rattle.std.specs.List.{list_all, prefix_len}
use Rattle.std.proofs.lemmas.Bool.{and_from, and_parts, eq-eqb, lt-ltb}
use Rattle.std.proofs.lemmas.Bool.Decides.{nat_tests}
use Rattle.std.proofs.lemmas.List.{drop_all}
use Rattle.std.proofs.lemmas.List.Folds.{list_all-append}
use Rattle.market_types.specs.declared.order.Token.{Token}
use Rattle.wire_fields.specs.declared.kind.Kind.TheVariants.{Alphanumeric}
use Rattle.wire_fields.specs.Kinds.{is_filled, is_good}
use Rattle.wire_fields.specs.Values.{bytes, is_in_range}
use Rattle.agent_shell.specs.Tokens.{IsGiven, digits, token_of}
use Rattle.market_laws.specs.Texts.{IsToken}

digit-in : (n : ℕ) → is_ascii_alphanumeric (48 + n % 10) ≡ true
digit-in n = grind (arith, nat_tests)

digits-in : (places number : ℕ) → list_all is_ascii_alphanumeric (digits places number) ≡ true
digits-in zero number = refl
digits-in (suc n) number =
    list_all-append is_ascii_alphanumeric (digits n (number / 10)) ((48 + number % 10) ∷ [])
    ∙ and_from (list_all is_ascii_alphanumeric (digits n (number / 10))) (is_ascii_alphanumeric (48 + number % 10) && true) (digits-in n (number / 10))
    (and_from (is_ascii_alphanumeric (48 + number % 10)) true (digit-in number) refl)

digits-length : (places number : ℕ) → length (digits places number) ≡ places
digits-length zero number = refl
digits-length (suc n) number = omega (arith, length-append (digits n (number / 10)) ((48 + number % 10) ∷ []), digits-length n (number / 10))

below : (b : ℕ) → is_ascii_alphanumeric b ≡ true → nat_lt b 256 ≡ true
below b h = grind (arith, nat_tests)

all-below : (bs : List ℕ) → list_all is_ascii_alphanumeric bs ≡ true → list_all (λ b. nat_lt b 256) bs ≡ true
all-below [] h = refl
all-below (b ∷ bs) h =
    let parts = and_parts (is_ascii_alphanumeric b) (list_all is_ascii_alphanumeric bs) h in
    and_from (nat_lt b 256) (list_all (λ x. nat_lt x 256) bs) (below b parts.0) (all-below bs parts.1)

whole-prefix : (bs : List ℕ) → list_all is_ascii_alphanumeric bs ≡ true → prefix_len is_ascii_alphanumeric bs ≡ length bs
whole-prefix [] h = refl
whole-prefix (b ∷ bs) h =
    let parts = and_parts (is_ascii_alphanumeric b) (list_all is_ascii_alphanumeric bs) h in
    rw parts.0 (omega (arith, whole-prefix bs parts.1))

no-rest : (n : ℕ) (bs : List ℕ) → n ≡ length bs → list_all (λ b. b == 32) (drop n bs) ≡ true
no-rest n bs e = ap (λ (xs : List ℕ). list_all (λ b. b == 32) xs) (drop_all n bs (omega (arith, e)))

filled : (bs : List ℕ) → length bs ≡ 14 → list_all is_ascii_alphanumeric bs ≡ true → is_filled is_ascii_alphanumeric bs ≡ true
filled bs long h =
    let n = prefix_len is_ascii_alphanumeric bs in
    let e = whole-prefix bs h in
    and_from (nat_lt 0 n) (list_all (λ b. b == 32) (drop n bs)) (lt-ltb 0 n (omega (arith, e, long))) (no-rest n bs e)

good : (bs : List ℕ) → is_filled is_ascii_alphanumeric bs ≡ true → is_good (Alphanumeric 14) bs ≡ true
unfolding is_good
good bs h = h

fourteen-in : (bs : List ℕ) → length bs ≡ 14 → list_all is_ascii_alphanumeric bs ≡ true → is_in_range (Alphanumeric 14) (bytes bs) ≡ true
unfolding is_in_range
fourteen-in bs long h =
    and_from (length bs == 14) (is_good (Alphanumeric 14) bs && list_all (λ b. nat_lt b 256) bs) (eq-eqb (length bs) 14 long)
    (and_from (is_good (Alphanumeric 14) bs) (list_all (λ b. nat_lt b 256) bs) (good bs (filled bs long h)) (all-below bs h))

-- whatever the agent and the number are
pub token-in : (agent n : ℕ) → IsToken (token_of agent n)
token-in agent n =
    let ds = digits 4 agent ++ digits 9 n in
    let long : length (84 ∷ ds) ≡ 14 = omega (arith, length-append (digits 4 agent) (digits 9 n), digits-length 4 agent, digits-length 9 n) in
    let each : list_all is_ascii_alphanumeric ds ≡ true =
    list_all-append is_ascii_alphanumeric (digits 4 agent) (digits 9 n)
    ∙ and_from (list_all is_ascii_alphanumeric (digits 4 agent)) (list_all is_ascii_alphanumeric (digits 9 n)) (digits-in 4 agent) (digits-in 9 n) in
    fourteen-in (84 ∷ ds) long each

pub given-in : (agent tokens : ℕ) (token : Token) → IsGiven agent tokens token → IsToken token
given-in agent tokens token h = subst IsToken (sym h.is) (token-in agent h.number)
