-- The pairs of all agents: what one agent's tokens say of them.
use Rattle.std.proofs.Common.{◌≡◌, ℕ, zero, suc, ◌+◌, ◌<◌, ◌≤◌, Bool, true, false, ◌||◌, List, [], ◌∷◌, ◌++◌, map, length, get_or, set, refl, sym, ap, ◌∙◌, subst, arith}
use Rattle.std.specs.Cmp.{nat_cmp_is}
use Rattle.std.specs.List.{list_any}
use Rattle.std.specs.Ordering.{is_eq, match_ordering, ordering_then}
use Rattle.std.specs.BTreeMap.{is_at}
use Rattle.std.specs.BTreeSet.{insert_key}
use Rattle.std.specs.declared.cmp.Ordering.{Ordering}
use Rattle.std.specs.declared.cmp.Ordering.TheVariants.{Less, Equal, Greater}
use Rattle.std.proofs.lemmas.List.{get_or_default}
use Rattle.exchange_agent.specs.declared.pair.Pair.{Pair}
use Rattle.exchange_agent.specs.Pairs.{by_pair, has_pair, with_pair}
use Rattle.exchange_agent.specs.Remembered.{by_bytes, keyed, pairs_from}
use Rattle.exchange_agent.proofs.Pairs.{or-right}
use Rattle.exchange_agent.proofs.Risings.{same_bytes}

-- ---- two pairs
pair-above : (k : Pair) (n : ℕ) (u : List ℕ) → n < k.agent → by_pair k (keyed n u) ≡ Greater
pair-above k n u lt = ap (λ (o : Ordering). ordering_then o (by_bytes k.token u)) (sym (nat_cmp_is k.agent n Greater lt))

pair-below : (k : Pair) (n : ℕ) (u : List ℕ) → k.agent < n → by_pair k (keyed n u) ≡ Less
pair-below k n u lt = ap (λ (o : Ordering). ordering_then o (by_bytes k.token u)) (sym (nat_cmp_is k.agent n Less lt))

pair-beside : (n : ℕ) (t u : List ℕ) → by_pair (keyed n t) (keyed n u) ≡ by_bytes t u
pair-beside n t u = ap (λ (o : Ordering). ordering_then o (by_bytes t u)) (sym (nat_cmp_is n n Equal refl))

by-order : (k x : Pair) (xs : List Pair) (o : Ordering) → by_pair k x ≡ o → with_pair k (x ∷ xs) ≡ match_ordering o (k ∷ x ∷ xs) (x ∷ xs) (x ∷ with_pair k xs)
by-order k x xs o e = ap (λ (p : Ordering). match_ordering p (k ∷ x ∷ xs) (x ∷ xs) (x ∷ with_pair k xs)) e

-- a pair is there once it came
has-step : (k x : Pair) (xs : List Pair) (o : Ordering) → by_pair k x ≡ o → by_pair k k ≡ Equal → has_pair k (with_pair k xs) ≡ true → has_pair k (match_ordering o (k ∷ x ∷ xs) (x ∷ xs) (x ∷ with_pair k xs)) ≡ true
has-step k x xs Less e same h = ap (λ (o : Ordering). is_eq o || has_pair k (x ∷ xs)) same
has-step k x xs Equal e same h = ap (λ (o : Ordering). is_eq o || has_pair k xs) e
has-step k x xs Greater e same h = or-right (is_eq (by_pair k x)) (has_pair k (with_pair k xs)) h

pub has-with_pair : (k : Pair) (xs : List Pair) → has_pair k (with_pair k xs) ≡ true
has-with_pair k [] = ap (λ (o : Ordering). is_eq o || false) (pair-beside k.agent k.token k.token ∙ same_bytes k.token)
has-with_pair k (x ∷ xs) = has-step k x xs (by_pair k x) refl (pair-beside k.agent k.token k.token ∙ same_bytes k.token) (has-with_pair k xs)

-- ---- a pair among those of several agents
with-before : (k : Pair) (n : ℕ) (ts : List (List ℕ)) (rest : List Pair) → n < k.agent → with_pair k (map (keyed n) ts ++ rest) ≡ map (keyed n) ts ++ with_pair k rest
with-before k n [] rest lt = refl
with-before k n (u ∷ us) rest lt =
    by-order k (keyed n u) (map (keyed n) us ++ rest) Greater (pair-above k n u lt)
    ∙ ap (λ (xs : List Pair). keyed n u ∷ xs) (with-before k n us rest lt)

with-after : (k : Pair) (n : ℕ) (tss : List (List (List ℕ))) → k.agent < n → with_pair k (pairs_from n tss) ≡ k ∷ pairs_from n tss
with-after k n [] lt = refl
with-after k n ([] ∷ tss) lt = with-after k (n + 1) tss (omega arith)
with-after k n ((u ∷ us) ∷ tss) lt = by-order k (keyed n u) (map (keyed n) us ++ pairs_from (n + 1) tss) Less (pair-below k n u lt)

split : (o : Ordering) (n : ℕ) (t u : List ℕ) (us vs : List (List ℕ)) (rest xs : List Pair) → xs ≡ map (keyed n) vs ++ rest → match_ordering o (keyed n t ∷ keyed n u ∷ (map (keyed n) us ++ rest)) (keyed n u ∷ (map (keyed n) us ++ rest)) (keyed n u ∷ xs) ≡ map (keyed n) (match_ordering o (t ∷ u ∷ us) (u ∷ us) (u ∷ vs)) ++ rest
split Less n t u us vs rest xs e = refl
split Equal n t u us vs rest xs e = refl
split Greater n t u us vs rest xs e = ap (λ (ys : List Pair). keyed n u ∷ ys) e

with-here : (n : ℕ) (t : List ℕ) (ts : List (List ℕ)) (rest : List Pair) → with_pair (keyed n t) rest ≡ keyed n t ∷ rest → with_pair (keyed n t) (map (keyed n) ts ++ rest) ≡ map (keyed n) (insert_key by_bytes ts t) ++ rest
with-here n t [] rest h = h
with-here n t (u ∷ us) rest h =
    by-order (keyed n t) (keyed n u) (map (keyed n) us ++ rest) (by_bytes t u) (pair-beside n t u)
    ∙ split (by_bytes t u) n t u us (insert_key by_bytes us t) rest (with_pair (keyed n t) (map (keyed n) us ++ rest)) (with-here n t us rest h)

-- a token more of one agent is a pair more of all
pub pairs-with : (a n i : ℕ) (tss : List (List (List ℕ))) (t : List ℕ) → a ≡ n + i → i < length tss → with_pair (keyed a t) (pairs_from n tss) ≡ pairs_from n (set tss i (insert_key by_bytes (get_or tss i []) t))
pairs-with a n i [] t e lt = absurd (omega arith)
pairs-with a n zero (ts ∷ tss) t e lt =
    let same : a ≡ n = omega arith in
    subst (λ (m : ℕ). with_pair (keyed m t) (pairs_from n (ts ∷ tss)) ≡ pairs_from n (insert_key by_bytes ts t ∷ tss)) (sym same)
    (with-here n t ts (pairs_from (n + 1) tss) (with-after (keyed n t) (n + 1) tss (omega arith)))
pairs-with a n (suc i) (ts ∷ tss) t e lt =
    with-before (keyed a t) n ts (pairs_from (n + 1) tss) (omega arith)
    ∙ ap (λ (xs : List Pair). map (keyed n) ts ++ xs) (pairs-with a (n + 1) i tss t (omega arith) (omega arith))

-- ---- whether a pair is among them
has-apart : (k : Pair) (n : ℕ) (ts : List (List ℕ)) (rest : List Pair) → ((u : List ℕ) → is_eq (by_pair k (keyed n u)) ≡ false) → has_pair k (map (keyed n) ts ++ rest) ≡ has_pair k rest
has-apart k n [] rest h = refl
has-apart k n (u ∷ us) rest h = ap (λ (b : Bool). b || has_pair k (map (keyed n) us ++ rest)) (h u) ∙ has-apart k n us rest h

has-after : (k : Pair) (n : ℕ) (tss : List (List (List ℕ))) → k.agent < n → has_pair k (pairs_from n tss) ≡ false
has-after k n [] lt = refl
has-after k n (ts ∷ tss) lt = has-apart k n ts (pairs_from (n + 1) tss) (λ u. ap is_eq (pair-below k n u lt)) ∙ has-after k (n + 1) tss (omega arith)

has-here : (n : ℕ) (t : List ℕ) (ts : List (List ℕ)) (rest : List Pair) → has_pair (keyed n t) rest ≡ false → has_pair (keyed n t) (map (keyed n) ts ++ rest) ≡ list_any (is_at (by_bytes t)) ts
has-here n t [] rest h = h
has-here n t (u ∷ us) rest h =
    ap (λ (o : Ordering). is_eq o || has_pair (keyed n t) (map (keyed n) us ++ rest)) (pair-beside n t u)
    ∙ ap (λ (b : Bool). is_eq (by_bytes t u) || b) (has-here n t us rest h)

pub pairs-has : (a n i : ℕ) (tss : List (List (List ℕ))) (t : List ℕ) → a ≡ n + i → i < length tss → has_pair (keyed a t) (pairs_from n tss) ≡ list_any (is_at (by_bytes t)) (get_or tss i [])
pairs-has a n i [] t e lt = absurd (omega arith)
pairs-has a n zero (ts ∷ tss) t e lt =
    let same : a ≡ n = omega arith in
    subst (λ (m : ℕ). has_pair (keyed m t) (pairs_from n (ts ∷ tss)) ≡ list_any (is_at (by_bytes t)) ts) (sym same)
    (has-here n t ts (pairs_from (n + 1) tss) (has-after (keyed n t) (n + 1) tss (omega arith)))
pairs-has a n (suc i) (ts ∷ tss) t e lt =
    has-apart (keyed a t) n ts (pairs_from (n + 1) tss) (λ u. ap is_eq (pair-above (keyed a t) n u (omega arith)))
    ∙ pairs-has a (n + 1) i tss t (omega arith) (omega arith)

-- of an agent past the last none is
pub pairs-past : (a n : ℕ) (tss : List (List (List ℕ))) (t : List ℕ) → n + length tss ≤ a → has_pair (keyed a t) (pairs_from n tss) ≡ false
pairs-past a n [] t le = refl
pairs-past a n (ts ∷ tss) t le =
    has-apart (keyed a t) n ts (pairs_from (n + 1) tss) (λ u. ap is_eq (pair-above (keyed a t) n u (omega arith)))
    ∙ pairs-past a (n + 1) tss t (omega arith)

-- ---- one more agent has no token yet
pub pairs-grown : (n : ℕ) (tss : List (List (List ℕ))) → pairs_from n (tss ++ [] ∷ []) ≡ pairs_from n tss
pairs-grown n [] = refl
pairs-grown n (ts ∷ tss) = ap (λ (xs : List Pair). map (keyed n) ts ++ xs) (pairs-grown (n + 1) tss)

-- ---- an agent's tokens, as they were found at its place
seen : (mid : List (List (List ℕ))) (place : ℕ) (r : List (List ℕ)) → place < length mid → r ≡ get_or mid place r → r ≡ get_or mid place []
seen mid place r lt is = is ∙ get_or_default mid place r [] lt

pub has-seen : (agent place : ℕ) (t : List ℕ) (mid : List (List (List ℕ))) (old : List Pair) (r : List (List ℕ)) → place ≡ agent → place < length mid → r ≡ get_or mid place r → pairs_from 0 mid ≡ old → list_any (is_at (by_bytes t)) r ≡ has_pair (keyed agent t) old
has-seen agent place t mid old r e lt is same =
    ap (λ (ts : List (List ℕ)). list_any (is_at (by_bytes t)) ts) (seen mid place r lt is)
    ∙ sym (pairs-has agent 0 place mid t (omega arith) lt)
    ∙ ap (λ (xs : List Pair). has_pair (keyed agent t) xs) same

pub with-seen : (agent place : ℕ) (t : List ℕ) (mid : List (List (List ℕ))) (old : List Pair) (r new : List (List ℕ)) → place ≡ agent → place < length mid → r ≡ get_or mid place r → pairs_from 0 mid ≡ old → new ≡ insert_key by_bytes r t → pairs_from 0 (set mid place new) ≡ with_pair (keyed agent t) old
with-seen agent place t mid old r new e lt is same made =
    ap (λ (ts : List (List ℕ)). pairs_from 0 (set mid place ts)) (made ∙ ap (λ (ts : List (List ℕ)). insert_key by_bytes ts t) (seen mid place r lt is))
    ∙ sym (pairs-with agent 0 place mid t (omega arith) lt)
    ∙ ap (λ (xs : List Pair). with_pair (keyed agent t) xs) same

set-same : (tss : List (List (List ℕ))) (k : ℕ) (r : List (List ℕ)) → r ≡ get_or tss k r → set tss k r ≡ tss
set-same [] k r e = refl
set-same (ts ∷ tss) zero r e = ap (λ (us : List (List ℕ)). us ∷ tss) e
set-same (ts ∷ tss) (suc k) r e = ap (λ (uss : List (List (List ℕ))). ts ∷ uss) (set-same tss k r e)

pub same-seen : (place : ℕ) (mid : List (List (List ℕ))) (old : List Pair) (r new : List (List ℕ)) → r ≡ get_or mid place r → pairs_from 0 mid ≡ old → new ≡ r → pairs_from 0 (set mid place new) ≡ old
same-seen place mid old r new is same made =
    ap (λ (ts : List (List ℕ)). pairs_from 0 (set mid place ts)) made ∙ ap (λ (tss : List (List (List ℕ))). pairs_from 0 tss) (set-same mid place r is) ∙ same
