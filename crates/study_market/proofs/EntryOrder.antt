-- What a pass over entries finds first is the first broken rule.
use Rattle.std.proofs.Common.{◌≡◌, ◌<◌, ◌+◌, ◌++◌, nat_lt, Bool, true, false, cond, not, ℕ, zero, suc, List, [], ◌∷◌, length, map, Option, None, Some, Result, Ok, Err, IfErr, IsErr, IsErrAnd, refl, ap, sym, ◌∙◌, append_assoc, arith, if◌then◌else◌}
use Rattle.std.specs.List.{list_all, flat_map}
use Rattle.std.proofs.lemmas.Bool.{and_parts, ltb-true}
use Rattle.std.proofs.lemmas.Bool.Decides.{nat_tests}
use Rattle.std.proofs.lemmas.Iterator.Adapters.{position_from-zero}
use Rattle.std.proofs.lemmas.Option.{same_Some}
use Rattle.toml.specs.Data.{Data, Members, as_table}
use Rattle.toml.specs.View.{view}
use Rattle.toml.specs.declared.value.Value.{Value}
use Rattle.study_file.specs.Keys.{passes, has_form}
use Rattle.study_file.specs.Values.{first_failing}
use Rattle.study_market.specs.declared.early_refusal.Refusal.{Refusal}
use Rattle.study_market.specs.declared.early_refusal.ReadError.{ReadError}
use Rattle.study_market.specs.declared.early_refusal.ReadError.TheVariants.{Refused}
use Rattle.study_market.specs.Forms.{stock_form}
use Rattle.study_market.specs.MarketRules.{size_of, start_of, span_of}
use Rattle.study_market.specs.StockRules.{stocks, symbols, has_symbol, has_bands, has_fees, has_prices, has_pace, stock_count_broken, repeat_broken, series_broken}
use Rattle.study_market.specs.AgentForms.{agent_form}
use Rattle.study_market.specs.ChangeRules.{changes, names_stock, has_new_rules, change_keys_broken, dates_broken}
use Rattle.study_market.specs.AgentRules.{agents, has_timing, has_own, counts_broken}
use Rattle.study_market.specs.Trial.{failing_from}
use Rattle.study_market.specs.EntryTests.{Test, rise_above, failed_test, first_among, broken_at, placed, earlier, stock_tests, change_tests, agent_tests}
use Rattle.study_market.specs.FirstBroken.{Rule, rule, stock_rules, first_of_rules}
use Rattle.study_market.specs.FirstOfMarket.{change_rules, agent_rules}

-- all broken rules are above this
Above : ℕ → Option Refusal → Type 0
Above n None = Unit {0}
Above n (Some r) = n < r.rule

higher : (m n : ℕ) (o : Option Refusal) → m < n → Above n o → Above m o
unfolding Above
higher m n None less h = tt
higher m n (Some r) less h = omega (arith, less, h)

placed-if : (n place : ℕ) (b : Bool) (number : ℕ) (o : Option ℕ) → n < number → Above number (placed place o) → Above n (placed place (if b then o else Some number))
unfolding Above
placed-if n place true number o less h = higher n number (placed place o) less h
placed-if n place false number o less h = less

placed-above : (n place : ℕ) (xs : List Test) (o : Option Members) → rise_above n xs ≡ true → Above n (placed place (failed_test xs o))
unfolding Above
placed-above n place [] o h = tt
placed-above n place (x ∷ xs) o h =
    let parts : (nat_lt n x.number ≡ true) × (rise_above x.number xs ≡ true) = and_parts (nat_lt n x.number) (rise_above x.number xs) h in
    placed-if n place (passes x.keeps o) x.number (failed_test xs o) (ltb-true n x.number parts.0) (placed-above x.number place xs o parts.1)

-- a rule, where it is broken, and what is broken after it
abbrev pub chosen : ℕ → Option ℕ → Option Refusal → Option Refusal
chosen number found others = elim found [ None ↦ others | Some at ↦ Some (record { rule = number; place = at }) ]

chosen-above : (n number : ℕ) (found : Option ℕ) (others : Option Refusal) → n < number → Above n others → Above n (chosen number found others)
unfolding Above
chosen-above n number None others less h = h
chosen-above n number (Some at) others less h = less

among-above : (n place : ℕ) (xs : List Test) (ds : List Data) → rise_above n xs ≡ true → Above n (first_among xs place ds)
unfolding Above
among-above n place [] ds h = tt
among-above n place (x ∷ xs) ds h =
    let parts : (nat_lt n x.number ≡ true) × (rise_above x.number xs ≡ true) = and_parts (nat_lt n x.number) (rise_above x.number xs) h in
    let less : n < x.number = ltb-true n x.number parts.0 in
    chosen-above n x.number (failing_from x.keeps place ds) (first_among xs place ds) less
    (higher n x.number (first_among xs place ds) less (among-above x.number place xs ds parts.1))

-- the one of the lower rule stays
first-stays : (r : Refusal) (o : Option Refusal) → ((p : Refusal) → o ≡ Some p → nat_lt p.rule r.rule ≡ false) → Some r ≡ earlier (Some r) o
first-stays r None h = refl
first-stays r (Some p) h = ap (λ (b : Bool). if b then Some p else Some r) (sym (h p refl))

above-not : (r p : Refusal) (o : Option Refusal) → Above r.rule o → o ≡ Some p → nat_lt p.rule r.rule ≡ false
unfolding Above
above-not r p None h e = absurd (cc e)
above-not r p (Some q) h e = let same : q ≡ p = same_Some _ _ e in grind (arith, nat_tests, h, same)

later-comes : (o : Option Refusal) (r : Refusal) → Above r.rule o → Some r ≡ earlier o (Some r)
unfolding Above
later-comes None r h = refl
later-comes (Some p) r h = let less : nat_lt r.rule p.rule ≡ true = grind (arith, nat_tests, h) in ap (λ (b : Bool). if b then Some r else Some p) (sym less)

-- where an entry keeps the next rule
kept-step : (number : ℕ) (found : Option ℕ) (all here rest : Option Refusal) → all ≡ earlier here rest → Above number here
    → chosen number found all ≡ earlier here (chosen number found rest)
kept-step number None all here rest same above = same
kept-step number (Some at) all here rest same above = later-comes here (record { rule = number; place = at }) above

not-itself : (n : ℕ) → nat_lt n n ≡ false
not-itself n = grind (arith, nat_tests)

-- where it breaks it
broken-step : (number place : ℕ) (found : Option ℕ) (rest : Option Refusal) → Above number rest
    → ◌≡◌ {A = Option Refusal} (Some (record { rule = number; place = place }))
    (earlier (Some (record { rule = number; place = place })) (chosen number found rest))
broken-step number place None rest above = first-stays (record { rule = number; place = place }) rest (λ p e. above-not (record { rule = number; place = place }) p rest above e)
broken-step number place (Some at) rest above = ap (λ (b : Bool). if b then Some (record { rule = number; place = at }) else Some (record { rule = number; place = place })) (sym (not-itself number))

step : (b : Bool) (number place : ℕ) (found : Option ℕ) (all rest : Option Refusal) (here : Option ℕ)
    → all ≡ earlier (placed place here) rest → Above number (placed place here) → Above number rest
    → chosen number (cond (not b) (Some place) found) all ≡ earlier (placed place (if b then here else Some number)) (chosen number found rest)
step true number place found all rest here same above later = kept-step number found all (placed place here) rest same above
step false number place found all rest here same above later = broken-step number place found rest later

-- what is broken first among entries, by the first of them and by the others
pub first-and-rest : (n : ℕ) (xs : List Test) (place : ℕ) (d : Data) (ds : List Data) → rise_above n xs ≡ true
    → first_among xs place (d ∷ ds) ≡ earlier (placed place (failed_test xs (as_table d))) (first_among xs (place + 1) ds)
first-and-rest n [] place d ds h = refl
first-and-rest n (x ∷ xs) place d ds h =
    let parts : (nat_lt n x.number ≡ true) × (rise_above x.number xs ≡ true) = and_parts (nat_lt n x.number) (rise_above x.number xs) h in
    step (passes x.keeps (as_table d)) x.number place (failing_from x.keeps (place + 1) ds) (first_among xs place (d ∷ ds)) (first_among xs (place + 1) ds)
    (failed_test xs (as_table d)) (first-and-rest x.number xs place d ds parts.1)
    (placed-above x.number place xs (as_table d) parts.1) (among-above x.number (place + 1) xs ds parts.1)

none-among : (xs : List Test) (place : ℕ) → first_among xs place [] ≡ None
none-among [] place = refl
none-among (x ∷ xs) place = none-among xs place

pub none-for : (xs : List Test) (place : ℕ) (vs : List Value) → length vs ≡ 0 → None ≡ first_among xs place (map view vs)
none-for xs place [] empty = sym (none-among xs place)
none-for xs place (v ∷ vs) empty = absurd (omega (arith, empty))

-- what one entry and those after it say
pub one-and-rest : (n : ℕ) (xs : List Test) (place : ℕ) (vs : List Value) (v : Value) (rest : List Value) (rule : Option ℕ) (later : Option Refusal)
    → rise_above n xs ≡ true → vs ≡ v ∷ rest → rule ≡ failed_test xs (as_table (view v)) → later ≡ first_among xs (place + 1) (map view rest)
    → earlier (placed place rule) later ≡ first_among xs place (map view vs)
one-and-rest n xs place vs v rest rule later rising same is more =
    ap (λ (o : Option ℕ). earlier (placed place o) later) is
    ∙ ap (earlier (placed place (failed_test xs (as_table (view v))))) more
    ∙ sym (first-and-rest n xs place (view v) (map view rest) rising)
    ∙ sym (ap (λ (ws : List Value). first_among xs place (map view ws)) same)

if-some : (b : Bool) (x y : Refusal) → (if b then Some x else Some y) ≡ None → ⊥
if-some true x y h = cc h
if-some false x y h = cc h

pub neither : (a b : Option Refusal) → earlier a b ≡ None → (a ≡ None) × (b ≡ None)
neither None b h = (refl, h)
neither (Some x) None h = absurd (cc h)
neither (Some x) (Some y) h = absurd (if-some (nat_lt y.rule x.rule) y x h)

none-placed : (place : ℕ) (rule : Option ℕ) → placed place rule ≡ None → rule ≡ None
none-placed place None h = refl
none-placed place (Some number) h = absurd (cc h)

pub one-and-rest-said : {A : Type 0} (f : Data → List A) (place : ℕ) (vs : List Value) (v : Value) (rest : List Value) (rule : Option ℕ) (later : Option Refusal) (old mid new : List A)
    → vs ≡ v ∷ rest → (rule ≡ None → mid ≡ old ++ f (view v)) → (later ≡ None → new ≡ mid ++ flat_map f (map view rest))
    → earlier (placed place rule) later ≡ None → new ≡ old ++ flat_map f (map view vs)
one-and-rest-said f place vs v rest rule later old mid new same first others none =
    let both = neither (placed place rule) later none in
    others both.1
    ∙ ap (λ xs. xs ++ flat_map f (map view rest)) (first (none-placed place rule both.0))
    ∙ append_assoc old (f (view v)) (flat_map f (map view rest))
    ∙ sym (ap (λ (ws : List Value). old ++ flat_map f (map view ws)) same)

-- the rules of entries in order

rules_on : List Test → List Data → List Rule
rules_on [] ds = []
rules_on (x ∷ xs) ds = rule x.number (λ (t : Members). first_failing x.keeps ds) ∷ rules_on xs ds

among-rules : (xs : List Test) (ds : List Data) (t : Members) → first_among xs 0 ds ≡ first_of_rules (rules_on xs ds) t
unfolding rules_on
among-rules [] ds t = refl
among-rules (x ∷ xs) ds t =
    ap (λ (o : Option ℕ). chosen x.number o (first_among xs 0 ds)) (sym (position_from-zero (λ (d : Data). not (passes x.keeps (as_table d))) ds))
    ∙ ap (chosen x.number (first_failing x.keeps ds)) (among-rules xs ds t)

rules-above : (n : ℕ) (rs : List Rule) (t : Members) → list_all (λ (r : Rule). nat_lt n r.number) rs ≡ true → Above n (first_of_rules rs t)
unfolding Above
rules-above n [] t h = tt
rules-above n (r ∷ rs) t h =
    let parts : (nat_lt n r.number ≡ true) × (list_all (λ (x : Rule). nat_lt n x.number) rs ≡ true) = and_parts (nat_lt n r.number) (list_all (λ (x : Rule). nat_lt n x.number) rs) h in
    chosen-above n r.number (r.broken t) (first_of_rules rs t) (ltb-true n r.number parts.0) (rules-above n rs t parts.1)

nothing-later : (o : Option Refusal) → earlier o None ≡ o
nothing-later None = refl
nothing-later (Some r) = refl

between-step : (found : Option ℕ) (number n : ℕ) (o : Option ℕ) (rest all : Option Refusal) → number < n → earlier rest (broken_at n o) ≡ all
    → earlier (chosen number found rest) (broken_at n o) ≡ chosen number found all
between-step None number n o rest all less e = e
between-step (Some p) number n None rest all less e = refl
between-step (Some p) number n (Some q) rest all less e =
    let not-less : nat_lt n number ≡ false = grind (arith, nat_tests, less) in
    ap (λ (b : Bool). if b then Some (record { rule = n; place = q }) else Some (record { rule = number; place = p })) not-less

-- a rule that is asked for between others
between : (xs zs : List Rule) (n : ℕ) (o : Option ℕ) (t : Members) → list_all (λ (r : Rule). nat_lt r.number n) xs ≡ true → list_all (λ (r : Rule). nat_lt n r.number) zs ≡ true
    → earlier (first_of_rules (xs ++ zs) t) (broken_at n o) ≡ first_of_rules (xs ++ rule n (λ (u : Members). o) ∷ zs) t
between [] zs n None t low high = nothing-later (first_of_rules zs t)
between [] zs n (Some p) t low high = sym (later-comes (first_of_rules zs t) (record { rule = n; place = p }) (rules-above n zs t high))
between (x ∷ xs) zs n o t low high =
    let parts : (nat_lt x.number n ≡ true) × (list_all (λ (r : Rule). nat_lt r.number n) xs ≡ true) = and_parts (nat_lt x.number n) (list_all (λ (r : Rule). nat_lt r.number n) xs) low in
    between-step (x.broken t) x.number n o (first_of_rules (xs ++ zs) t) (first_of_rules (xs ++ rule n (λ (u : Members). o) ∷ zs) t) (ltb-true x.number n parts.0) (between xs zs n o t parts.1 high)

-- the rules of the stocks
pub stocks-in-order : (t : Members) (ds : List Data) → ds ≡ stocks t → stock_count_broken t ≡ None
    → earlier (earlier (first_among (stock_tests (span_of t)) 0 ds) (broken_at 13 (repeat_broken t))) (broken_at 18 (series_broken t)) ≡ first_of_rules stock_rules t
unfolding rules_on
stocks-in-order t ds e count =
    let before : List Data → List Rule = λ es. rule 11 (λ (u : Members). first_failing (has_form stock_form) es) ∷ rule 12 (λ (u : Members). first_failing has_symbol es) ∷ [] in
    let after : List Data → List Rule
    = λ es. rule 14 (λ (u : Members). first_failing has_bands es) ∷ rule 15 (λ (u : Members). first_failing has_fees es)
    ∷ rule 16 (λ (u : Members). first_failing has_prices es) ∷ rule 17 (λ (u : Members). first_failing (has_pace (span_of t)) es) ∷ [] in
    let repeats : Rule = rule 13 (λ (u : Members). repeat_broken t) in
    let named : Rule = rule 18 (λ (u : Members). series_broken t) in
    ap (λ (o : Option Refusal). earlier (earlier o (broken_at 13 (repeat_broken t))) (broken_at 18 (series_broken t))) (among-rules (stock_tests (span_of t)) ds t)
    ∙ ap (λ (o : Option Refusal). earlier o (broken_at 18 (series_broken t))) (between (before ds) (after ds) 13 (repeat_broken t) t refl refl)
    ∙ between (before ds ++ repeats ∷ after ds) [] 18 (series_broken t) t refl refl
    ∙ ap (λ (es : List Data). first_of_rules ((before es ++ repeats ∷ after es) ++ named ∷ []) t) e
    ∙ sym (ap (λ (o : Option ℕ). chosen 10 o (first_of_rules ((before (stocks t) ++ repeats ∷ after (stocks t)) ++ named ∷ []) t)) count)

-- a rule of a list that is kept, and one that is broken
pub after_kept : (r : Rule) (rs : List Rule) (t : Members) → r.broken t ≡ None → first_of_rules rs t ≡ first_of_rules (r ∷ rs) t
after_kept r rs t e = sym (ap (λ (o : Option ℕ). chosen r.number o (first_of_rules rs t)) e)

broken-first : (number : ℕ) (found : Option ℕ) (others : Option Refusal) (p : Refusal) → broken_at number found ≡ Some p → chosen number found others ≡ Some p
broken-first number None others p e = absurd (cc e)
broken-first number (Some at) others p e = e

pub at_broken : (r : Rule) (rs : List Rule) (t : Members) (p : Refusal) → broken_at r.number (r.broken t) ≡ Some p → first_of_rules (r ∷ rs) t ≡ Some p
at_broken r rs t p e = broken-first r.number (r.broken t) (first_of_rules rs t) p e

-- so many of the first rules are kept, and the next one is broken
abbrev pub BrokenAfter : ℕ → List Rule → Members → Refusal → Type 0
BrokenAfter n [] t p = ⊥
BrokenAfter zero (r ∷ rs) t p = broken_at r.number (r.broken t) ≡ Some p
BrokenAfter (suc n) (r ∷ rs) t p = (r.broken t ≡ None) × BrokenAfter n rs t p

pub broken_after : (n : ℕ) (rs : List Rule) (t : Members) (p : Refusal) → BrokenAfter n rs t p → first_of_rules rs t ≡ Some p
broken_after n [] t p h = absurd h
broken_after zero (r ∷ rs) t p h = at_broken r rs t p h
broken_after (suc n) (r ∷ rs) t p h = sym (after_kept r rs t h.0) ∙ broken_after n rs t p h.1

-- each of these rules is kept
abbrev pub Kept : List Rule → Members → Type 0
Kept [] t = Unit {0}
Kept (r ∷ rs) t = (r.broken t ≡ None) × Kept rs t

pub all_kept : (rs : List Rule) (t : Members) → Kept rs t → first_of_rules rs t ≡ None
all_kept [] t h = refl
all_kept (r ∷ rs) t h = sym (after_kept r rs t h.0) ∙ all_kept rs t h.1

-- an error that is handed on
pub told : {A : Type 0} (result : Result A ReadError) (error : ReadError) (P : Refusal → Type 0) → IsErr result × IsErrAnd result (λ x. x ≡ error)
    → ((p : Refusal) → error ≡ Refused p → P p) → IfErr result (λ (e : ReadError). (p : Refusal) → e ≡ Refused p → P p)
told (Ok a) error P is said = absurd (cc is.0)
told (Err e) error P is said = λ p same. said p (sym is.1 ∙ same)

-- the rules of the changes
pub changes-in-order : (t : Members) (known : List (List ℕ)) (ds : List Data) → known ≡ symbols t → ds ≡ changes t → change_keys_broken t ≡ None → dates_broken t ≡ None
    → first_among (change_tests known) 0 ds ≡ first_of_rules change_rules t
unfolding rules_on
changes-in-order t known ds e f keys dates =
    let both : List (List ℕ) → List Data → List Rule
    = λ names es. rule 23 (λ (u : Members). first_failing (names_stock names) es) ∷ rule 24 (λ (u : Members). first_failing has_new_rules es) ∷ [] in
    among-rules (change_tests known) ds t
    ∙ ap (λ (names : List (List ℕ)). first_of_rules (both names ds) t) e
    ∙ ap (λ (es : List Data). first_of_rules (both (symbols t) es) t) f
    ∙ after_kept (rule 22 dates_broken) (both (symbols t) (changes t)) t dates
    ∙ after_kept (rule 21 change_keys_broken) (rule 22 dates_broken ∷ both (symbols t) (changes t)) t keys

-- the rules of the agents
pub agents-in-order : (t : Members) (size start : ℕ) (known : List (List ℕ)) (ds : List Data) → size ≡ size_of t → start ≡ start_of t → known ≡ symbols t → ds ≡ agents t
    → counts_broken t ≡ None → first_among (agent_tests size start known) 0 ds ≡ first_of_rules agent_rules t
unfolding rules_on
agents-in-order t size start known ds d s e f counts =
    let all : ℕ → ℕ → List (List ℕ) → List Data → List Rule
    = λ m n names es. rule 26 (λ (u : Members). first_failing (has_form agent_form) es) ∷ rule 27 (λ (u : Members). first_failing (has_timing m n) es)
    ∷ rule 28 (λ (u : Members). first_failing (names_stock names) es) ∷ rule 29 (λ (u : Members). first_failing has_own es) ∷ [] in
    among-rules (agent_tests size start known) ds t
    ∙ ap (λ (m : ℕ). first_of_rules (all m start known ds) t) d
    ∙ ap (λ (n : ℕ). first_of_rules (all (size_of t) n known ds) t) s
    ∙ ap (λ (names : List (List ℕ)). first_of_rules (all (size_of t) (start_of t) names ds) t) e
    ∙ ap (λ (es : List Data). first_of_rules (all (size_of t) (start_of t) (symbols t) es) t) f
    ∙ after_kept (rule 25 counts_broken) (all (size_of t) (start_of t) (symbols t) (agents t)) t counts

pub flat-one : {A : Type 0} (f : Data → A) (ds : List Data) → flat_map (λ (d : Data). f d ∷ []) ds ≡ map f ds
flat-one f [] = refl
flat-one f (d ∷ ds) = ap (λ xs. f d ∷ xs) (flat-one f ds)

-- the pass over the stocks and the rules beside it

pub stocks-found : (t : Members) (ds : List Data) (span : ℕ) (found first second : Option Refusal) (repeats named : Option ℕ) → ds ≡ stocks t → stock_count_broken t ≡ None
    → span ≡ span_of t → found ≡ first_among (stock_tests span) 0 ds → repeats ≡ repeat_broken t → named ≡ series_broken t
    → first ≡ earlier found (broken_at 13 repeats) → second ≡ earlier first (broken_at 18 named) → second ≡ first_of_rules stock_rules t
stocks-found t ds span found first second repeats named e count s f r n one two =
    two
    ∙ ap (λ (o : Option Refusal). earlier o (broken_at 18 named)) one
    ∙ ap (λ (o : Option ℕ). earlier (earlier found (broken_at 13 o)) (broken_at 18 named)) r
    ∙ ap (λ (o : Option ℕ). earlier (earlier found (broken_at 13 (repeat_broken t))) (broken_at 18 o)) n
    ∙ ap (λ (o : Option Refusal). earlier (earlier o (broken_at 13 (repeat_broken t))) (broken_at 18 (series_broken t))) (f ∙ ap (λ (k : ℕ). first_among (stock_tests k) 0 ds) s)
    ∙ stocks-in-order t ds e count

pub none-found : (found first second a b : Option Refusal) → first ≡ earlier found a → second ≡ earlier first b → second ≡ None → found ≡ None
none-found found first second a b one two none =
    let before : first ≡ None = (neither first b (sym two ∙ none)).0 in
    (neither found a (sym one ∙ before)).0
