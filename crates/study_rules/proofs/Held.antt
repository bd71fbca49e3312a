-- Where no rule is broken, none of their parts is.
use Rattle.std.proofs.Common.{◌≡◌, ◌≤◌, ◌++◌, ℕ, ℤ, pos, negsuc, List, [], ◌∷◌, Option, None, Some, refl, ap, sym, ◌∙◌, arith, true, unsigned_abs, nat_le, codes}
use Rattle.std.specs.Option.{option_or}
use Rattle.std.proofs.lemmas.Bool.{and_parts}
use Rattle.std.proofs.lemmas.Bool.Decides.{nat_tests}
use Rattle.toml.specs.Data.{Members}
use Rattle.study_file.specs.Values.{broken_unless, has_between, is_between, number_at, number_or}
use Rattle.study_market.specs.declared.early_refusal.Refusal.{Refusal}
use Rattle.study_market.specs.FirstBroken.{Rule, rule, first_of_rules}
use Rattle.study_market.specs.MarketRules.{limits_broken}
use Rattle.study_rules.specs.BranchRules.{branch_keys_broken, names_broken, parents_broken, stops_broken, edit_keys_broken, work_broken, events_of}
use Rattle.study_rules.specs.EditRules.{edits_broken}
use Rattle.study_rules.specs.FirstBroken.{branch_rules, shape_rules}
use Rattle.study_market.proofs.Held.{held-unless}

rule-held : (o : Option ℕ) (n : ℕ) (others : Option Refusal)
    → ◌≡◌ {A = Option Refusal} (elim o [ None ↦ others | Some place ↦ Some (record { rule = n; place = place }) ]) None
    → (o ≡ None) × (others ≡ None)
rule-held None n others h = (refl, h)
rule-held (Some place) n others h = absurd (cc h)

first-held : (r : Rule) (rs : List Rule) (t : Members) → first_of_rules (r ∷ rs) t ≡ None → (r.broken t ≡ None) × (first_of_rules rs t ≡ None)
first-held r rs t h = rule-held (r.broken t) r.number (first_of_rules rs t) h

-- none of the rules of branches is broken
pub record AreHeld (t : Members) : Type 0 where
  pub keys : branch_keys_broken t ≡ None
  pub names : names_broken t ≡ None
  pub parents : parents_broken t ≡ None
  pub stops : stops_broken t ≡ None
  pub forms : edit_keys_broken t ≡ None
  pub edits : edits_broken t ≡ None
  pub work : work_broken t ≡ None

pub are-held : (t : Members) → first_of_rules branch_rules t ≡ None → AreHeld t
are-held t h =
    let h1 = first-held (rule 30 branch_keys_broken) (rule 31 names_broken ∷ rule 32 parents_broken ∷ rule 33 stops_broken ∷ rule 34 edit_keys_broken ∷ rule 35 edits_broken ∷ rule 36 work_broken ∷ []) t h in
    let h2 = first-held (rule 31 names_broken) (rule 32 parents_broken ∷ rule 33 stops_broken ∷ rule 34 edit_keys_broken ∷ rule 35 edits_broken ∷ rule 36 work_broken ∷ []) t h1.1 in
    let h3 = first-held (rule 32 parents_broken) (rule 33 stops_broken ∷ rule 34 edit_keys_broken ∷ rule 35 edits_broken ∷ rule 36 work_broken ∷ []) t h2.1 in
    let h4 = first-held (rule 33 stops_broken) (rule 34 edit_keys_broken ∷ rule 35 edits_broken ∷ rule 36 work_broken ∷ []) t h3.1 in
    let h5 = first-held (rule 34 edit_keys_broken) (rule 35 edits_broken ∷ rule 36 work_broken ∷ []) t h4.1 in
    let h6 = first-held (rule 35 edits_broken) (rule 36 work_broken ∷ []) t h5.1 in
    let h7 = first-held (rule 36 work_broken) [] t h6.1 in
    record { keys = h1.0; names = h2.0; parents = h3.0; stops = h4.0; forms = h5.0; edits = h6.0; work = h7.0 }

-- none of those before that of what the edits say is broken
pub record AreShaped (t : Members) : Type 0 where
  pub keys : branch_keys_broken t ≡ None
  pub names : names_broken t ≡ None
  pub stops : stops_broken t ≡ None
  pub forms : edit_keys_broken t ≡ None

pub are-shaped : (t : Members) → first_of_rules shape_rules t ≡ None → AreShaped t
are-shaped t h =
    let h1 = first-held (rule 30 branch_keys_broken) (rule 31 names_broken ∷ rule 32 parents_broken ∷ rule 33 stops_broken ∷ rule 34 edit_keys_broken ∷ []) t h in
    let h2 = first-held (rule 31 names_broken) (rule 32 parents_broken ∷ rule 33 stops_broken ∷ rule 34 edit_keys_broken ∷ []) t h1.1 in
    let h3 = first-held (rule 32 parents_broken) (rule 33 stops_broken ∷ rule 34 edit_keys_broken ∷ []) t h2.1 in
    let h4 = first-held (rule 33 stops_broken) (rule 34 edit_keys_broken ∷ []) t h3.1 in
    let h5 = first-held (rule 34 edit_keys_broken) [] t h4.1 in
    record { keys = h1.0; names = h2.0; stops = h4.0; forms = h5.0 }

-- rules before others
more-if : (o : Option ℕ) (n : ℕ) (a b c : Option Refusal) → a ≡ option_or b c
    → ◌≡◌ {A = Option Refusal} (elim o [ None ↦ a | Some place ↦ Some (record { rule = n; place = place }) ])
    (option_or (elim o [ None ↦ b | Some place ↦ Some (record { rule = n; place = place }) ]) c)
more-if None n a b c h = h
more-if (Some place) n a b c h = refl

more-rules : (rs more : List Rule) (t : Members) → first_of_rules (rs ++ more) t ≡ option_or (first_of_rules rs t) (first_of_rules more t)
more-rules [] more t = refl
more-rules (r ∷ rs) more t =
    more-if (r.broken t) r.number (first_of_rules (rs ++ more) t) (first_of_rules rs t) (first_of_rules more t) (more-rules rs more t)

abbrev later_rules : List Rule
later_rules = rule 35 edits_broken ∷ rule 36 work_broken ∷ []

pub shape-refused : (t : Members) (r : Refusal) → Some r ≡ first_of_rules shape_rules t → first_of_rules branch_rules t ≡ Some r
shape-refused t r h = more-rules shape_rules later_rules t ∙ ap (λ (o : Option Refusal). option_or o (first_of_rules later_rules t)) (sym h)

later : (t : Members) → first_of_rules shape_rules t ≡ None → first_of_rules branch_rules t ≡ first_of_rules later_rules t
later t h = more-rules shape_rules later_rules t ∙ ap (λ (o : Option Refusal). option_or o (first_of_rules later_rules t)) h

abbrev refusal_at : ℕ → ℕ → Refusal
refusal_at n place = record { rule = n; place = place }

rule-broken : (o : Option ℕ) (n place : ℕ) (others : Option Refusal) → o ≡ Some place
    → ◌≡◌ {A = Option Refusal} (elim o [ None ↦ others | Some at ↦ Some (record { rule = n; place = at }) ]) (Some (record { rule = n; place = place }))
rule-broken None n place others h = absurd (cc h)
rule-broken (Some at) n place others h = let same : at ≡ place = cc h in ap (λ (k : ℕ). Some (refusal_at n k)) same

rule-kept : (o : Option ℕ) (n : ℕ) (others : Option Refusal) → o ≡ None
    → ◌≡◌ {A = Option Refusal} (elim o [ None ↦ others | Some at ↦ Some (record { rule = n; place = at }) ]) others
rule-kept None n others h = refl
rule-kept (Some at) n others h = absurd (cc h)

pub edits-refused : (t : Members) (place : ℕ) → first_of_rules shape_rules t ≡ None → edits_broken t ≡ Some place
    → first_of_rules branch_rules t ≡ Some (record { rule = 35; place = place })
edits-refused t place h e = later t h ∙ rule-broken (edits_broken t) 35 place (first_of_rules (rule 36 work_broken ∷ []) t) e

pub work-refused : (t : Members) (place : ℕ) → first_of_rules shape_rules t ≡ None → edits_broken t ≡ None → work_broken t ≡ Some place
    → first_of_rules branch_rules t ≡ Some (record { rule = 36; place = place })
work-refused t place h e f =
    later t h
    ∙ rule-kept (edits_broken t) 35 (first_of_rules (rule 36 work_broken ∷ []) t) e
    ∙ rule-broken (work_broken t) 36 place None f

pub all-kept : (t : Members) → first_of_rules shape_rules t ≡ None → edits_broken t ≡ None → work_broken t ≡ None → first_of_rules branch_rules t ≡ None
all-kept t h e f =
    later t h
    ∙ rule-kept (edits_broken t) 35 (first_of_rules (rule 36 work_broken ∷ []) t) e
    ∙ rule-kept (work_broken t) 36 None f

both-none : (o p : Option ℕ) → option_or o p ≡ None → (o ≡ None) × (p ≡ None)
both-none None p h = (refl, h)
both-none (Some r) p h = absurd (cc h)

small : (z : ℤ) → is_between (pos 1) (pos 1000000) z ≡ true → unsigned_abs z ≤ 1000000
small (pos n) h =
    let parts : (nat_le 1 n ≡ true) × (nat_le n 1000000 ≡ true) = and_parts (nat_le 1 n) (nat_le n 1000000) h in
    grind (arith, nat_tests, parts.1)
small (negsuc n) h = absurd (cc h)

-- the most events of a run, where the rule of limits holds
pub few-events : (t : Members) → limits_broken t ≡ None → events_of t ≤ 1000000
few-events t h =
    let first = both-none (broken_unless (has_between (pos 1) (pos 1000000) (codes "events") t) 0)
    (broken_unless (is_between (pos 100) (pos 1000000) (number_or (pos 10000) (codes "stride") t)) 1) h in
    small (number_at (codes "events") t) (held-unless (has_between (pos 1) (pos 1000000) (codes "events") t) 0 first.0)
