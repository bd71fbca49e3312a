-- Rules that each entry of a list is to keep, in their order.
use Rattle.std.specs.Prelude.{ℕ, nat_lt, Bool, true, ◌&&◌, List, [], ◌∷◌, Option, None, Some, option_map, if◌then◌else◌}
use Rattle.toml.specs.Data.{Data, Members}
use Rattle.study_file.specs.Keys.{passes, has_form}
use Rattle.study_market.specs.declared.early_refusal.Refusal.{Refusal}
use Rattle.study_market.specs.Trial.{failing_from}
use Rattle.study_market.specs.Forms.{stock_form}
use Rattle.study_market.specs.AgentForms.{agent_form}
use Rattle.study_market.specs.StockRules.{has_symbol, has_bands, has_fees, has_prices, has_pace}
use Rattle.study_market.specs.ChangeRules.{names_stock, has_new_rules}
use Rattle.study_market.specs.AgentRules.{has_timing, has_own}

-- a rule's number, and which tables keep it
pub record Test : Type 0 where
  pub number : ℕ
  pub keeps : Members → Bool

abbrev pub test : ℕ → (Members → Bool) → Test
test number keeps = record { number = number; keeps = keeps }

-- the rules' numbers rise from one that is above this
abbrev pub rise_above : ℕ → List Test → Bool
rise_above n [] = true
rise_above n (x ∷ xs) = nat_lt n x.number && rise_above x.number xs

-- the number of the first rule that an entry breaks; one that is no table breaks each
abbrev pub failed_test : List Test → Option Members → Option ℕ
failed_test [] o = None
failed_test (x ∷ xs) o = if passes x.keeps o then failed_test xs o else Some x.number

-- the first rule that some entry breaks, and the first that breaks it, where the first of these entries stands at a place
abbrev pub first_among : List Test → ℕ → List Data → Option Refusal
first_among [] place ds = None
first_among (x ∷ xs) place ds = elim (failing_from x.keeps place ds) [
  | None ↦ first_among xs place ds
  | Some at ↦ Some (record { rule = x.number; place = at })
]

-- a rule that is broken at a place
abbrev pub broken_at : ℕ → Option ℕ → Option Refusal
broken_at rule place = option_map (λ at. record { rule = rule; place = at }) place

-- an entry that breaks a rule
abbrev pub placed : ℕ → Option ℕ → Option Refusal
placed place rule = option_map (λ number. record { rule = number; place = place }) rule

-- the one of the lower rule, and the first of two of one rule
abbrev pub earlier : Option Refusal → Option Refusal → Option Refusal
earlier None later = later
earlier (Some first) None = Some first
earlier (Some first) (Some later) = if nat_lt later.rule first.rule then Some later else Some first

-- the rules of each stock, where the market is open for so long
abbrev pub stock_tests : ℕ → List Test
stock_tests span =
    test 11 (has_form stock_form) ∷ test 12 has_symbol ∷ test 14 has_bands ∷ test 15 has_fees ∷ test 16 has_prices
    ∷ test 17 (has_pace span) ∷ []

-- the rules of each dated change after those of its keys and its date, beside stocks of these symbols
abbrev pub change_tests : List (List ℕ) → List Test
change_tests known = test 23 (names_stock known) ∷ test 24 has_new_rules ∷ []

-- the rules of each agent, beside so many latency groups, the time at which the market opens and stocks of these symbols
abbrev pub agent_tests : ℕ → ℕ → List (List ℕ) → List Test
agent_tests size start known =
    test 26 (has_form agent_form) ∷ test 27 (has_timing size start) ∷ test 28 (names_stock known) ∷ test 29 has_own ∷ []
