-- Lemmas on edits.
use Rattle.std.proofs.Common.{◌≡◌, ℕ, ◌+◌, ◌≤◌, true, arith}
use Rattle.std.proofs.lemmas.Bool.Decides.{nat_tests}
use Rattle.market_rules.specs.declared.edit.Edit.{Edit}
use Rattle.market_rules.specs.declared.edit.Edit.TheVariants.{Tick, Fee, Halt, Resume, Latency, Agent, Silence, Inject, Series}
use Rattle.market_rules.specs.EditRanges.{is_among, is_in_range}
use Rattle.market_types.specs.declared.order.Inbound.{Inbound}
use Rattle.kernel_core.specs.Post.{Post}
use Rattle.kernel_core.specs.Send.{injected}
use Rattle.kernel_core.specs.SoundMail.{IsSoundMail}
use Rattle.kernel_core.specs.Edited.{IsMailEdit, IsTableEdit, mail_after}

pub table-edit : (stocks traders groups : ℕ) (e : Edit) → is_among stocks traders groups e ≡ true → is_in_range e ≡ true → IsTableEdit groups e
table-edit stocks traders groups (Tick stock table) a r = tt
table-edit stocks traders groups (Fee stock fees) a r = tt
table-edit stocks traders groups (Halt stock) a r = tt
table-edit stocks traders groups (Resume stock) a r = tt
table-edit stocks traders groups (Latency from to base jitter) a r = (grind (arith, nat_tests), grind (arith, nat_tests), grind (arith, nat_tests))
table-edit stocks traders groups (Agent agent name value) a r = tt
table-edit stocks traders groups (Silence agent) a r = tt
table-edit stocks traders groups (Inject agent after message) a r = tt
table-edit stocks traders groups (Series stock offset) a r = tt

pub mail-edit : (stocks traders groups : ℕ) (e : Edit) → is_among stocks traders groups e ≡ true → is_in_range e ≡ true → IsMailEdit traders e
mail-edit stocks traders groups (Tick stock table) a r = tt
mail-edit stocks traders groups (Fee stock fees) a r = tt
mail-edit stocks traders groups (Halt stock) a r = tt
mail-edit stocks traders groups (Resume stock) a r = tt
mail-edit stocks traders groups (Latency from to base jitter) a r = tt
mail-edit stocks traders groups (Agent agent name value) a r = tt
mail-edit stocks traders groups (Silence agent) a r = tt
mail-edit stocks traders groups (Inject agent after message) a r = (grind (arith, nat_tests), grind (arith, nat_tests), grind (arith, nat_tests))
mail-edit stocks traders groups (Series stock offset) a r = tt

-- the mail stays sound as an order is injected
abbrev pub StaysInjected : Type 0
StaysInjected =
    (traders stocks time events from at : ℕ) (order : Inbound) (p : Post) → 1 ≤ from → from ≤ traders → time ≤ at
    → IsSoundMail traders stocks time events p → IsSoundMail traders stocks time events (injected from at order p)

pub mail-after-sound : StaysInjected → (traders stocks time events : ℕ) (e : Edit) (p : Post) → IsMailEdit traders e
    → IsSoundMail traders stocks time events p → IsSoundMail traders stocks time events (mail_after time e p)
mail-after-sound law traders stocks time events (Tick stock table) p e h = h
mail-after-sound law traders stocks time events (Fee stock fees) p e h = h
mail-after-sound law traders stocks time events (Halt stock) p e h = h
mail-after-sound law traders stocks time events (Resume stock) p e h = h
mail-after-sound law traders stocks time events (Latency from to base jitter) p e h = h
mail-after-sound law traders stocks time events (Agent agent name value) p e h = h
mail-after-sound law traders stocks time events (Silence agent) p e h = h
mail-after-sound law traders stocks time events (Inject agent after message) p e h = law traders stocks time events agent (time + after) message p e.0 e.1 (omega arith) h
mail-after-sound law traders stocks time events (Series stock offset) p e h = h
