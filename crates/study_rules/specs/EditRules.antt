-- Edits as a study's entries say them, and the rule that each is one.
use Rattle.std.specs.Prelude.{ℕ, ◌-◌, unsigned_abs, ℤ, pos, negsuc, int_le, int_lt, Bool, ◌&&◌, true, List, [], Option, None, Some, Ok, Err, is_none, is_some, option_map, if◌then◌else◌, length, map, position, slice_index, slice_index_or, unwrap_or, codes}
use Rattle.std.specs.Option.{option_or}
use Rattle.std.specs.List.{filter_map}
use Rattle.std.specs.Str.{bytes_eq}
use Rattle.toml.specs.Data.{Data, Members}
use Rattle.hex.specs.Hex.{decode_of}
use Rattle.market_types.specs.declared.order.Inbound.{Inbound}
use Rattle.market_rules.specs.declared.edit.Edit.{Edit}
use Rattle.market_rules.specs.declared.edit.Edit.TheVariants.{Tick, Fee, Halt, Resume, Latency, Agent, Silence, Inject, Series}
use Rattle.market_rules.specs.declared.edit.Param.{Param}
use Rattle.market_rules.specs.declared.edit.Param.TheVariants as parameter
use Rattle.wire_fields.specs.Wire.{wire_at, refusal}
use Rattle.ouch_codec.specs.Inbound.{inbound_layout}
use Rattle.ouch_codec.specs.InboundBack.{inbound_of}
use Rattle.study_file.specs.Tables.{is_named}
use Rattle.study_file.specs.Values.{number_at, string_at, list_at, is_between, has_between, first_failing}
use Rattle.study_market.specs.StockRules.{band_in, has_bands, has_fees}
use Rattle.study_market.specs.AgentForms.{ordering, valuing, making}
use Rattle.study_market.specs.ChangeRules.{is_kind}
use Rattle.study_rules.specs.Entries.{entry_of, branch_entries}
use Rattle.study_rules.specs.BranchRules.{first_edit, forms_broken}
use Rattle.study_rules.specs.Scope.{Scope, scope_of}

-- the second step, where the first gives a value
infixl 10 ◌>>=◌
abbrev pub ◌>>=◌ : {A B : Type 0} → Option A → (A → Option B) → Option B
None >>= f = None
Some x >>= f = f x

-- the number at a key, where it is from a low to a high one
abbrev pub natural_in : ℕ → ℕ → List ℕ → Members → Option ℕ
natural_in low high key e = if has_between (pos low) (pos high) key e then Some (unsigned_abs (number_at key e)) else None

-- the number of the stock that an edit names
abbrev pub stock_in : Scope → Members → Option ℕ
stock_in scope e = position (λ name. bytes_eq name (string_at (codes "stock") e)) scope.stocks

-- the trader that an edit names; traders are numbered from 1
abbrev pub trader_in : Scope → Members → Option ℕ
trader_in scope e = natural_in 1 (length scope.kinds) (codes "agent") e

-- the latency group at a key
abbrev pub group_in : ℕ → List ℕ → Members → Option ℕ
group_in groups key e =
    if int_le (pos 0) (number_at key e) && int_lt (number_at key e) (pos groups) then Some (unsigned_abs (number_at key e)) else None

abbrev pub tick_in : Scope → Members → Option Edit
tick_in scope e = do
  stock ← stock_in scope e
  if has_bands e then Some (Tick stock (map band_in (list_at (codes "bands") e))) else None

abbrev pub fee_in : Scope → Members → Option Edit
fee_in scope e = do
  stock ← stock_in scope e
  if has_fees e then Some (Fee stock (record { add = number_at (codes "add") e; take = number_at (codes "take") e })) else None

abbrev pub latency_in : Scope → Members → Option Edit
latency_in scope e = do
  from ← group_in scope.groups (codes "from") e
  to ← group_in scope.groups (codes "to") e
  base ← natural_in 0 3600000000000 (codes "base") e
  jitter ← natural_in 0 4294967295 (codes "jitter") e
  Some (Latency from to base jitter)

-- the parameter of a name: of all kinds of trader, of those that send orders, of makers
abbrev pub common_param : List ℕ → Option Param
common_param name =
    if bytes_eq name (codes "every") then Some parameter.Every
    else if bytes_eq name (codes "wobble") then Some parameter.Wobble
    else if bytes_eq name (codes "delay") then Some parameter.Delay
    else None

abbrev pub order_param : List ℕ → Option Param
order_param name =
    if bytes_eq name (codes "size") then Some parameter.Size
    else if bytes_eq name (codes "noise") then Some parameter.Noise
    else if bytes_eq name (codes "margin") then Some parameter.Margin
    else None

abbrev pub maker_param : List ℕ → Option Param
maker_param name =
    if bytes_eq name (codes "half") then Some parameter.Half
    else if bytes_eq name (codes "step") then Some parameter.Step
    else if bytes_eq name (codes "levels") then Some parameter.Levels
    else if bytes_eq name (codes "pause") then Some parameter.Pause
    else None

abbrev pub param_named : List ℕ → Option Param
param_named name = option_or (common_param name) (option_or (order_param name) (maker_param name))

-- the parameter belongs to a trader's kind
abbrev pub has_param : List ℕ → Param → Bool
has_param kind parameter.Every = true
has_param kind parameter.Wobble = true
has_param kind parameter.Delay = true
has_param kind parameter.Size = is_named ordering kind
has_param kind parameter.Noise = is_named valuing kind
has_param kind parameter.Margin = is_named valuing kind
has_param kind parameter.Half = is_named making kind
has_param kind parameter.Step = is_named making kind
has_param kind parameter.Levels = is_named making kind
has_param kind parameter.Pause = is_named making kind

-- the range of a parameter
abbrev pub is_param_value : Param → ℤ → Bool
is_param_value parameter.Every z = is_between (pos 1) (pos 3600000000000) z
is_param_value parameter.Wobble z = is_between (pos 0) (pos 4294967295) z
is_param_value parameter.Delay z = is_between (pos 0) (pos 3600000000000) z
is_param_value parameter.Size z = is_between (pos 1) (pos 999999) z
is_param_value parameter.Noise z = is_between (pos 0) (pos 1000000000) z
is_param_value parameter.Margin z = is_between (pos 0) (pos 1000000000) z
is_param_value parameter.Half z = is_between (pos 0) (pos 1000000000) z
is_param_value parameter.Step z = is_between (pos 0) (pos 1000000000) z
is_param_value parameter.Levels z = is_between (pos 1) (pos 8) z
is_param_value parameter.Pause z = is_between (pos 0) (pos 3600000000000) z

-- the kind of the trader of a number
abbrev pub kind_of_trader : Scope → ℕ → List ℕ
kind_of_trader scope trader = slice_index_or scope.kinds (trader - 1) []

abbrev pub agent_in : Scope → Members → Option Edit
agent_in scope e = do
  trader ← trader_in scope e
  param ← param_named (string_at (codes "name") e)
  if has_param (kind_of_trader scope trader) param && is_param_value param (number_at (codes "value") e)
      then Some (Agent trader param (unsigned_abs (number_at (codes "value") e)))
      else None

abbrev pub silence_in : Scope → Members → Option Edit
silence_in scope e = option_map Silence (trader_in scope e)

-- the order that is spelled by bytes
abbrev pub order_in : List ℕ → Option Inbound
order_in bytes =
    if is_none (refusal inbound_layout bytes)
    then Some (inbound_of (wire_at (unwrap_or (inbound_layout (slice_index bytes 0)) []) bytes))
    else None

-- the order that is spelled by the bytes of a text of hexadecimal digits
abbrev pub message_in : List ℕ → Option Inbound
message_in text = elim (decode_of text) [ Ok bytes ↦ order_in bytes | Err e ↦ None ]

abbrev pub inject_in : Scope → Members → Option Edit
inject_in scope e = do
  trader ← trader_in scope e
  after ← natural_in 0 86399999999999 (codes "after") e
  option_map (Inject trader after) (message_in (string_at (codes "message") e))

abbrev pub series_in : Scope → Members → Option Edit
series_in scope e = do
  stock ← stock_in scope e
  if has_between (negsuc 1999999999) (pos 2000000000) (codes "offset") e
      then Some (Series stock (number_at (codes "offset") e))
      else None

-- The edit that an entry says. There is none where its stock, trader or groups don't exist, a number is out of its range, a
-- parameter doesn't belong to the trader's kind, or the message is no order.
abbrev pub edit_in : Scope → Members → Option Edit
edit_in scope e =
    if is_kind (codes "tick") e then tick_in scope e
    else if is_kind (codes "fee") e then fee_in scope e
    else if is_kind (codes "halt") e then option_map Halt (stock_in scope e)
    else if is_kind (codes "resume") e then option_map Resume (stock_in scope e)
    else if is_kind (codes "latency") e then latency_in scope e
    else if is_kind (codes "agent") e then agent_in scope e
    else if is_kind (codes "silence") e then silence_in scope e
    else if is_kind (codes "inject") e then inject_in scope e
    else if is_kind (codes "series") e then series_in scope e
    else None

-- Each edit's stock, trader and groups exist; its numbers are in the ranges of the latencies, ticks and fees and of the traders'
-- own keys; a parameter's name belongs to the trader's kind; after is 0 to 86,399,999,999,999; offset is within 2,000,000,000 of
-- 0; message is an order's bytes.
abbrev pub is_edit : Scope → Members → Bool
is_edit scope e = is_some (edit_in scope e)

abbrev pub edits_broken : Members → Option ℕ
edits_broken t = first_edit (first_failing (is_edit (scope_of t))) 0 (branch_entries t)

-- The edits that a list of entries says, where it keeps the rules of a branch's edits: there are at most 16, each has its keys with
-- their types and no other, and each says an edit.
abbrev pub edit_list_in : Scope → List Data → Option (List Edit)
edit_list_in scope entries =
    if is_none (forms_broken entries) && is_none (first_failing (is_edit scope) entries)
    then Some (filter_map (λ d. edit_in scope (entry_of d)) entries)
    else None
