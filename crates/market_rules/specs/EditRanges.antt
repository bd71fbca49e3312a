-- What the numbers of an edit have to keep to.
use Rattle.std.specs.Prelude.{ℕ, ℤ, pos, negsuc, Bool, true, ◌&&◌, nat_lt, nat_le, List, length}
use Rattle.std.specs.List.{list_all}
use Rattle.market_types.specs.Limits.{highest_price, longest_delay, last_time}
use Rattle.market_rules.specs.declared.bands.Band.{Band}
use Rattle.market_rules.specs.declared.fees.FeeTable.{FeeTable}
use Rattle.market_rules.specs.declared.edit.Edit.{Edit}
use Rattle.market_rules.specs.declared.edit.Edit.TheVariants.{Tick, Fee, Halt, Resume, Latency, Agent, Silence, Inject, Series}
use Rattle.market_rules.specs.declared.edit.Param.{Param}
use Rattle.market_rules.specs.declared.edit.Param.TheVariants as parameter

-- from one number to another
abbrev pub is_within : ℕ → ℕ → ℕ → Bool
is_within low high n = nat_le low n && nat_le n high

-- no further than so much above or below 0
abbrev pub is_near_zero : ℕ → ℤ → Bool
is_near_zero far (pos n) = nat_le n far
is_near_zero far (negsuc n) = nat_lt n far

-- 1 to 16 bands that start at a price or at 0, with ticks up to 100 dollars
abbrev pub is_modest_table : List Band → Bool
is_modest_table bands =
    is_within 1 16 (length bands) && list_all (λ (b : Band). nat_le b.from highest_price && is_within 1 1000000 b.tick) bands

-- fees and rebates up to a dollar a share
abbrev pub is_modest_fee : FeeTable → Bool
is_modest_fee fees = is_near_zero 1000000 fees.add && is_near_zero 1000000 fees.take

-- the range of a trader's parameter
abbrev pub is_value_of : Param → ℕ → Bool
is_value_of parameter.Size n = is_within 1 999999 n
is_value_of parameter.Every n = is_within 1 longest_delay n
is_value_of parameter.Wobble n = nat_le n 4294967295
is_value_of parameter.Delay n = nat_le n longest_delay
is_value_of parameter.Noise n = nat_le n 1000000000
is_value_of parameter.Margin n = nat_le n 1000000000
is_value_of parameter.Half n = nat_le n 1000000000
is_value_of parameter.Step n = nat_le n 1000000000
is_value_of parameter.Levels n = is_within 1 8 n
is_value_of parameter.Pause n = nat_le n longest_delay

-- the numbers of an edit are in their ranges; those of a message are the codec's
abbrev pub is_in_range : Edit → Bool
is_in_range (Tick stock table) = is_modest_table table
is_in_range (Fee stock fees) = is_modest_fee fees
is_in_range (Halt stock) = true
is_in_range (Resume stock) = true
is_in_range (Latency from to base jitter) = nat_le base longest_delay
is_in_range (Agent agent name value) = is_value_of name value
is_in_range (Silence agent) = true
is_in_range (Inject agent after message) = nat_le after last_time
is_in_range (Series stock offset) = is_near_zero 2000000000 offset

-- the stock, the trader or the groups of an edit are among so many; traders are numbered from 1
abbrev pub is_among : ℕ → ℕ → ℕ → Edit → Bool
is_among stocks traders groups (Tick stock table) = nat_lt stock stocks
is_among stocks traders groups (Fee stock fees) = nat_lt stock stocks
is_among stocks traders groups (Halt stock) = nat_lt stock stocks
is_among stocks traders groups (Resume stock) = nat_lt stock stocks
is_among stocks traders groups (Latency from to base jitter) = nat_lt from groups && nat_lt to groups
is_among stocks traders groups (Agent agent name value) = is_within 1 traders agent
is_among stocks traders groups (Silence agent) = is_within 1 traders agent
is_among stocks traders groups (Inject agent after message) = is_within 1 traders agent
is_among stocks traders groups (Series stock offset) = nat_lt stock stocks
