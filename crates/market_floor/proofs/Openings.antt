-- Lemmas on openings.
use Rattle.std.proofs.Common.{◌≡◌, ℕ, ◌-◌, ◌<◌, ◌≤◌, eqb, length, true, false, arith, inl, inr, get_or}
use Rattle.std.proofs.lemmas.Bool.{cases_eq}
use Rattle.std.proofs.lemmas.Bool.Decides.{nat_tests}
use Rattle.std.proofs.lemmas.List.Elements.{All-get_or}
use Rattle.fundamental_series.specs.Made.{Made, by_rule, by_rows, first_time_of}
use Rattle.latency_model.specs.Tables.{group_count}
use Rattle.agent_shell.specs.declared.setting.TraderSetting.{TraderSetting}
use Rattle.market_floor.specs.declared.opening.Opening.{Opening}
use Rattle.market_floor.specs.Groups.{group_of, no_setting}
use Rattle.market_floor.specs.Opening.{IsOpening, IsSeriesFor, IsTraderOf, no_series}

first-in-time : (o : Opening) (k : ℕ) (m : Made) → IsSeriesFor o k m → first_time_of m ≤ o.start
first-in-time o k (by_rule m) h = omega (arith, h.start)
first-in-time o k (by_rows rows) h = h.first

-- a stock has a value from the start on
pub value-from_start : (o : Opening) (k : ℕ) → IsOpening o → k < length o.stocks → first_time_of (get_or o.series k no_series) ≤ o.start
value-from_start o k h within =
    let small : k < length o.series = omega (arith, h.series.count) in
    first-in-time o k (get_or o.series k no_series) (h.series.each k small)

-- an agent's group is one of the tables'
pub group-of_agent : (o : Opening) (agent : ℕ) → IsOpening o → agent ≤ length o.traders → group_of o agent < group_count o.groups
group-of_agent o agent h within =
    elim (cases_eq agent 0) [
      | inl e ↦
          let t : eqb agent 0 ≡ true = grind (arith, nat_tests) in
          rw t h.exchange_group
      | inr e ↦
          let t : eqb agent 0 ≡ false = grind (arith, nat_tests) in
          let j : agent - 1 < length o.traders = omega arith in
          let s : IsTraderOf o (get_or o.traders (agent - 1) no_setting) = All-get_or (λ (s : TraderSetting). IsTraderOf o s) o.traders (agent - 1) no_setting j h.traders in
          rw t s.group
    ]
