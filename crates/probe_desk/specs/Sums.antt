-- What the four columns of every table say of some entries, added up part by part.
use Rattle.std.specs.Prelude.{◌≡◌, ◌≤◌, ◌<◌, ℕ, ◌+◌, ◌*◌, ◌^◌, ℤ, ◌+ℤ◌, ◌-ℤ◌, pos, List, [], ◌∷◌, Option, None, Some, min, max, unsigned_abs, Bool, if◌then◌else◌}
use Rattle.std.specs.Int.{w128, saturate_signed}
use Rattle.market_types.specs.declared.message.Body.{Body}
use Rattle.market_types.specs.Told.{EntryTold, EventTold, event, edit}
use Rattle.probe_desk.specs.declared.column.Column.{Column}
use Rattle.probe_desk.specs.declared.column.Column.TheVariants as column
use Rattle.probe_desk.specs.declared.price_range.Span.{Span}
use Rattle.probe_desk.specs.declared.sums.Sums.{Sums}
use Rattle.probe_desk.specs.Probe.{Meaning}
use Rattle.probe_desk.specs.Columns.{Removal, removal_in, shares_of, spread_in, volume, spread_sum, price_range, fees}

-- the least and the greatest price of one execution
abbrev pub span_in : Option Removal → Option Span
span_in None = None
span_in (Some t) = Some (record { least = t.price; greatest = t.price })

-- two spans as one
abbrev pub wider : Option Span → Option Span → Option Span
wider None b = b
wider (Some a) None = Some a
wider (Some a) (Some b) = Some (record { least = min a.least b.least; greatest = max a.greatest b.greatest })

abbrev pub width_of : Option Span → ℤ
width_of None = pos 0
width_of (Some s) = pos s.greatest -ℤ pos s.least

abbrev pub no_sums : Sums
no_sums = record { volume = pos 0; spread = pos 0; fees = pos 0; span = None }

-- what an event with this body adds, delivered or put back, which took these fees
abbrev pub sums_told : ℤ → Bool → Body → Sums
sums_told fee put_back body = record {
  volume = shares_of (if put_back then None else removal_in body);
  spread = if put_back then pos 0 else spread_in body;
  fees = fee;
  span = span_in (if put_back then None else removal_in body);
}

-- what a record adds
abbrev pub sums_in : EventTold → Sums
sums_in r = sums_told r.fee r.put_back r.body

-- the sums of some entries and of others
abbrev pub joined : Sums → Sums → Sums
joined a b = record { volume = a.volume +ℤ b.volume; spread = a.spread +ℤ b.spread; fees = a.fees +ℤ b.fees; span = wider a.span b.span }

-- the sums of the records among these entries, however great they are
abbrev pub sums_of : List EntryTold → Sums
sums_of [] = no_sums
sums_of (event r ∷ entries) = joined (sums_in r) (sums_of entries)
sums_of (edit x ∷ entries) = sums_of entries

-- the same sums in 128 bits, which stay at their type's ends
abbrev pub saturated : Sums → Sums → Sums
saturated a b = record {
  volume = saturate_signed w128 (a.volume +ℤ b.volume);
  spread = saturate_signed w128 (a.spread +ℤ b.spread);
  fees = saturate_signed w128 (a.fees +ℤ b.fees);
  span = wider a.span b.span;
}

-- how far the three totals are from 0, all together
abbrev pub moved_by : Sums → ℕ
moved_by s = unsigned_abs s.volume + unsigned_abs s.spread + unsigned_abs s.fees

-- how far a record moves them
abbrev pub moved_in : EventTold → ℕ
moved_in r = moved_by (sums_in r)

-- how far all records move them, back and forth
abbrev pub moved : List EntryTold → ℕ
moved [] = 0
moved (event r ∷ entries) = moved_in r + moved entries
moved (edit x ∷ entries) = moved entries

-- how many of these entries are records
abbrev pub records_in : List EntryTold → ℕ
records_in [] = 0
records_in (event r ∷ entries) = 1 + records_in entries
records_in (edit x ∷ entries) = records_in entries

-- Sums of these entries: exact, unless all together they move by 2 ^ 127 or more. One record moves them by at most 2 ^ 64,
-- so that fewer than 2 ^ 63 records have exact ones.
pub record AreSums (s : Sums) (entries : List EntryTold) : Type 0 where
  pub exact : moved entries < 2 ^ 127 → s ≡ sums_of entries
  pub bounded : moved entries ≤ records_in entries * 2 ^ 64

-- the probe of a column
abbrev pub meaning_of : Column → Meaning
meaning_of column.Volume = volume
meaning_of column.SpreadSum = spread_sum
meaning_of column.Range = price_range
meaning_of column.Fees = fees

-- the number of a column
abbrev pub number_of : Column → Sums → ℤ
number_of column.Volume s = s.volume
number_of column.SpreadSum s = s.spread
number_of column.Range s = width_of s.span
number_of column.Fees s = s.fees
