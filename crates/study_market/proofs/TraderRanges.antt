-- The traders of an accepted study are those of an opening.
use Rattle.std.proofs.Common.{◌≡◌, ◌∙◌, ◌<◌, ◌≤◌, ◌+◌, ◌-◌, ◌*◌, ◌==◌, ◌&&◌, nat_le, nat_lt, Bool, true, false, not, ℕ, ℤ, pos, negsuc, unsigned_abs, List, [], ◌∷◌, ◌++◌, length, get_or, map, Option, None, Some, All, unwrap_or, refl, sym, ap, subst, arith, codes, if◌then◌else◌}
use Rattle.std.specs.Prelude.{◌||◌, int_le, int_lt, option_and_then}
use Rattle.std.specs.List.{flat_map, range_with_len}
use Rattle.std.proofs.lemmas.Bool.{and_parts, and_from, leb-true, le-leb, ltb-true, lt-ltb}
use Rattle.std.proofs.lemmas.Bool.Decides.{nat_tests}
use Rattle.std.proofs.lemmas.List.{length-map, length-append, append_assoc}
use Rattle.std.proofs.lemmas.List.Elements.{All-nil, All-cons, All-weaker}
use Rattle.std.proofs.lemmas.List.FromFn.{length-map-range_with_len, map-range_with_len_more}
use Rattle.std.proofs.lemmas.Nat.{mul-le}
use Rattle.std.proofs.lemmas.Option.{same_Some}
use Rattle.toml.specs.Data.{Data, Members, no_members, as_table, as_integer, get_member}
use Rattle.agent_shell.specs.Parameters.{IsSize, IsKind}
use Rattle.agent_shell.specs.declared.setting.Kind.{Kind}
use Rattle.agent_shell.specs.declared.setting.Kind.TheVariants.{Watcher, Noise}
use Rattle.agent_shell.specs.declared.setting.TraderSetting.{TraderSetting}
use Rattle.fundamental_series.specs.declared.rule.SeriesRow.{SeriesRow}
use Rattle.market_floor.specs.Opening.{IsTraderOf}
use Rattle.study_file.specs.Values.{number_at, number_or, string_at, is_between, has_between}
use Rattle.study_market.specs.MarketRules.{size_of, bases, start_of, is_group}
use Rattle.study_market.specs.StockRules.{symbols}
use Rattle.study_market.specs.ChangeRules.{is_kind, names_stock}
use Rattle.study_market.specs.AgentRules.{agents, count_found, count_in, left_after, first_too_many, counts_broken, count_of, first_wakeup_at, has_timing, timing_broken, agent_stock_broken, has_size, has_distance, has_guess, has_spans, has_levels, has_own, own_broken}
use Rattle.study_market.specs.Entries.{entry_of, natural_at, place_of}
use Rattle.study_market.specs.Market.{numbers_in}
use Rattle.study_market.specs.Traders.{value_kind_of, momentum_kind_of, maker_kind_of, kind_of, trader_of, traders_in, traders_of, size_of as shares_of}
use Rattle.study_market.specs.Opening.{opening_of}
use Rattle.study_market.proofs.Lists.{each-kept, all-flat, all-counted}
use Rattle.study_market.proofs.Numbers.{Within, natural-between, group-below, at-least, below-other}
use Rattle.study_market.proofs.PartDates.{known-stock}
use Rattle.study_market.proofs.SeriesRanges.{implied}

-- how many traders there are

found-number : (m : Option Data) (n : ℤ) → count_found m ≡ Some n → n ≡ unwrap_or (option_and_then as_integer m) (pos 1)
found-number None n h = sym (same_Some _ _ h)
found-number (Some x) n h = sym (ap (λ (o : Option ℤ). unwrap_or o (pos 1)) h)

said-number : (o : Option Members) (n : ℤ) → option_and_then (λ (t : Members). count_found (get_member (codes "count") t)) o ≡ Some n
    → n ≡ number_or (pos 1) (codes "count") (unwrap_or o no_members)
said-number None n h = absurd (cc h)
said-number (Some t) n h = found-number (get_member (codes "count") t) n h

left-if : (b : Bool) (n : ℤ) (left rest : ℕ) → is_between (pos 1) (pos left) n ≡ b → (if b then Some (left - unsigned_abs n) else None) ≡ Some rest
    → Within 1 left (unsigned_abs n) × (unsigned_abs n + rest ≡ left)
left-if true n left rest e h =
    let within : Within 1 left (unsigned_abs n) = natural-between 1 left n e in
    let same : left - unsigned_abs n ≡ rest = same_Some _ _ h in
    (within, omega (arith, within.not_above, same))
left-if false n left rest e h = absurd (cc h)

left-of : (o : Option ℤ) (left rest count : ℕ) → ((n : ℤ) → o ≡ Some n → unsigned_abs n ≡ count)
    → elim o [ None ↦ None | Some n ↦ if is_between (pos 1) (pos left) n then Some (left - unsigned_abs n) else None ] ≡ Some rest
    → Within 1 left count × (count + rest ≡ left)
left-of None left rest count said h = absurd (cc h)
left-of (Some n) left rest count said h =
    let parts = left-if (is_between (pos 1) (pos left) n) n left rest refl h in
    subst (λ (k : ℕ). Within 1 left k × (k + rest ≡ left)) (said n refl) parts

-- an entry counts at least one trader, and at most those that are left
counted : (left rest : ℕ) (d : Data) → left_after left d ≡ Some rest → Within 1 left (count_of (entry_of d)) × (count_of (entry_of d) + rest ≡ left)
counted left rest d h = left-of (count_in d) left rest (count_of (entry_of d)) (λ n e. ap unsigned_abs (said-number (as_table d) n e)) h

-- so many entries make so many traders
pub record AreCounted (known : List (List ℕ)) (left : ℕ) (ds : List Data) : Type 0 where
  pub each : All (λ (d : Data). count_of (entry_of d) ≤ left) ds
  pub some : length ds ≤ length (flat_map (λ (d : Data). traders_in known (entry_of d)) ds)
  pub few : length (flat_map (λ (d : Data). traders_in known (entry_of d)) ds) ≤ left

more-counted : (known : List (List ℕ)) (left rest : ℕ) (d : Data) (ds : List Data) → left_after left d ≡ Some rest → AreCounted known rest ds → AreCounted known left (d ∷ ds)
more-counted known left rest d ds e h =
    let here = counted left rest d e in
    let long : length (traders_in known (entry_of d)) ≡ count_of (entry_of d) = length-map-range_with_len (trader_of known (entry_of d)) 0 (count_of (entry_of d)) in
    let both : length (flat_map (λ (x : Data). traders_in known (entry_of x)) (d ∷ ds))
    ≡ length (traders_in known (entry_of d)) + length (flat_map (λ (x : Data). traders_in known (entry_of x)) ds)
    = length-append (traders_in known (entry_of d)) (flat_map (λ (x : Data). traders_in known (entry_of x)) ds) in record {
      each = All-cons (λ (x : Data). count_of (entry_of x) ≤ left) d ds here.0.not_above
          (All-weaker (λ (x : Data). count_of (entry_of x) ≤ rest) (λ (x : Data). count_of (entry_of x) ≤ left) (λ x le. omega (arith, le, here.1)) ds h.each);
      some = omega (arith, both, long, here.0.not_below, h.some);
      few = omega (arith, both, long, here.1, h.few);
    }

counted-step : (known : List (List ℕ)) (o : Option ℕ) (left place : ℕ) (d : Data) (ds : List Data) → left_after left d ≡ o
    → ((rest : ℕ) → first_too_many rest (place + 1) ds ≡ None → AreCounted known rest ds)
    → ◌≡◌ {A = Option ℕ} (elim o [ None ↦ Some place | Some rest ↦ first_too_many rest (place + 1) ds ]) None → AreCounted known left (d ∷ ds)
counted-step known None left place d ds e more h = absurd (cc h)
counted-step known (Some rest) left place d ds e more h = more-counted known left rest d ds e (more rest h)

pub are-counted : (known : List (List ℕ)) (left place : ℕ) (ds : List Data) → first_too_many left place ds ≡ None → AreCounted known left ds
are-counted known left place [] h = record { each = All-nil (λ (d : Data). count_of (entry_of d) ≤ left); some = omega arith; few = omega arith }
are-counted known left place (d ∷ ds) h = counted-step known (left_after left d) left place d ds refl (λ rest none. are-counted known rest (place + 1) ds none) h

some-if : (b : Bool) (n : ℕ) (o : Option ℕ) → (n == 0) ≡ b → (if b then Some 0 else o) ≡ None → (1 ≤ n) × (o ≡ None)
some-if true n o e h = absurd (cc h)
some-if false n o e h = (grind (arith, nat_tests, e), h)

pub counts-held : (t : Members) → counts_broken t ≡ None → (1 ≤ length (agents t)) × (first_too_many 511 0 (agents t) ≡ None)
counts-held t h = some-if (length (agents t) == 0) (length (agents t)) (first_too_many 511 0 (agents t)) refl h

pub how-many : (t : Members) → counts_broken t ≡ None → (1 ≤ length (traders_of t)) × (length (traders_of t) ≤ 511)
how-many t h =
    let held = counts-held t h in
    let count = are-counted (symbols t) 511 0 (agents t) held.1 in
    (omega (arith, held.0, count.some), count.few)

-- a trader's kind

shares : (t : Members) → has_size t ≡ true → IsSize (shares_of t)
shares t h =
    let within : Within 1 999999 (shares_of t) = natural-between 1 999999 (number_at (codes "size") t) h in record { not_below = within.not_below; not_above = within.not_above }

far : (key : List ℕ) (t : Members) → has_distance key t ≡ true → natural_at key t ≤ 1000000000
far key t h = (natural-between 0 1000000000 (number_at key t) h).not_above

guess : (t : Members) → has_guess t ≡ true → IsKind (value_kind_of t)
guess t h =
    let parts = and_parts (has_size t && has_distance (codes "noise") t) (has_distance (codes "margin") t) h in
    let first = and_parts (has_size t) (has_distance (codes "noise") t) parts.0 in
    (shares t first.0, far (codes "noise") t first.1, far (codes "margin") t parts.1)

spans : (t : Members) → has_spans t ≡ true → IsKind (momentum_kind_of t)
spans t h =
    let short : Bool = has_between (pos 1) (pos 64) (codes "short") t in
    let long : Bool = has_between (pos 2) (pos 64) (codes "long") t in
    let less : Bool = int_lt (number_at (codes "short") t) (number_at (codes "long") t) in
    let parts = and_parts (has_size t && short && long) less h in
    let first = and_parts (has_size t && short) long parts.0 in
    let size = and_parts (has_size t) short first.0 in (
      shares t size.0,
      (natural-between 1 64 (number_at (codes "short") t) size.1).not_below,
      below-other (number_at (codes "short") t) (number_at (codes "long") t) 1 64 size.1 parts.1,
      (natural-between 2 64 (number_at (codes "long") t) first.1).not_above,
    )

levels : (t : Members) → has_levels t ≡ true → IsKind (maker_kind_of t)
levels t h =
    let count : Bool = has_between (pos 1) (pos 8) (codes "levels") t in
    let pause : Bool = has_between (pos 0) (pos 3600000000000) (codes "pause") t in
    let parts = and_parts (has_size t && has_distance (codes "half") t && has_distance (codes "step") t && count) pause h in
    let first = and_parts (has_size t && has_distance (codes "half") t && has_distance (codes "step") t) count parts.0 in
    let step = and_parts (has_size t && has_distance (codes "half") t) (has_distance (codes "step") t) first.0 in
    let size = and_parts (has_size t) (has_distance (codes "half") t) step.0 in
    let few : Within 1 8 (natural_at (codes "levels") t) = natural-between 1 8 (number_at (codes "levels") t) first.1 in (
      shares t size.0,
      far (codes "half") t size.1,
      far (codes "step") t step.1,
      record { not_below = few.not_below; not_above = few.not_above },
      (natural-between 0 3600000000000 (number_at (codes "pause") t) parts.1).not_above,
    )

kind-if : (noise value momentum maker : Bool) (a b c d : Kind) → (noise ≡ true → IsKind a) → (value ≡ true → IsKind b) → (momentum ≡ true → IsKind c) → (maker ≡ true → IsKind d)
    → IsKind (if noise then a else if value then b else if momentum then c else if maker then d else Watcher)
kind-if true value momentum maker a b c d h i j k = h refl
kind-if false true momentum maker a b c d h i j k = i refl
kind-if false false true maker a b c d h i j k = j refl
kind-if false false false true a b c d h i j k = k refl
kind-if false false false false a b c d h i j k = tt

is-trader-kind : (t : Members) → has_own t ≡ true → IsKind (kind_of t)
is-trader-kind t h =
    let noise : Bool = not (is_kind (codes "noise") t) || has_size t in
    let value : Bool = not (is_kind (codes "value") t) || has_guess t in
    let momentum : Bool = not (is_kind (codes "momentum") t) || has_spans t in
    let maker : Bool = not (is_kind (codes "maker") t) || has_levels t in
    let four = and_parts (noise && value && momentum) maker h in
    let three = and_parts (noise && value) momentum four.0 in
    let two = and_parts noise value three.0 in
    kind-if (is_kind (codes "noise") t) (is_kind (codes "value") t) (is_kind (codes "momentum") t) (is_kind (codes "maker") t)
    (Noise (shares_of t)) (value_kind_of t) (momentum_kind_of t) (maker_kind_of t)
    (λ e. shares t (implied (is_kind (codes "noise") t) (has_size t) two.0 e))
    (λ e. guess t (implied (is_kind (codes "value") t) (has_guess t) two.1 e))
    (λ e. spans t (implied (is_kind (codes "momentum") t) (has_spans t) three.1 e))
    (λ e. levels t (implied (is_kind (codes "maker") t) (has_levels t) four.1 e))

-- the timing of an entry in plain numbers
pub record IsTimed (size start : ℕ) (t : Members) : Type 0 where
  pub group : natural_at (codes "group") t < size
  pub first : start ≤ natural_at (codes "first") t
  pub spread : natural_at (codes "spread") t ≤ 3600000000000
  pub delay : natural_at (codes "delay") t ≤ 3600000000000
  pub every : Within 1 3600000000000 (natural_at (codes "every") t)
  pub wobble : natural_at (codes "wobble") t ≤ 4294967295
  pub last : first_wakeup_at (count_of t - 1) t ≤ 86399999999999

pub is-timed : (size start : ℕ) (t : Members) → has_timing size start t ≡ true → IsTimed size start t
is-timed size start t h =
    let group : Bool = is_group size t in
    let first : Bool = int_le (pos start) (number_at (codes "first") t) in
    let spread : Bool = has_between (pos 0) (pos 3600000000000) (codes "spread") t in
    let delay : Bool = has_between (pos 0) (pos 3600000000000) (codes "delay") t in
    let every : Bool = has_between (pos 1) (pos 3600000000000) (codes "every") t in
    let wobble : Bool = has_between (pos 0) (pos 4294967295) (codes "wobble") t in
    let last : Bool = nat_le (first_wakeup_at (count_of t - 1) t) 86399999999999 in
    let seven = and_parts (group && first && spread && delay && every && wobble) last h in
    let six = and_parts (group && first && spread && delay && every) wobble seven.0 in
    let five = and_parts (group && first && spread && delay) every six.0 in
    let four = and_parts (group && first && spread) delay five.0 in
    let three = and_parts (group && first) spread four.0 in
    let two = and_parts group first three.0 in record {
      group = group-below size (number_at (codes "group") t) two.0;
      first = at-least start (number_at (codes "first") t) two.1;
      spread = (natural-between 0 3600000000000 (number_at (codes "spread") t) three.1).not_above;
      delay = (natural-between 0 3600000000000 (number_at (codes "delay") t) four.1).not_above;
      every = natural-between 1 3600000000000 (number_at (codes "every") t) five.1;
      wobble = (natural-between 0 4294967295 (number_at (codes "wobble") t) six.1).not_above;
      last = leb-true (first_wakeup_at (count_of t - 1) t) 86399999999999 seven.1;
    }

pub before-last : (f s n count last : ℕ) → n < count → f + (count - 1) * s ≤ last → f + n * s ≤ last
before-last f s n count last less h = let rows : n * s ≤ (count - 1) * s = mul-le n s (count - 1) s (omega (arith, less)) (omega arith) in omega (arith, rows, h)

is-trader : (t entry : Members) (tables : List (List SeriesRow)) (n : ℕ) → has_timing (size_of t) (start_of t) entry ≡ true → has_own entry ≡ true
    → names_stock (symbols t) entry ≡ true → n < count_of entry → IsTraderOf (opening_of t tables) (trader_of (symbols t) entry n)
is-trader t entry tables n timing own named less =
    let timed : IsTimed (size_of t) (start_of t) entry = is-timed (size_of t) (start_of t) entry timing in record {
      setting = record { kind = is-trader-kind entry own; every = record { not_below = timed.every.not_below; not_above = timed.every.not_above }; delay = timed.delay };
      group = omega (arith, timed.group, length-map (bases t) numbers_in);
      stock = known-stock t entry named;
      start = omega (arith, timed.first);
      first = before-last (natural_at (codes "first") entry) (natural_at (codes "spread") entry) n (count_of entry) 86399999999999 less timed.last;
      wobble = timed.wobble;
    }

pub are-traders : (t : Members) (tables : List (List SeriesRow)) → timing_broken t ≡ None → agent_stock_broken t ≡ None → own_broken t ≡ None
    → All (IsTraderOf (opening_of t tables)) (traders_of t)
are-traders t tables timing named own =
    all-flat (IsTraderOf (opening_of t tables)) (λ (d : Data). traders_in (symbols t) (entry_of d)) (agents t)
    (λ k d within. all-counted (IsTraderOf (opening_of t tables)) (trader_of (symbols t) (entry_of (get_or (agents t) k d))) (count_of (entry_of (get_or (agents t) k d)))
    (λ n less. is-trader t (entry_of (get_or (agents t) k d)) tables n (each-kept (has_timing (size_of t) (start_of t)) (agents t) timing k d within)
    (each-kept has_own (agents t) own k d within) (each-kept (names_stock (symbols t)) (agents t) named k d within) less))

group-within : (size : ℕ) (z : ℤ) → size ≤ 32 → (int_le (pos 0) z && int_lt z (pos size)) ≡ true → (int_le (pos 0) z && int_lt z (pos 32)) ≡ true
group-within size (pos n) few h =
    let parts : (nat_le 0 n ≡ true) × (nat_lt n size ≡ true) = and_parts (nat_le 0 n) (nat_lt n size) h in
    and_from (nat_le 0 n) (nat_lt n 32) parts.0 (lt-ltb n 32 (omega (arith, few, ltb-true n size parts.1)))
group-within size (negsuc n) few h = absurd (cc h)

from-zero : (start : ℕ) (z : ℤ) → int_le (pos start) z ≡ true → int_le (pos 0) z ≡ true
from-zero start (pos n) h = le-leb 0 n (omega arith)
from-zero start (negsuc n) h = absurd (cc h)

-- an entry is timed for a market of 32 groups that opens at 0, where it is for one of fewer groups that opens later
pub loosely : (size start : ℕ) (t : Members) → size ≤ 32 → has_timing size start t ≡ true → has_timing 32 0 t ≡ true
loosely size start t few h =
    let first : Bool = int_le (pos start) (number_at (codes "first") t) in
    let spread : Bool = has_between (pos 0) (pos 3600000000000) (codes "spread") t in
    let delay : Bool = has_between (pos 0) (pos 3600000000000) (codes "delay") t in
    let every : Bool = has_between (pos 1) (pos 3600000000000) (codes "every") t in
    let wobble : Bool = has_between (pos 0) (pos 4294967295) (codes "wobble") t in
    let last : Bool = nat_le (first_wakeup_at (count_of t - 1) t) 86399999999999 in
    let seven = and_parts (is_group size t && first && spread && delay && every && wobble) last h in
    let six = and_parts (is_group size t && first && spread && delay && every) wobble seven.0 in
    let five = and_parts (is_group size t && first && spread && delay) every six.0 in
    let four = and_parts (is_group size t && first && spread) delay five.0 in
    let three = and_parts (is_group size t && first) spread four.0 in
    let two = and_parts (is_group size t) first three.0 in
    let group : is_group 32 t ≡ true = group-within size (number_at (codes "group") t) few two.0 in
    let zero-on : Bool = int_le (pos 0) (number_at (codes "first") t) in
    let low : zero-on ≡ true = from-zero start (number_at (codes "first") t) two.1 in
    and_from (is_group 32 t && zero-on && spread && delay && every && wobble) last
    (and_from (is_group 32 t && zero-on && spread && delay && every) wobble
    (and_from (is_group 32 t && zero-on && spread && delay) every
    (and_from (is_group 32 t && zero-on && spread) delay
    (and_from (is_group 32 t && zero-on) spread (and_from (is_group 32 t) zero-on group low) three.1) four.1) five.1) six.1) seven.1

pub one-trader-more : (old : List TraderSetting) (f : ℕ → TraderSetting) (n : ℕ)
    → old ++ map f (range_with_len 0 (n + 1)) ≡ (old ++ map f (range_with_len 0 n)) ++ f n ∷ []
one-trader-more old f n =
    ap (λ ys. old ++ ys) (map-range_with_len_more f 0 n n (omega arith))
    ∙ sym (append_assoc old (map f (range_with_len 0 n)) (f n ∷ []))

-- traders of this kind and for this stock
pub same-traders : (known : List (List ℕ)) (t : Members) (kind : Kind) (stock : ℕ) → kind ≡ kind_of t → stock ≡ place_of known (string_at (codes "stock") t)
    → map (λ (n : ℕ). record (trader_of [] t n) { kind = kind; stock = stock }) (range_with_len 0 (count_of t)) ≡ traders_in known t
same-traders known t kind stock e f =
    ap (λ (k : Kind). map (λ (n : ℕ). record (trader_of [] t n) { kind = k; stock = stock }) (range_with_len 0 (count_of t))) e
    ∙ ap (λ (s : ℕ). map (λ (n : ℕ). record (trader_of [] t n) { kind = kind_of t; stock = s }) (range_with_len 0 (count_of t))) f
