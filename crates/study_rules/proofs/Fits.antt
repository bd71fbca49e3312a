-- The edits that a study says can be made where there are its stocks, its traders by kind and its latency groups.
use Rattle.std.proofs.Common.{◌≡◌, ◌≤◌, ◌<◌, ◌+◌, ◌-◌, ℕ, zero, suc, ℤ, pos, negsuc, unsigned_abs, nat_le, nat_lt, Bool, true, false, List, [], ◌∷◌, map, length, Option, None, Some, IfSome, refl, ap, sym, ◌∙◌, arith, subst, codes, bytes_eq, if◌then◌else◌}
use Rattle.std.specs.Prelude.{◌&&◌, int_le, int_lt, option_map, is_none, slice_index_or}
use Rattle.std.specs.List.{list_all}
use Rattle.std.proofs.lemmas.Bool.{and_parts, and_from}
use Rattle.std.proofs.lemmas.Bool.Decides.{nat_tests}
use Rattle.std.proofs.lemmas.Option.{same_Some}
use Rattle.toml.specs.Data.{Data, Members}
use Rattle.market_rules.specs.declared.bands.Band.{Band}
use Rattle.market_rules.specs.declared.edit.Edit.{Edit}
use Rattle.market_rules.specs.declared.edit.Edit.TheVariants.{Tick, Fee, Halt, Resume, Agent, Silence, Inject, Series}
use Rattle.market_rules.specs.declared.edit.Param.{Param}
use Rattle.market_rules.specs.declared.edit.Param.TheVariants as parameter
use Rattle.market_rules.specs.EditRanges.{is_within, is_near_zero, is_modest_table, is_modest_fee, is_value_of}
use Rattle.market_rules.specs.Refusals.{table_refusal}
use Rattle.agent_shell.specs.declared.setting.Kind.{Kind}
use Rattle.agent_shell.specs.declared.setting.Kind.TheVariants.{Watcher, Noise, Value, Momentum, Maker}
use Rattle.agent_shell.specs.Parameters.{IsBetween, IsOwnParam}
use Rattle.study_file.specs.Values.{number_at, string_at, list_at, is_between, has_between}
use Rattle.study_file.proofs.KeyLists.{position-below}
use Rattle.study_market.specs.StockRules.{band_in, is_band, are_in_range, are_bands, has_bands, is_fee, has_fees, first_in, second_in}
use Rattle.study_file.specs.Values.{list_in}
use Rattle.study_market.specs.ChangeRules.{is_kind}
use Rattle.study_rules.specs.Scope.{Scope}
use Rattle.study_rules.specs.EditRules.{◌>>=◌, natural_in, stock_in, trader_in, group_in, tick_in, fee_in, latency_in, param_named, has_param, is_param_value, kind_of_trader, agent_in, silence_in, message_in, inject_in, series_in, edit_in}
use Rattle.study_rules.specs.Fitting.{word_of, IsEditAmong}

-- steps that give a value

bind-some : {A B : Type 0} (o : Option A) (f : A → Option B) (y : B) (P : Type 0)
    → ((a : A) → o ≡ Some a → f a ≡ Some y → P) → (o >>= f) ≡ Some y → P
bind-some None f y P more h = absurd (cc h)
bind-some (Some a) f y P more h = more a refl h

map-some : {A B : Type 0} (o : Option A) (f : A → B) (y : B) (P : Type 0)
    → ((a : A) → o ≡ Some a → f a ≡ y → P) → option_map f o ≡ Some y → P
map-some None f y P more h = absurd (cc h)
map-some (Some a) f y P more h = more a refl (same_Some _ _ h)

guarded : {A : Type 0} (b : Bool) (v x : A) → (if b then Some v else None) ≡ Some x → (b ≡ true) × (v ≡ x)
guarded true v x h = (refl, same_Some _ _ h)
guarded false v x h = absurd (cc h)

either : {A : Type 0} (b : Bool) (o p : Option A) (x : A) (P : Type 0) → (o ≡ Some x → P) → (p ≡ Some x → P)
    → (if b then o else p) ≡ Some x → P
either true o p x P f g h = f h
either false o p x P f g h = g h

-- numbers

within : (low high : ℕ) (z : ℤ) → is_between (pos low) (pos high) z ≡ true → is_within low high (unsigned_abs z) ≡ true
within low high (pos n) h = h
within low high (negsuc n) h = absurd (cc h)

at-most : (low high n : ℕ) → is_within low high n ≡ true → n ≤ high
at-most low high n h = let parts = and_parts (nat_le low n) (nat_le n high) h in grind (arith, nat_tests, parts.1)

at-least : (low high n : ℕ) → is_within low high n ≡ true → low ≤ n
at-least low high n h = let parts = and_parts (nat_le low n) (nat_le n high) h in grind (arith, nat_tests, parts.0)

natural-within : (low high : ℕ) (key : List ℕ) (e : Members) (n : ℕ) → natural_in low high key e ≡ Some n → is_within low high n ≡ true
natural-within low high key e n h =
    let parts = guarded (has_between (pos low) (pos high) key e) (unsigned_abs (number_at key e)) n h in
    subst (λ m. is_within low high m ≡ true) parts.1 (within low high (number_at key e) parts.0)

below : (z : ℤ) (groups : ℕ) → (int_le (pos 0) z && int_lt z (pos groups)) ≡ true → nat_lt (unsigned_abs z) groups ≡ true
below (pos n) groups h = (and_parts (nat_le 0 n) (nat_lt n groups) h).1
below (negsuc n) groups h = absurd (cc h)

group-below : (groups : ℕ) (key : List ℕ) (e : Members) (n : ℕ) → group_in groups key e ≡ Some n → nat_lt n groups ≡ true
group-below groups key e n h =
    let parts = guarded (int_le (pos 0) (number_at key e) && int_lt (number_at key e) (pos groups)) (unsigned_abs (number_at key e)) n h in
    subst (λ m. nat_lt m groups ≡ true) parts.1 (below (number_at key e) groups parts.0)

lower : (o : Option ℕ) (n most : ℕ) → o ≡ Some n → IfSome o (λ at. at < most) → nat_lt n most ≡ true
lower o n most e h = let less : n < most = subst (λ p. IfSome p (λ at. at < most)) e h in grind (arith, nat_tests, less)

stock-below : (scope : Scope) (e : Members) (n : ℕ) → stock_in scope e ≡ Some n → nat_lt n (length scope.stocks) ≡ true
stock-below scope e n h =
    lower (stock_in scope e) n (length scope.stocks) h (position-below (λ name. bytes_eq name (string_at (codes "stock") e)) scope.stocks)

near : (far : ℕ) (z : ℤ) → is_between (negsuc far) (pos (far + 1)) z ≡ true → is_near_zero (far + 1) z ≡ true
near far (pos n) h = (and_parts (int_le (negsuc far) (pos n)) (nat_le n (far + 1)) h).1
near far (negsuc n) h =
    let part : nat_le n far ≡ true = (and_parts (nat_le n far) (int_le (negsuc n) (pos (far + 1))) h).0 in
    grind (arith, nat_tests, part)

-- tick tables

modest-band : (d : Data) → is_band d ≡ true → (nat_le (band_in d).from 1999999900 && is_within 1 1000000 (band_in d).tick) ≡ true
modest-band d h =
    let parts = and_parts (is_between (pos 0) (pos 1999999900) (first_in (list_in d))) (is_between (pos 1) (pos 1000000) (second_in (list_in d))) h in
    let from : is_within 0 1999999900 (band_in d).from ≡ true = within 0 1999999900 (first_in (list_in d)) parts.0 in
    let tick : is_within 1 1000000 (band_in d).tick ≡ true = within 1 1000000 (second_in (list_in d)) parts.1 in
    and_from (nat_le (band_in d).from 1999999900) (is_within 1 1000000 (band_in d).tick)
    (and_parts (nat_le 0 (band_in d).from) (nat_le (band_in d).from 1999999900) from).1 tick

modest-bands : (ds : List Data) → list_all is_band ds ≡ true
    → list_all (λ (b : Band). nat_le b.from 1999999900 && is_within 1 1000000 b.tick) (map band_in ds) ≡ true
modest-bands [] h = refl
modest-bands (d ∷ ds) h =
    let parts = and_parts (is_band d) (list_all is_band ds) h in
    and_from (nat_le (band_in d).from 1999999900 && is_within 1 1000000 (band_in d).tick)
    (list_all (λ (b : Band). nat_le b.from 1999999900 && is_within 1 1000000 b.tick) (map band_in ds))
    (modest-band d parts.0) (modest-bands ds parts.1)

length-bands : (ds : List Data) → length (map band_in ds) ≡ length ds
length-bands [] = refl
length-bands (d ∷ ds) = ap suc (length-bands ds)

modest-table : (ds : List Data) → are_bands ds ≡ true → is_modest_table (map band_in ds) ≡ true
modest-table ds h =
    let range = (and_parts (are_in_range ds) (is_none (table_refusal (map band_in ds))) h).0 in
    let parts = and_parts (is_within 1 16 (length ds)) (list_all is_band ds) range in
    and_from (is_within 1 16 (length (map band_in ds)))
    (list_all (λ (b : Band). nat_le b.from 1999999900 && is_within 1 1000000 b.tick) (map band_in ds))
    (ap (is_within 1 16) (length-bands ds) ∙ parts.0) (modest-bands ds parts.1)

modest-fees : (e : Members) → has_fees e ≡ true
    → is_modest_fee (record { add = number_at (codes "add") e; take = number_at (codes "take") e }) ≡ true
modest-fees e h =
    let parts = and_parts (is_fee (number_at (codes "add") e)) (is_fee (number_at (codes "take") e)) h in
    and_from (is_near_zero 1000000 (number_at (codes "add") e)) (is_near_zero 1000000 (number_at (codes "take") e))
    (near 999999 (number_at (codes "add") e) parts.0) (near 999999 (number_at (codes "take") e) parts.1)

-- parameters of traders

param-within : (p : Param) (z : ℤ) → is_param_value p z ≡ true → is_value_of p (unsigned_abs z) ≡ true
param-within parameter.Size z h = within 1 999999 z h
param-within parameter.Every z h = within 1 3600000000000 z h
param-within parameter.Wobble z h = (and_parts (nat_le 0 (unsigned_abs z)) (nat_le (unsigned_abs z) 4294967295) (within 0 4294967295 z h)).1
param-within parameter.Delay z h = (and_parts (nat_le 0 (unsigned_abs z)) (nat_le (unsigned_abs z) 3600000000000) (within 0 3600000000000 z h)).1
param-within parameter.Noise z h = (and_parts (nat_le 0 (unsigned_abs z)) (nat_le (unsigned_abs z) 1000000000) (within 0 1000000000 z h)).1
param-within parameter.Margin z h = (and_parts (nat_le 0 (unsigned_abs z)) (nat_le (unsigned_abs z) 1000000000) (within 0 1000000000 z h)).1
param-within parameter.Half z h = (and_parts (nat_le 0 (unsigned_abs z)) (nat_le (unsigned_abs z) 1000000000) (within 0 1000000000 z h)).1
param-within parameter.Step z h = (and_parts (nat_le 0 (unsigned_abs z)) (nat_le (unsigned_abs z) 1000000000) (within 0 1000000000 z h)).1
param-within parameter.Levels z h = within 1 8 z h
param-within parameter.Pause z h = (and_parts (nat_le 0 (unsigned_abs z)) (nat_le (unsigned_abs z) 3600000000000) (within 0 3600000000000 z h)).1

between-of : (low high n : ℕ) → is_within low high n ≡ true → IsBetween low high n
between-of low high n h = record { not_below = at-least low high n h; not_above = at-most low high n h }

at-most-of : (high n : ℕ) → nat_le n high ≡ true → n ≤ high
at-most-of high n h = grind (arith, nat_tests, h)

own-param : (k : Kind) (p : Param) (n : ℕ) → has_param (word_of k) p ≡ true → is_value_of p n ≡ true → IsOwnParam k p n
own-param Watcher parameter.Every n h v = between-of 1 3600000000000 n v
own-param (Noise size) parameter.Every n h v = between-of 1 3600000000000 n v
own-param (Value size noise margin) parameter.Every n h v = between-of 1 3600000000000 n v
own-param (Momentum size short long) parameter.Every n h v = between-of 1 3600000000000 n v
own-param (Maker size half step levels pause) parameter.Every n h v = between-of 1 3600000000000 n v
own-param Watcher parameter.Wobble n h v = at-most-of 4294967295 n v
own-param (Noise size) parameter.Wobble n h v = at-most-of 4294967295 n v
own-param (Value size noise margin) parameter.Wobble n h v = at-most-of 4294967295 n v
own-param (Momentum size short long) parameter.Wobble n h v = at-most-of 4294967295 n v
own-param (Maker size half step levels pause) parameter.Wobble n h v = at-most-of 4294967295 n v
own-param Watcher parameter.Delay n h v = at-most-of 3600000000000 n v
own-param (Noise size) parameter.Delay n h v = at-most-of 3600000000000 n v
own-param (Value size noise margin) parameter.Delay n h v = at-most-of 3600000000000 n v
own-param (Momentum size short long) parameter.Delay n h v = at-most-of 3600000000000 n v
own-param (Maker size half step levels pause) parameter.Delay n h v = at-most-of 3600000000000 n v
own-param Watcher parameter.Size n h v = absurd (cc h)
own-param (Noise size) parameter.Size n h v = between-of 1 999999 n v
own-param (Value size noise margin) parameter.Size n h v = between-of 1 999999 n v
own-param (Momentum size short long) parameter.Size n h v = between-of 1 999999 n v
own-param (Maker size half step levels pause) parameter.Size n h v = between-of 1 999999 n v
own-param Watcher parameter.Noise n h v = absurd (cc h)
own-param (Noise size) parameter.Noise n h v = absurd (cc h)
own-param (Value size noise margin) parameter.Noise n h v = at-most-of 1000000000 n v
own-param (Momentum size short long) parameter.Noise n h v = absurd (cc h)
own-param (Maker size half step levels pause) parameter.Noise n h v = absurd (cc h)
own-param Watcher parameter.Margin n h v = absurd (cc h)
own-param (Noise size) parameter.Margin n h v = absurd (cc h)
own-param (Value size noise margin) parameter.Margin n h v = at-most-of 1000000000 n v
own-param (Momentum size short long) parameter.Margin n h v = absurd (cc h)
own-param (Maker size half step levels pause) parameter.Margin n h v = absurd (cc h)
own-param Watcher parameter.Half n h v = absurd (cc h)
own-param (Noise size) parameter.Half n h v = absurd (cc h)
own-param (Value size noise margin) parameter.Half n h v = absurd (cc h)
own-param (Momentum size short long) parameter.Half n h v = absurd (cc h)
own-param (Maker size half step levels pause) parameter.Half n h v = at-most-of 1000000000 n v
own-param Watcher parameter.Step n h v = absurd (cc h)
own-param (Noise size) parameter.Step n h v = absurd (cc h)
own-param (Value size noise margin) parameter.Step n h v = absurd (cc h)
own-param (Momentum size short long) parameter.Step n h v = absurd (cc h)
own-param (Maker size half step levels pause) parameter.Step n h v = at-most-of 1000000000 n v
own-param Watcher parameter.Levels n h v = absurd (cc h)
own-param (Noise size) parameter.Levels n h v = absurd (cc h)
own-param (Value size noise margin) parameter.Levels n h v = absurd (cc h)
own-param (Momentum size short long) parameter.Levels n h v = absurd (cc h)
own-param (Maker size half step levels pause) parameter.Levels n h v = between-of 1 8 n v
own-param Watcher parameter.Pause n h v = absurd (cc h)
own-param (Noise size) parameter.Pause n h v = absurd (cc h)
own-param (Value size noise margin) parameter.Pause n h v = absurd (cc h)
own-param (Momentum size short long) parameter.Pause n h v = absurd (cc h)
own-param (Maker size half step levels pause) parameter.Pause n h v = at-most-of 3600000000000 n v

words-count : (kinds : List Kind) → length (map word_of kinds) ≡ length kinds
words-count [] = refl
words-count (k ∷ ks) = ap suc (words-count ks)

word-at : (kinds : List Kind) (i : ℕ) → i < length kinds → slice_index_or (map word_of kinds) i [] ≡ word_of (slice_index_or kinds i Watcher)
word-at [] i h = absurd (omega (arith, h))
word-at (k ∷ ks) zero h = refl
word-at (k ∷ ks) (suc i) h = word-at ks i (omega (arith, h))

-- each kind of edit

abbrev Fits : Scope → List Kind → Edit → Type 0
Fits scope kinds x = IsEditAmong (length scope.stocks) kinds scope.groups x

trader-within : (scope : Scope) (kinds : List Kind) (e : Members) (n : ℕ) → map word_of kinds ≡ scope.kinds → trader_in scope e ≡ Some n
    → is_within 1 (length kinds) n ≡ true
trader-within scope kinds e n same h =
    let count : length scope.kinds ≡ length kinds = ap length (sym same) ∙ words-count kinds in
    subst (λ m. is_within 1 m n ≡ true) count (natural-within 1 (length scope.kinds) (codes "agent") e n h)

tick-fits : (scope : Scope) (kinds : List Kind) (e : Members) (x : Edit) → tick_in scope e ≡ Some x → Fits scope kinds x
tick-fits scope kinds e x h =
    bind-some (stock_in scope e) (λ stock. if has_bands e then Some (Tick stock (map band_in (list_at (codes "bands") e))) else None) x (Fits scope kinds x)
    (λ stock found rest. let parts = guarded (has_bands e) (Tick stock (map band_in (list_at (codes "bands") e))) x rest in
    subst (Fits scope kinds) parts.1 (record {
      among = stock-below scope e stock found;
      range = modest-table (list_at (codes "bands") e) parts.0;
      parameter = tt;
    })) h

fee-fits : (scope : Scope) (kinds : List Kind) (e : Members) (x : Edit) → fee_in scope e ≡ Some x → Fits scope kinds x
fee-fits scope kinds e x h =
    bind-some (stock_in scope e) (λ stock. if has_fees e then Some (Fee stock (record { add = number_at (codes "add") e; take = number_at (codes "take") e })) else None) x (Fits scope kinds x)
    (λ stock found rest. let parts = guarded (has_fees e) (Fee stock (record { add = number_at (codes "add") e; take = number_at (codes "take") e })) x rest in
    subst (Fits scope kinds) parts.1 (record {
      among = stock-below scope e stock found;
      range = modest-fees e parts.0;
      parameter = tt;
    })) h

halt-fits : (scope : Scope) (kinds : List Kind) (e : Members) (x : Edit) → option_map Halt (stock_in scope e) ≡ Some x → Fits scope kinds x
halt-fits scope kinds e x h =
    map-some (stock_in scope e) Halt x (Fits scope kinds x)
    (λ stock found is. subst (Fits scope kinds) is (record { among = stock-below scope e stock found; range = refl; parameter = tt })) h

resume-fits : (scope : Scope) (kinds : List Kind) (e : Members) (x : Edit) → option_map Resume (stock_in scope e) ≡ Some x → Fits scope kinds x
resume-fits scope kinds e x h =
    map-some (stock_in scope e) Resume x (Fits scope kinds x)
    (λ stock found is. subst (Fits scope kinds) is (record { among = stock-below scope e stock found; range = refl; parameter = tt })) h

latency-fits : (scope : Scope) (kinds : List Kind) (e : Members) (x : Edit) → latency_in scope e ≡ Some x → Fits scope kinds x
latency-fits scope kinds e x h =
    bind-some (group_in scope.groups (codes "from") e) _ x (Fits scope kinds x) (λ from is-from rest-1.
    bind-some (group_in scope.groups (codes "to") e) _ x (Fits scope kinds x) (λ to is-to rest-2.
    bind-some (natural_in 0 3600000000000 (codes "base") e) _ x (Fits scope kinds x) (λ base is-base rest-3.
    bind-some (natural_in 0 4294967295 (codes "jitter") e) _ x (Fits scope kinds x) (λ jitter is-jitter rest-4.
    subst (Fits scope kinds) (same_Some _ _ rest-4) (record {
      among = and_from (nat_lt from scope.groups) (nat_lt to scope.groups)
          (group-below scope.groups (codes "from") e from is-from) (group-below scope.groups (codes "to") e to is-to);
      range = (and_parts (nat_le 0 base) (nat_le base 3600000000000) (natural-within 0 3600000000000 (codes "base") e base is-base)).1;
      parameter = tt;
    })) rest-3) rest-2) rest-1) h

param-fits : (scope : Scope) (kinds : List Kind) (trader : ℕ) (p : Param) (z : ℤ) → map word_of kinds ≡ scope.kinds
    → is_within 1 (length kinds) trader ≡ true → (has_param (kind_of_trader scope trader) p && is_param_value p z) ≡ true
    → Fits scope kinds (Agent trader p (unsigned_abs z))
param-fits scope kinds trader p z same there h =
    let parts = and_parts (has_param (kind_of_trader scope trader) p) (is_param_value p z) h in
    let low : 1 ≤ trader = at-least 1 (length kinds) trader there in
    let high : trader ≤ length kinds = at-most 1 (length kinds) trader there in
    let word : kind_of_trader scope trader ≡ word_of (slice_index_or kinds (trader - 1) Watcher)
    = ap (λ ws. slice_index_or ws (trader - 1) []) (sym same) ∙ word-at kinds (trader - 1) (omega (arith, low, high)) in
    record {
      among = there;
      range = param-within p z parts.1;
      parameter = own-param (slice_index_or kinds (trader - 1) Watcher) p (unsigned_abs z)
          (subst (λ w. has_param w p ≡ true) word parts.0) (param-within p z parts.1);
    }

agent-fits : (scope : Scope) (kinds : List Kind) (e : Members) (x : Edit) → map word_of kinds ≡ scope.kinds → agent_in scope e ≡ Some x → Fits scope kinds x
agent-fits scope kinds e x same h =
    bind-some (trader_in scope e) _ x (Fits scope kinds x) (λ trader is-trader rest-1.
    bind-some (param_named (string_at (codes "name") e)) _ x (Fits scope kinds x) (λ p is-param rest-2.
    let parts = guarded (has_param (kind_of_trader scope trader) p && is_param_value p (number_at (codes "value") e))
    (Agent trader p (unsigned_abs (number_at (codes "value") e))) x rest-2 in
    subst (Fits scope kinds) parts.1
    (param-fits scope kinds trader p (number_at (codes "value") e) same (trader-within scope kinds e trader same is-trader) parts.0)) rest-1) h

silence-fits : (scope : Scope) (kinds : List Kind) (e : Members) (x : Edit) → map word_of kinds ≡ scope.kinds → silence_in scope e ≡ Some x → Fits scope kinds x
silence-fits scope kinds e x same h =
    map-some (trader_in scope e) Silence x (Fits scope kinds x)
    (λ trader found is. subst (Fits scope kinds) is (record { among = trader-within scope kinds e trader same found; range = refl; parameter = tt })) h

inject-fits : (scope : Scope) (kinds : List Kind) (e : Members) (x : Edit) → map word_of kinds ≡ scope.kinds → inject_in scope e ≡ Some x → Fits scope kinds x
inject-fits scope kinds e x same h =
    bind-some (trader_in scope e) _ x (Fits scope kinds x) (λ trader is-trader rest-1.
    bind-some (natural_in 0 86399999999999 (codes "after") e) _ x (Fits scope kinds x) (λ after is-after rest-2.
    map-some (message_in (string_at (codes "message") e)) (Inject trader after) x (Fits scope kinds x) (λ message is-message is.
    subst (Fits scope kinds) is (record {
      among = trader-within scope kinds e trader same is-trader;
      range = (and_parts (nat_le 0 after) (nat_le after 86399999999999) (natural-within 0 86399999999999 (codes "after") e after is-after)).1;
      parameter = tt;
    })) rest-2) rest-1) h

series-fits : (scope : Scope) (kinds : List Kind) (e : Members) (x : Edit) → series_in scope e ≡ Some x → Fits scope kinds x
series-fits scope kinds e x h =
    bind-some (stock_in scope e) _ x (Fits scope kinds x)
    (λ stock found rest. let parts = guarded (has_between (negsuc 1999999999) (pos 2000000000) (codes "offset") e) (Series stock (number_at (codes "offset") e)) x rest in
    subst (Fits scope kinds) parts.1 (record {
      among = stock-below scope e stock found;
      range = near 1999999999 (number_at (codes "offset") e) parts.0;
      parameter = tt;
    })) h

none-fits : (scope : Scope) (kinds : List Kind) (x : Edit) → ◌≡◌ {A = Option Edit} None (Some x) → Fits scope kinds x
none-fits scope kinds x h = absurd (cc h)

-- each edit that an entry says
pub edit-fits : (scope : Scope) (kinds : List Kind) (e : Members) (x : Edit) → map word_of kinds ≡ scope.kinds → edit_in scope e ≡ Some x → Fits scope kinds x
edit-fits scope kinds e x same h =
    either (is_kind (codes "tick") e) _ _ x (Fits scope kinds x) (tick-fits scope kinds e x) (
    either (is_kind (codes "fee") e) _ _ x (Fits scope kinds x) (fee-fits scope kinds e x) (
    either (is_kind (codes "halt") e) _ _ x (Fits scope kinds x) (halt-fits scope kinds e x) (
    either (is_kind (codes "resume") e) _ _ x (Fits scope kinds x) (resume-fits scope kinds e x) (
    either (is_kind (codes "latency") e) _ _ x (Fits scope kinds x) (latency-fits scope kinds e x) (
    either (is_kind (codes "agent") e) _ _ x (Fits scope kinds x) (agent-fits scope kinds e x same) (
    either (is_kind (codes "silence") e) _ _ x (Fits scope kinds x) (silence-fits scope kinds e x same) (
    either (is_kind (codes "inject") e) _ _ x (Fits scope kinds x) (inject-fits scope kinds e x same) (
    either (is_kind (codes "series") e) _ _ x (Fits scope kinds x) (series-fits scope kinds e x) (none-fits scope kinds x))))))))) h
