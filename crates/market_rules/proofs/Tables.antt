-- Lemmas on tick tables.
use Rattle.std.proofs.Common.{◌≡◌, ℕ, ◌+◌, ◌*◌, ◌/◌, ◌%◌, ◌-◌, min, ◌<◌, ◌≤◌, ◌⊎◌, Bool, true, false, not, cond, ltb, leb, eqb, List, [], ◌∷◌, Option, Some, None, length, get_or, refl, sym, ◌∙◌, arith, inl, inr, suc, zero, subst, filter}
use Rattle.std.specs.List.{last_or, position, position_or_len}
use Rattle.std.specs.Option.{option_map}
use Rattle.std.proofs.lemmas.List.Sums.{fails_before_first}
use Rattle.std.proofs.Math.Nat.{div-add-mod, mul-le-mul_left, mul-mod_right}
use Rattle.std.proofs.lemmas.Nat.{mod_below}
use Rattle.std.proofs.lemmas.Bool.{cases_lt, cases_eq, lt-ltb, eq-eqb}
use Rattle.std.proofs.lemmas.Bool.Decides.{nat_tests}
use Rattle.market_rules.specs.declared.bands.Band.{Band}
use Rattle.market_rules.specs.declared.error.RuleError.{RuleError}
use Rattle.market_rules.specs.declared.error.RuleError.TheVariants.{BandsNotRising, ZeroTick, BandOffTick}
use Rattle.market_rules.specs.Nearest.{IsGreatest, IsLeast, greatest_allowed, allowed_among, least_allowed}
use Rattle.market_rules.specs.Refusals.{earlier_refusal, not_rising, zero_tick, off_tick, table_refusal}
use Rattle.market_rules.specs.Ticks.{tick_of, is_allowed}
use Rattle.market_rules.proofs.Breaking.{first_break_never}

abbrev pub no_band : Band
no_band = record { from = 0; tick = 0 }

-- where all bands start above the price, none is kept
above_all : (p : ℕ) (o : Option Band) (bs : List Band) (d : Band) → ((k : ℕ) → k < length bs → p < (get_or bs k d).from) → last_or o (filter (λ (b : Band). leb b.from p) bs) ≡ o
above_all p o [] d h = refl
above_all p o (b ∷ bs) d h =
    let e : leb b.from p ≡ false = grind (arith, nat_tests, h 0 (omega arith)) in
    rw e (above_all p o bs d (λ k l. h (suc k) (omega arith)))

last_here : (p : ℕ) (o : Option Band) (bs : List Band) (d : Band) (at : ℕ) → at < length bs → (get_or bs at d).from ≤ p → ((k : ℕ) → at < k → k < length bs → p < (get_or bs k d).from) → last_or o (filter (λ (b : Band). leb b.from p) bs) ≡ Some (get_or bs at d)
last_here p o [] d at l s h = absurd (omega arith)
last_here p o (b ∷ bs) d zero l s h =
    let e : leb b.from p ≡ true = grind (arith, nat_tests) in
    rw e (above_all p (Some b) bs d (λ k m. h (suc k) (omega arith) (omega arith)))
last_here p o (b ∷ bs) d (suc at) l s h =
    elim (leb b.from p) as (λ t. last_or o (cond t (b ∷ filter (λ (x : Band). leb x.from p) bs) (filter (λ (x : Band). leb x.from p) bs)) ≡ Some (get_or bs at d)) [
      | true ↦ last_here p (Some b) bs d at (omega arith) s (λ k m n. h (suc k) (omega arith) (omega arith))
      | false ↦ last_here p o bs d at (omega arith) s (λ k m n. h (suc k) (omega arith) (omega arith))
    ]

-- the tick at a price is that of the last band that doesn't start above it
pub tick_here : (p : ℕ) (bs : List Band) (d : Band) (at : ℕ) → at < length bs → (get_or bs at d).from ≤ p → ((k : ℕ) → at < k → k < length bs → p < (get_or bs k d).from) → tick_of bs p ≡ (get_or bs at d).tick
tick_here p bs d at l s h = rw (last_here p None bs d at l s h) refl

either : (b : Bool) → (b ≡ true) ⊎ (b ≡ false)
either true = inl refl
either false = inr refl

-- place `at` is that of the last band that doesn't start above p
pub record IsIn (bs : List Band) (d : Band) (at p : ℕ) : Type 0 where
  pub within : at < length bs
  pub starts : (get_or bs at d).from ≤ p
  pub later : (k : ℕ) → at < k → k < length bs → p < (get_or bs k d).from

-- what bands that are accepted keep
pub record IsTable (bs : List Band) (d : Band) : Type 0 where
  pub some : 0 < length bs
  pub opens : (get_or bs 0 d).from ≡ 0
  pub ticks : (k : ℕ) → k < length bs → 0 < (get_or bs k d).tick
  pub multiples : (k : ℕ) → k < length bs → (get_or bs k d).from % (get_or bs k d).tick ≡ 0
  pub rising : (k : ℕ) → suc k < length bs → (get_or bs k d).from < (get_or bs (suc k) d).from

neither : (x y : Option RuleError) → earlier_refusal x y ≡ None → (x ≡ None) × (y ≡ None)
neither None y e = (refl, e)
neither (Some x) y e = cc

unmapped : {X : Type 0} (f : X → RuleError) (o : Option X) → option_map f o ≡ None → o ≡ None
unmapped f None e = refl
unmapped f (Some x) e = cc

none_passes : {X : Type 0} (p : X → Bool) (xs : List X) (d : X) → position p xs ≡ None → (k : ℕ) → k < length xs → p (get_or xs k d) ≡ false
none_passes p xs d e k l = elim (cases_lt (position_or_len p xs) (length xs)) [
  | inl h ↦ let bad = rw (lt-ltb (position_or_len p xs) (length xs) h) at e in cc
  | inr h ↦ fails_before_first p xs k d (omega arith)
]

opens_at_zero : (b : Band) (bs : List Band) → off_tick (b ∷ bs) ≡ None → (b.from ≡ 0) × (position (λ (x : Band). not (eqb (x.from % x.tick) 0)) (b ∷ bs) ≡ None)
opens_at_zero b bs e = elim (cases_eq b.from 0) [
  | inl h ↦ (h, rw (eq-eqb b.from 0 h) at e)
  | inr h ↦ let f : eqb b.from 0 ≡ false = grind (arith, nat_tests) in let bad = rw f at e in cc
]

true_of_not : (b : Bool) → not b ≡ false → b ≡ true
true_of_not true e = refl
true_of_not false e = cc

pub table : (bs : List Band) (d : Band) → table_refusal bs ≡ None → IsTable bs d
table [] d e = cc
table (b ∷ bs) d e =
    let x = neither (option_map BandsNotRising (not_rising (b ∷ bs))) (earlier_refusal (option_map ZeroTick (zero_tick (b ∷ bs))) (option_map BandOffTick (off_tick (b ∷ bs)))) e in
    let y = neither (option_map ZeroTick (zero_tick (b ∷ bs))) (option_map BandOffTick (off_tick (b ∷ bs))) x.1 in
    let r = unmapped BandsNotRising (not_rising (b ∷ bs)) x.0 in
    let z = unmapped ZeroTick (zero_tick (b ∷ bs)) y.0 in
    let o = opens_at_zero b bs (unmapped BandOffTick (off_tick (b ∷ bs)) y.1) in
    record {
      some = omega arith;
      opens = o.0;
      ticks = λ k l. (let f = none_passes (λ (c : Band). eqb c.tick 0) (b ∷ bs) d z k l in grind (arith, nat_tests));
      multiples = λ k l. (let f = true_of_not (eqb ((get_or (b ∷ bs) k d).from % (get_or (b ∷ bs) k d).tick) 0) (none_passes (λ (c : Band). not (eqb (c.from % c.tick) 0)) (b ∷ bs) d o.1 k l) in grind (arith, nat_tests));
      rising = λ k l. (let f = first_break_never (λ (v w : Band). ltb v.from w.from) (b ∷ bs) d r k l in grind (arith, nat_tests));
    }

-- later bands start higher
pub rises : (bs : List Band) (d : Band) → IsTable bs d → (j k : ℕ) → j < k → k < length bs → (get_or bs j d).from < (get_or bs k d).from
rises bs d t j zero h l = absurd (omega arith)
rises bs d t j (suc k) h l = elim (cases_lt j k) [
  | inl m ↦ omega (arith, rises bs d t j k m (omega arith), t.rising k l)
  | inr m ↦ let e : j ≡ k = omega arith in subst (λ (n : ℕ). (get_or bs n d).from < (get_or bs (suc k) d).from) (sym e) (t.rising k l)
]

-- two multiples of t are t apart
between : (t r q : ℕ) → 0 < t → r % t ≡ 0 → q % t ≡ 0 → r < q → r + t ≤ q
between t r q z er eq h = elim (cases_lt (r / t) (q / t)) [
  | inl m ↦ (let k : r / t + 1 ≤ q / t = omega arith in omega (arith, mul-le-mul_left t k, div-add-mod r t, div-add-mod q t))
  | inr m ↦ absurd (omega (arith, mul-le-mul_left t m, div-add-mod r t, div-add-mod q t))
]

allowed_here : (bs : List Band) (d : Band) (at p : ℕ) → IsIn bs d at p → p % (get_or bs at d).tick ≡ 0 → is_allowed bs p ≡ true
allowed_here bs d at p i e =
    subst (λ (n : ℕ). eqb (p % n) 0 ≡ true) (sym (tick_here p bs d at i.within i.starts i.later)) (eq-eqb (p % (get_or bs at d).tick) 0 e)

multiple_here : (bs : List Band) (d : Band) (at p : ℕ) → IsIn bs d at p → is_allowed bs p ≡ true → p % (get_or bs at d).tick ≡ 0
multiple_here bs d at p i e =
    let f : eqb (p % (get_or bs at d).tick) 0 ≡ true = subst (λ (n : ℕ). eqb (p % n) 0 ≡ true) (tick_here p bs d at i.within i.starts i.later) e in
    grind (arith, nat_tests)

-- a price between the start of p's band and p is in that band
lower_in : (bs : List Band) (d : Band) (at p q : ℕ) → IsIn bs d at p → (get_or bs at d).from ≤ q → q ≤ p → IsIn bs d at q
lower_in bs d at p q i s h = record { within = i.within; starts = s; later = λ k m n. omega (arith, i.later k m n) }

-- the multiple at or below p
pub greatest_here : (bs : List Band) (d : Band) (at p t : ℕ) → IsTable bs d → IsIn bs d at p → t ≡ (get_or bs at d).tick → IsGreatest bs p (p - p % t)
greatest_here bs d at p t table i e =
    let pos_t : 0 < t = omega (arith, table.ticks at i.within) in
    let small : p % t < t = mod_below p t pos_t in
    let whole : p - p % t ≡ t * (p / t) = omega (arith, div-add-mod p t) in
    let multiple : (p - p % t) % t ≡ 0 = subst (λ (n : ℕ). n % t ≡ 0) (sym whole) (mul-mod_right t (p / t)) in
    let above : (q : ℕ) → q % t ≡ 0 → q ≤ p → q ≤ p - p % t = λ q m h. elim (cases_lt (p - p % t) q) [
      | inl l ↦ absurd (omega (arith, between t (p - p % t) q pos_t multiple m l))
      | inr l ↦ l
    ] in
    let start : (get_or bs at d).from ≤ p - p % t = above (get_or bs at d).from (subst (λ (n : ℕ). (get_or bs at d).from % n ≡ 0) (sym e) (table.multiples at i.within)) i.starts in
    record {
      allowed = allowed_here bs d at (p - p % t) (lower_in bs d at p (p - p % t) i start (omega arith)) (subst (λ (n : ℕ). (p - p % t) % n ≡ 0) e multiple);
      not_above = omega arith;
      greatest = λ q a h. elim (cases_lt (p - p % t) q) [
        | inl l ↦ above q (subst (λ (n : ℕ). q % n ≡ 0) (sym e) (multiple_here bs d at q (lower_in bs d at p q i (omega arith) h) a)) h
        | inr l ↦ l
      ];
    }

-- the next multiple, where no later band starts at or below it
pub least_in_band : (bs : List Band) (d : Band) (at p t n : ℕ) → IsTable bs d → IsIn bs d at p → t ≡ (get_or bs at d).tick → n % t ≡ 0 → p ≤ n → n < p + t → (suc at < length bs → n < (get_or bs (suc at) d).from) → IsLeast bs p n
least_in_band bs d at p t n table i e m low high next =
    let pos_t : 0 < t = omega (arith, table.ticks at i.within) in
    let in_n : IsIn bs d at n = record {
      within = i.within;
      starts = omega (arith, i.starts);
      later = λ k g l. elim (cases_lt (suc at) k) [
        | inl f ↦ omega (arith, rises bs d table (suc at) k f l, next (omega arith))
        | inr f ↦ (let s : suc at ≡ k = omega arith in subst (λ (j : ℕ). n < (get_or bs j d).from) s (next (omega arith)))
      ];
    } in
    record {
      allowed = allowed_here bs d at n in_n (subst (λ (j : ℕ). n % j ≡ 0) e m);
      not_below = low;
      least = λ q a h. elim (cases_lt q n) [
        | inl l ↦ absurd (omega (arith, between t q n pos_t (subst (λ (j : ℕ). q % j ≡ 0) (sym e) (multiple_here bs d at q (lower_in bs d at n q in_n (omega (arith, i.starts)) (omega arith)) a)) m l))
        | inr l ↦ l
      ];
    }

-- the start of the next band, where the next multiple isn't below it
pub least_at_edge : (bs : List Band) (d : Band) (at p t n : ℕ) → IsTable bs d → IsIn bs d at p → t ≡ (get_or bs at d).tick → n % t ≡ 0 → p ≤ n → n < p + t → suc at < length bs → (get_or bs (suc at) d).from ≤ n → IsLeast bs p (get_or bs (suc at) d).from
least_at_edge bs d at p t n table i e m low high l reach =
    let pos_t : 0 < t = omega (arith, table.ticks at i.within) in
    let edge = (get_or bs (suc at) d).from in
    let beyond : p < edge = i.later (suc at) (omega arith) l in
    let in_edge : IsIn bs d (suc at) edge = record { within = l; starts = omega arith; later = λ k g h. rises bs d table (suc at) k g h } in
    record {
      allowed = allowed_here bs d (suc at) edge in_edge (table.multiples (suc at) l);
      not_below = omega arith;
      least = λ q a h. elim (cases_lt q edge) [
        | inl f ↦ (let in_q : IsIn bs d at q = record {
          within = i.within;
          starts = omega (arith, i.starts);
          later = λ k g j. elim (cases_lt (suc at) k) [
            | inl v ↦ omega (arith, rises bs d table (suc at) k v j)
            | inr v ↦ (let s : suc at ≡ k = omega arith in subst (λ (x : ℕ). q < (get_or bs x d).from) s f)
          ];
        } in
            absurd (omega (arith, between t q n pos_t (subst (λ (j : ℕ). q % j ≡ 0) (sym e) (multiple_here bs d at q in_q a)) m (omega arith))))
        | inr f ↦ f
      ];
    }

-- the greatest allowed price is the first that a search downward meets
pub greatest_is : (bs : List Band) (p r : ℕ) → IsGreatest bs p r → r ≡ greatest_allowed bs p
unfolding greatest_allowed
greatest_is bs zero r g = omega (arith, g.not_above)
greatest_is bs (suc p) r g = elim (is_allowed bs (suc p)) as (λ b. is_allowed bs (suc p) ≡ b → r ≡ cond b (suc p) (greatest_allowed bs p)) [
  | true ↦ λ t. omega (arith, g.not_above, g.greatest (suc p) t (omega arith))
  | false ↦ λ f. greatest_is bs p r (record {
    allowed = g.allowed;
    not_above = elim (cases_lt r (suc p)) [
      | inl h ↦ omega arith
      | inr h ↦ (let e : r ≡ suc p = omega (arith, g.not_above) in let t : is_allowed bs (suc p) ≡ true = subst (λ (n : ℕ). is_allowed bs n ≡ true) e g.allowed in let bad = sym t ∙ f in cc)
    ];
    greatest = λ q a h. g.greatest q a (omega arith);
  })
] refl

-- the least allowed price is the first that a search upward meets
pub least_is : (n : ℕ) (bs : List Band) (p r : ℕ) → IsLeast bs p r → r ≤ p + n → r ≡ allowed_among n bs p
unfolding allowed_among
least_is zero bs p r l h = omega (arith, l.not_below)
least_is (suc n) bs p r l h = elim (is_allowed bs p) as (λ b. is_allowed bs p ≡ b → r ≡ cond b p (allowed_among n bs (p + 1))) [
  | true ↦ λ t. omega (arith, l.not_below, l.least p t (omega arith))
  | false ↦ λ f. least_is n bs (p + 1) r (record {
    allowed = l.allowed;
    not_below = elim (cases_lt p r) [
      | inl m ↦ omega arith
      | inr m ↦ (let e : r ≡ p = omega (arith, l.not_below) in let t : is_allowed bs p ≡ true = subst (λ (k : ℕ). is_allowed bs k ≡ true) e l.allowed in let bad = sym t ∙ f in cc)
    ];
    least = λ q a m. l.least q a (omega arith);
  }) (omega arith)
] refl

-- the same by the place after: the lower of the next multiple and the start of the next band
pub least_next : (bs : List Band) (d : Band) (at p n r : ℕ) → IsTable bs d → IsIn bs d at p → n % (get_or bs at d).tick ≡ 0 → p ≤ n → n < p + (get_or bs at d).tick → at + 1 < length bs → r ≡ min n (get_or bs (at + 1) d).from → IsLeast bs p r
least_next bs d at p n r table i m low high l e =
    let s : at + 1 ≡ suc at = omega arith in
    let e' : r ≡ min n (get_or bs (suc at) d).from = subst (λ (k : ℕ). r ≡ min n (get_or bs k d).from) s e in
    elim (cases_lt n (get_or bs (suc at) d).from) [
      | inl f ↦ (let q : n ≡ r = omega arith in subst (λ (x : ℕ). IsLeast bs p x) q (least_in_band bs d at p (get_or bs at d).tick n table i refl m low high (λ g. f)))
      | inr f ↦ (let q : (get_or bs (suc at) d).from ≡ r = omega arith in subst (λ (x : ℕ). IsLeast bs p x) q (least_at_edge bs d at p (get_or bs at d).tick n table i refl m low high (omega arith) f))
    ]

pub least_last : (bs : List Band) (d : Band) (at p n : ℕ) → IsTable bs d → IsIn bs d at p → n % (get_or bs at d).tick ≡ 0 → p ≤ n → n < p + (get_or bs at d).tick → length bs ≤ at + 1 → IsLeast bs p n
least_last bs d at p n table i m low high l = least_in_band bs d at p (get_or bs at d).tick n table i refl m low high (λ g. absurd (omega arith))

pub least_value : (bs : List Band) (d : Band) (at p r : ℕ) → IsIn bs d at p → IsLeast bs p r → r ≤ p + (get_or bs at d).tick → r ≡ least_allowed bs p
least_value bs d at p r i g h = least_is (tick_of bs p) bs p r g (subst (λ (t : ℕ). r ≤ p + t) (sym (tick_here p bs d at i.within i.starts i.later)) h)
