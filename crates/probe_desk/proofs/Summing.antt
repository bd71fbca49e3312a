-- Sums of entries part by part, and what the probes say of all of them.
use Rattle.std.proofs.Common.{◌≡◌, ◌∙◌, ℕ, ◌+◌, ◌*◌, ◌^◌, ◌<◌, ◌≤◌, ℤ, ◌+ℤ◌, pos, negsuc, List, [], ◌∷◌, ◌++◌, Option, None, Some, min, max, unsigned_abs, length, get_or, take, append-nil, refl, ap, ap₂, sym, subst, arith}
use Rattle.std.proofs.lemmas.Int.{clamps, ints}
use Rattle.std.specs.List.{flat_map}
use Rattle.std.proofs.lemmas.Grind.{flat_map-append}
use Rattle.std.proofs.lemmas.List.{take_more}
use Rattle.std.specs.Int.{w128, saturate_signed}
use Rattle.market_types.specs.Told.{EntryTold, EventTold, event, edit}
use Rattle.probe_desk.specs.declared.column.Column.{Column}
use Rattle.probe_desk.specs.declared.column.Column.TheVariants as column
use Rattle.probe_desk.specs.declared.price_range.Span.{Span}
use Rattle.probe_desk.specs.declared.sums.Sums.{Sums}
use Rattle.probe_desk.specs.Probe.{Meaning, seen, column_of}
use Rattle.probe_desk.specs.Columns.{Removal, removal_of, ranged, shares_of, span_of, spread_of, volume, spread_sum, price_range, fees}
use Rattle.probe_desk.specs.Spans.{numbers_of}
use Rattle.probe_desk.specs.Sums.{AreSums, joined, meaning_of, moved, moved_by, moved_in, no_sums, number_of, records_in, saturated, span_in, sums_in, sums_of, sums_told, wider, width_of}

-- ---- spans

wider-none : (a : Option Span) → wider a None ≡ a
wider-none None = refl
wider-none (Some a) = refl

span-same : (a b c d : ℕ) → a ≡ b → c ≡ d → ◌≡◌ {A = Option Span} (Some (record { least = a; greatest = c })) (Some (record { least = b; greatest = d }))
span-same a b c d x y = ap₂ (λ (l g : ℕ). let s : Option Span = Some (record { least = l; greatest = g }) in s) x y

wider-wider : (a b c : Option Span) → wider (wider a b) c ≡ wider a (wider b c)
wider-wider None b c = refl
wider-wider (Some a) None c = refl
wider-wider (Some a) (Some b) None = refl
wider-wider (Some a) (Some b) (Some c) = span-same _ _ _ _ (omega (arith, clamps)) (omega (arith, clamps))

-- ---- sums

sums-same : (a b c d e f : ℤ) (x y : Option Span) → a ≡ b → c ≡ d → e ≡ f → x ≡ y
    → ◌≡◌ {A = Sums} (record { volume = a; spread = c; fees = e; span = x }) (record { volume = b; spread = d; fees = f; span = y })
sums-same a b c d e f x y p q r s =
    ap₂ (λ (m n : ℤ). let z : Sums = record { volume = m; spread = n; fees = e; span = x } in z) p q
    ∙ ap₂ (λ (m : ℤ) (n : Option Span). let z : Sums = record { volume = b; spread = d; fees = m; span = n } in z) r s

joined-joined : (a b c : Sums) → joined (joined a b) c ≡ joined a (joined b c)
joined-joined a b c =
    sums-same _ _ _ _ _ _ _ _ (omega (arith, ints)) (omega (arith, ints)) (omega (arith, ints)) (wider-wider a.span b.span c.span)

none-joined : (a : Sums) → joined no_sums a ≡ a
none-joined a = sums-same _ _ _ _ _ _ _ _ (omega (arith, ints)) (omega (arith, ints)) (omega (arith, ints)) refl

joined-none : (a : Sums) → joined a no_sums ≡ a
joined-none a = sums-same _ _ _ _ _ _ _ _ (omega (arith, ints)) (omega (arith, ints)) (omega (arith, ints)) (wider-none a.span)

-- the sums of entries one after another are those of both parts
pub sums_of-append : (xs ys : List EntryTold) → sums_of (xs ++ ys) ≡ joined (sums_of xs) (sums_of ys)
sums_of-append [] ys = sym (none-joined (sums_of ys))
sums_of-append (event r ∷ xs) ys = ap (λ (s : Sums). joined (sums_in r) s) (sums_of-append xs ys) ∙ sym (joined-joined (sums_in r) (sums_of xs) (sums_of ys))
sums_of-append (edit x ∷ xs) ys = sums_of-append xs ys

pub moved-append : (xs ys : List EntryTold) → moved (xs ++ ys) ≡ moved xs + moved ys
moved-append [] ys = omega arith
moved-append (event r ∷ xs) ys = let rest = moved-append xs ys in omega arith
moved-append (edit x ∷ xs) ys = moved-append xs ys

pub records_in-append : (xs ys : List EntryTold) → records_in (xs ++ ys) ≡ records_in xs + records_in ys
records_in-append [] ys = omega arith
records_in-append (event r ∷ xs) ys = let rest = records_in-append xs ys in omega arith
records_in-append (edit x ∷ xs) ys = records_in-append xs ys

-- ---- no sum is farther from 0 than all records move it

abs-add : (x y : ℤ) → unsigned_abs (x +ℤ y) ≤ unsigned_abs x + unsigned_abs y
abs-add (pos m) (pos n) = omega (arith, ints)
abs-add (pos m) (negsuc n) = omega (arith, ints)
abs-add (negsuc m) (pos n) = omega (arith, ints)
abs-add (negsuc m) (negsuc n) = omega (arith, ints)

volume-near : (es : List EntryTold) → unsigned_abs (sums_of es).volume ≤ moved es
volume-near [] = omega arith
volume-near (event r ∷ es) = omega (arith, abs-add (shares_of (removal_of r)) (sums_of es).volume, volume-near es)
volume-near (edit x ∷ es) = volume-near es

spread-near : (es : List EntryTold) → unsigned_abs (sums_of es).spread ≤ moved es
spread-near [] = omega arith
spread-near (event r ∷ es) = omega (arith, abs-add (spread_of r) (sums_of es).spread, spread-near es)
spread-near (edit x ∷ es) = spread-near es

fees-near : (es : List EntryTold) → unsigned_abs (sums_of es).fees ≤ moved es
fees-near [] = omega arith
fees-near (event r ∷ es) = omega (arith, abs-add r.fee (sums_of es).fees, fees-near es)
fees-near (edit x ∷ es) = fees-near es

-- so it fits 128 bits
fits : (z : ℤ) → unsigned_abs z < 2 ^ 127 → saturate_signed w128 z ≡ z
fits (pos n) small = ap pos (omega (arith, clamps))
fits (negsuc n) small = ap negsuc (omega (arith, clamps))

fits-add : (x y : ℤ) (m n : ℕ) → unsigned_abs x ≤ m → unsigned_abs y ≤ n → m + n < 2 ^ 127 → saturate_signed w128 (x +ℤ y) ≡ x +ℤ y
fits-add x y m n a b small = fits (x +ℤ y) (omega (arith, abs-add x y, a, b, small))

saturated-of : (xs ys : List EntryTold) → moved xs + moved ys < 2 ^ 127 → saturated (sums_of xs) (sums_of ys) ≡ joined (sums_of xs) (sums_of ys)
saturated-of xs ys small =
    sums-same _ _ _ _ _ _ _ _
    (fits-add (sums_of xs).volume (sums_of ys).volume (moved xs) (moved ys) (volume-near xs) (volume-near ys) small)
    (fits-add (sums_of xs).spread (sums_of ys).spread (moved xs) (moved ys) (spread-near xs) (spread-near ys) small)
    (fits-add (sums_of xs).fees (sums_of ys).fees (moved xs) (moved ys) (fees-near xs) (fees-near ys) small)
    refl

-- sums of no entry, of one record, of one edit, and of entries one after another
pub sums-none : AreSums no_sums []
sums-none = record { exact = λ small. refl; bounded = omega arith }

pub sums-record : (r : EventTold) → moved_in r ≤ 2 ^ 64 → AreSums (sums_in r) (event r ∷ [])
sums-record r few = record { exact = λ small. sym (joined-none (sums_in r)); bounded = omega (arith, few) }

pub sums-both : (a b : Sums) (xs ys : List EntryTold) → AreSums a xs → AreSums b ys → AreSums (saturated a b) (xs ++ ys)
sums-both a b xs ys f g = record {
  exact = λ small.
      let all : moved xs + moved ys < 2 ^ 127 = omega (arith, small, moved-append xs ys) in
      ap₂ (λ (x y : Sums). saturated x y) (f.exact (omega (arith, all))) (g.exact (omega (arith, all))) ∙ saturated-of xs ys all ∙ sym (sums_of-append xs ys);
  bounded = omega (arith, f.bounded, g.bounded, moved-append xs ys, records_in-append xs ys);
}

pub sums-edit : (a : Sums) (xs : List EntryTold) (m : _) → AreSums a xs → AreSums a (xs ++ edit m ∷ [])
sums-edit a xs m f = record {
  exact = λ small. f.exact (omega (arith, small, moved-append xs (edit m ∷ []))) ∙ sym (joined-none (sums_of xs)) ∙ sym (sums_of-append xs (edit m ∷ []));
  bounded = omega (arith, f.bounded, moved-append xs (edit m ∷ []), records_in-append xs (edit m ∷ []));
}

-- sums that are equal are sums of the same entries
pub sums-at : (s t : Sums) (xs : List EntryTold) → s ≡ t → AreSums t xs → AreSums s xs
sums-at s t xs is f = subst (λ (x : Sums). AreSums x xs) (sym is) f

-- sums of entries, where one record came after them
pub sums-more : (a b s : Sums) (xs ys : List EntryTold) (r : EventTold) (fee : ℤ) → ((us vs : List EntryTold) → AreSums a us → AreSums b vs → AreSums s (us ++ vs))
    → b ≡ sums_told fee r.put_back r.body → moved_by (sums_told fee r.put_back r.body) ≤ 2 ^ 64 → fee ≡ r.fee → AreSums a xs → ys ≡ xs ++ event r ∷ [] → AreSums s ys
sums-more a b s xs ys r fee both is few same before pushed =
    let told = ap (λ (z : ℤ). sums_told z r.put_back r.body) same in
    let small : moved_in r ≤ 2 ^ 64 = subst (λ (t : Sums). moved_by t ≤ 2 ^ 64) told few in
    subst (λ (zs : List EntryTold). AreSums s zs) (sym pushed) (both xs (event r ∷ []) before (sums-at b (sums_in r) (event r ∷ []) (is ∙ told) (sums-record r small)))

-- sums of parts one after another, where one part more was read
pub sums-part : {X : Type 0} (f : X → List EntryTold) (xs : List X) (i : ℕ) (x : X) (a b s : Sums) → ((us vs : List EntryTold) → AreSums a us → AreSums b vs → AreSums s (us ++ vs))
    → i < length xs → x ≡ get_or xs i x → AreSums a (flat_map f (take i xs)) → AreSums b (f x) → AreSums s (flat_map f (take (i + 1) xs))
sums-part f xs i x a b s both within at before own =
    let is : flat_map f (take (i + 1) xs) ≡ flat_map f (take i xs) ++ f x =
    ap (flat_map f) (take_more xs i x within) ∙ flat_map-append f (take i xs) (get_or xs i x ∷ []) ∙ ap (λ (es : List EntryTold). flat_map f (take i xs) ++ es) (append-nil (f (get_or xs i x)) ∙ ap f (sym at)) in
    subst (λ (es : List EntryTold). AreSums s es) (sym is) (both (flat_map f (take i xs)) (f x) before own)

-- ---- what the probes say

one : (x : ℤ) → ℤ → List ℤ
one x y = (x +ℤ y) ∷ []

added : (x t s : ℤ) (ns : List ℤ) → ns ≡ ((x +ℤ t) +ℤ s) ∷ [] → ns ≡ (x +ℤ (t +ℤ s)) ∷ []
added x t s ns is = is ∙ ap (λ (z : ℤ). z ∷ []) (omega (arith, ints))

volume-seen : (x : ℤ) (es : List EntryTold) → unsigned_abs x + moved es < 2 ^ 127 → seen volume (x ∷ []) es ≡ (x +ℤ (sums_of es).volume) ∷ []
volume-seen x [] small = ap (λ (z : ℤ). z ∷ []) (omega (arith, ints))
volume-seen x (event r ∷ es) small =
    let t = shares_of (removal_of r) in
    ap (λ (z : ℤ). seen volume (z ∷ []) es) (fits (x +ℤ t) (omega (arith, abs-add x t, small)))
    ∙ added x t (sums_of es).volume _ (volume-seen (x +ℤ t) es (omega (arith, abs-add x t, small)))
volume-seen x (edit m ∷ es) small = volume-seen x es small

spread-seen : (x : ℤ) (es : List EntryTold) → unsigned_abs x + moved es < 2 ^ 127 → seen spread_sum (x ∷ []) es ≡ (x +ℤ (sums_of es).spread) ∷ []
spread-seen x [] small = ap (λ (z : ℤ). z ∷ []) (omega (arith, ints))
spread-seen x (event r ∷ es) small =
    let t = spread_of r in
    ap (λ (z : ℤ). seen spread_sum (z ∷ []) es) (fits (x +ℤ t) (omega (arith, abs-add x t, small)))
    ∙ added x t (sums_of es).spread _ (spread-seen (x +ℤ t) es (omega (arith, abs-add x t, small)))
spread-seen x (edit m ∷ es) small = spread-seen x es small

fees-seen : (x : ℤ) (es : List EntryTold) → unsigned_abs x + moved es < 2 ^ 127 → seen fees (x ∷ []) es ≡ (x +ℤ (sums_of es).fees) ∷ []
fees-seen x [] small = ap (λ (z : ℤ). z ∷ []) (omega (arith, ints))
fees-seen x (event r ∷ es) small =
    ap (λ (z : ℤ). seen fees (z ∷ []) es) (fits (x +ℤ r.fee) (omega (arith, abs-add x r.fee, small)))
    ∙ added x r.fee (sums_of es).fees _ (fees-seen (x +ℤ r.fee) es (omega (arith, abs-add x r.fee, small)))
fees-seen x (edit m ∷ es) small = fees-seen x es small

ranged-is : (s : Option Span) (t : Option Removal) → ranged (numbers_of s) t ≡ numbers_of (wider s (span_in t))
ranged-is s None = ap numbers_of (sym (wider-none s))
ranged-is None (Some t) = refl
ranged-is (Some s) (Some t) = refl

range-seen : (s : Option Span) (es : List EntryTold) → seen price_range (numbers_of s) es ≡ numbers_of (wider s (sums_of es).span)
range-seen s [] = ap numbers_of (sym (wider-none s))
range-seen s (event r ∷ es) =
    let t = span_in (removal_of r) in
    ap (λ (ns : List ℤ). seen price_range ns es) (ranged-is s (removal_of r)) ∙ range-seen (wider s t) es ∙ ap numbers_of (wider-wider s t (sums_of es).span)
range-seen s (edit m ∷ es) = range-seen s es

width-is : (s : Option Span) → span_of (numbers_of s) ≡ width_of s
width-is None = refl
width-is (Some s) = refl

first-one : (z : ℤ) (ns : List ℤ) → ns ≡ (pos 0 +ℤ z) ∷ [] → volume.value ns ≡ z
first-one z ns is = ap volume.value is ∙ omega (arith, ints)

-- a column of entries that move the sums by less than 2 ^ 127 is a number of their sums
pub column-is : (k : Column) (es : List EntryTold) → moved es < 2 ^ 127 → column_of (meaning_of k) es ≡ number_of k (sums_of es)
column-is column.Volume es small = first-one (sums_of es).volume _ (volume-seen (pos 0) es (omega (arith, small)))
column-is column.SpreadSum es small = first-one (sums_of es).spread _ (spread-seen (pos 0) es (omega (arith, small)))
column-is column.Range es small = ap span_of (range-seen None es) ∙ width-is (sums_of es).span
column-is column.Fees es small = first-one (sums_of es).fees _ (fees-seen (pos 0) es (omega (arith, small)))
