-- Lemmas on orders that are the same in every field.
use Rattle.std.proofs.Common.{◌≡◌, ◌≢◌, ℕ, ◌+◌, ◌<◌, zero, suc, true, false, cond, not, eqb, ◌&&◌, List, [], ◌∷◌, length, get_or, refl, sym, ap, arith, subst, Decides}
use Rattle.std.specs.List.{AllByRecursion}
use Rattle.std.proofs.lemmas.Bool.{eq-eqb, eqb-true, ne_eqb}
use Rattle.std.proofs.lemmas.Bool.Decides.{same_from_decides}
use Rattle.market_types.specs.declared.order.Side.{Side}
use Rattle.market_types.specs.declared.order.Side.TheVariants.{Buy, Sell}
use Rattle.market_types.specs.Sides.{is_same_side}
use Rattle.feed_rebuild.specs.declared.entries.Entry.{Entry}
use Rattle.feed_rebuild.specs.declared.shown.Shown.{Shown}
use Rattle.feed_rebuild.specs.Compared.{is_among, is_same}
use Rattle.feed_rebuild.specs.Entries.{kept, vacant, IsRising}
use Rattle.feed_rebuild.proofs.Places.{and-left, and-right, rising-apart, rising-at}

same-side : (a b : Side) → is_same_side a b ≡ true → a ≡ b
same-side Buy Buy h = refl
same-side Buy Sell h = absurd (cc)
same-side Sell Buy h = absurd (cc)
same-side Sell Sell h = refl

itself-side : (a : Side) → is_same_side a a ≡ true
itself-side Buy = refl
itself-side Sell = refl

abbrev shown_of : ℕ → ℕ → Side → ℕ → ℕ → Shown
shown_of stock reference side left price = record { stock = stock; reference = reference; side = side; left = left; price = price }

pub same-true : (a b : Shown) → is_same a b ≡ true → a ≡ b
same-true a b h =
    let last = eqb a.left b.left && eqb a.price b.price in
    let sides = is_same_side a.side b.side && last in
    let stocks = eqb a.stock b.stock && sides in
    let h1 : stocks ≡ true = and-right (eqb a.reference b.reference) stocks h in
    let h2 : sides ≡ true = and-right (eqb a.stock b.stock) sides h1 in
    let h3 : last ≡ true = and-right (is_same_side a.side b.side) last h2 in
    let r = eqb-true a.reference b.reference (and-left (eqb a.reference b.reference) stocks h) in
    let s = eqb-true a.stock b.stock (and-left (eqb a.stock b.stock) sides h1) in
    let d = same-side a.side b.side (and-left (is_same_side a.side b.side) last h2) in
    let l = eqb-true a.left b.left (and-left (eqb a.left b.left) (eqb a.price b.price) h3) in
    let p = eqb-true a.price b.price (and-right (eqb a.left b.left) (eqb a.price b.price) h3) in
    λ i. shown_of (s i) (r i) (d i) (l i) (p i)

pub itself : (a : Shown) → is_same a a ≡ true
itself a =
    let r : eqb a.reference a.reference ≡ true = eq-eqb a.reference a.reference refl in
    let s : eqb a.stock a.stock ≡ true = eq-eqb a.stock a.stock refl in
    let d : is_same_side a.side a.side ≡ true = itself-side a.side in
    let l : eqb a.left a.left ≡ true = eq-eqb a.left a.left refl in
    let p : eqb a.price a.price ≡ true = eq-eqb a.price a.price refl in
    rw (r, s, d, l, p) refl

pub same-decides : (a b : Shown) → Decides (is_same a b) (a ≡ b)
same-decides a b = (same-true a b, λ e. subst (λ (x : Shown). is_same a x ≡ true) e (itself a))

pub same-turned : (a b : Shown) → is_same a b ≡ is_same b a
same-turned a b = same_from_decides (is_same a b) (is_same b a) (same-decides a b) (λ t. sym (same-true b a t), λ e. subst (λ (x : Shown). is_same b x ≡ true) (sym e) (itself b))

pub differ : (a b : Shown) → b.reference ≢ a.reference → is_same a b ≡ false
differ a b n = let t : eqb a.reference b.reference ≡ false = ne_eqb a.reference b.reference (λ e. n (sym e)) in rw t refl

-- none of other references is the same
pub apart-differ : (o : Shown) (es : List Entry) → AllByRecursion (λ (e : Entry). e.order.reference ≢ o.reference) es → AllByRecursion (λ (e : Entry). is_same o e.order ≡ false) es
apart-differ o [] a = tt
apart-differ o (e ∷ es) a = (differ o e.order a.0, apart-differ o es a.1)

-- where the one of the reference is not the same, none is
pub one-differs : (low p : ℕ) (o : Shown) (es : List Entry) → IsRising low es → p < length es → (get_or es p vacant).order.reference ≡ o.reference
    → is_same o (get_or es p vacant).order ≡ false → AllByRecursion (λ (e : Entry). is_same o e.order ≡ false) es
one-differs low p o [] r h q t = absurd (omega arith)
one-differs low zero o (e ∷ es) r h q t = (t, apart-differ o es (rising-apart (e.order.reference + 1) o.reference es r.1 (omega (arith, q))))
one-differs low (suc p) o (e ∷ es) r h q t =
    let n : e.order.reference ≢ o.reference = λ s. omega (arith, s, q, rising-at (e.order.reference + 1) es p vacant r.1 (omega arith)) in
    (differ o e.order n, one-differs (e.order.reference + 1) p o es r.1 (omega arith) q t)

pub none-kept : (o : Shown) (es : List Entry) → AllByRecursion (λ (e : Entry). is_same o e.order ≡ false) es → is_among (kept es) o ≡ false
none-kept o [] a = refl
none-kept o (e ∷ es) a =
    let t : is_same o e.order ≡ false = a.0 in
    let rest = none-kept o es a.1 in
    elim e.gone as (λ g. is_among (cond g (kept es) (e.order ∷ kept es)) o ≡ false) [ true ↦ rest | false ↦ rw t rest ]

same-reference : (a b : Shown) → is_same a b ≡ true → b.reference ≡ a.reference
same-reference a b t = ap (λ (x : Shown). x.reference) (sym (same-true a b t))

-- the same order is kept where it has not left
pub one-kept : (low p : ℕ) (o : Shown) (es : List Entry) → IsRising low es → p < length es → is_same o (get_or es p vacant).order ≡ true
    → not (get_or es p vacant).gone ≡ is_among (kept es) o
one-kept low p o [] r h t = absurd (omega arith)
one-kept low zero o (e ∷ es) r h t =
    let q = same-reference o e.order t in
    let none = none-kept o es (apart-differ o es (rising-apart (e.order.reference + 1) o.reference es r.1 (omega (arith, q)))) in
    elim e.gone as (λ g. not g ≡ is_among (cond g (kept es) (e.order ∷ kept es)) o) [ true ↦ sym none | false ↦ rw t refl ]
one-kept low (suc p) o (e ∷ es) r h t =
    let q = same-reference o (get_or es p vacant).order t in
    let n : e.order.reference ≢ o.reference = λ s. omega (arith, s, q, rising-at (e.order.reference + 1) es p vacant r.1 (omega arith)) in
    let d = differ o e.order n in
    let rest = one-kept (e.order.reference + 1) p o es r.1 (omega arith) t in
    elim e.gone as (λ g. not (get_or es p vacant).gone ≡ is_among (cond g (kept es) (e.order ∷ kept es)) o) [ true ↦ rest | false ↦ rw d rest ]
