-- Lemmas on the orders that came: where one of a reference stands, and what a change in its place does.
use Rattle.std.proofs.Common.{◌≡◌, ◌≢◌, ℕ, ◌+◌, ◌-◌, ◌<◌, ◌≤◌, zero, suc, true, false, Bool, cond, not, ltb, leb, eqb, ◌&&◌, List, [], ◌∷◌, ◌++◌, Option, Some, None, Result, Ok, Err, length, get_or, set, map, refl, sym, ap, ◌∙◌, arith, subst, inl, inr}
use Rattle.std.specs.List.{AllByRecursion, find}
use Rattle.std.proofs.lemmas.Bool.{cases_lt, le-leb, eq-eqb, eqb-true, ne_eqb, ltb-true}
use Rattle.std.proofs.lemmas.Bool.Decides.{nat_tests}
use Rattle.std.proofs.lemmas.List.Elements.{recursion_from_All}
use Rattle.market_types.specs.declared.feed.Feed.{Feed}
use Rattle.feed_rebuild.specs.declared.entries.Entry.{Entry}
use Rattle.feed_rebuild.specs.declared.shown.AuditError.{AuditError}
use Rattle.feed_rebuild.specs.declared.shown.AuditError.TheVariants as error
use Rattle.feed_rebuild.specs.declared.shown.Shown.{Shown}
use Rattle.feed_rebuild.specs.Entries.{kept, last_from, left_with, vacant, IsHeldAt, IsMisfitOf, IsRising}
use Rattle.feed_rebuild.specs.Fold.{added, deleted, held, is_later, is_listed, is_this, lowered, told_by, with_left, without, Told}

-- references rise from place to place
pub rising-at : (low : ℕ) (es : List Entry) (k : ℕ) (d : Entry) → IsRising low es → k < length es → low ≤ (get_or es k d).order.reference
rising-at low [] k d r h = absurd (omega arith)
rising-at low (e ∷ es) zero d r h = r.0
rising-at low (e ∷ es) (suc k) d r h = omega (arith, r.0, rising-at (e.order.reference + 1) es k d r.1 (omega arith))

pub rising-le : (low : ℕ) (es : List Entry) (i j : ℕ) (d : Entry) → IsRising low es → i ≤ j → j < length es → (get_or es i d).order.reference ≤ (get_or es j d).order.reference
rising-le low [] i j d r h w = absurd (omega arith)
rising-le low (e ∷ es) zero zero d r h w = omega arith
rising-le low (e ∷ es) zero (suc j) d r h w = omega (arith, rising-at (e.order.reference + 1) es j d r.1 (omega arith))
rising-le low (e ∷ es) (suc i) zero d r h w = absurd (omega arith)
rising-le low (e ∷ es) (suc i) (suc j) d r h w = rising-le (e.order.reference + 1) es i j d r.1 (omega arith) (omega arith)

-- no order has a reference that is below the least
pub rising-apart : (low reference : ℕ) (es : List Entry) → IsRising low es → reference < low → AllByRecursion (λ (e : Entry). e.order.reference ≢ reference) es
rising-apart low reference [] r h = tt
rising-apart low reference (e ∷ es) r h = (apart e.order.reference (omega (arith, r.0)), rising-apart (e.order.reference + 1) reference es r.1 (omega (arith, r.0)))
  where
    apart : (n : ℕ) → reference < n → n ≢ reference
    apart n l q = omega arith

-- nor one that falls between two neighbours
pub between-apart : (reference at : ℕ) (es : List Entry) → IsRising 0 es
    → ((d : Entry) → 0 < at → (get_or es (at - 1) d).order.reference < reference)
    → ((d : Entry) → at < length es → reference < (get_or es at d).order.reference)
    → at ≤ length es
    → AllByRecursion (λ (e : Entry). e.order.reference ≢ reference) es
between-apart reference at es r below above within =
    recursion_from_All (λ (e : Entry). e.order.reference ≢ reference) es (λ k d h q. elim (cases_lt k at) [
      | inl l ↦ omega (arith, below d (omega arith), rising-le 0 es k (at - 1) d r (omega arith) (omega arith), q)
      | inr g ↦ omega (arith, above d (omega arith), rising-le 0 es at k d r g h, q)
    ])

-- where no order has the reference
absent-this : (locate reference : ℕ) (o : Shown) → o.reference ≢ reference → is_this locate reference o ≡ false
absent-this locate reference o n = let t : eqb o.reference reference ≡ false = ne_eqb o.reference reference n in rw t refl

pub absent-held : (locate reference : ℕ) (es : List Entry) → AllByRecursion (λ (e : Entry). e.order.reference ≢ reference) es → find (is_this locate reference) (kept es) ≡ None
absent-held locate reference [] a = refl
absent-held locate reference (e ∷ es) a =
    let t = absent-this locate reference e.order a.0 in
    let rest = absent-held locate reference es a.1 in
    elim e.gone as (λ g. find (is_this locate reference) (cond g (kept es) (e.order ∷ kept es)) ≡ None) [ true ↦ rest | false ↦ rw (t, rest) refl ]

absent-without : (locate reference : ℕ) (es : List Entry) → AllByRecursion (λ (e : Entry). e.order.reference ≢ reference) es → without locate reference (kept es) ≡ kept es
absent-without locate reference [] a = refl
absent-without locate reference (e ∷ es) a =
    let t = absent-this locate reference e.order a.0 in
    let rest = absent-without locate reference es a.1 in
    elim e.gone as (λ g. without locate reference (cond g (kept es) (e.order ∷ kept es)) ≡ cond g (kept es) (e.order ∷ kept es)) [ true ↦ rest | false ↦ rw (t, rest) refl ]

abbrev lessened : ℕ → ℕ → ℕ → Shown → Shown
lessened locate reference left o = cond (is_this locate reference o) (record o { left = left }) o

absent-lessened : (locate reference left : ℕ) (es : List Entry) → AllByRecursion (λ (e : Entry). e.order.reference ≢ reference) es → map (lessened locate reference left) (kept es) ≡ kept es
absent-lessened locate reference left [] a = refl
absent-lessened locate reference left (e ∷ es) a =
    let t = absent-this locate reference e.order a.0 in
    let rest = absent-lessened locate reference left es a.1 in
    elim e.gone as (λ g. map (lessened locate reference left) (cond g (kept es) (e.order ∷ kept es)) ≡ cond g (kept es) (e.order ∷ kept es)) [ true ↦ rest | false ↦ rw (t, rest) refl ]

-- what stands at a place of the reference is what is found
pub found-held : (low locate reference p : ℕ) (es : List Entry) → IsRising low es → p < length es → (get_or es p vacant).order.reference ≡ reference
    → find (is_this locate reference) (kept es) ≡ cond (get_or es p vacant).gone None (cond (eqb ((get_or es p vacant).order.stock + 1) locate) (Some (get_or es p vacant).order) None)
found-held low locate reference p [] r h q = absurd (omega arith)
found-held low locate reference zero (e ∷ es) r h q =
    let t : eqb e.order.reference reference ≡ true = eq-eqb e.order.reference reference q in
    let rest = absent-held locate reference es (rising-apart (e.order.reference + 1) reference es r.1 (omega (arith, q))) in
    elim e.gone as (λ g. find (is_this locate reference) (cond g (kept es) (e.order ∷ kept es)) ≡ cond g None (cond (eqb (e.order.stock + 1) locate) (Some e.order) None)) [ true ↦ rest | false ↦ rw (t, rest) refl ]
found-held low locate reference (suc p) (e ∷ es) r h q =
    let n : e.order.reference ≢ reference = λ s. omega (arith, s, q, rising-at (e.order.reference + 1) es p vacant r.1 (omega arith)) in
    let t = absent-this locate reference e.order n in
    let rest = found-held (e.order.reference + 1) locate reference p es r.1 (omega arith) q in
    elim e.gone as (λ g. find (is_this locate reference) (cond g (kept es) (e.order ∷ kept es)) ≡ cond (get_or es p vacant).gone None (cond (eqb ((get_or es p vacant).order.stock + 1) locate) (Some (get_or es p vacant).order) None)) [ true ↦ rest | false ↦ rw t rest ]

-- a held order that keeps so many open shares, or leaves
pub changed-kept : (low locate reference left p : ℕ) (es : List Entry) → IsRising low es → p < length es → (get_or es p vacant).order.reference ≡ reference
    → (get_or es p vacant).gone ≡ false → eqb ((get_or es p vacant).order.stock + 1) locate ≡ true
    → kept (set es p (left_with left (get_or es p vacant))) ≡ with_left locate reference left (kept es)
changed-kept low locate reference left p es r h q g l = elim (eqb left 0) as (λ b. kept (set es p (cond b (record (get_or es p vacant) { gone = true }) (record (get_or es p vacant) { order = record (get_or es p vacant).order { left = left } }))) ≡ cond b (without locate reference (kept es)) (map (lessened locate reference left) (kept es))) [
  | true ↦ left_out low p es r h q g l
  | false ↦ lowered_in low p es r h q g l
]
  where
    left_out : (low p : ℕ) (es : List Entry) → IsRising low es → p < length es → (get_or es p vacant).order.reference ≡ reference
        → (get_or es p vacant).gone ≡ false → eqb ((get_or es p vacant).order.stock + 1) locate ≡ true
        → kept (set es p (record (get_or es p vacant) { gone = true })) ≡ without locate reference (kept es)
    left_out low p [] r h q g l = absurd (omega arith)
    left_out low zero (e ∷ es) r h q g l =
        let t : eqb e.order.reference reference ≡ true = eq-eqb e.order.reference reference q in
        let rest = absent-without locate reference es (rising-apart (e.order.reference + 1) reference es r.1 (omega (arith, q))) in
        rw (g, t, l) (sym rest)
    left_out low (suc p) (e ∷ es) r h q g l =
        let n : e.order.reference ≢ reference = λ s. omega (arith, s, q, rising-at (e.order.reference + 1) es p vacant r.1 (omega arith)) in
        let t = absent-this locate reference e.order n in
        let rest = left_out (e.order.reference + 1) p es r.1 (omega arith) q g l in
        elim e.gone as (λ b. cond b (kept (set es p (record (get_or es p vacant) { gone = true }))) (e.order ∷ kept (set es p (record (get_or es p vacant) { gone = true }))) ≡ without locate reference (cond b (kept es) (e.order ∷ kept es))) [ true ↦ rest | false ↦ rw t (ap (λ v. e.order ∷ v) rest) ]

    lowered_in : (low p : ℕ) (es : List Entry) → IsRising low es → p < length es → (get_or es p vacant).order.reference ≡ reference
        → (get_or es p vacant).gone ≡ false → eqb ((get_or es p vacant).order.stock + 1) locate ≡ true
        → kept (set es p (record (get_or es p vacant) { order = record (get_or es p vacant).order { left = left } })) ≡ map (lessened locate reference left) (kept es)
    lowered_in low p [] r h q g l = absurd (omega arith)
    lowered_in low zero (e ∷ es) r h q g l =
        let t : eqb e.order.reference reference ≡ true = eq-eqb e.order.reference reference q in
        let rest = absent-lessened locate reference left es (rising-apart (e.order.reference + 1) reference es r.1 (omega (arith, q))) in
        rw (g, t, l) (ap (λ v. record e.order { left = left } ∷ v) (sym rest))
    lowered_in low (suc p) (e ∷ es) r h q g l =
        let n : e.order.reference ≢ reference = λ s. omega (arith, s, q, rising-at (e.order.reference + 1) es p vacant r.1 (omega arith)) in
        let t = absent-this locate reference e.order n in
        let rest = lowered_in (e.order.reference + 1) p es r.1 (omega arith) q g l in
        elim e.gone as (λ b. cond b (kept (set es p (record (get_or es p vacant) { order = record (get_or es p vacant).order { left = left } }))) (e.order ∷ kept (set es p (record (get_or es p vacant) { order = record (get_or es p vacant).order { left = left } }))) ≡ map (lessened locate reference left) (cond b (kept es) (e.order ∷ kept es))) [ true ↦ rest | false ↦ rw t (ap (λ v. e.order ∷ v) rest) ]

-- the last reference is that of the last place
last-none : (before : Option ℕ) (es : List Entry) → length es ≡ 0 → last_from before es ≡ before
last-none before [] h = refl
last-none before (e ∷ es) h = absurd (omega arith)

pub last-at : (before : Option ℕ) (es : List Entry) (k : ℕ) (d : Entry) → k + 1 ≡ length es → last_from before es ≡ Some (get_or es k d).order.reference
last-at before [] k d h = absurd (omega arith)
last-at before (e ∷ es) zero d h = last-none (Some e.order.reference) es (omega arith)
last-at before (e ∷ es) (suc k) d h = last-at (Some e.order.reference) es k d (omega arith)

pub last-pushed : (before : Option ℕ) (es : List Entry) (x : Entry) → last_from before (es ++ x ∷ []) ≡ Some x.order.reference
last-pushed before [] x = refl
last-pushed before (e ∷ es) x = last-pushed (Some e.order.reference) es x

pub last-set : (before : Option ℕ) (es : List Entry) (p : ℕ) (y : Entry) → y.order.reference ≡ (get_or es p vacant).order.reference → last_from before (set es p y) ≡ last_from before es
last-set before [] p y q = refl
last-set before (e ∷ es) zero y q = ap (λ n. last_from (Some n) es) q
last-set before (e ∷ es) (suc p) y q = last-set (Some e.order.reference) es p y q

-- an order that is gone or has fewer shares has its reference and stock
pub same-reference : (left : ℕ) (e : Entry) → (left_with left e).order.reference ≡ e.order.reference
same-reference left e = elim (eqb left 0) as (λ b. (cond b (record e { gone = true }) (record e { order = record e.order { left = left } })).order.reference ≡ e.order.reference) [ true ↦ refl | false ↦ refl ]

pub same-stock : (left : ℕ) (e : Entry) → (left_with left e).order.stock ≡ e.order.stock
same-stock left e = elim (eqb left 0) as (λ b. (cond b (record e { gone = true }) (record e { order = record e.order { left = left } })).order.stock ≡ e.order.stock) [ true ↦ refl | false ↦ refl ]

pub rising-set : (low : ℕ) (es : List Entry) (p : ℕ) (y : Entry) → IsRising low es → y.order.reference ≡ (get_or es p vacant).order.reference → IsRising low (set es p y)
rising-set low [] p y r q = tt
rising-set low (e ∷ es) zero y r q = (omega (arith, r.0, q), subst (λ n. IsRising (n + 1) es) (sym q) r.1)
rising-set low (e ∷ es) (suc p) y r q = (r.0, rising-set (e.order.reference + 1) es p y r.1 q)

pub listed-set : (stocks : ℕ) (es : List Entry) (p : ℕ) (y : Entry) → AllByRecursion (λ (e : Entry). e.order.stock < stocks) es → y.order.stock ≡ (get_or es p vacant).order.stock → AllByRecursion (λ (e : Entry). e.order.stock < stocks) (set es p y)
listed-set stocks [] p y a q = tt
listed-set stocks (e ∷ es) zero y a q = (omega (arith, a.0, q), a.1)
listed-set stocks (e ∷ es) (suc p) y a q = (a.0, listed-set stocks es p y a.1 q)

-- an order that joins
pub kept-pushed : (es : List Entry) (o : Shown) → kept (es ++ record { order = o; gone = false } ∷ []) ≡ kept es ++ o ∷ []
kept-pushed [] o = refl
kept-pushed (e ∷ es) o =
    let rest = kept-pushed es o in
    elim e.gone as (λ g. cond g (kept (es ++ record { order = o; gone = false } ∷ [])) (e.order ∷ kept (es ++ record { order = o; gone = false } ∷ [])) ≡ cond g (kept es) (e.order ∷ kept es) ++ o ∷ []) [ true ↦ rest | false ↦ ap (λ v. e.order ∷ v) rest ]

pub rising-pushed : (low : ℕ) (before : Option ℕ) (es : List Entry) (x : Entry) → IsRising low es → is_later (last_from before es) x.order.reference ≡ true
    → ((n : ℕ) → is_later before n ≡ true → low ≤ n) → IsRising low (es ++ x ∷ [])
rising-pushed low before [] x r later h = (h x.order.reference later, tt)
rising-pushed low before (e ∷ es) x r later h = (r.0, rising-pushed (e.order.reference + 1) (Some e.order.reference) es x r.1 later (λ n t. above e.order.reference n t))
  where
    above : (a n : ℕ) → ltb a n ≡ true → a + 1 ≤ n
    above a n t = omega (arith, ltb-true a n t)

pub listed-pushed : (stocks : ℕ) (es : List Entry) (x : Entry) → AllByRecursion (λ (e : Entry). e.order.stock < stocks) es → x.order.stock < stocks → AllByRecursion (λ (e : Entry). e.order.stock < stocks) (es ++ x ∷ [])
listed-pushed stocks [] x a h = (h, tt)
listed-pushed stocks (e ∷ es) x a h = (a.0, listed-pushed stocks es x a.1 h)

-- the parts of a test of two
pub and-left : (a b : Bool) → (a && b) ≡ true → a ≡ true
and-left true b h = refl
and-left false b h = h

pub and-right : (a b : Bool) → (a && b) ≡ true → b ≡ true
and-right true b h = h
and-right false b h = absurd (cc)

not-true : (a : Bool) → not a ≡ true → a ≡ false
not-true true h = absurd (cc)
not-true false h = refl

-- an order that is there stands at its place
pub held-there : (locate reference p : ℕ) (es : List Entry) → p < length es → (get_or es p vacant).order.reference ≡ reference
    → (not (get_or es p vacant).gone && eqb ((get_or es p vacant).order.stock + 1) locate) ≡ true → IsHeldAt locate reference p es
held-there locate reference p es h q t = record {
  within = h;
  stays = not-true (get_or es p vacant).gone (and-left (not (get_or es p vacant).gone) (eqb ((get_or es p vacant).order.stock + 1) locate) t);
  this = let r : eqb (get_or es p vacant).order.reference reference ≡ true = eq-eqb (get_or es p vacant).order.reference reference q in
      rw r (and-right (not (get_or es p vacant).gone) (eqb ((get_or es p vacant).order.stock + 1) locate) t);
}

pub not_held-there : (locate reference p : ℕ) (es : List Entry) → IsRising 0 es → p < length es → (get_or es p vacant).order.reference ≡ reference
    → (not (get_or es p vacant).gone && eqb ((get_or es p vacant).order.stock + 1) locate) ≡ false → find (is_this locate reference) (kept es) ≡ None
not_held-there locate reference p es r h q t = found-held 0 locate reference p es r h q ∙ neither (get_or es p vacant).gone (eqb ((get_or es p vacant).order.stock + 1) locate) (get_or es p vacant).order t
  where
    neither : (g b : Bool) (o : Shown) → (not g && b) ≡ false → cond g None (cond b (Some o) None) ≡ None
    neither true b o h = refl
    neither false true o h = absurd (cc)
    neither false false o h = refl

-- what entries and states are seen as
abbrev pub seen : List Entry → List ℕ → Told
seen es states = record { orders = kept es; states = states; last = last_from None es }

held-is : (locate reference p : ℕ) (es : List Entry) → IsRising 0 es → IsHeldAt locate reference p es → find (is_this locate reference) (kept es) ≡ Some (get_or es p vacant).order
held-is locate reference p es r h =
    let e = get_or es p vacant in
    let q = eqb-true e.order.reference reference (and-left (eqb e.order.reference reference) (eqb (e.order.stock + 1) locate) h.this) in
    let l = and-right (eqb e.order.reference reference) (eqb (e.order.stock + 1) locate) h.this in
    found-held 0 locate reference p es r h.within q ∙ both e.gone (eqb (e.order.stock + 1) locate) e.order h.stays l
  where
    both : (g b : Bool) (o : Shown) → g ≡ false → b ≡ true → cond g None (cond b (Some o) None) ≡ Some o
    both true b o s t = absurd (cc)
    both false true o s t = refl
    both false false o s t = absurd (cc)

abbrev told_of : List Shown → List ℕ → Option ℕ → Told
told_of os states last = record { orders = os; states = states; last = last }

told-changed : (locate reference left p : ℕ) (es new : List Entry) (states : List ℕ) → IsRising 0 es → IsHeldAt locate reference p es
    → new ≡ set es p (left_with left (get_or es p vacant))
    → told_of (with_left locate reference left (kept es)) states (last_from None es) ≡ seen new states
told-changed locate reference left p es new states r h s =
    let e = get_or es p vacant in
    let q = eqb-true e.order.reference reference (and-left (eqb e.order.reference reference) (eqb (e.order.stock + 1) locate) h.this) in
    let l = and-right (eqb e.order.reference reference) (eqb (e.order.stock + 1) locate) h.this in
    let orders = ap kept s ∙ changed-kept 0 locate reference left p es r h.within q h.stays l in
    let last = ap (last_from None) s ∙ last-set None es p (left_with left e) (same-reference left e) in
    same-told (with_left locate reference left (kept es)) (kept new) states (last_from None es) (last_from None new) (sym orders) (sym last)
  where
    same-told : (os qs : List Shown) (states : List ℕ) (a b : Option ℕ) → os ≡ qs → a ≡ b → told_of os states a ≡ told_of qs states b
    same-told os qs states a b s t = λ i. told_of (s i) states (t i)

pub told-lowered : (locate reference shares p : ℕ) (es new : List Entry) (states : List ℕ) → IsRising 0 es → IsHeldAt locate reference p es
    → shares ≤ (get_or es p vacant).order.left
    → new ≡ set es p (left_with ((get_or es p vacant).order.left - shares) (get_or es p vacant))
    → lowered (seen es states) locate reference shares (held locate reference (kept es)) ≡ Ok (seen new states)
told-lowered locate reference shares p es new states r h w s =
    let t : leb shares (get_or es p vacant).order.left ≡ true = le-leb shares (get_or es p vacant).order.left w in
    rw (held-is locate reference p es r h, t) (ap Ok (told-changed locate reference ((get_or es p vacant).order.left - shares) p es new states r h s))

pub not_lowered : (locate reference shares p : ℕ) (es : List Entry) (states : List ℕ) → IsRising 0 es → IsHeldAt locate reference p es
    → (get_or es p vacant).order.left < shares
    → lowered (seen es states) locate reference shares (held locate reference (kept es)) ≡ Err reference
not_lowered locate reference shares p es states r h w =
    let t : leb shares (get_or es p vacant).order.left ≡ false = grind (arith, nat_tests, w) in
    rw (held-is locate reference p es r h, t) refl

pub told-deleted : (locate reference p : ℕ) (es new : List Entry) (states : List ℕ) → IsRising 0 es → IsHeldAt locate reference p es
    → new ≡ set es p (left_with 0 (get_or es p vacant))
    → deleted (seen es states) locate reference (held locate reference (kept es)) ≡ Ok (seen new states)
told-deleted locate reference p es new states r h s = rw (held-is locate reference p es r h) (ap Ok (told-changed locate reference 0 p es new states r h s))

pub told-added : (locate : ℕ) (o : Shown) (es new : List Entry) (states : List ℕ) → is_listed (seen es states) locate ≡ true → is_later (last_from None es) o.reference ≡ true
    → new ≡ es ++ record { order = o; gone = false } ∷ []
    → added (seen es states) locate o ≡ Ok (seen new states)
told-added locate o es new states l t s =
    let orders : kept new ≡ kept es ++ o ∷ [] = ap kept s ∙ kept-pushed es o in
    let last : last_from None new ≡ Some o.reference = ap (last_from None) s ∙ last-pushed None es (record { order = o; gone = false }) in
    rw (l, t) (λ i. Ok (record { orders = sym orders i; states = states; last = sym last i }))

pub listed-below : (locate stock : ℕ) (t : Told) → is_listed t locate ≡ true → stock ≡ locate - 1 → stock < length t.states
listed-below locate stock t l s = grind (arith, nat_tests, l, s)

-- a misfit ends the telling
pub ended : (told : Result Told ℕ) (rest : List Feed) (e : AuditError) → IsMisfitOf told e → IsMisfitOf (told_by told rest) e
ended told rest (error.Misfit m) h = ap (λ r. told_by r rest) h ∙ still m.reference rest
  where
    still : (n : ℕ) (rest : List Feed) → told_by (Err n) rest ≡ Err n
    still n [] = refl
    still n (m ∷ ms) = refl
ended told rest error.Memory h = tt
