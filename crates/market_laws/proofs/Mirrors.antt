-- One order of a book changes, and so does what a feed tells of it.
use Rattle.std.proofs.Common.{◌≡◌, ◌≢◌, ◌<◌, ◌+◌, ℕ, Bool, true, false, not, cond, List, [], ◌∷◌, ◌++◌, Option, Some, option_map, find, filter, map, refl, sym, ap, ◌∙◌, arith}
use Rattle.std.specs.Prelude.{◌==◌, ◌&&◌}
use Rattle.std.specs.List.{AllByRecursion}
use Rattle.std.proofs.lemmas.Bool.{false≢true}
use Rattle.std.proofs.lemmas.Bool.Decides.{nat_tests}
use Rattle.std.proofs.lemmas.List.{map-append}
use Rattle.std.proofs.lemmas.List.Elements.{filter-append}
use Rattle.price_time_book.specs.declared.resting.Resting.{Resting}
use Rattle.price_time_book.specs.Orders as book
use Rattle.price_time_book.specs.Orderly.{IsRising}
use Rattle.feed_rebuild.specs.declared.shown.Shown.{Shown}
use Rattle.feed_rebuild.specs.Fold.{is_this, held, without, with_left}
use Rattle.market_laws.specs.Shown.{shown_of}

-- ---- lists of which a part is taken

filter-cond : {X : Type 0} (a : Bool) (p : X → Bool) (x : X) (xs : List X) → filter p (cond a (x ∷ xs) xs) ≡ cond a (cond (p x) (x ∷ filter p xs) (filter p xs)) (filter p xs)
filter-cond true p x xs = refl
filter-cond false p x xs = refl

either-order : {X : Type 0} (a b : Bool) (x : X) (ys zs : List X) → ys ≡ zs → cond a (cond b (x ∷ ys) ys) ys ≡ cond b (cond a (x ∷ zs) zs) zs
either-order {X = X} true true x ys zs e = ap (λ (l : List X). x ∷ l) e
either-order true false x ys zs e = e
either-order false true x ys zs e = e
either-order false false x ys zs e = e

filter-filter : {X : Type 0} (p q : X → Bool) (xs : List X) → filter p (filter q xs) ≡ filter q (filter p xs)
filter-filter p q [] = refl
filter-filter p q (x ∷ xs) =
    filter-cond (q x) p x (filter q xs)
    ∙ either-order (q x) (p x) x (filter p (filter q xs)) (filter q (filter p xs)) (filter-filter p q xs)
    ∙ sym (filter-cond (p x) q x (filter p xs))

inner-wins : {X : Type 0} (a b : Bool) (x : X) (ys zs : List X) → (b ≡ true → a ≡ true) → ys ≡ zs → cond a (cond b (x ∷ ys) ys) ys ≡ cond b (x ∷ zs) zs
inner-wins {X = X} true true x ys zs i e = ap (λ (l : List X). x ∷ l) e
inner-wins true false x ys zs i e = e
inner-wins false true x ys zs i e = absurd (false≢true (i refl))
inner-wins false false x ys zs i e = e

-- a part of what has all of that part is that part
filter-within : {X : Type 0} (p q : X → Bool) (xs : List X) → ((x : X) → p x ≡ true → q x ≡ true) → filter p (filter q xs) ≡ filter p xs
filter-within p q [] i = refl
filter-within p q (x ∷ xs) i =
    filter-cond (q x) p x (filter q xs)
    ∙ inner-wins (q x) (p x) x (filter p (filter q xs)) (filter p xs) (i x) (filter-within p q xs i)

map-cond : {X : Type 0} (b : Bool) (f : X → X) (x : X) (ys zs : List X) → ys ≡ map f zs → cond b (f x ∷ ys) ys ≡ map f (cond b (x ∷ zs) zs)
map-cond {X = X} true f x ys zs e = ap (λ (l : List X). f x ∷ l) e
map-cond false f x ys zs e = e

-- a part goes with what leaves its test as it is
filter-map : {X : Type 0} (p : X → Bool) (f : X → X) (xs : List X) → AllByRecursion (λ (x : X). p (f x) ≡ p x) xs → filter p (map f xs) ≡ map f (filter p xs)
filter-map p f [] h = refl
filter-map p f (x ∷ xs) h =
    ap (λ b. cond b (f x ∷ filter p (map f xs)) (filter p (map f xs))) h.0
    ∙ map-cond (p x) f x (filter p (map f xs)) (filter p xs) (filter-map p f xs h.1)

all-of : {X : Type 0} (P : X → Type 0) (xs : List X) → ((x : X) → P x) → AllByRecursion P xs
all-of P [] h = tt
all-of P (x ∷ xs) h = (h x, all-of P xs h)

same-in-part : {X : Type 0} (b : Bool) (x y : X) (ys zs : List X) → (b ≡ true → y ≡ x) → ys ≡ zs → cond b (y ∷ ys) ys ≡ cond b (x ∷ zs) zs
same-in-part {X = X} true x y ys zs i e = ap (λ (z : X). z ∷ ys) (i refl) ∙ ap (λ (l : List X). x ∷ l) e
same-in-part false x y ys zs i e = e

-- what leaves each element of a part as it is leaves the part
filter-same : {X : Type 0} (p : X → Bool) (f : X → X) (xs : List X) → ((x : X) → p (f x) ≡ p x) → ((x : X) → p x ≡ true → f x ≡ x) → filter p (map f xs) ≡ filter p xs
filter-same p f [] h i = refl
filter-same p f (x ∷ xs) h i =
    ap (λ b. cond b (f x ∷ filter p (map f xs)) (filter p (map f xs))) (h x)
    ∙ same-in-part (p x) x (f x) (filter p (map f xs)) (filter p xs) (i x) (filter-same p f xs h i)

find-cond : {X : Type 0} (a b : Bool) (p : X → Bool) (x : X) (ys zs : List X) → p x ≡ b → (b ≡ true → a ≡ true) → find p ys ≡ find p zs → find p (cond a (x ∷ ys) ys) ≡ cond b (Some x) (find p zs)
find-cond true true p x ys zs e i h = ap (λ t. cond t (Some x) (find p ys)) e
find-cond true false p x ys zs e i h = ap (λ t. cond t (Some x) (find p ys)) e ∙ h
find-cond false true p x ys zs e i h = absurd (false≢true (i refl))
find-cond false false p x ys zs e i h = h

-- what a search finds in a part that has all that it may find
find-filter : {X : Type 0} (p q : X → Bool) (xs : List X) → ((x : X) → p x ≡ true → q x ≡ true) → find p (filter q xs) ≡ find p xs
find-filter p q [] i = refl
find-filter p q (x ∷ xs) i = find-cond (q x) (p x) p x (filter q xs) xs refl (i x) (find-filter p q xs i)

-- ---- what a feed tells of a book

abbrev pub is_shown : Resting → Bool
is_shown o = o.shown

-- the displayed orders of a book
abbrev pub visible : List Resting → List Resting
visible w = filter (λ (o : Resting). o.shown) w

-- as the feed tells them
abbrev pub mirror : ℕ → List Resting → List Shown
mirror k w = map (shown_of k) (visible w)

abbrev pub is_of : ℕ → Shown → Bool
is_of k o = o.stock == k

-- an order with another intended size and other open shares
abbrev pub put : ℕ → ℕ → Resting → Resting
put intended left o = record o { intended = intended; left = left }

pub same-number : (k : ℕ) → (k == k) ≡ true
same-number k = grind (arith, nat_tests)

pub from-test : (m n : ℕ) → (m == n) ≡ true → m ≡ n
from-test m n e = grind (arith, nat_tests)

-- ---- the displayed orders of a book in which one changes

-- the order of a reference is the only one
abbrev pub IsOnly : Resting → List Resting → Type 0
IsOnly o w = AllByRecursion (λ (x : Resting). x.reference ≡ o.reference → x ≡ o) w

put-shown : (b : Bool) (m n : ℕ) (o x : Resting) → (b ≡ true → x ≡ o) → (cond b (put m n o) x).shown ≡ x.shown
put-shown true m n o x h = ap (λ (y : Resting). y.shown) (sym (h refl))
put-shown false m n o x h = refl

puts-shown : (m n : ℕ) (o : Resting) (w : List Resting) → IsOnly o w → AllByRecursion (λ (x : Resting). (cond (x.reference == o.reference) (put m n o) x).shown ≡ x.shown) w
puts-shown m n o [] h = tt
puts-shown m n o (x ∷ w) h = (put-shown (x.reference == o.reference) m n o x (λ e. h.0 (from-test x.reference o.reference e)), puts-shown m n o w h.1)

visible-without : (r : ℕ) (w : List Resting) → visible (book.without r w) ≡ book.without r (visible w)
visible-without r w = filter-filter is_shown (λ (o : Resting). not (o.reference == r)) w

visible-put : (m n : ℕ) (o : Resting) (w : List Resting) → IsOnly o w → visible (book.with_order (put m n o) w) ≡ book.with_order (put m n o) (visible w)
visible-put m n o w h = filter-map is_shown (λ (x : Resting). cond (x.reference == o.reference) (put m n o) x) w (puts-shown m n o w h)

abbrev changed-by : Bool → Resting → List Resting → List Resting
changed-by b o w = cond b (book.without o.reference w) (book.with_order o w)

visible-changed : (m n : ℕ) (o : Resting) (w : List Resting) → IsOnly o w → visible (book.changed (put m n o) w) ≡ book.changed (put m n o) (visible w)
visible-changed m n o w h =
    elim (n == 0) as (λ b. visible (changed-by b (put m n o) w) ≡ changed-by b (put m n o) (visible w))
    [ true ↦ visible-without o.reference w | false ↦ visible-put m n o w h ]

-- a displayed order that is held is held among them
visible-by : (a b : Bool) (r : ℕ) (o x : Resting) (w : List Resting) → (x.reference == r) ≡ a → x.shown ≡ b → o.shown ≡ true → cond a (Some x) (book.order_with r w) ≡ Some o
    → (book.order_with r w ≡ Some o → book.order_with r (visible w) ≡ Some o) → book.order_with r (cond b (x ∷ visible w) (visible w)) ≡ Some o
visible-by true true r o x w t s is e rest = ap (λ c. cond c (Some x) (book.order_with r (visible w))) t ∙ e
visible-by true false r o x w t s is e rest = let same : x ≡ o = cc in absurd (false≢true (sym s ∙ ap (λ (y : Resting). y.shown) same ∙ is))
visible-by false true r o x w t s is e rest = ap (λ c. cond c (Some x) (book.order_with r (visible w))) t ∙ rest e
visible-by false false r o x w t s is e rest = rest e

visible-held : (r : ℕ) (o : Resting) (w : List Resting) → o.shown ≡ true → book.order_with r w ≡ Some o → book.order_with r (visible w) ≡ Some o
visible-held r o [] is e = e
visible-held r o (x ∷ w) is e = visible-by (x.reference == r) x.shown r o x w refl refl is e (visible-held r o w is)

-- none has the reference of a hidden order
hidden-here : (c : Bool) (o x : Resting) → (x.reference == o.reference) ≡ c → o.shown ≡ false → x.shown ≡ true → (x.reference ≡ o.reference → x ≡ o) → c ≡ false
hidden-here true o x t hid is h = absurd (false≢true (sym hid ∙ ap (λ (y : Resting). y.shown) (sym (h (from-test x.reference o.reference t))) ∙ is))
hidden-here false o x t hid is h = refl

hidden-by : (b : Bool) (o x : Resting) (w : List Resting) → (b ≡ true → (x.reference == o.reference) ≡ false) → AllByRecursion (λ (y : Resting). (y.reference == o.reference) ≡ false) w
    → AllByRecursion (λ (y : Resting). (y.reference == o.reference) ≡ false) (cond b (x ∷ w) w)
hidden-by true o x w h k = (h refl, k)
hidden-by false o x w h k = k

hidden-absent : (o : Resting) (w : List Resting) → o.shown ≡ false → IsOnly o w → AllByRecursion (λ (y : Resting). (y.reference == o.reference) ≡ false) (visible w)
hidden-absent o [] hid h = tt
hidden-absent o (x ∷ w) hid h =
    hidden-by x.shown o x (visible w) (λ is. hidden-here (x.reference == o.reference) o x refl hid is h.0) (hidden-absent o w hid h.1)

absent-without : (o : Resting) (w : List Resting) → AllByRecursion (λ (y : Resting). (y.reference == o.reference) ≡ false) w → book.without o.reference w ≡ w
absent-without o [] h = refl
absent-without o (x ∷ w) h =
    ap (λ c. cond (not c) (x ∷ book.without o.reference w) (book.without o.reference w)) h.0 ∙ ap (λ (l : List Resting). x ∷ l) (absent-without o w h.1)

absent-put : (o : Resting) (w : List Resting) → AllByRecursion (λ (y : Resting). (y.reference == o.reference) ≡ false) w → book.with_order o w ≡ w
absent-put o [] h = refl
absent-put o (x ∷ w) h = ap (λ c. cond c o x ∷ book.with_order o w) h.0 ∙ ap (λ (l : List Resting). x ∷ l) (absent-put o w h.1)

absent-changed : (o : Resting) (w : List Resting) → AllByRecursion (λ (y : Resting). (y.reference == o.reference) ≡ false) w → book.changed o w ≡ w
absent-changed o w h = elim (o.left == 0) as (λ b. changed-by b o w ≡ w) [ true ↦ absent-without o w h | false ↦ absent-put o w h ]

-- a hidden order changes, and the feed tells nothing
pub mirror-hidden : (k m n : ℕ) (o : Resting) (w : List Resting) → o.shown ≡ false → IsOnly o w → mirror k (book.changed (put m n o) w) ≡ mirror k w
mirror-hidden k m n o w hid h =
    ap (λ (l : List Resting). map (shown_of k) l) (visible-changed m n o w h ∙ absent-changed (put m n o) (visible w) (hidden-absent o w hid h))

-- ---- the same within the told orders of one stock

leaves : (b t : Bool) (k : ℕ) (o : Resting) (xs : List Resting) (ys : List Shown) → t ≡ true → map (shown_of k) xs ≡ ys
    → map (shown_of k) (cond (not b) (o ∷ xs) xs) ≡ cond (not (b && t)) (shown_of k o ∷ ys) ys
leaves true true k o xs ys e h = h
leaves true false k o xs ys e h = absurd (false≢true e)
leaves false t k o xs ys e h = ap (λ (zs : List Shown). shown_of k o ∷ zs) h

told-without : (k r : ℕ) (w : List Resting) → map (shown_of k) (book.without r w) ≡ without (k + 1) r (map (shown_of k) w)
told-without k r [] = refl
told-without k r (o ∷ w) =
    leaves (o.reference == r) (k + 1 == k + 1) k o (book.without r w) (without (k + 1) r (map (shown_of k) w)) (same-number (k + 1)) (told-without k r w)

keeps : (b t : Bool) (k m n : ℕ) (o x : Resting) → t ≡ true → (b ≡ true → x ≡ o)
    → shown_of k (cond b (put m n o) x) ≡ cond (b && t) (record (shown_of k x) { left = n }) (shown_of k x)
keeps true true k m n o x e h = ap (λ (y : Resting). record (shown_of k y) { left = n }) (sym (h refl))
keeps true false k m n o x e h = absurd (false≢true e)
keeps false t k m n o x e h = refl

-- an order of a locate and a reference gets so many open shares
abbrev lefts : ℕ → ℕ → ℕ → Shown → Shown
lefts locate r n s = cond (is_this locate r s) (record s { left = n }) s

told-put : (k m n : ℕ) (o : Resting) (w : List Resting) → IsOnly o w → map (shown_of k) (book.with_order (put m n o) w) ≡ map (lefts (k + 1) o.reference n) (map (shown_of k) w)
told-put k m n o [] h = refl
told-put k m n o (x ∷ w) h =
    let head = keeps (x.reference == o.reference) (k + 1 == k + 1) k m n o x (same-number (k + 1)) (λ e. h.0 (from-test x.reference o.reference e)) in
    let rest = told-put k m n o w h.1 in
    ap (λ (y : Shown). y ∷ map (shown_of k) (book.with_order (put m n o) w)) head ∙ ap (λ (ys : List Shown). lefts (k + 1) o.reference n (shown_of k x) ∷ ys) rest

abbrev with-left-by : Bool → ℕ → ℕ → ℕ → List Shown → List Shown
with-left-by b locate r n os = cond b (without locate r os) (map (lefts locate r n) os)

told-changed : (k m n : ℕ) (o : Resting) (w : List Resting) → IsOnly o w → map (shown_of k) (book.changed (put m n o) w) ≡ with_left (k + 1) o.reference n (map (shown_of k) w)
told-changed k m n o w h =
    elim (n == 0) as (λ b. map (shown_of k) (changed-by b (put m n o) w) ≡ with-left-by b (k + 1) o.reference n (map (shown_of k) w))
    [ true ↦ told-without k o.reference w | false ↦ told-put k m n o w h ]

finds : (b t : Bool) (k : ℕ) (o : Resting) (x : Option Resting) (y : Option Shown) → t ≡ true → y ≡ option_map (shown_of k) x
    → cond (b && t) (Some (shown_of k o)) y ≡ option_map (shown_of k) (cond b (Some o) x)
finds true true k o x y e h = refl
finds true false k o x y e h = absurd (false≢true e)
finds false t k o x y e h = h

told-held : (k r : ℕ) (w : List Resting) → held (k + 1) r (map (shown_of k) w) ≡ option_map (shown_of k) (book.order_with r w)
told-held k r [] = refl
told-held k r (o ∷ w) =
    finds (o.reference == r) (k + 1 == k + 1) k o (book.order_with r w) (held (k + 1) r (map (shown_of k) w)) (same-number (k + 1)) (told-held k r w)

-- ---- in a rising book a held order is the only one of its reference

later-not : (n : ℕ) (o : Resting) (w : List Resting) → n ≡ o.reference → AllByRecursion (λ (x : Resting). n < x.reference) w → IsOnly o w
later-not n o [] e h = tt
later-not n o (x ∷ w) e h = (λ q. absurd (omega (arith, e, q, h.0)), later-not n o w e h.1)

only-by : (b : Bool) (o x : Resting) (w : List Resting) → (x.reference == o.reference) ≡ b → IsRising (x ∷ w) → cond b (Some x) (book.order_with o.reference w) ≡ Some o
    → (book.order_with o.reference w ≡ Some o → IsOnly o w) → IsOnly o (x ∷ w)
only-by true o x w t h e rest = let is : x ≡ o = cc e in (λ q. is, later-not x.reference o w (ap (λ (y : Resting). y.reference) is) h.0)
only-by false o x w t h e rest = (λ q. absurd (false≢true (sym t ∙ ap (λ n. n == o.reference) q ∙ same-number o.reference)), rest e)

pub rising-only : (o : Resting) (w : List Resting) → IsRising w → book.order_with o.reference w ≡ Some o → IsOnly o w
rising-only o [] h e = tt
rising-only o (x ∷ w) h e = only-by (x.reference == o.reference) o x w refl h e (rising-only o w h.1)

abbrev IsAbove : ℕ → List Resting → Type 0
IsAbove n w = AllByRecursion (λ (o : Resting). n < o.reference) w

kept-cond : (P : Resting → Type 0) (b : Bool) (x : Resting) (w : List Resting) → P x → AllByRecursion P w → AllByRecursion P (cond b (x ∷ w) w)
kept-cond P true x w h k = (h, k)
kept-cond P false x w h k = k

pub kept-filter : (P : Resting → Type 0) (p : Resting → Bool) (w : List Resting) → AllByRecursion P w → AllByRecursion P (filter p w)
kept-filter P p [] h = tt
kept-filter P p (x ∷ w) h = kept-cond P (p x) x (filter p w) h.0 (kept-filter P p w h.1)

rising-cond : (b : Bool) (x : Resting) (w : List Resting) → IsAbove x.reference w → IsRising w → IsRising (cond b (x ∷ w) w)
rising-cond true x w h k = (h, k)
rising-cond false x w h k = k

pub rising-filter : (p : Resting → Bool) (w : List Resting) → IsRising w → IsRising (filter p w)
rising-filter p [] h = tt
rising-filter p (x ∷ w) h = rising-cond (p x) x (filter p w) (kept-filter (λ (o : Resting). x.reference < o.reference) p w h.0) (rising-filter p w h.1)

-- ---- a displayed order of a rising book

pub mirror-changed : (k m n : ℕ) (o : Resting) (w : List Resting) → IsRising w → o.shown ≡ true → book.order_with o.reference w ≡ Some o
    → mirror k (book.changed (put m n o) w) ≡ with_left (k + 1) o.reference n (mirror k w)
mirror-changed k m n o w h is e =
    ap (λ (l : List Resting). map (shown_of k) l) (visible-changed m n o w (rising-only o w h e))
    ∙ told-changed k m n o (visible w) (rising-only o (visible w) (rising-filter is_shown w h) (visible-held o.reference o w is e))

pub mirror-held : (k : ℕ) (o : Resting) (w : List Resting) → o.shown ≡ true → book.order_with o.reference w ≡ Some o → held (k + 1) o.reference (mirror k w) ≡ Some (shown_of k o)
mirror-held k o w is e = told-held k o.reference (visible w) ∙ ap (λ (x : Option Resting). option_map (shown_of k) x) (visible-held o.reference o w is e)

-- an order comes to rest
pub mirror-rested : (k : ℕ) (o : Resting) (w : List Resting) → mirror k (w ++ o ∷ []) ≡ mirror k w ++ map (shown_of k) (cond o.shown (o ∷ []) [])
mirror-rested k o w =
    ap (λ (l : List Resting). map (shown_of k) l) (filter-append is_shown w (o ∷ [])) ∙ map-append (shown_of k) (visible w) (cond o.shown (o ∷ []) [])

-- ---- the told orders of all stocks

this-of : (k r : ℕ) (o : Shown) → is_this (k + 1) r o ≡ true → is_of k o ≡ true
this-of k r o e = grind (arith, nat_tests)

this-not : (j k r : ℕ) (o : Shown) → j ≢ k → is_of j o ≡ true → is_this (k + 1) r o ≡ false
this-not j k r o n e = grind (arith, nat_tests)

same-stock : (b : Bool) (j n : ℕ) (s : Shown) → is_of j (cond b (record s { left = n }) s) ≡ is_of j s
same-stock true j n s = refl
same-stock false j n s = refl

part-put : (j locate r n : ℕ) (os : List Shown) → filter (is_of j) (map (lefts locate r n) os) ≡ map (lefts locate r n) (filter (is_of j) os)
part-put j locate r n os = filter-map (is_of j) (lefts locate r n) os (all-of (λ (s : Shown). is_of j (lefts locate r n s) ≡ is_of j s) os (λ s. same-stock (is_this locate r s) j n s))

pub part-left : (k r n : ℕ) (os : List Shown) → filter (is_of k) (with_left (k + 1) r n os) ≡ with_left (k + 1) r n (filter (is_of k) os)
part-left k r n os =
    elim (n == 0) as (λ b. filter (is_of k) (with-left-by b (k + 1) r n os) ≡ with-left-by b (k + 1) r n (filter (is_of k) os))
    [ true ↦ filter-filter (is_of k) (λ (s : Shown). not (is_this (k + 1) r s)) os | false ↦ part-put k (k + 1) r n os ]

not-false : (b : Bool) → b ≡ false → not b ≡ true
not-false b e = ap not e

left-alone : (b : Bool) (n : ℕ) (s : Shown) → b ≡ false → cond b (record s { left = n }) s ≡ s
left-alone true n s e = absurd (false≢true (sym e))
left-alone false n s e = refl

-- the orders of other stocks stay
pub others-left : (j k r n : ℕ) (os : List Shown) → j ≢ k → filter (is_of j) (with_left (k + 1) r n os) ≡ filter (is_of j) os
others-left j k r n os d =
    elim (n == 0) as (λ b. filter (is_of j) (with-left-by b (k + 1) r n os) ≡ filter (is_of j) os) [
      | true ↦ filter-within (is_of j) (λ (s : Shown). not (is_this (k + 1) r s)) os (λ s e. not-false (is_this (k + 1) r s) (this-not j k r s d e))
      | false ↦ filter-same (is_of j) (lefts (k + 1) r n) os (λ s. same-stock (is_this (k + 1) r s) j n s) (λ s e. left-alone (is_this (k + 1) r s) n s (this-not j k r s d e))
    ]

pub part-held : (k r : ℕ) (os : List Shown) → held (k + 1) r (filter (is_of k) os) ≡ held (k + 1) r os
part-held k r os = find-filter (is_this (k + 1) r) (is_of k) os (λ s e. this-of k r s e)
