-- The matches of an incoming order, as a feed tells them.
use Rattle.std.proofs.Common.{◌≡◌, ◌≢◌, ◌<◌, ◌≤◌, ◌+◌, ◌-◌, ℕ, zero, suc, Bool, true, false, cond, min, List, [], ◌∷◌, ◌++◌, length, Option, Some, None, Result, Ok, Err, Contains, find, filter, inl, inr, refl, sym, ap, subst, ◌∙◌, ◌⊎◌, arith, append_assoc, append-nil}
use Rattle.std.specs.Prelude.{◌==◌, nat_le, if◌then◌else◌, slice_index_or}
use Rattle.std.specs.List.{AllByRecursion}
use Rattle.std.proofs.lemmas.Bool.{false≢true}
use Rattle.std.proofs.lemmas.Bool.Decides.{nat_tests}
use Rattle.market_types.specs.declared.feed.Feed.{Feed}
use Rattle.market_types.specs.declared.feed.What.{What}
use Rattle.market_types.specs.declared.feed.What.TheVariants as what
use Rattle.market_types.specs.declared.order.Side.{Side}
use Rattle.market_types.specs.declared.order.Side.TheVariants.{Buy}
use Rattle.market_types.specs.declared.order.Symbol.{Symbol}
use Rattle.price_time_book.specs.declared.resting.Resting.{Resting}
use Rattle.price_time_book.specs.declared.resting.Fill.{Fill}
use Rattle.price_time_book.specs.Orders as book
use Rattle.price_time_book.specs.Orderly.{IsRising}
use Rattle.price_time_book.specs.Matched.{IsEnded, Matching, after_fill, completed, fill_of, matched}
use Rattle.price_time_book.specs.Next.{next_of}
use Rattle.exchange_agent.specs.declared.settle.Taking.{Taking}
use Rattle.exchange_agent.specs.Settle.{Way, all_settled, fed, match_told, settled}
use Rattle.feed_rebuild.specs.declared.shown.Shown.{Shown}
use Rattle.feed_rebuild.specs.Fold.{Told, deleted, held, lowered, told_by, told_what, with_left}
use Rattle.market_laws.specs.Shown.{shown_of}
use Rattle.market_laws.proofs.Mirrors.{from-test, is_of, kept-filter, mirror, mirror-changed, mirror-held, mirror-hidden, others-left, part-held, part-left, put, rising-filter, rising-only, same-number}

-- ---- books whose references rise and were given, and whose orders are open

pub record IsTraceable (references : ℕ) (w : List Resting) : Type 0 where
  pub rising : IsRising w
  pub live : AllByRecursion (λ (o : Resting). 0 < o.left) w
  pub given : AllByRecursion (λ (o : Resting). o.reference ≤ references) w

kept-either : (P : Resting → Type 0) (b : Bool) (o x : Resting) → (b ≡ true → P x → P o) → P x → P (cond b o x)
kept-either P true o x h k = h refl k
kept-either P false o x h k = k

kept-put : (P : Resting → Type 0) (o : Resting) (w : List Resting) → ((x : Resting) → x.reference ≡ o.reference → P x → P o) → AllByRecursion P w → AllByRecursion P (book.with_order o w)
kept-put P o [] h k = tt
kept-put P o (x ∷ w) h k =
    (kept-either P (x.reference == o.reference) o x (λ e. h x (from-test x.reference o.reference e)) k.0, kept-put P o w h k.1)

put-reference : (b : Bool) (o x : Resting) → (x.reference == o.reference) ≡ b → (cond b o x).reference ≡ x.reference
put-reference true o x e = sym (from-test x.reference o.reference e)
put-reference false o x e = refl

rising-put : (o : Resting) (w : List Resting) → IsRising w → IsRising (book.with_order o w)
rising-put o [] h = tt
rising-put o (x ∷ w) h =
    let above = kept-put (λ (y : Resting). x.reference < y.reference) o w (λ y e lt. subst (λ (n : ℕ). x.reference < n) e lt) h.0 in
    (subst (λ (n : ℕ). AllByRecursion (λ (y : Resting). n < y.reference) (book.with_order o w)) (sym (put-reference (x.reference == o.reference) o x refl)) above, rising-put o w h.1)

pub some-left : (n : ℕ) → (n == 0) ≡ false → 0 < n
some-left n t = grind (arith, nat_tests)

traceable-by : (b : Bool) (n : ℕ) (o : Resting) (w : List Resting) → (o.left == 0) ≡ b → IsTraceable n w → IsTraceable n (cond b (book.without o.reference w) (book.with_order o w))
traceable-by true n o w e h = record {
  rising = rising-filter _ w h.rising;
  live = kept-filter (λ (x : Resting). 0 < x.left) _ w h.live;
  given = kept-filter (λ (x : Resting). x.reference ≤ n) _ w h.given;
}
traceable-by false n o w e h = record {
  rising = rising-put o w h.rising;
  live = kept-put (λ (x : Resting). 0 < x.left) o w (λ x q k. some-left o.left e) h.live;
  given = kept-put (λ (x : Resting). x.reference ≤ n) o w (λ x q k. subst (λ (m : ℕ). m ≤ n) q k) h.given;
}

pub traceable-changed : (n : ℕ) (o : Resting) (w : List Resting) → IsTraceable n w → IsTraceable n (book.changed o w)
traceable-changed n o w h = traceable-by (o.left == 0) n o w refl h

kept-weaker : (P Q : Resting → Type 0) (w : List Resting) → ((x : Resting) → P x → Q x) → AllByRecursion P w → AllByRecursion Q w
kept-weaker P Q [] h k = tt
kept-weaker P Q (x ∷ w) h k = (h x k.0, kept-weaker P Q w h k.1)

pub traceable-more : (n m : ℕ) (w : List Resting) → n ≤ m → IsTraceable n w → IsTraceable m w
traceable-more n m w le h = record {
  rising = h.rising;
  live = h.live;
  given = kept-weaker (λ (o : Resting). o.reference ≤ n) (λ (o : Resting). o.reference ≤ m) w (λ x k. omega (arith, le, k)) h.given;
}

kept-push : (P : Resting → Type 0) (o : Resting) (w : List Resting) → AllByRecursion P w → P o → AllByRecursion P (w ++ o ∷ [])
kept-push P o [] h k = (k, tt)
kept-push P o (x ∷ w) h k = (h.0, kept-push P o w h.1 k)

rising-push : (o : Resting) (w : List Resting) → IsRising w → AllByRecursion (λ (x : Resting). x.reference < o.reference) w → IsRising (w ++ o ∷ [])
rising-push o [] h k = (tt, tt)
rising-push o (x ∷ w) h k = (kept-push (λ (y : Resting). x.reference < y.reference) o w h.0 k.0, rising-push o w h.1 k.1)

-- an order with the next reference comes to rest
pub traceable-rested : (n : ℕ) (o : Resting) (w : List Resting) → o.reference ≡ n + 1 → 0 < o.left → IsTraceable n w → IsTraceable (n + 1) (w ++ o ∷ [])
traceable-rested n o w e some h = record {
  rising = rising-push o w h.rising (kept-weaker (λ (x : Resting). x.reference ≤ n) (λ (x : Resting). x.reference < o.reference) w (λ x k. omega (arith, e, k)) h.given);
  live = kept-push (λ (x : Resting). 0 < x.left) o w h.live some;
  given = kept-push (λ (x : Resting). x.reference ≤ n + 1) o w (kept-weaker (λ (x : Resting). x.reference ≤ n) (λ (x : Resting). x.reference ≤ n + 1) w (λ x k. omega (arith, k)) h.given) (omega (arith, e));
}

-- ---- what a search finds is held under its reference

found-by : (b : Bool) (p : Resting → Bool) (P : Resting → Type 0) (x : Resting) (w : List Resting) (o : Resting) → cond b (Some x) (find p w) ≡ Some o → P x → (find p w ≡ Some o → P o) → P o
found-by true p P x w o e here later = let same : x ≡ o = cc in subst P same here
found-by false p P x w o e here later = later e

-- what a search finds passes
pub found-passes : (p : Resting → Bool) (P : Resting → Type 0) (w : List Resting) (o : Resting) → find p w ≡ Some o → AllByRecursion P w → P o
found-passes p P [] o e all = absurd cc
found-passes p P (x ∷ w) o e all = found-by (p x) p P x w o e all.0 (λ q. found-passes p P w o q all.1)

below-not : (m n : ℕ) → m < n → (m == n) ≡ false
below-not m n h = grind (arith, nat_tests)

held-first : (o x : Resting) (w : List Resting) → x ≡ o → book.order_with o.reference (x ∷ w) ≡ Some o
held-first o x w e =
    subst (λ (y : Resting). cond (y.reference == o.reference) (Some y) (book.order_with o.reference w) ≡ Some o) (sym e)
    (ap (λ c. cond c (Some o) (book.order_with o.reference w)) (same-number o.reference))

held-later : (o x : Resting) (w : List Resting) → x.reference < o.reference → book.order_with o.reference w ≡ Some o → book.order_with o.reference (x ∷ w) ≡ Some o
held-later o x w lt e = ap (λ c. cond c (Some x) (book.order_with o.reference w)) (below-not x.reference o.reference lt) ∙ e

held-at : (w : List Resting) (i : ℕ) (o : Resting) → IsRising w → i < length w → slice_index_or w i o ≡ o → book.order_with o.reference w ≡ Some o
held-at [] i o h lt e = absurd (omega (arith, lt))
held-at (x ∷ w) zero o h lt e = held-first o x w e
held-at (x ∷ w) (suc i) o h lt e =
    let rest = held-at w i o h.1 (omega (arith, lt)) e in
    held-later o x w (found-passes _ (λ (y : Resting). x.reference < y.reference) w o rest h.0) rest

found-held-by : (b : Bool) (p : Resting → Bool) (o x : Resting) (w : List Resting) → IsRising (x ∷ w) → cond b (Some x) (find p w) ≡ Some o → (find p w ≡ Some o → book.order_with o.reference w ≡ Some o) → book.order_with o.reference (x ∷ w) ≡ Some o
found-held-by true p o x w h e rest = let same : x ≡ o = cc in held-first o x w same
found-held-by false p o x w h e rest = held-later o x w (found-passes p (λ (y : Resting). x.reference < y.reference) w o e h.0) (rest e)

pub found-held : (p : Resting → Bool) (o : Resting) (w : List Resting) → IsRising w → find p w ≡ Some o → book.order_with o.reference w ≡ Some o
found-held p o [] h e = absurd cc
found-held p o (x ∷ w) h e = found-held-by (p x) p o x w h e (found-held p o w h.1)

-- ---- the fills of an incoming order, each of an order that is then held

abbrev pub AreHeld : List Fill → List Resting → Type 0
AreHeld [] w = Unit {0}
AreHeld (f ∷ fs) w = (book.order_with f.resting.reference w ≡ Some f.resting) × (f.shares ≤ f.resting.left) × AreHeld fs (after_fill f w)

-- the laws of books that this rests on, each a public law of the book
pub record FillLaws : Type 0 where
  pub begins : (w : List Resting) (side : Side) (limit shares : ℕ) (o : Resting) → next_of w side limit ≡ Some o → shares ≢ 0
      → (matched w side limit shares).fills ≡ fill_of shares o ∷ (matched (after_fill (fill_of shares o) w) side limit (shares - min o.left shares)).fills
  pub stays : (side : Side) (limit : ℕ) (m : Matching) → IsEnded side limit m → completed side limit m ≡ m
  pub held : (w : List Resting) (side : Side) (limit : ℕ) (o : Resting) → next_of w side limit ≡ Some o → Contains w o

-- the shares that are wanted fall at each fill
abbrev Fewer : ℕ → Side → ℕ → Type 0
Fewer n side limit = (given : ℕ) (w : List Resting) (shares : ℕ) → shares ≤ n → IsTraceable given w → AreHeld (matched w side limit shares).fills w

ended-held : FillLaws → (w : List Resting) (side : Side) (limit shares : ℕ) → (shares ≡ 0) ⊎ (next_of w side limit ≡ None) → AreHeld (matched w side limit shares).fills w
ended-held laws w side limit shares e =
    let none : (matched w side limit shares).fills ≡ [] = ap (λ (m : Matching). m.fills) (laws.stays side limit (record { fills = []; book = w; shares = shares }) e) in
    subst (λ (fs : List Fill). AreHeld fs w) (sym none) tt

more-held : FillLaws → (n given : ℕ) (w : List Resting) (side : Side) (limit shares : ℕ) (o : Resting) → Fewer n side limit → shares ≤ suc n → IsTraceable given w
    → next_of w side limit ≡ Some o → shares ≢ 0 → AreHeld (matched w side limit shares).fills w
more-held laws n given w side limit shares o rec le h e some =
    let place = laws.held w side limit o e in
    let is : book.order_with o.reference w ≡ Some o = held-at w place.0 o h.rising place.1 place.2 in
    let live : 0 < o.left = found-passes _ (λ (x : Resting). 0 < x.left) w o is h.live in
    let rest = rec given (after_fill (fill_of shares o) w) (shares - min o.left shares) (omega (arith, le, some, live)) (traceable-changed given _ w h) in
    subst (λ (fs : List Fill). AreHeld fs w) (sym (laws.begins w side limit shares o e some)) (is, omega arith, rest)

next-held : FillLaws → (n given : ℕ) (w : List Resting) (side : Side) (limit shares : ℕ) (b : Bool) (next : Option Resting) → Fewer n side limit → shares ≤ suc n → IsTraceable given w
    → (shares == 0) ≡ b → next_of w side limit ≡ next → AreHeld (matched w side limit shares).fills w
next-held laws n given w side limit shares true next rec le h t e = ended-held laws w side limit shares (inl (from-test shares 0 t))
next-held laws n given w side limit shares false None rec le h t e = ended-held laws w side limit shares (inr e)
next-held laws n given w side limit shares false (Some o) rec le h t e =
    more-held laws n given w side limit shares o rec le h e (λ q. absurd (false≢true (sym t ∙ ap (λ (m : ℕ). m == 0) q)))

pub fills-held : FillLaws → (n : ℕ) (side : Side) (limit : ℕ) → Fewer n side limit
fills-held laws zero side limit given w shares le h = ended-held laws w side limit shares (inl (omega (arith, le)))
fills-held laws (suc n) side limit given w shares le h = next-held laws n given w side limit shares (shares == 0) (next_of w side limit) (fills-held laws n side limit) le h refl refl

-- ---- what is told of a stock follows its book

-- the told orders of a stock are those displayed in its book
abbrev pub Tracks : ℕ → Told → List Resting → Type 0
Tracks k t w = filter (is_of k) t.orders ≡ mirror k w

-- all but the orders of one stock stay
pub record Stays (k : ℕ) (t u : Told) : Type 0 where
  pub others : (j : ℕ) → j ≢ k → filter (is_of j) u.orders ≡ filter (is_of j) t.orders
  pub states : u.states ≡ t.states
  pub last : u.last ≡ t.last

-- what comes of what was told follows the book of one stock
pub record Follows (k : ℕ) (r : Result Told ℕ) (t : Told) (w : List Resting) : Type 0 where
  pub after : Told
  pub tells : r ≡ Ok after
  pub tracks : Tracks k after w
  pub stays : Stays k t after

stays-so : (k : ℕ) (t : Told) → Stays k t t
stays-so k t = record { others = λ j d. refl; states = refl; last = refl }

stays-on : (k : ℕ) (t u v : Told) → Stays k t u → Stays k u v → Stays k t v
stays-on k t u v p q = record { others = λ j d. q.others j d ∙ p.others j d; states = q.states ∙ p.states; last = q.last ∙ p.last }

-- a book that shows what it showed is followed by telling nothing
pub follows-still : (k : ℕ) (t : Told) (w v : List Resting) → Tracks k t w → mirror k v ≡ mirror k w → Follows k (Ok t) t v
follows-still k t w v is e = record { after = t; tells = refl; tracks = is ∙ sym e; stays = stays-so k t }

told-held : (k : ℕ) (o : Resting) (w : List Resting) (t : Told) → o.shown ≡ true → book.order_with o.reference w ≡ Some o → Tracks k t w → held (k + 1) o.reference t.orders ≡ Some (shown_of k o)
told-held k o w t is e tracks =
    sym (part-held k o.reference t.orders) ∙ ap (λ (os : List Shown). held (k + 1) o.reference os) tracks ∙ mirror-held k o w is e

follows-left : (k m n : ℕ) (o : Resting) (w : List Resting) (t : Told) (r : Result Told ℕ) → IsRising w → o.shown ≡ true → book.order_with o.reference w ≡ Some o → Tracks k t w
    → r ≡ Ok (record t { orders = with_left (k + 1) o.reference n t.orders }) → Follows k r t (book.changed (put m n o) w)
follows-left k m n o w t r h is e tracks tells = record {
  after = record t { orders = with_left (k + 1) o.reference n t.orders };
  tells = tells;
  tracks =
      part-left k o.reference n t.orders
      ∙ ap (λ (os : List Shown). with_left (k + 1) o.reference n os) tracks
      ∙ sym (mirror-changed k m n o w h is e);
  stays = record { others = λ j d. others-left j k o.reference n t.orders d; states = refl; last = refl };
}

le-test : (m n : ℕ) → m ≤ n → nat_le m n ≡ true
le-test m n h = grind (arith, nat_tests)

lowers : (t : Told) (locate r n left : ℕ) (o : Shown) → n ≤ o.left → o.left - n ≡ left
    → lowered t locate r n (Some o) ≡ Ok (record t { orders = with_left locate r left t.orders })
lowers t locate r n left o h e =
    subst (λ (m : ℕ). lowered t locate r n (Some o) ≡ Ok (record t { orders = with_left locate r m t.orders })) e
    (ap (λ b. if b then Ok (record t { orders = with_left locate r (o.left - n) t.orders }) else Err r) (le-test n o.left h))

-- an order has so many shares fewer
pub follows-lowered : (k m n left : ℕ) (o : Resting) (w : List Resting) (t : Told) → IsRising w → o.shown ≡ true → book.order_with o.reference w ≡ Some o → n ≤ o.left → o.left - n ≡ left → Tracks k t w
    → Follows k (lowered t (k + 1) o.reference n (held (k + 1) o.reference t.orders)) t (book.changed (put m left o) w)
follows-lowered k m n left o w t h is e le rest tracks =
    follows-left k m left o w t _ h is e tracks
    (ap (λ (x : Option Shown). lowered t (k + 1) o.reference n x) (told-held k o w t is e tracks) ∙ lowers t (k + 1) o.reference n left (shown_of k o) le rest)

-- an order leaves
pub follows-deleted : (k m : ℕ) (o : Resting) (w : List Resting) (t : Told) → IsRising w → o.shown ≡ true → book.order_with o.reference w ≡ Some o → Tracks k t w
    → Follows k (deleted t (k + 1) o.reference (held (k + 1) o.reference t.orders)) t (book.changed (put m 0 o) w)
follows-deleted k m o w t h is e tracks =
    follows-left k m 0 o w t _ h is e tracks (ap (λ (x : Option Shown). deleted t (k + 1) o.reference x) (told-held k o w t is e tracks))

-- ---- all matches

abbrev match-by : Bool → Symbol → ℕ → Fill → What
match-by b symbol number f = if b then what.Executed f.resting.reference f.shares number else what.Trade 0 Buy f.shares symbol f.resting.price number

pub follows-fill : (k : ℕ) (symbol : Symbol) (number : ℕ) (f : Fill) (w : List Resting) (t : Told) → IsRising w → book.order_with f.resting.reference w ≡ Some f.resting → f.shares ≤ f.resting.left → Tracks k t w
    → Follows k (told_what t (k + 1) (match_told symbol number f)) t (after_fill f w)
follows-fill k symbol number f w t h e le tracks =
    let o = f.resting in
    elim (o.shown) as (λ b. o.shown ≡ b → Follows k (told_what t (k + 1) (match-by b symbol number f)) t (after_fill f w)) [
      | true ↦ λ is. follows-lowered k o.intended f.shares (o.left - f.shares) o w t h is e le refl tracks
      | false ↦ λ hid. follows-still k t w (after_fill f w) tracks (mirror-hidden k o.intended (o.left - f.shares) o w hid (rising-only o w h e))
    ] refl

abbrev pub all_fed : Taking → Symbol → ℕ → List Fill → List Feed
all_fed g symbol n [] = []
all_fed g symbol n (f ∷ fs) = fed g.locate g.time symbol (n + 1) f ∷ all_fed g symbol (n + 1) fs

pub settled-feed : (g : Taking) (fs : List Fill) (w : Way) → (all_settled g fs w).feed ≡ w.feed ++ all_fed g w.stock.symbol w.matches fs
settled-feed g [] w = sym (append-nil w.feed)
settled-feed g (f ∷ fs) w =
    settled-feed g fs (settled g f w)
    ∙ append_assoc w.feed (fed g.locate g.time w.stock.symbol (w.matches + 1) f ∷ []) (all_fed g w.stock.symbol (w.matches + 1) fs)

pub settled-trading : (g : Taking) (fs : List Fill) (w : Way) → (all_settled g fs w).stock.trading ≡ w.stock.trading
settled-trading g [] w = refl
settled-trading g (f ∷ fs) w = settled-trading g fs (settled g f w)

pub settled-traceable : (n : ℕ) (g : Taking) (fs : List Fill) (w : Way) → IsTraceable n w.stock.book → IsTraceable n (all_settled g fs w).stock.book
settled-traceable n g [] w h = h
settled-traceable n g (f ∷ fs) w h = settled-traceable n g fs (settled g f w) (traceable-changed n _ w.stock.book h)

pub follows-settled : (k given n : ℕ) (g : Taking) (symbol : Symbol) (fs : List Fill) (w : Way) (t : Told) → g.locate ≡ k + 1 → IsTraceable given w.stock.book → AreHeld fs w.stock.book → Tracks k t w.stock.book
    → Follows k (told_by (Ok t) (all_fed g symbol n fs)) t (all_settled g fs w).stock.book
follows-settled k given n g symbol [] w t at h held tracks = record { after = t; tells = refl; tracks = tracks; stays = stays-so k t }
follows-settled k given n g symbol (f ∷ fs) w t at h held tracks =
    let one = follows-fill k symbol (n + 1) f w.stock.book t h.rising held.0 held.1 tracks in
    let rest = follows-settled k given (n + 1) g symbol fs (settled g f w) one.after at (traceable-changed given _ w.stock.book h) held.2 one.tracks in
    record {
      after = rest.after;
      tells =
          ap (λ (l : ℕ). told_by (told_what t l (match_told symbol (n + 1) f)) (all_fed g symbol (n + 1) fs)) at
          ∙ ap (λ (r : Result Told ℕ). told_by r (all_fed g symbol (n + 1) fs)) one.tells
          ∙ rest.tells;
      tracks = rest.tracks;
      stays = stays-on k t one.after rest.after one.stays rest.stays;
    }
