-- What the feed of a run tells, act by act.
use Rattle.std.proofs.Common.{◌≡◌, ◌≢◌, ◌<◌, ◌≤◌, ◌+◌, ◌-◌, ℕ, zero, suc, ℤ, Bool, true, false, cond, ◌&&◌, List, [], ◌∷◌, ◌++◌, length, Option, Some, None, IfSome, Result, Ok, Err, filter, map, replicate, inl, inr, refl, sym, ap, subst, ◌∙◌, ◌⊎◌, arith, append-nil}
use Rattle.std.specs.Prelude.{◌==◌, nat_le, nat_lt, if◌then◌else◌, slice_index_or, slice_set}
use Rattle.std.specs.List.{AllByRecursion}
use Rattle.std.proofs.Math.Seq.{map-set_same}
use Rattle.std.proofs.lemmas.Bool.{and_from, cases_eq}
use Rattle.std.proofs.lemmas.Bool.Decides.{nat_tests}
use Rattle.std.proofs.lemmas.List.{get_or-set_other, get_or-set_same, length-map, length-set, map-set}
use Rattle.std.proofs.lemmas.List.Elements.{filter-append}
use Rattle.std.proofs.lemmas.List.Quantifiers.{position-Some}
use Rattle.market_types.specs.declared.feed.Feed.{Feed}
use Rattle.market_types.specs.declared.feed.What.{What}
use Rattle.market_types.specs.declared.feed.What.TheVariants as what
use Rattle.market_types.specs.declared.message.Body.{Body}
use Rattle.market_types.specs.declared.message.Body.TheVariants as body
use Rattle.market_types.specs.declared.order.Cancel.{Cancel}
use Rattle.market_types.specs.declared.order.Enter.{Enter}
use Rattle.market_types.specs.declared.order.Inbound.TheVariants as inbound
use Rattle.market_types.specs.declared.order.Token.{Token}
use Rattle.market_types.specs.declared.reply.Reply.TheVariants as reply
use Rattle.market_rules.specs.declared.changes.Change.{Change}
use Rattle.market_rules.specs.declared.changes.Change.TheVariants as rule
use Rattle.price_time_book.specs.declared.resting.Resting.{Resting}
use Rattle.price_time_book.specs.Matched.{matched}
use Rattle.price_time_book.specs.Orderly.{IsRising}
use Rattle.price_time_book.specs.Orders.{changed, order_of, order_with, reduced}
use Rattle.exchange_agent.specs.declared.cancel.Found.{Found}
use Rattle.exchange_agent.specs.declared.settle.Taking.{Taking}
use Rattle.exchange_agent.specs.declared.told.StockRules.{StockRules}
use Rattle.exchange_agent.specs.declared.verdict.Verdict.{Verdict}
use Rattle.exchange_agent.specs.declared.verdict.Verdict.TheVariants.{Ignored, Forgotten, Refused, Accepted}
use Rattle.exchange_agent.specs.Cancel.{cancel_of, canceled, found_from, found_here, lowered_feed, lowering_of, open_of, unheard}
use Rattle.exchange_agent.specs.Changes.{Changed, changed_by, turned}
use Rattle.exchange_agent.specs.Enter.{accepted, added_feed, entered_by, is_full, is_halted, is_memory_full, is_remembered, price_is_refused, remembering, resting_of, shares_are_refused, taking_of, terms_are_refused, verdict_at, verdict_of, verdict_there, way_from, way_of}
use Rattle.exchange_agent.specs.Market.{market}
use Rattle.exchange_agent.specs.Open.{listed, opened}
use Rattle.exchange_agent.specs.Outcome.{Outcome}
use Rattle.exchange_agent.specs.Runs.{Act, message, change, IsPossible, run, state_after}
use Rattle.exchange_agent.specs.Settle.{Way, all_settled}
use Rattle.exchange_agent.specs.State.{State, Stock, no_stock, stock_at, stock_number_of, with_stock}
use Rattle.feed_rebuild.specs.declared.shown.Shown.{Shown}
use Rattle.feed_rebuild.specs.Fold.{Told, added, deleted, fold, fresh, held, is_later, is_listed, told_by, told_what}
use Rattle.market_laws.specs.Feeds.{feed_by, feed_over}
use Rattle.market_laws.specs.Shown.{IsShownBy, shown_of}
use Rattle.market_laws.proofs.Mirrors.{from-test, is_of, mirror, mirror-hidden, mirror-rested, rising-only, same-number}
use Rattle.market_laws.proofs.Settled.{FillLaws, Follows, IsTraceable, Tracks, fills-held, follows-deleted, follows-lowered, follows-settled, follows-still, found-held, settled-feed, settled-traceable, settled-trading, some-left, traceable-changed, traceable-more, traceable-rested}

-- ---- a fold goes on

still-misfit : (n : ℕ) (feed : List Feed) → told_by (Err n) feed ≡ Err n
still-misfit n [] = refl
still-misfit n (m ∷ feed) = refl

pub told-append : (r : Result Told ℕ) (before after : List Feed) → told_by r (before ++ after) ≡ told_by (told_by r before) after
told-append r [] after = refl
told-append (Ok t) (m ∷ before) after = told-append (told_what t m.locate m.what) before after
told-append (Err n) (m ∷ before) after = sym (still-misfit n after)

pub fold-append : (stocks : ℕ) (before after : List Feed) → fold stocks (before ++ after) ≡ told_by (fold stocks before) after
unfolding fold
fold-append stocks before after = told-append (Ok (fresh stocks)) before after

-- ---- the stocks of an exchange, and what was told of them

pub record IsTracked (stocks references : ℕ) (xs : List Stock) (t : Told) : Type 0 where
  pub many : length xs ≡ stocks
  pub books : (k : ℕ) → IsTraceable references (slice_index_or xs k no_stock).book
  pub states : t.states ≡ map (λ (k : Stock). k.trading) xs
  pub orders : (k : ℕ) → Tracks k t (slice_index_or xs k no_stock).book
  pub last : IfSome t.last (λ (reference : ℕ). reference ≤ references)

-- What one act tells, after which these stocks stand there.
pub record IsStep (stocks references : ℕ) (xs : List Stock) (feed : List Feed) (t : Told) : Type 0 where
  pub after : Told
  pub tells : told_by (Ok t) feed ≡ Ok after
  pub tracked : IsTracked stocks references xs after

silent : (n references : ℕ) (xs : List Stock) (t : Told) → IsTracked n references xs t → IsStep n references xs [] t
silent n references xs t h = record { after = t; tells = refl; tracked = h }

either-stock : (P : ℕ → Stock → Type 0) (xs : List Stock) (k j : ℕ) (x : Stock) → (j ≡ k) ⊎ (j ≢ k) → k < length xs → P k x → (j ≢ k → P j (slice_index_or xs j no_stock)) → P j (slice_index_or (slice_set xs k x) j no_stock)
either-stock P xs k j x (inl e) in' here there =
    subst (λ (i : ℕ). P i (slice_index_or (slice_set xs k x) i no_stock)) (sym e) (subst (λ (y : Stock). P k y) (sym (get_or-set_same xs k x no_stock in')) here)
either-stock P xs k j x (inr d) in' here there = subst (λ (y : Stock). P j y) (sym (get_or-set_other xs k j x no_stock d)) (there d)

some-more : (n m : ℕ) (x : Option ℕ) → n ≤ m → IfSome x (λ (reference : ℕ). reference ≤ n) → IfSome x (λ (reference : ℕ). reference ≤ m)
some-more n m None le h = h
some-more n m (Some r) le h = omega (arith, le, h)

-- one stock becomes another, and what is told follows it
set-tracked : (n references more k : ℕ) (xs : List Stock) (x : Stock) (t u : Told) → IsTracked n references xs t → k < length xs → references ≤ more → IsTraceable more x.book → Tracks k u x.book
    → ((j : ℕ) → j ≢ k → filter (is_of j) u.orders ≡ filter (is_of j) t.orders) → u.states ≡ map (λ (y : Stock). y.trading) (slice_set xs k x) → IfSome u.last (λ (reference : ℕ). reference ≤ more)
    → IsTracked n more (slice_set xs k x) u
set-tracked n references more k xs x t u h in' le book tracks others states last = record {
  many = length-set xs k x ∙ h.many;
  books = λ j. either-stock (λ i y. IsTraceable more y.book) xs k j x (cases_eq j k) in' book (λ d. traceable-more references more _ le (h.books j));
  states = states;
  orders = λ j. either-stock (λ i y. Tracks i u y.book) xs k j x (cases_eq j k) in' tracks (λ d. others j d ∙ h.orders j);
  last = last;
}

same-states : (xs : List Stock) (k : ℕ) (x : Stock) → x.trading ≡ (slice_index_or xs k no_stock).trading → map (λ (y : Stock). y.trading) (slice_set xs k x) ≡ map (λ (y : Stock). y.trading) xs
same-states xs k x e = map-set_same (λ (y : Stock). y.trading) xs k x no_stock e

-- a stock's book changes, and its trading state does not
followed : (n references k : ℕ) (xs : List Stock) (x : Stock) (feed : List Feed) (t : Told) → IsTracked n references xs t → k < length xs → IsTraceable references x.book → x.trading ≡ (slice_index_or xs k no_stock).trading
    → Follows k (told_by (Ok t) feed) t x.book → IsStep n references (slice_set xs k x) feed t
followed n references k xs x feed t h in' book trading c = record {
  after = c.after;
  tells = c.tells;
  tracked =
      set-tracked n references references k xs x t c.after h in' (omega arith) book c.tracks c.stays.others
      (c.stays.states ∙ h.states ∙ sym (same-states xs k x trading))
      (subst (λ (o : Option ℕ). IfSome o (λ (reference : ℕ). reference ≤ references)) (sym c.stays.last) h.last);
}

-- ---- an order comes to rest

-- What is told of an accepted order at a stock of so many references, whose trading state was this one.
record IsTold (k references : ℕ) (t : Told) (state : ℕ) (feed : List Feed) (x : Stock) : Type 0 where
  pub after : Told
  pub tells : told_by (Ok t) feed ≡ Ok after
  pub tracks : Tracks k after x.book
  pub others : (j : ℕ) → j ≢ k → filter (is_of j) after.orders ≡ filter (is_of j) t.orders
  pub states : after.states ≡ t.states
  pub last : IfSome after.last (λ (reference : ℕ). reference ≤ references + 1)
  pub book : IsTraceable (references + 1) x.book
  pub trading : x.trading ≡ state

listed-test : (k n : ℕ) → k < n → (nat_le 1 (k + 1) && nat_le (k + 1) n) ≡ true
listed-test k n h = grind (arith, nat_tests)

later-number : (r n : ℕ) → r ≤ n → nat_lt r (n + 1) ≡ true
later-number r n h = grind (arith, nat_tests)

later-test : (n : ℕ) (x : Option ℕ) → IfSome x (λ (reference : ℕ). reference ≤ n) → is_later x (n + 1) ≡ true
later-test n None h = refl
later-test n (Some r) h = later-number r n h

other-number : (j k : ℕ) → j ≢ k → (k == j) ≡ false
other-number j k d = grind (arith, nat_tests)

one-less : (k : ℕ) → (k + 1) - 1 ≡ k
one-less k = omega arith

-- What comes of telling that an order rests.
record IsRested (k references : ℕ) (u : Told) (feed : List Feed) (w : List Resting) : Type 0 where
  pub after : Told
  pub tells : told_by (Ok u) feed ≡ Ok after
  pub tracks : Tracks k after w
  pub others : (j : ℕ) → j ≢ k → filter (is_of j) after.orders ≡ filter (is_of j) u.orders
  pub states : after.states ≡ u.states
  pub last : IfSome after.last (λ (reference : ℕ). reference ≤ references + 1)

-- by whether it is displayed
abbrev order-by : Bool → ℕ → ℕ → Enter → ℕ → Resting
order-by b reference agent e left = record (resting_of reference agent e left) { shown = b }

abbrev added-by : Bool → Taking → Enter → ℕ → ℕ → List Feed
added-by b g e reference left =
    if b then record { locate = g.locate; tracking = 0; time = g.time; what = what.Add reference e.side left e.stock e.price } ∷ [] else []

rested-by : (b : Bool) (k references : ℕ) (g : Taking) (e : Enter) (left : ℕ) (w : List Resting) (u : Told) → g.locate ≡ k + 1 → k < length u.states → IfSome u.last (λ (reference : ℕ). reference ≤ references) → Tracks k u w
    → IsRested k references u (added-by b g e (references + 1) left) (w ++ order-by b (references + 1) g.agent e left ∷ [])
rested-by true k references g e left w u at in' last tracks =
    let r = references + 1 in
    let o : Resting = order-by true r g.agent e left in
    let s : Shown = shown_of k o in
    let next : Told = record u { orders = u.orders ++ s ∷ []; last = Some r } in
    let test : (is_listed u (k + 1) && is_later u.last r) ≡ true = and_from (is_listed u (k + 1)) (is_later u.last r) (listed-test k (length u.states) in') (later-test references u.last last) in
    let adds : added u (k + 1) s ≡ Ok next = ap (λ (b : Bool). if b then Ok next else Err r) test in
    record {
      after = next;
      tells =
          ap (λ (l : ℕ). added u l (record { stock = l - 1; reference = r; side = e.side; left = left; price = e.price })) at
          ∙ ap (λ (i : ℕ). added u (k + 1) (record { stock = i; reference = r; side = e.side; left = left; price = e.price })) (one-less k)
          ∙ adds;
      tracks =
          filter-append (is_of k) u.orders (s ∷ [])
          ∙ ap (λ (c : Bool). filter (is_of k) u.orders ++ cond c (s ∷ []) []) (same-number k)
          ∙ ap (λ (l : List Shown). l ++ s ∷ []) tracks
          ∙ sym (mirror-rested k o w);
      others = λ j d.
          filter-append (is_of j) u.orders (s ∷ [])
          ∙ ap (λ (c : Bool). filter (is_of j) u.orders ++ cond c (s ∷ []) []) (other-number j k d)
          ∙ append-nil (filter (is_of j) u.orders);
      states = refl;
      last = let le : r ≤ references + 1 = omega arith in le;
    }
rested-by false k references g e left w u at in' last tracks =
    let o : Resting = order-by false (references + 1) g.agent e left in
    record {
      after = u;
      tells = refl;
      tracks = tracks ∙ sym (mirror-rested k o w ∙ append-nil (mirror k w));
      others = λ j d. refl;
      states = refl;
      last = some-more references (references + 1) u.last (omega arith) last;
    }

told-still : (k references : ℕ) (t : Told) (trading : ℕ) (feed : List Feed) (x : Stock) → Follows k (told_by (Ok t) feed) t x.book → IsTraceable references x.book → x.trading ≡ trading → IfSome t.last (λ (reference : ℕ). reference ≤ references)
    → IsTold k references t trading feed x
told-still k references t trading feed x c book is last = record {
  after = c.after;
  tells = c.tells;
  tracks = c.tracks;
  others = c.stays.others;
  states = c.stays.states;
  last = subst (λ (o : Option ℕ). IfSome o (λ (reference : ℕ). reference ≤ references + 1)) (sym c.stays.last) (some-more references (references + 1) t.last (omega arith) last);
  book = traceable-more references (references + 1) x.book (omega arith) book;
  trading = is;
}

told-rested : (k references : ℕ) (t : Told) (trading : ℕ) (feed : List Feed) (x : Stock) (g : Taking) (e : Enter) (left : ℕ) → g.locate ≡ k + 1 → k < length t.states → 0 < left
    → Follows k (told_by (Ok t) feed) t x.book → IsTraceable references x.book → x.trading ≡ trading → IfSome t.last (λ (reference : ℕ). reference ≤ references)
    → IsTold k references t trading (feed ++ added_feed g e (references + 1) left) (record x { book = x.book ++ resting_of (references + 1) g.agent e left ∷ [] })
told-rested k references t trading feed x g e left at in' some c book is last =
    let more : List Feed = added_feed g e (references + 1) left in
    let o : Resting = resting_of (references + 1) g.agent e left in
    let long : k < length c.after.states = subst (λ (states : List ℕ). k < length states) (sym c.stays.states) in' in
    let known : IfSome c.after.last (λ (reference : ℕ). reference ≤ references) = subst (λ (q : Option ℕ). IfSome q (λ (reference : ℕ). reference ≤ references)) (sym c.stays.last) last in
    let rest : IsRested k references c.after more (x.book ++ o ∷ []) = rested-by (e.display == 89) k references g e left x.book c.after at long known c.tracks in
    record {
      after = rest.after;
      tells = told-append (Ok t) feed more ∙ ap (λ (r : Result Told ℕ). told_by r more) c.tells ∙ rest.tells;
      tracks = rest.tracks;
      others = λ j d. rest.others j d ∙ c.stays.others j d;
      states = rest.states ∙ c.stays.states;
      last = rest.last;
      book = traceable-rested references o x.book refl some book;
      trading = is;
    }

-- ---- an order is accepted

abbrev tif-by : Bool → Taking → Enter → ℕ → ℕ → Way → Way
tif-by d g e reference left w =
    if d
    then record w { replies = w.replies ++ record { to = g.agent; body = body.Answer (reply.Canceled g.time e.token left 73) } ∷ [] }
    else record w {
      stock = record w.stock { book = w.stock.book ++ resting_of reference g.agent e left ∷ [] };
      feed = w.feed ++ added_feed g e reference left;
    }

abbrev left-by : Bool → Taking → Enter → ℕ → ℕ → Way → Way
left-by b g e reference left w = if b then w else tif-by (e.tif == 0) g e reference left w

states-long : (n references : ℕ) (xs : List Stock) (t : Told) → IsTracked n references xs t → length t.states ≡ length xs
states-long n references xs t h = ap (λ (states : List ℕ). length states) h.states ∙ length-map xs (λ (y : Stock). y.trading)

way-told : FillLaws → (n : ℕ) (s : State) (time agent : ℕ) (e : Enter) (k : ℕ) (t : Told) → IsTracked n s.counts.orders s.stocks t → k < length s.stocks
    → (let z = way_of (taking_of time agent e k) e (s.counts.orders + 1) (way_from s time agent e k) in IsTold k s.counts.orders t (stock_at s k).trading z.feed z.stock)
way-told laws n s time agent e k t h in' =
    let g = taking_of time agent e k in
    let w = way_from s time agent e k in
    let orders = s.counts.orders in
    let m = matched (stock_at s k).book e.side e.price e.shares in
    let v = all_settled g m.fills w in
    let are = fills-held laws e.shares e.side e.price orders (stock_at s k).book e.shares (omega arith) (h.books k) in
    let c : Follows k (told_by (Ok t) v.feed) t v.stock.book =
    subst (λ (feed : List Feed). Follows k (told_by (Ok t) feed) t v.stock.book) (sym (settled-feed g m.fills w))
    (follows-settled k orders s.counts.matches g (stock_at s k).symbol m.fills w t refl (h.books k) are (h.orders k)) in
    let book : IsTraceable orders v.stock.book = settled-traceable orders g m.fills w (h.books k) in
    let trading : v.stock.trading ≡ (stock_at s k).trading = settled-trading g m.fills w in
    let long : k < length t.states = subst (λ (j : ℕ). k < j) (sym (states-long n orders s.stocks t h)) in' in
    elim (m.shares == 0) as (λ b. (m.shares == 0) ≡ b → IsTold k orders t (stock_at s k).trading (left-by b g e (orders + 1) m.shares v).feed (left-by b g e (orders + 1) m.shares v).stock) [
      | true ↦ λ q. told-still k orders t (stock_at s k).trading v.feed v.stock c book trading h.last
      | false ↦ λ q. elim (e.tif == 0) as (λ d. IsTold k orders t (stock_at s k).trading (tif-by d g e (orders + 1) m.shares v).feed (tif-by d g e (orders + 1) m.shares v).stock) [
        | true ↦ told-still k orders t (stock_at s k).trading v.feed v.stock c book trading h.last
        | false ↦ told-rested k orders t (stock_at s k).trading v.feed v.stock g e m.shares refl long (some-left m.shares q) c book trading h.last
      ]
    ] refl

accepted-step : FillLaws → (n : ℕ) (s : State) (time agent : ℕ) (e : Enter) (k : ℕ) (t : Told) → IsTracked n s.counts.orders s.stocks t → k < length s.stocks
    → IsStep n (s.counts.orders + 1) (accepted s time agent e k).state.stocks (accepted s time agent e k).feed t
accepted-step laws n s time agent e k t h in' =
    let z = way_of (taking_of time agent e k) e (s.counts.orders + 1) (way_from s time agent e k) in
    let c = way-told laws n s time agent e k t h in' in
    record {
      after = c.after;
      tells = c.tells;
      tracked =
          set-tracked n s.counts.orders (s.counts.orders + 1) k s.stocks z.stock t c.after h in' (omega arith) c.book c.tracks c.others
          (c.states ∙ h.states ∙ sym (same-states s.stocks k z.stock c.trading))
          c.last;
    }

-- a verdict that accepts an order accepts it at one of so many stocks
abbrev IsAtStock : ℕ → Verdict → Type 0
IsAtStock n Ignored = Unit {0}
IsAtStock n (Forgotten reason) = Unit {0}
IsAtStock n (Refused reason) = Unit {0}
IsAtStock n (Accepted k) = k < n

at-if : (n : ℕ) (b : Bool) (x y : Verdict) → IsAtStock n x → IsAtStock n y → IsAtStock n (if b then x else y)
at-if n true x y first second = first
at-if n false x y first second = second

at-there : (n : ℕ) (s : State) (e : Enter) (k : ℕ) → k < n → IsAtStock n (verdict_there s e k)
at-there n s e k h =
    at-if n (terms_are_refused s.hidden e) _ _ tt
    (at-if n (is_halted (stock_at s k)) _ _ tt
    (at-if n (shares_are_refused e) _ _ tt
    (at-if n (price_is_refused (stock_at s k) e) _ _ tt
    (at-if n (is_full s) _ _ tt h))))

at-found : (s : State) (e : Enter) (o : Option ℕ) → stock_number_of e.stock s.stocks ≡ o → IsAtStock (length s.stocks) (verdict_at s e o)
at-found s e None is = tt
at-found s e (Some k) is = at-there (length s.stocks) s e k (position-Some _ s.stocks k no_stock is).0

at-verdict : (s : State) (agent : ℕ) (e : Enter) → IsAtStock (length s.stocks) (verdict_of s agent e)
at-verdict s agent e =
    at-if (length s.stocks) (is_remembered s agent e) _ _ tt
    (at-if (length s.stocks) (is_memory_full s) _ _ tt (at-found s e (stock_number_of e.stock s.stocks) refl))

entered-step : FillLaws → (n : ℕ) (s : State) (time agent : ℕ) (e : Enter) (v : Verdict) (t : Told) → IsTracked n s.counts.orders s.stocks t → IsAtStock (length s.stocks) v
    → IsStep n (entered_by s time agent e v).state.counts.orders (entered_by s time agent e v).state.stocks (entered_by s time agent e v).feed t
entered-step laws n s time agent e Ignored t h at = silent n s.counts.orders s.stocks t h
entered-step laws n s time agent e (Forgotten reason) t h at = silent n s.counts.orders s.stocks t h
entered-step laws n s time agent e (Refused reason) t h at = silent n s.counts.orders s.stocks t h
entered-step laws n s time agent e (Accepted k) t h at = accepted-step laws n (remembering s agent e) time agent e k t h at

-- ---- an order is lowered

some-same : (f g : Found) → Some f ≡ Some g → f ≡ g
some-same f g e = cc

found-one : (i : ℕ) (q : Option Resting) (later : Option Found) (f : Found) → found_here i q later ≡ Some f → ((q ≡ Some f.order) × (f.stock ≡ i)) ⊎ (later ≡ Some f)
found-one i None later f e = inr e
found-one i (Some o) later f e = let same : record { stock = i; order = o } ≡ f = some-same (record { stock = i; order = o }) f e in inl (ap (λ (g : Found). Some g.order) same, sym (ap (λ (g : Found). g.stock) same))

-- what is found from a stock on is an order of a stock from there on
record IsFoundIn (i agent : ℕ) (token : Token) (xs : List Stock) (f : Found) : Type 0 where
  pub from : i ≤ f.stock
  pub within : f.stock - i < length xs
  pub is : order_of agent token (slice_index_or xs (f.stock - i) no_stock).book ≡ Some f.order

found-at : (i agent : ℕ) (token : Token) (x : Stock) (xs : List Stock) (f : Found) → ((order_of agent token x.book ≡ Some f.order) × (f.stock ≡ i)) ⊎ (found_from (i + 1) agent token xs ≡ Some f)
    → (found_from (i + 1) agent token xs ≡ Some f → IsFoundIn (i + 1) agent token xs f) → IsFoundIn i agent token (x ∷ xs) f
found-at i agent token x xs f (inl h) later =
    let zero-is : f.stock - i ≡ 0 = omega (arith, h.1) in
    record {
      from = omega (arith, h.1);
      within = omega (arith, h.1);
      is = subst (λ (m : ℕ). order_of agent token (slice_index_or (x ∷ xs) m no_stock).book ≡ Some f.order) (sym zero-is) h.0;
    }
found-at i agent token x xs f (inr e) later =
    let h = later e in
    let more : f.stock - i ≡ suc (f.stock - (i + 1)) = omega (arith, h.from) in
    record {
      from = omega (arith, h.from);
      within = omega (arith, h.from, h.within);
      is = subst (λ (m : ℕ). order_of agent token (slice_index_or (x ∷ xs) m no_stock).book ≡ Some f.order) (sym more) h.is;
    }

found-in : (i agent : ℕ) (token : Token) (xs : List Stock) (f : Found) → found_from i agent token xs ≡ Some f → IsFoundIn i agent token xs f
found-in i agent token [] f e = absurd cc
found-in i agent token (x ∷ xs) f e = found-at i agent token x xs f (found-one i (order_of agent token x.book) (found_from (i + 1) agent token xs) f e) (found-in (i + 1) agent token xs f)

abbrev lowering-by : Bool → Resting → ℕ → What
lowering-by b o left = if b then what.Delete o.reference else what.Cancel o.reference (o.left - left)

follows-lowering : (k left : ℕ) (o : Resting) (w : List Resting) (t : Told) → IsRising w → o.shown ≡ true → order_with o.reference w ≡ Some o → left ≤ o.left → Tracks k t w
    → Follows k (told_what t (k + 1) (lowering_of o left)) t (changed (reduced left o) w)
follows-lowering k left o w t h is e le tracks =
    elim (left == 0) as (λ b. (left == 0) ≡ b → Follows k (told_what t (k + 1) (lowering-by b o left)) t (changed (reduced left o) w)) [
      | true ↦ λ z.
          subst (λ (n : ℕ). Follows k (deleted t (k + 1) o.reference (held (k + 1) o.reference t.orders)) t (changed (reduced n o) w)) (sym (from-test left 0 z))
          (follows-deleted k (o.intended - (o.left - 0)) o w t h is e tracks)
      | false ↦ λ z. follows-lowered k (o.intended - (o.left - left)) (o.left - left) left o w t h is e (omega arith) (omega (arith, le)) tracks
    ] refl

abbrev lowered-by : Bool → ℕ → ℕ → Resting → ℕ → List Feed
lowered-by b locate time o left = if b then record { locate = locate; tracking = 0; time = time; what = lowering_of o left } ∷ [] else []

follows-cancel : (k time left : ℕ) (o : Resting) (w : List Resting) (t : Told) → IsRising w → order_with o.reference w ≡ Some o → left ≤ o.left → Tracks k t w
    → Follows k (told_by (Ok t) (lowered_feed (k + 1) time o left)) t (changed (reduced left o) w)
follows-cancel k time left o w t h e le tracks =
    elim (o.shown) as (λ b. o.shown ≡ b → Follows k (told_by (Ok t) (lowered-by b (k + 1) time o left)) t (changed (reduced left o) w)) [
      | true ↦ λ is. follows-lowering k left o w t h is e le tracks
      | false ↦ λ hid. follows-still k t w (changed (reduced left o) w) tracks (mirror-hidden k (o.intended - (o.left - left)) left o w hid (rising-only o w h e))
    ] refl

lower-left : (shares intended left : ℕ) → shares < intended → shares - (intended - left) ≤ left
lower-left shares intended left a = omega (arith, a)

canceled-step : (n : ℕ) (s : State) (time agent : ℕ) (c : Cancel) (f : Found) (t : Told) → IsTracked n s.counts.orders s.stocks t → found_from 0 agent c.token s.stocks ≡ Some f → c.shares < f.order.intended
    → IsStep n s.counts.orders (canceled s time agent c f.stock f.order).state.stocks (canceled s time agent c f.stock f.order).feed t
canceled-step n s time agent c f t h is below =
    let k = f.stock in
    let o = f.order in
    let x = stock_at s k in
    let orders = s.counts.orders in
    let at = found-in 0 agent c.token s.stocks f is in
    let same-place : k - 0 ≡ k = omega arith in
    let in' : k < length s.stocks = omega (arith, at.within) in
    let sent : order_of agent c.token x.book ≡ Some o = subst (λ (m : ℕ). order_of agent c.token (slice_index_or s.stocks m no_stock).book ≡ Some o) same-place at.is in
    let rising = (h.books k).rising in
    let by : order_with o.reference x.book ≡ Some o = found-held _ o x.book rising sent in
    let left = open_of o c.shares in
    let le : left ≤ o.left = lower-left c.shares o.intended o.left below in
    followed n orders k s.stocks (record x { book = changed (reduced left o) x.book }) (lowered_feed (k + 1) time o left) t h in'
    (traceable-changed orders (reduced left o) x.book (h.books k)) refl
    (follows-cancel k time left o x.book t rising by le (h.orders k))

abbrev cancel-by : Bool → State → ℕ → ℕ → Cancel → Found → Outcome
cancel-by b s time agent c f = if b then canceled s time agent c f.stock f.order else unheard s

below-from : (m n : ℕ) → nat_lt m n ≡ true → m < n
below-from m n e = grind (arith, nat_tests)

cancel-step : (n : ℕ) (s : State) (time agent : ℕ) (c : Cancel) (f : Option Found) (t : Told) → IsTracked n s.counts.orders s.stocks t → found_from 0 agent c.token s.stocks ≡ f
    → IsStep n (cancel_of s time agent c f).state.counts.orders (cancel_of s time agent c f).state.stocks (cancel_of s time agent c f).feed t
cancel-step n s time agent c None t h is = silent n s.counts.orders s.stocks t h
cancel-step n s time agent c (Some f) t h is =
    elim (nat_lt c.shares f.order.intended) as (λ b. nat_lt c.shares f.order.intended ≡ b
    → IsStep n (cancel-by b s time agent c f).state.counts.orders (cancel-by b s time agent c f).state.stocks (cancel-by b s time agent c f).feed t) [
      | true ↦ λ e. canceled-step n s time agent c f t h is (below-from c.shares f.order.intended e)
      | false ↦ λ e. silent n s.counts.orders s.stocks t h
    ] refl

-- any message
message-step : FillLaws → (n : ℕ) (s : State) (time agent : ℕ) (b : Body) (t : Told) → IsTracked n s.counts.orders s.stocks t
    → IsStep n (market s time agent b).state.counts.orders (market s time agent b).state.stocks (market s time agent b).feed t
message-step laws n s time agent (body.Order (inbound.Enter e)) t h = entered-step laws n s time agent e (verdict_of s agent e) t h (at-verdict s agent e)
message-step laws n s time agent (body.Order (inbound.Cancel c)) t h = cancel-step n s time agent c (found_from 0 agent c.token s.stocks) t h refl
message-step laws n s time agent (body.Ask k) t h = silent n s.counts.orders s.stocks t h
message-step laws n s time agent body.Wake t h = silent n s.counts.orders s.stocks t h
message-step laws n s time agent (body.Answer r) t h = silent n s.counts.orders s.stocks t h
message-step laws n s time agent (body.Quote q) t h = silent n s.counts.orders s.stocks t h

-- ---- a stock's rules change

ruled-step : (n references k : ℕ) (xs : List Stock) (x : Stock) (t : Told) → IsTracked n references xs t → k < length xs → x.book ≡ (slice_index_or xs k no_stock).book → x.trading ≡ (slice_index_or xs k no_stock).trading
    → IsStep n references (slice_set xs k x) [] t
ruled-step n references k xs x t h in' is-book is-trading =
    followed n references k xs x [] t h in' (subst (λ (b : List Resting). IsTraceable references b) (sym is-book) (h.books k)) is-trading
    (follows-still k t (slice_index_or xs k no_stock).book x.book (h.orders k) (ap (λ (b : List Resting). mirror k b) is-book))

abbrev turned-by : Bool → State → ℕ → ℕ → ℕ → Changed
turned-by b s time k letter =
    if b then record { state = s; feed = [] }
    else record {
      state = with_stock s k (record (stock_at s k) { trading = letter });
      feed = record { locate = k + 1; tracking = 0; time = time; what = what.Trading (stock_at s k).symbol letter 32 (32 ∷ 32 ∷ 32 ∷ 32 ∷ []) } ∷ [];
    }

turned-step : (n : ℕ) (s : State) (time k letter : ℕ) (t : Told) → IsTracked n s.counts.orders s.stocks t → k < length s.stocks
    → IsStep n s.counts.orders (turned-by false s time k letter).state.stocks (turned-by false s time k letter).feed t
turned-step n s time k letter t h in' =
    let orders = s.counts.orders in
    let x : Stock = record (stock_at s k) { trading = letter } in
    let next : Told = record t { states = slice_set t.states k letter } in
    let long : k < length t.states = subst (λ (j : ℕ). k < j) (sym (states-long n orders s.stocks t h)) in' in
    let acts : told_what t (k + 1) (what.Trading (stock_at s k).symbol letter 32 (32 ∷ 32 ∷ 32 ∷ 32 ∷ [])) ≡ Ok (record t { states = slice_set t.states ((k + 1) - 1) letter }) =
    ap (λ (b : Bool). if b then Ok (record t { states = slice_set t.states ((k + 1) - 1) letter }) else Err 0) (listed-test k (length t.states) long) in
    record {
      after = next;
      tells = acts ∙ ap (λ (i : ℕ). Ok (record t { states = slice_set t.states i letter })) (one-less k);
      tracked =
          set-tracked n orders orders k s.stocks x t next h in' (omega arith) (h.books k) (h.orders k) (λ j d. refl)
          (ap (λ (states : List ℕ). slice_set states k letter) h.states ∙ sym (map-set (λ (y : Stock). y.trading) s.stocks k x))
          h.last;
    }

turn-step : (n : ℕ) (s : State) (time k letter : ℕ) (t : Told) → IsTracked n s.counts.orders s.stocks t → k < length s.stocks
    → IsStep n (turned s time k letter).state.counts.orders (turned s time k letter).state.stocks (turned s time k letter).feed t
turn-step n s time k letter t h in' =
    elim ((stock_at s k).trading == letter) as (λ b. IsStep n (turned-by b s time k letter).state.counts.orders (turned-by b s time k letter).state.stocks (turned-by b s time k letter).feed t)
    [ true ↦ silent n s.counts.orders s.stocks t h | false ↦ turned-step n s time k letter t h in' ]

-- any change
change-step : (n : ℕ) (s : State) (time k : ℕ) (c : Change) (t : Told) → IsTracked n s.counts.orders s.stocks t → k < length s.stocks
    → IsStep n (changed_by s time k c).state.counts.orders (changed_by s time k c).state.stocks (changed_by s time k c).feed t
change-step n s time k (rule.Tick bands) t h in' = ruled-step n s.counts.orders k s.stocks (record (stock_at s k) { bands = bands }) t h in' refl refl
change-step n s time k (rule.Fee fees) t h in' = ruled-step n s.counts.orders k s.stocks (record (stock_at s k) { fees = fees }) t h in' refl refl
change-step n s time k rule.Halt t h in' = turn-step n s time k 72 t h in'
change-step n s time k rule.Resume t h in' = turn-step n s time k 84 t h in'

-- ---- whole runs

act-step : FillLaws → (traders n : ℕ) (s : State) (a : Act) (t : Told) → IsTracked n s.counts.orders s.stocks t → IsPossible traders n a
    → IsStep n (state_after s a).counts.orders (state_after s a).stocks (feed_by s a) t
act-step laws traders n s (message time from b) t h is = message-step laws n s time from b t h
act-step laws traders n s (change time k c) t h is = change-step n s time k c t h (subst (λ (m : ℕ). k < m) (sym h.many) is)

-- What the feed of a run tells.
record IsRun (n : ℕ) (s : State) (acts : List Act) (t : Told) : Type 0 where
  pub after : Told
  pub tells : told_by (Ok t) (feed_over s acts) ≡ Ok after
  pub tracked : IsTracked n (run s acts).counts.orders (run s acts).stocks after

run-told : FillLaws → (traders n : ℕ) (s : State) (acts : List Act) (t : Told) → IsTracked n s.counts.orders s.stocks t → AllByRecursion (IsPossible traders n) acts → IsRun n s acts t
run-told laws traders n s [] t h are = record { after = t; tells = refl; tracked = h }
run-told laws traders n s (a ∷ acts) t h are =
    let one = act-step laws traders n s a t h are.0 in
    let later = feed_over (state_after s a) acts in
    let rest = run-told laws traders n (state_after s a) acts one.after one.tracked are.1 in
    record {
      after = rest.after;
      tells = told-append (Ok t) (feed_by s a) later ∙ ap (λ (r : Result Told ℕ). told_by r later) one.tells ∙ rest.tells;
      tracked = rest.tracked;
    }

-- ---- the opening

no-book : (n : ℕ) (rules : List StockRules) (k : ℕ) → (slice_index_or (map (listed n) rules) k no_stock).book ≡ []
no-book n [] k = refl
no-book n (r ∷ rs) zero = refl
no-book n (r ∷ rs) (suc k) = no-book n rs k

all-trade : (n : ℕ) (rules : List StockRules) → replicate (length rules) 84 ≡ map (λ (y : Stock). y.trading) (map (listed n) rules)
all-trade n [] = refl
all-trade n (r ∷ rs) = ap (λ (l : List ℕ). 84 ∷ l) (all-trade n rs)

opened-tracked : (rules : List StockRules) (cash : List ℤ) (hidden : Bool) → IsTracked (length rules) 0 (opened rules cash hidden).stocks (fresh (length rules))
opened-tracked rules cash hidden = record {
  many = length-map rules (listed (length cash));
  books = λ k. subst (λ (w : List Resting). IsTraceable 0 w) (sym (no-book (length cash) rules k)) (record { rising = tt; live = tt; given = tt });
  states = all-trade (length cash) rules;
  orders = λ k. subst (λ (w : List Resting). Tracks k (fresh (length rules)) w) (sym (no-book (length cash) rules k)) refl;
  last = tt;
}

shown-by : (n : ℕ) (s : State) (t : Told) → IsTracked n s.counts.orders s.stocks t → IsShownBy s t
shown-by n s t h = record { states = h.states; orders = λ k. h.orders k; given = h.last }

pub feeds-tell : FillLaws → (rules : List StockRules) (cash : List ℤ) (hidden : Bool) (acts : List Act) → AllByRecursion (IsPossible (length cash) (length rules)) acts
    → (t : Told) × (fold (length rules) (feed_over (opened rules cash hidden) acts) ≡ Ok t) × IsShownBy (run (opened rules cash hidden) acts) t
unfolding fold
feeds-tell laws rules cash hidden acts are =
    let s = opened rules cash hidden in
    let r = run-told laws (length cash) (length rules) s acts (fresh (length rules)) (opened-tracked rules cash hidden) are in
    (r.after, r.tells, shown-by (length rules) (run s acts) r.after r.tracked)
