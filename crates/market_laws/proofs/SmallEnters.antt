-- The whole way of an accepted order: the book and the feed stay in their ranges.
use Rattle.std.proofs.Common.{◌≡◌, ◌≢◌, ℕ, ◌+◌, ◌<◌, ◌≤◌, Bool, true, false, List, [], ◌∷◌, ◌++◌, length, slice_index_or, All, arith, refl, ap, subst, sym, ◌∙◌, sum_by}
use Rattle.std.specs.Prelude.{◌==◌, if◌then◌else◌}
use Rattle.std.proofs.lemmas.List.{length-append}
use Rattle.std.proofs.lemmas.List.Elements.{All-append, All-push, All-weaker}
use Rattle.market_types.specs.Limits.{highest_price}
use Rattle.market_types.specs.declared.feed.Feed.{Feed}
use Rattle.market_types.specs.declared.message.Body.TheVariants.{Answer}
use Rattle.market_types.specs.declared.order.Enter.{Enter}
use Rattle.market_types.specs.declared.reply.Reply.TheVariants.{Canceled}
use Rattle.price_time_book.specs.declared.resting.Fill.{Fill}
use Rattle.price_time_book.specs.declared.resting.Resting.{Resting}
use Rattle.price_time_book.specs.Matched.{Matching, matched}
use Rattle.exchange_agent.specs.declared.settle.Taking.{Taking}
use Rattle.exchange_agent.specs.Enter.{added_feed, resting_of, way_of}
use Rattle.exchange_agent.specs.Settle.{Way, all_settled}
use Rattle.exchange_agent.specs.State.{Stock}
use Rattle.market_laws.specs.Executed.{executed_in}
use Rattle.market_laws.specs.Small.{IsSmallFeed, IsUpTo, most_shares}
use Rattle.market_laws.proofs.SmallCounts.{matched-ends, one-if-some, one_if, some-from}
use Rattle.market_laws.proofs.SmallFeeds.{IsFitFill, added-quiet, executed-append, feed-more, here-settled, settled-last, settled-matches, settled-shares, settled-small, settled-state, there-settled}
use Rattle.market_laws.proofs.SmallFits.{BookLaws, IsFitBook, book-more, fit-from, fit-is, fit-more, fits-by-fills, fits-more, is_fit, is_sized, most-is, sizes-by-fills}
use Rattle.market_laws.proofs.SmallWays.{way-book}

-- A way that has come so far, once so many orders were accepted before: its book, and its feed, which tells what matched.
pub record IsFitWay (traders stocks accepted locate : ℕ) (w v : Way) : Type 0 where
  pub book : IsFitBook traders accepted v.stock.book
  pub feed : All (IsSmallFeed stocks (accepted + 1) v.matches) v.feed
  pub grows : w.matches ≤ v.matches
  pub state : v.stock.trading ≡ w.stock.trading
  pub last : w.stock.tally.last ≤ highest_price → v.stock.tally.last ≤ highest_price
  pub matched : v.stock.tally.matched ≤ w.stock.tally.matched + most_shares
  pub here : (j : ℕ) → (locate == j + 1) ≡ true → executed_in j v.feed + w.stock.tally.matched ≡ executed_in j w.feed + v.stock.tally.matched
  pub there : (j : ℕ) → (locate == j + 1) ≡ false → executed_in j v.feed ≡ executed_in j w.feed

-- Its end, where the order itself is accepted.
pub record IsFitEnd (traders stocks accepted locate : ℕ) (w z : Way) : Type 0 where
  pub book : IsFitBook traders (accepted + 1) z.stock.book
  pub few : length z.stock.book ≤ length w.stock.book + 1
  pub feed : All (IsSmallFeed stocks (accepted + 1) z.matches) z.feed
  pub grows : w.matches ≤ z.matches
  pub ended : z.matches + length z.stock.book ≤ w.matches + length w.stock.book + 1
  pub state : z.stock.trading ≡ w.stock.trading
  pub last : w.stock.tally.last ≤ highest_price → z.stock.tally.last ≤ highest_price
  pub matched : z.stock.tally.matched ≤ w.stock.tally.matched + most_shares
  pub here : (j : ℕ) → (locate == j + 1) ≡ true → executed_in j z.feed + w.stock.tally.matched ≡ executed_in j w.feed + z.stock.tally.matched
  pub there : (j : ℕ) → (locate == j + 1) ≡ false → executed_in j z.feed ≡ executed_in j w.feed

fit-book : (laws : BookLaws) (traders accepted : ℕ) (book : List Resting) (e : Enter) → IsFitBook traders accepted book → IsFitBook traders accepted (matched book e.side e.price e.shares).book
fit-book laws traders accepted book e h =
    let k : Matching = record { fills = []; book = book; shares = e.shares } in
    record {
      orderly = laws.orderly e.side e.price k h.orderly;
      fits = laws.tested (is_fit traders accepted) (fits-by-fills traders accepted) e.side e.price k h.fits;
      sizes = laws.tested is_sized sizes-by-fills e.side e.price k h.sizes;
    }

fit-fills : (laws : BookLaws) (traders accepted : ℕ) (book : List Resting) (e : Enter) → e.shares ≤ most_shares → IsFitBook traders accepted book → All (IsFitFill traders (accepted + 1)) (matched book e.side e.price e.shares).fills
fit-fills laws traders accepted book e few h =
    let fits = laws.fills (is_fit traders accepted) (fits-by-fills traders accepted) book e.side e.price e.shares h.fits in
    let some = laws.give book e.side e.price e.shares h.orderly in
    let within = laws.within book e.side e.price e.shares in
    λ i d in'.
    let f = slice_index_or (matched book e.side e.price e.shares).fills i d in
    let gives : 0 < f.shares = some i d in' in
    let wanted : f.shares ≤ e.shares = (within i d in').1 in
    record { fit = fit-more traders accepted (accepted + 1) f.resting (omega arith) (fits i d in'); shares = (omega (arith, gives), omega (arith, wanted, few)) }

-- what is left: nothing, or it is canceled
end-same : (traders stocks accepted locate : ℕ) (w v z : Way) → z.stock ≡ v.stock → z.feed ≡ v.feed → z.matches ≡ v.matches → v.matches + length v.stock.book ≤ w.matches + length w.stock.book + 1 → IsFitWay traders stocks accepted locate w v → IsFitEnd traders stocks accepted locate w z
end-same traders stocks accepted locate w v z same told counts ended h =
    let books : z.stock.book ≡ v.stock.book = ap (λ (k : Stock). k.book) same in
    let lengths : length z.stock.book ≡ length v.stock.book = ap (λ (b : List Resting). length b) books in
    let tallies : z.stock.tally.matched ≡ v.stock.tally.matched = ap (λ (k : Stock). k.tally.matched) same in
    let feeds : (j : ℕ) → executed_in j z.feed ≡ executed_in j v.feed = λ j. ap (λ (f : List Feed). executed_in j f) told in
    record {
      book = subst (λ (b : List Resting). IsFitBook traders (accepted + 1) b) (sym books) (book-more traders accepted (accepted + 1) v.stock.book (omega arith) h.book);
      few = omega (arith, lengths, ended, h.grows);
      feed = subst (λ (f : List Feed). All (IsSmallFeed stocks (accepted + 1) z.matches) f) (sym told) (subst (λ (n : ℕ). All (IsSmallFeed stocks (accepted + 1) n) v.feed) (sym counts) h.feed);
      grows = omega (arith, h.grows, counts);
      ended = omega (arith, ended, counts, lengths);
      state = ap (λ (k : Stock). k.trading) same ∙ h.state;
      last = λ q. subst (λ (k : Stock). k.tally.last ≤ highest_price) (sym same) (h.last q);
      matched = omega (arith, tallies, h.matched);
      here = λ j e. omega (arith, feeds j, tallies, h.here j e);
      there = λ j e. feeds j ∙ h.there j e;
    }

-- or it rests
end-rested : (laws : BookLaws) (traders stocks accepted : ℕ) (t : Taking) (e : Enter) (left : ℕ) (w v : Way) → IsUpTo stocks t.locate → IsUpTo traders t.agent → IsUpTo highest_price e.price → e.shares ≤ most_shares → left ≢ 0 → left ≤ e.shares → v.matches + length v.stock.book ≤ w.matches + length w.stock.book → length w.stock.book < 16384 → IsFitWay traders stocks accepted t.locate w v → IsFitEnd traders stocks accepted t.locate w (record v { stock = record v.stock { book = v.stock.book ++ resting_of (accepted + 1) t.agent e left ∷ [] }; feed = v.feed ++ added_feed t e (accepted + 1) left })
end-rested laws traders stocks accepted t e left w v locate agent price small some within ended room h =
    let o = resting_of (accepted + 1) t.agent e left in
    let book = v.stock.book in
    let few : length v.stock.book ≤ length w.stock.book = omega (arith, ended, h.grows) in
    let longer : length (book ++ o ∷ []) ≡ length book + 1 = omega (arith, length-append {A = Resting}) in
    let before : All (λ (x : Resting). x.reference < o.reference) book = All-weaker (λ (x : Resting). is_fit traders accepted x ≡ true) (λ (x : Resting). x.reference < accepted + 1) (λ x q. let k : x.reference ≤ accepted = (fit-from traders accepted x q).reference.1 in omega (arith, k)) book h.book.fits in
    let given : IsUpTo (accepted + 1) (accepted + 1) = (omega arith, omega arith) in
    let told = added-quiet stocks (accepted + 1) v.matches t e (accepted + 1) left locate given (omega (arith, some), omega (arith, within, small)) price in
    let feeds : (j : ℕ) → executed_in j (v.feed ++ added_feed t e (accepted + 1) left) ≡ executed_in j v.feed = λ j. let both = executed-append j v.feed (added_feed t e (accepted + 1) left) in let none = told.none j in omega (arith, both, none) in
    record {
      book = record {
        orderly = laws.rested book o h.book.orderly before (omega (arith, some)) within (omega (arith, few, room));
        fits = All-push (λ (x : Resting). is_fit traders (accepted + 1) x ≡ true) book o (fits-more traders accepted (accepted + 1) book (omega arith) h.book.fits) (fit-is traders (accepted + 1) o (record { reference = given; agent = agent; price = price }));
        sizes = All-push (λ (x : Resting). is_sized x ≡ true) book o h.book.sizes (most-is most_shares e.shares small);
      };
      few = omega (arith, few, longer);
      feed = All-append (IsSmallFeed stocks (accepted + 1) v.matches) v.feed (added_feed t e (accepted + 1) left) h.feed told.small;
      grows = h.grows;
      ended = omega (arith, ended, longer);
      state = h.state;
      last = h.last;
      matched = h.matched;
      here = λ j q. omega (arith, feeds j, h.here j q);
      there = λ j q. feeds j ∙ h.there j q;
    }

abbrev tif-by : Bool → Taking → Enter → ℕ → ℕ → Way → Way
tif-by d t e reference left w =
    if d
    then record w { replies = w.replies ++ record { to = t.agent; body = Answer (Canceled t.time e.token left 73) } ∷ [] }
    else record w {
      stock = record w.stock { book = w.stock.book ++ resting_of reference t.agent e left ∷ [] };
      feed = w.feed ++ added_feed t e reference left;
    }

abbrev left-by : Bool → Taking → Enter → ℕ → ℕ → Way → Way
left-by b t e reference left w = if b then w else tif-by (e.tif == 0) t e reference left w

-- the whole way of an accepted order
pub fit-end : (laws : BookLaws) (traders stocks accepted : ℕ) (t : Taking) (e : Enter) (w : Way) → IsUpTo stocks t.locate → IsUpTo traders t.agent → IsUpTo highest_price e.price → e.shares ≤ most_shares → length w.stock.book < 16384 → IsFitBook traders accepted w.stock.book → All (IsSmallFeed stocks (accepted + 1) w.matches) w.feed → IsFitEnd traders stocks accepted t.locate w (way_of t e (accepted + 1) w)
fit-end laws traders stocks accepted t e w locate agent price small room book feed =
    let m : Matching = record { fills = []; book = w.stock.book; shares = e.shares } in
    let k = matched w.stock.book e.side e.price e.shares in
    let v = all_settled t k.fills w in
    let is-book : v.stock.book ≡ k.book = way-book t w.stock.book e.side e.price e.shares w refl in
    let adds : sum_by (λ (f : Fill). f.shares) k.fills + k.shares ≡ 0 + e.shares = laws.sums e.side e.price m in
    let fewer : length k.book ≤ length w.stock.book = laws.few e.side e.price m in
    let few-here : length v.stock.book ≡ length k.book = ap (λ (b : List Resting). length b) is-book in
    let few : length v.stock.book ≤ length w.stock.book = omega (arith, fewer, few-here) in
    let counts : v.matches ≡ w.matches + length k.fills = settled-matches t k.fills w in
    let ends : length k.fills + length k.book + one_if k.shares ≤ length w.stock.book + 1 = matched-ends (record { held = laws.held; lower-few = laws.lower-few }) w.stock.book e.side e.price e.shares in
    let ended : v.matches + length v.stock.book + one_if k.shares ≤ w.matches + length w.stock.book + 1 = omega (arith, ends, counts, few-here) in
    let all : v.matches + length v.stock.book ≤ w.matches + length w.stock.book + 1 = omega (arith, ended) in
    let h : IsFitWay traders stocks accepted t.locate w v = record {
      book = subst (λ (b : List Resting). IsFitBook traders accepted b) (sym is-book) (fit-book laws traders accepted w.stock.book e book);
      feed = settled-small traders stocks (accepted + 1) v.matches t k.fills w locate (omega (arith, counts)) (fit-fills laws traders accepted w.stock.book e small book) (feed-more stocks (accepted + 1) (accepted + 1) w.matches v.matches w.feed (omega arith) (omega (arith, counts)) feed);
      grows = omega (arith, counts);
      state = settled-state t k.fills w;
      last = settled-last traders (accepted + 1) t k.fills w (fit-fills laws traders accepted w.stock.book e small book);
      matched = let shares = settled-shares t k.fills w in omega (arith, shares, adds, small);
      here = λ j q. here-settled j t k.fills w q;
      there = λ j q. there-settled j t k.fills w q;
    } in
    elim (k.shares == 0) as (λ b. (k.shares == 0) ≡ b → IsFitEnd traders stocks accepted t.locate w (left-by b t e (accepted + 1) k.shares v)) [
      | true ↦ λ q. end-same traders stocks accepted t.locate w v v refl refl refl all h
      | false ↦ λ q. elim (e.tif == 0) as (λ d. IsFitEnd traders stocks accepted t.locate w (tif-by d t e (accepted + 1) k.shares v)) [
        | true ↦ end-same traders stocks accepted t.locate w v (tif-by true t e (accepted + 1) k.shares v) refl refl refl all h
        | false ↦ end-rested laws traders stocks accepted t e k.shares w v locate agent price small (some-from k.shares q) (omega (arith, adds)) (let one : one_if k.shares ≡ 1 = one-if-some k.shares (some-from k.shares q) in omega (arith, ended, one)) room h
      ]
    ] refl
