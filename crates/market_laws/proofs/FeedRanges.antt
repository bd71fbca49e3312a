-- Each message of the feed of a course's run has its fields in their ranges.
use Rattle.std.proofs.Common.{◌≡◌, ℕ, zero, suc, ◌-◌, ◌<◌, ◌≤◌, true, inl, inr, List, [], ◌∷◌, ◌++◌, length, map, All, Option, Some, None, refl, sym, subst, arith}
use Rattle.std.specs.Prelude.{IfSome, slice_index_or}
use Rattle.std.proofs.lemmas.List.Elements.{All-append, All-cons, All-head, All-nil, All-tail}
use Rattle.market_types.specs.Limits.{most_events}
use Rattle.market_types.specs.Timely.{IsTimely}
use Rattle.market_types.specs.Told.{EntryTold, event, edit}
use Rattle.market_types.specs.declared.feed.Feed.{Feed}
use Rattle.market_types.specs.declared.feed.What.{What}
use Rattle.market_types.specs.declared.feed.What.TheVariants as what
use Rattle.market_types.specs.declared.order.Symbol.{Symbol}
use Rattle.wire_fields.specs.declared.kind.Kind.TheVariants.{Letters, TradingState}
use Rattle.wire_fields.specs.Kinds.{is_good}
use Rattle.wire_fields.specs.Values.{bytes, is_in_range, number}
use Rattle.wire_fields.specs.Wire.{IsInRange}
use Rattle.itch_codec.specs.Layouts.{add_kinds, cancel_kinds, delete_kinds, executed_kinds, trade_kinds, trading_kinds}
use Rattle.itch_codec.specs.Messages.{what_wire}
use Rattle.exchange_agent.specs.declared.told.StockRules.{StockRules}
use Rattle.exchange_agent.specs.Open.{listed}
use Rattle.exchange_agent.specs.State.{no_stock, stock_at}
use Rattle.market_floor.specs.declared.opening.Opening.{Opening}
use Rattle.market_floor.specs.Opening.{IsOpening, IsStock, cash_of}
use Rattle.feed_rebuild.specs.Feeds.{entries_feed, entry_feed}
use Rattle.market_laws.specs.Fields.{HasFeedInRange, IsFeedInRange}
use Rattle.market_laws.specs.History.{first_exchange}
use Rattle.market_laws.specs.Named.{NamesItsStock, symbol_in}
use Rattle.market_laws.specs.Small.{IsSmallFeed, IsSmallWhat, IsTradingState}
use Rattle.market_laws.proofs.Senders.{IsName}
use Rattle.market_laws.proofs.Spellings.{side-text}
use Rattle.market_laws.proofs.Texts.{all-in, eight, four, six, symbol-in, two}

-- ---- letters

abbrev IsState : ℕ → Type 0
IsState letter = is_in_range TradingState (bytes (letter ∷ [])) ≡ true

halted : IsState 72
unfolding is_in_range is_good
halted = refl

trading : IsState 84
unfolding is_in_range is_good
trading = refl

state-in : (letter : ℕ) → IsTradingState letter → IsState letter
state-in letter h = elim h [ inl e ↦ subst IsState (sym e) trading | inr e ↦ subst IsState (sym e) halted ]

abbrev AreLetters : ℕ → List ℕ → Type 0
AreLetters n text = is_in_range (Letters n) (bytes text) ≡ true

one-space : AreLetters 1 (32 ∷ [])
unfolding is_in_range is_good
one-space = refl

four-spaces : AreLetters 4 (32 ∷ 32 ∷ 32 ∷ 32 ∷ [])
unfolding is_in_range is_good
four-spaces = refl

-- ---- a message

-- the numbers that each message begins with
record IsStart (l t n : ℕ) : Type 0 where
  locate : l < 65536
  tracking : t < 65536
  time : n < 281474976710656

-- the symbol that a message gives, if it gives one, may stand in a symbol's field
abbrev HasName : What → Type 0
HasName w = IfSome (symbol_in w) IsName

what-in : (l t n accepted matches : ℕ) (w : What) → IsStart l t n → accepted ≤ most_events → matches ≤ most_events → IsSmallWhat accepted matches w → HasName w
    → IsInRange (what_wire (number l) (number t) (number n) w)
what-in l t n a k (what.Add reference side shares stock price) s few less h name =
    all-in add_kinds (what_wire (number l) (number t) (number n) (what.Add reference side shares stock price)).values
    (two l s.locate, (two t s.tracking, (six n s.time, (eight reference (omega (arith, few, h.0.1)), (side-text side, (four shares (omega (arith, h.1.1)), (name, (four price (omega (arith, h.2.1)), tt))))))))
what-in l t n a k (what.Executed reference shares match_number) s few less h name =
    all-in executed_kinds (what_wire (number l) (number t) (number n) (what.Executed reference shares match_number)).values
    (two l s.locate, (two t s.tracking, (six n s.time, (eight reference (omega (arith, few, h.0.1)), (four shares (omega (arith, h.1.1)), (eight match_number (omega (arith, less, h.2.1)), tt))))))
what-in l t n a k (what.Cancel reference shares) s few less h name =
    all-in cancel_kinds (what_wire (number l) (number t) (number n) (what.Cancel reference shares)).values
    (two l s.locate, (two t s.tracking, (six n s.time, (eight reference (omega (arith, few, h.0.1)), (four shares (omega (arith, h.1.1)), tt)))))
what-in l t n a k (what.Delete reference) s few less h name =
    all-in delete_kinds (what_wire (number l) (number t) (number n) (what.Delete reference)).values
    (two l s.locate, (two t s.tracking, (six n s.time, (eight reference (omega (arith, few, h.1)), tt))))
what-in l t n a k (what.Trade reference side shares stock price match_number) s few less h name =
    all-in trade_kinds (what_wire (number l) (number t) (number n) (what.Trade reference side shares stock price match_number)).values (
      two l s.locate,
      (
        two t s.tracking,
        (
          six n s.time,
          (eight reference (omega (arith, h.0)), (side-text side, (four shares (omega (arith, h.1.1)), (name, (four price (omega (arith, h.2.1)), (eight match_number (omega (arith, less, h.3.1)), tt)))))),
        ),
      ),
    )
what-in l t n a k (what.Trading stock state reserved reason) s few less h name =
    let space : AreLetters 1 (reserved ∷ []) = subst (λ (b : ℕ). AreLetters 1 (b ∷ [])) (sym h.1) one-space in
    all-in trading_kinds (what_wire (number l) (number t) (number n) (what.Trading stock state reserved reason)).values
    (two l s.locate, (two t s.tracking, (six n s.time, (name, (state-in state h.0, (space, (subst (AreLetters 4) (sym h.2) four-spaces, tt)))))))
what-in l t n a k (what.System code) s few less h name = absurd h
what-in l t n a k (what.Directory stock category financial lot lots_only class sub_type authenticity short_sale ipo tier etp leverage inverse) s few less h name = absurd h
what-in l t n a k (what.Cross shares stock price match_number kind) s few less h name = absurd h

-- ---- its stock's symbol

listed-name : (n : ℕ) (rs : List StockRules) (k : ℕ) → All IsStock rs → k < length rs → IsName (slice_index_or (map (listed n) rs) k no_stock).symbol
listed-name n [] k all l = absurd (omega (arith, l))
listed-name n (r ∷ rs) zero all l = symbol-in r.symbol (All-head IsStock r rs all).symbol
listed-name n (r ∷ rs) (suc k) all l = listed-name n rs k (All-tail IsStock r rs all) (omega (arith, l))

named-as : (q : Option Symbol) (symbol : Symbol) → IsName symbol → IfSome q (λ (x : Symbol). x ≡ symbol) → IfSome q IsName
named-as None symbol name h = tt
named-as (Some x) symbol name h = subst (λ (y : Symbol). IsName y) (sym h) name

abbrev IsEarly : Feed → Type 0
IsEarly m = m.time < 281474976710656

-- What is known of a message of a run's feed.
record IsKnown (o : Opening) (accepted matches : ℕ) (m : Feed) : Type 0 where
  early : IsEarly m
  small : IsSmallFeed (length o.stocks) accepted matches m
  named : NamesItsStock (first_exchange o) m

message-in : (o : Opening) (accepted matches : ℕ) (m : Feed) → IsOpening o → accepted ≤ most_events → matches ≤ most_events → IsKnown o accepted matches m → IsFeedInRange m
message-in o accepted matches m is few less h =
    let small = h.small in
    let at : m.locate - 1 < length o.stocks = omega (arith, small.locate.0, small.locate.1) in
    let name = listed-name (length (cash_of o)) o.stocks (m.locate - 1) is.stocks at in
    let start : IsStart m.locate m.tracking m.time = record {
      locate = omega (arith, small.locate.1, is.market.few);
      tracking = omega (arith, small.tracking);
      time = h.early;
    } in
    what-in m.locate m.tracking m.time accepted matches m.what start few less small.what
    (named-as (symbol_in m.what) (stock_at (first_exchange o) (m.locate - 1)).symbol name h.named)

-- ---- entries

pub all-parts : {A : Type 0} (P : A → Type 0) (xs ys : List A) → All P (xs ++ ys) → All P xs × All P ys
all-parts P [] ys h = (All-nil P, h)
all-parts P (x ∷ xs) ys h =
    let rest = all-parts P xs ys (All-tail P x (xs ++ ys) h) in
    (All-cons P x xs (All-head P x (xs ++ ys) h) rest.0, rest.1)

early-feed : (x : EntryTold) → IsTimely x → All IsEarly (entry_feed x)
early-feed (event e) h = All-append IsEarly e.before e.after h.0 h.1
early-feed (edit d) h = h

-- how large the numbers of a run's feed become, and which stocks it names
pub record IsKnownFeed (o : Opening) (accepted matches : ℕ) (feed : List Feed) : Type 0 where
  pub small : All (IsSmallFeed (length o.stocks) accepted matches) feed
  pub named : All (NamesItsStock (first_exchange o)) feed

messages-in : (o : Opening) (accepted matches : ℕ) (feed : List Feed) → IsOpening o → accepted ≤ most_events → matches ≤ most_events → All IsEarly feed → IsKnownFeed o accepted matches feed
    → All IsFeedInRange feed
messages-in o a k [] is few less early h = All-nil IsFeedInRange
messages-in o a k (m ∷ ms) is few less early h =
    let Small = IsSmallFeed (length o.stocks) a k in
    let Named = NamesItsStock (first_exchange o) in
    let known : IsKnown o a k m = record { early = All-head IsEarly m ms early; small = All-head Small m ms h.small; named = All-head Named m ms h.named } in
    All-cons IsFeedInRange m ms (message-in o a k m is few less known)
    (messages-in o a k ms is few less (All-tail IsEarly m ms early) (record { small = All-tail Small m ms h.small; named = All-tail Named m ms h.named }))

pub entries-in : (o : Opening) (accepted matches : ℕ) (xs : List EntryTold) → IsOpening o → accepted ≤ most_events → matches ≤ most_events → All IsTimely xs
    → IsKnownFeed o accepted matches (entries_feed xs) → All HasFeedInRange xs
entries-in o a k [] is few less timely h = All-nil HasFeedInRange
entries-in o a k (x ∷ xs) is few less timely h =
    let small = all-parts (IsSmallFeed (length o.stocks) a k) (entry_feed x) (entries_feed xs) h.small in
    let named = all-parts (NamesItsStock (first_exchange o)) (entry_feed x) (entries_feed xs) h.named in
    All-cons HasFeedInRange x xs
    (messages-in o a k (entry_feed x) is few less (early-feed x (All-head IsTimely x xs timely)) (record { small = small.0; named = named.0 }))
    (entries-in o a k xs is few less (All-tail IsTimely x xs timely) (record { small = small.1; named = named.1 }))
