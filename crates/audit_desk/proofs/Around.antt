-- The frames around the entries of a branch are in their ranges.
use Rattle.std.proofs.Common.{◌≡◌, ℕ, zero, suc, ◌+◌, ◌<◌, ◌≤◌, true, ◌&&◌, List, [], ◌∷◌, ◌++◌, length, All, Option, refl, ap, arith}
use Rattle.std.proofs.lemmas.Bool.{lt-ltb}
use Rattle.std.proofs.lemmas.List.Elements.{All-append, All-cons, All-get_or, All-head, All-nil, All-push, All-tail}
use Rattle.market_types.specs.declared.feed.Feed.{Feed}
use Rattle.market_types.specs.declared.order.Symbol.{Symbol}
use Rattle.wire_fields.specs.declared.kind.Kind.TheVariants.{Byte, Letters, Text}
use Rattle.wire_fields.specs.Kinds.{is_good}
use Rattle.wire_fields.specs.Values.{bytes, is_in_range}
use Rattle.wire_fields.specs.Wire.{IsInRange}
use Rattle.itch_codec.specs.Layouts.{directory_kinds, system_kinds, trading_kinds}
use Rattle.itch_codec.specs.Messages.{feed_wire}
use Rattle.bundle_frames.specs.Layouts.{branch_kinds, end_kinds, header_kinds}
use Rattle.bundle_frames.specs.Wires.{branch_wire, byte, end_wire, header_wire}
use Rattle.market_floor.specs.declared.opening.Opening.{Opening}
use Rattle.market_floor.specs.Opening.{IsOpening, IsStock}
use Rattle.market_floor.specs.Reaction.{no_rules}
use Rattle.trace_bundle.specs.Feed.{directories, directory, opening_feed, symbol_at, system_event, trading, tradings}
use Rattle.bundle_reader.specs.Frames.{HasRanges}
use Rattle.bundle_reader.specs.declared.frame.Frame.TheVariants as frame
use Rattle.bundle_reader.specs.Bundle.{feed_list}
use Rattle.market_laws.specs.Fields.{IsFeedInRange}
use Rattle.market_laws.proofs.Texts.{all-in, four, six, symbol-in, two}

pub byte-in : (b : ℕ) → b < 256 → is_in_range Byte (byte b) ≡ true
unfolding is_in_range is_good
byte-in b h = ap (λ t. t && true) (lt-ltb b 256 h)

pub header-in : (agents stocks branches : ℕ) → agents < 65536 → stocks < 65536 → branches < 65536 → IsInRange (header_wire agents stocks branches)
header-in agents stocks branches p q r =
    all-in header_kinds (header_wire agents stocks branches).values (two 1 (omega arith), (two agents p, (two stocks q, (two branches r, tt))))

pub end-in : (branches : ℕ) → branches < 65536 → IsInRange (end_wire branches)
end-in branches h = all-in end_kinds (end_wire branches).values (two branches h, tt)

pub branch-in : (branch parent stop : ℕ) (name : List ℕ) → branch < 65536 → parent < 65536 → stop < 4294967296 → length name < 256 → IsInRange (branch_wire branch parent stop name)
branch-in branch parent stop name p q r n =
    all-in branch_kinds (branch_wire branch parent stop name).values (two branch p, (two parent q, (four stop r, (byte-in (length name) n, tt))))

-- ---- the feed

system-in : (time code : ℕ) → time < 281474976710656 → is_in_range (Letters 1) (bytes (code ∷ [])) ≡ true → IsFeedInRange (system_event time code)
system-in time code early letter =
    all-in system_kinds (feed_wire (system_event time code)).values (two 0 (omega arith), (two 0 (omega arith), (six time early, (letter, tt))))

start-letter : is_in_range (Letters 1) (bytes (79 ∷ [])) ≡ true
unfolding is_in_range is_good
start-letter = refl

close-letter : is_in_range (Letters 1) (bytes (67 ∷ [])) ≡ true
unfolding is_in_range is_good
close-letter = refl

pub start-in : (time : ℕ) → time < 281474976710656 → IsInRange (feed_wire (system_event time 79))
start-in time h = system-in time 79 h start-letter

pub close-in : (time : ℕ) → time < 281474976710656 → IsInRange (feed_wire (system_event time 67))
close-in time h = system-in time 67 h close-letter

directory-in : (time k : ℕ) (s : Symbol) → time < 281474976710656 → k + 1 < 65536 → is_in_range (Text 8) (bytes s.0) ≡ true → IsFeedInRange (directory time k s)
unfolding is_in_range is_good
directory-in time k s early few text =
    all-in directory_kinds (feed_wire (directory time k s)).values (
      two (k + 1) few,
      (
        two 0 (omega arith),
        (
          six time early,
          (
            text,
            (
              refl,
              (
                refl,
                (
                  four 100 (omega arith),
                  (refl, (refl, (refl, (refl, (refl, (refl, (refl, (refl, (four 0 (omega arith), (refl, tt)))))))))),
                ),
              ),
            ),
          ),
        ),
      ),
    )

trading-in : (time k : ℕ) (s : Symbol) → time < 281474976710656 → k + 1 < 65536 → is_in_range (Text 8) (bytes s.0) ≡ true → IsFeedInRange (trading time k s)
unfolding is_in_range is_good
trading-in time k s early few text =
    all-in trading_kinds (feed_wire (trading time k s)).values
    (two (k + 1) few, (two 0 (omega arith), (six time early, (text, (refl, (refl, (refl, tt)))))))

symbols-in : (o : Opening) (k : ℕ) → All IsStock o.stocks → k < length o.stocks → is_in_range (Text 8) (bytes (symbol_at o k).0) ≡ true
symbols-in o k h l =
    let s = All-get_or IsStock o.stocks k no_rules l h in
    symbol-in (symbol_at o k) s.symbol

directories-in : (o : Opening) (n : ℕ) → o.start < 281474976710656 → length o.stocks ≤ 16 → All IsStock o.stocks → n ≤ length o.stocks → All IsFeedInRange (directories o n)
directories-in o zero early few h le = All-nil IsFeedInRange
directories-in o (suc n) early few h le =
    All-push IsFeedInRange (directories o n) (directory o.start n (symbol_at o n)) (directories-in o n early few h (omega (arith, le)))
    (directory-in o.start n (symbol_at o n) early (omega (arith, few, le)) (symbols-in o n h (omega (arith, le))))

tradings-in : (o : Opening) (n : ℕ) → o.start < 281474976710656 → length o.stocks ≤ 16 → All IsStock o.stocks → n ≤ length o.stocks → All IsFeedInRange (tradings o n)
tradings-in o zero early few h le = All-nil IsFeedInRange
tradings-in o (suc n) early few h le =
    All-push IsFeedInRange (tradings o n) (trading o.start n (symbol_at o n)) (tradings-in o n early few h (omega (arith, le)))
    (trading-in o.start n (symbol_at o n) early (omega (arith, few, le)) (symbols-in o n h (omega (arith, le))))

pub messages-in : (stocks : Option ℕ) (xs : List Feed) → All IsFeedInRange xs → All (HasRanges stocks) (feed_list xs)
messages-in stocks [] h = All-nil (HasRanges stocks)
messages-in stocks (x ∷ xs) h =
    All-cons (HasRanges stocks) (frame.Message x) (feed_list xs) (All-head IsFeedInRange x xs h) (messages-in stocks xs (All-tail IsFeedInRange x xs h))

-- the feed of an opening
pub opening-in : (stocks : Option ℕ) (o : Opening) → IsOpening o → All (HasRanges stocks) (feed_list (opening_feed o))
opening-in stocks o h =
    let n = length o.stocks in
    let early : o.start < 281474976710656 = omega (arith, h.start, h.close) in
    let few : n ≤ 16 = h.market.few in
    let both = All-append IsFeedInRange (directories o n) (tradings o n) (directories-in o n early few h.stocks (omega arith)) (tradings-in o n early few h.stocks (omega arith)) in
    messages-in stocks (opening_feed o) (All-cons IsFeedInRange (system_event o.start 79) (directories o n ++ tradings o n) (start-in o.start early) both)
