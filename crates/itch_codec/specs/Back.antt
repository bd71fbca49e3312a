-- The types of feed messages, and how one comes back from its message.
use Rattle.std.specs.Prelude.{◌≡◌, ℕ, ◌==◌, List, Some, refl, if◌then◌else◌}
use Rattle.std.proofs.Common.{ap}
use Rattle.market_types.specs.declared.order.Side.{Side}
use Rattle.market_types.specs.declared.feed.Feed.{Feed}
use Rattle.market_types.specs.declared.feed.What.{What}
use Rattle.market_types.specs.declared.feed.What.TheVariants.{System, Directory, Trading, Add, Executed, Cancel, Delete, Trade, Cross}
use Rattle.wire_fields.specs.declared.kind.Kind.{Kind}
use Rattle.wire_fields.specs.Values.{FieldValue, number}
use Rattle.wire_fields.specs.Wire.{Wire}
use Rattle.wire_fields.specs.Back.{number_in, bytes_in, byte_in, side_in, side_back}
use Rattle.itch_codec.specs.declared.reading.FeedType.{FeedType}
use Rattle.itch_codec.specs.declared.reading.FeedType.TheVariants as feed
use Rattle.itch_codec.specs.Layouts.{system_kinds, directory_kinds, trading_kinds, add_kinds, executed_kinds, cancel_kinds, delete_kinds, trade_kinds, cross_kinds}
use Rattle.itch_codec.specs.Messages.{what_wire, feed_wire, feed_layout}

-- the letter of a type
abbrev pub feed_letter : FeedType → ℕ
feed_letter feed.System = 83
feed_letter feed.Directory = 82
feed_letter feed.Trading = 72
feed_letter feed.Add = 65
feed_letter feed.Executed = 69
feed_letter feed.Cancel = 88
feed_letter feed.Delete = 68
feed_letter feed.Trade = 80
feed_letter feed.Cross = 81

-- the fields of a type
abbrev pub feed_kinds : FeedType → List Kind
feed_kinds feed.System = system_kinds
feed_kinds feed.Directory = directory_kinds
feed_kinds feed.Trading = trading_kinds
feed_kinds feed.Add = add_kinds
feed_kinds feed.Executed = executed_kinds
feed_kinds feed.Cancel = cancel_kinds
feed_kinds feed.Delete = delete_kinds
feed_kinds feed.Trade = trade_kinds
feed_kinds feed.Cross = cross_kinds

abbrev pub system_in : List FieldValue → What
system_in vs = System (byte_in vs 3)

abbrev pub directory_in : List FieldValue → What
directory_in vs =
    Directory (record { 0 = bytes_in vs 3 }) (byte_in vs 4) (byte_in vs 5) (number_in vs 6) (byte_in vs 7) (byte_in vs 8) (bytes_in vs 9)
    (byte_in vs 10) (byte_in vs 11) (byte_in vs 12) (byte_in vs 13) (byte_in vs 14) (number_in vs 15) (byte_in vs 16)

abbrev pub trading_in : List FieldValue → What
trading_in vs = Trading (record { 0 = bytes_in vs 3 }) (byte_in vs 4) (byte_in vs 5) (bytes_in vs 6)

abbrev pub add_on : List FieldValue → Side → What
add_on vs side = Add (number_in vs 3) side (number_in vs 5) (record { 0 = bytes_in vs 6 }) (number_in vs 7)

abbrev pub executed_in : List FieldValue → What
executed_in vs = Executed (number_in vs 3) (number_in vs 4) (number_in vs 5)

abbrev pub cancel_in : List FieldValue → What
cancel_in vs = Cancel (number_in vs 3) (number_in vs 4)

abbrev pub delete_in : List FieldValue → What
delete_in vs = Delete (number_in vs 3)

abbrev pub trade_on : List FieldValue → Side → What
trade_on vs side = Trade (number_in vs 3) side (number_in vs 5) (record { 0 = bytes_in vs 6 }) (number_in vs 7) (number_in vs 8)

abbrev pub cross_in : List FieldValue → What
cross_in vs = Cross (number_in vs 3) (record { 0 = bytes_in vs 4 }) (number_in vs 5) (number_in vs 6) (byte_in vs 7)

-- what a message says
abbrev pub what_of : Wire → What
what_of w =
    if w.letter == 83 then system_in w.values else
    (if w.letter == 82 then directory_in w.values else
    (if w.letter == 72 then trading_in w.values else
    (if w.letter == 65 then add_on w.values (side_in w.values 4) else
    (if w.letter == 69 then executed_in w.values else
    (if w.letter == 88 then cancel_in w.values else
    (if w.letter == 68 then delete_in w.values else
    (if w.letter == 80 then trade_on w.values (side_in w.values 4) else
    cross_in w.values)))))))

-- the feed message of a message
abbrev pub feed_of : Wire → Feed
feed_of w = record { locate = number_in w.values 0; tracking = number_in w.values 1; time = number_in w.values 2; what = what_of w }

what_told : (locate tracking time : FieldValue) (what : What) → feed_layout (what_wire locate tracking time what).letter ≡ Some (what_wire locate tracking time what).kinds
what_told a b c (System code) = refl
what_told a b c (Directory stock category financial lot lots_only class sub_type authenticity short_sale ipo tier etp leverage inverse) = refl
what_told a b c (Trading stock state reserved reason) = refl
what_told a b c (Add reference side shares stock price) = refl
what_told a b c (Executed reference shares match_number) = refl
what_told a b c (Cancel reference shares) = refl
what_told a b c (Delete reference) = refl
what_told a b c (Trade reference side shares stock price match_number) = refl
what_told a b c (Cross shares stock price match_number kind) = refl

-- a feed message by its parts
abbrev pub feed_with : ℕ → ℕ → ℕ → What → Feed
feed_with locate tracking time what = record { locate = locate; tracking = tracking; time = time; what = what }

what_back : (locate tracking time : ℕ) (what : What) → feed_of (what_wire (number locate) (number tracking) (number time) what) ≡ feed_with locate tracking time what
what_back a b c (System code) = refl
what_back a b c (Directory stock category financial lot lots_only class sub_type authenticity short_sale ipo tier etp leverage inverse) = refl
what_back a b c (Trading stock state reserved reason) = refl
what_back a b c (Add reference side shares stock price) =
    let wire = what_wire (number a) (number b) (number c) (Add reference side shares stock price) in
    ap (λ (s : Side). feed_with a b c (add_on wire.values s)) (side_back side)
what_back a b c (Executed reference shares match_number) = refl
what_back a b c (Cancel reference shares) = refl
what_back a b c (Delete reference) = refl
what_back a b c (Trade reference side shares stock price match_number) =
    let wire = what_wire (number a) (number b) (number c) (Trade reference side shares stock price match_number) in
    ap (λ (s : Side). feed_with a b c (trade_on wire.values s)) (side_back side)
what_back a b c (Cross shares stock price match_number kind) = refl

pub feed_told : (m : Feed) → feed_layout (feed_wire m).letter ≡ Some (feed_wire m).kinds
feed_told m = what_told (number m.locate) (number m.tracking) (number m.time) m.what

pub feed_back : (m : Feed) → feed_of (feed_wire m) ≡ m
feed_back m = what_back m.locate m.tracking m.time m.what
