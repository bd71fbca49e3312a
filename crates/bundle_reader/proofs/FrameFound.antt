-- The frame that bytes are is found.
use Rattle.std.proofs.Common.{◌≡◌, ◌∙◌, ℕ, ◌+◌, Bool, true, false, List, ◌++◌, take, drop, slice_index, Option, Some, None, IfSome, refl, sym, ap}
use Rattle.std.proofs.lemmas.List.{take-append-drop}
use Rattle.market_types.specs.declared.feed.Feed.{Feed}
use Rattle.wire_fields.specs.Wire.{IsSpelled, total_width}
use Rattle.wire_fields.proofs.Decoders.{IsTable}
use Rattle.itch_codec.specs.Messages.{feed_wire, feed_layout}
use Rattle.itch_codec.specs.Back.{feed_of, feed_told, feed_back}
use Rattle.bundle_frames.specs.Wires.{letter_of_order}
use Rattle.bundle_reader.specs.declared.head.Head.{Head}
use Rattle.bundle_reader.specs.declared.head.Head.TheVariants as head
use Rattle.bundle_reader.specs.declared.frame.Frame.{Frame}
use Rattle.bundle_reader.specs.declared.frame.Frame.TheVariants as frame
use Rattle.bundle_reader.specs.Heads.{head_wire, head_layout, IsLed}
use Rattle.bundle_reader.specs.Back.{head_of, head_told, head_back}
use Rattle.bundle_reader.specs.Frames.{IsFrame}
use Rattle.bundle_reader.specs.Parts.{header_part, branch_part, event_part, stock_part, agent_part, waiting_part, head_part, rest_part, IsOf}
use Rattle.bundle_reader.proofs.HeadAndRest.{led_of, frame_of}
use Rattle.bundle_reader.proofs.Led.{cut_at}
use Rattle.bundle_reader.specs.Messages.{message_in}
use Rattle.bundle_reader.specs.FramesRead.{headed, size_by, head_size, head_in, frame_by, message_or, frame_in}
use Rattle.bundle_reader.proofs.MessageFound.{message_is, no_message, message_found, nothing_is, some_is}
use Rattle.bundle_reader.proofs.HeadedFound.{headed_is, headed_found}

feed_table : IsTable feed_wire feed_layout feed_of
feed_table = record { kinds = feed_told; back = feed_back }

head_table : IsTable head_wire head_layout head_of
head_table = record { kinds = head_told; back = head_back }

-- ---- what is found is the frame

message_or_is : (P : Frame → Type 0) (Q : Feed → Type 0) (o : Option Feed) (other : Option Frame) → IfSome o Q → ((m : Feed) → Q m → P (frame.Message m)) → IfSome other P
    → IfSome (message_or o other) P
message_or_is P Q (Some m) other is to otherwise = to m is
message_or_is P Q None other is to otherwise = otherwise

some_to : {A : Type 0} (P Q : A → Type 0) (o : Option A) → IfSome o P → ((a : A) → P a → Q a) → IfSome o Q
some_to P Q None is to = tt
some_to P Q (Some a) is to = to a is

frame_by_is : (stocks : Option ℕ) (bytes : List ℕ) (n : ℕ) (o : Option Head) → IfSome o (λ h. IsSpelled (take n bytes) (head_wire h))
    → IfSome (frame_by stocks (drop n bytes) o) (IsFrame stocks bytes)
frame_by_is stocks bytes n None is = tt
frame_by_is stocks bytes n (Some h) is =
    let led : IsLed bytes h (drop n bytes) = record {
      same = sym (take-append-drop n bytes) ∙ ap (λ (l : List ℕ). l ++ drop n bytes) is.same;
      in_range = is.in_range;
    } in
    some_to (IsOf stocks h (drop n bytes)) (IsFrame stocks bytes) (headed stocks h (drop n bytes)) (headed_is stocks h (drop n bytes) is.in_range)
    (λ f of. frame_of stocks bytes h (drop n bytes) f led of)

message_frame : (stocks : Option ℕ) (bytes : List ℕ) (m : Feed) → IsSpelled bytes (feed_wire m) → IsFrame stocks bytes (frame.Message m)
message_frame stocks bytes m is = record { same = is.same; ranges = is.in_range }

pub frame_is : (stocks : Option ℕ) (bytes : List ℕ) → IfSome (frame_in stocks bytes) (IsFrame stocks bytes)
unfolding frame_in
frame_is stocks bytes =
    message_or_is (IsFrame stocks bytes) (λ m. IsSpelled bytes (feed_wire m)) (message_in feed_wire feed_of feed_layout bytes)
    (frame_by stocks (drop (head_size bytes) bytes) (head_in bytes)) (message_is feed_wire feed_of feed_layout bytes) (message_frame stocks bytes)
    (frame_by_is stocks bytes (head_size bytes) (head_in bytes) (message_is head_wire head_of head_layout (take (head_size bytes) bytes)))

pub frame_written : (stocks : Option ℕ) (bytes : List ℕ) (f : Frame) → frame_in stocks bytes ≡ Some f → IsFrame stocks bytes f
frame_written stocks bytes f e = some_is (IsFrame stocks bytes) (frame_in stocks bytes) f (frame_is stocks bytes) e

-- what is no frame is none
pub frame_none : (stocks : Option ℕ) (bytes : List ℕ) → ((f : Frame) → IsFrame stocks bytes f → ⊥) → frame_in stocks bytes ≡ None
frame_none stocks bytes never = nothing_is (IsFrame stocks bytes) (frame_in stocks bytes) (frame_is stocks bytes) never

-- ---- the frame is found

-- no message of the feed has the letter of a head
no_feed : (h : Head) → feed_layout (head_wire h).letter ≡ None
no_feed (head.Header h) = refl
no_feed (head.Branch h) = refl
no_feed (head.Event h) = refl
no_feed (head.Edit h) = refl
no_feed (head.Counts h) = refl
no_feed (head.Stock h) = refl
no_feed (head.Order h) = elim h.shown as (λ (shown : Bool). feed_layout (letter_of_order shown) ≡ None) [ true ↦ refl | false ↦ refl ]
no_feed (head.Agent h) = refl
no_feed (head.Waiting h) = refl
no_feed (head.End n) = refl

with_head : (stocks : Option ℕ) (bytes : List ℕ) (f : Frame) (h : Head) → head_part f ≡ Some h → IsFrame stocks bytes f → frame_in stocks bytes ≡ Some f
unfolding frame_in
with_head stocks bytes f h first is =
    let rest = rest_part f in
    let n = head_size bytes in
    let led = led_of stocks bytes f h first is in
    let cut = cut_at bytes h (rest_part f) led in
    let letter : slice_index bytes 0 ≡ (head_wire h).letter = ap (λ (l : List ℕ). slice_index l 0) led.same in
    let size : head_size bytes ≡ 1 + total_width (head_wire h).kinds =
    ap (λ (l : ℕ). size_by (head_layout l)) letter ∙ ap size_by (head_told h) in
    let none : message_in feed_wire feed_of feed_layout bytes ≡ None =
    no_message feed_wire feed_of feed_layout bytes (ap feed_layout letter ∙ no_feed h) in
    let found : head_in bytes ≡ Some h =
    message_found head_wire head_of head_layout head_table (take (head_size bytes) bytes) h
    (record { same = ap (λ (k : ℕ). take k bytes) size ∙ cut.head; in_range = led.in_range }) in
    let after : drop (head_size bytes) bytes ≡ rest_part f = ap (λ (k : ℕ). drop k bytes) size ∙ cut.after in
    let of : IsOf stocks h (rest_part f) f = record { first = first; after = refl; ranges = is.ranges } in
    ap (λ (o : Option Feed). message_or o (frame_by stocks (drop (head_size bytes) bytes) (head_in bytes))) none
    ∙ ap (frame_by stocks (drop (head_size bytes) bytes)) found
    ∙ ap (headed stocks h) after
    ∙ headed_found stocks h (rest_part f) f led.in_range of

pub frame_found : (stocks : Option ℕ) (bytes : List ℕ) (f : Frame) → IsFrame stocks bytes f → frame_in stocks bytes ≡ Some f
unfolding frame_in
frame_found stocks bytes (frame.Header x) is = with_head stocks bytes (frame.Header x) (head.Header (header_part x)) refl is
frame_found stocks bytes (frame.Branch x) is = with_head stocks bytes (frame.Branch x) (head.Branch (branch_part x)) refl is
frame_found stocks bytes (frame.Message m) is =
    ap (λ (o : Option Feed). message_or o (frame_by stocks (drop (head_size bytes) bytes) (head_in bytes)))
    (message_found feed_wire feed_of feed_layout feed_table bytes m (record { same = is.same; in_range = is.ranges }))
frame_found stocks bytes (frame.Event x) is = with_head stocks bytes (frame.Event x) (head.Event (event_part x)) refl is
frame_found stocks bytes (frame.Edit x) is = with_head stocks bytes (frame.Edit x) (head.Edit x) refl is
frame_found stocks bytes (frame.Counts x) is = with_head stocks bytes (frame.Counts x) (head.Counts x) refl is
frame_found stocks bytes (frame.Stock x) is = with_head stocks bytes (frame.Stock x) (head.Stock (stock_part x)) refl is
frame_found stocks bytes (frame.Order x) is = with_head stocks bytes (frame.Order x) (head.Order x) refl is
frame_found stocks bytes (frame.Agent x) is = with_head stocks bytes (frame.Agent x) (head.Agent (agent_part x)) refl is
frame_found stocks bytes (frame.Waiting x) is = with_head stocks bytes (frame.Waiting x) (head.Waiting (waiting_part x)) refl is
frame_found stocks bytes (frame.End x) is = with_head stocks bytes (frame.End x) (head.End x) refl is
