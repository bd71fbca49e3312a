-- The frame of a payload, of a message of the feed or of a head and what follows it.
use Rattle.std.proofs.Common.{◌≡◌, ◌∙◌, ℕ, ◌⊎◌, List, [], ◌∷◌, Option, Some, None, Result, Ok, Err, IfOk, IfSome, if◌then◌else◌, inl, inr, refl, sym, ap, subst}
use Rattle.market_types.specs.declared.error.CodecError.{CodecError}
use Rattle.market_types.specs.declared.feed.Feed.{Feed}
use Rattle.wire_fields.specs.Wire.{IsInRange, IsSpelled}
use Rattle.itch_codec.specs.Messages.{feed_wire}
use Rattle.bundle_frames.specs.declared.closing.ClosingCounts.{ClosingCounts}
use Rattle.bundle_frames.specs.declared.closing.ClosingOrder.{ClosingOrder}
use Rattle.bundle_reader.specs.declared.head.Head.{Head}
use Rattle.bundle_reader.specs.declared.head.Head.TheVariants as head
use Rattle.bundle_reader.specs.declared.head.EditHead.{EditHead}
use Rattle.bundle_reader.specs.Heads.{head_wire, IsLed}
use Rattle.bundle_reader.specs.declared.frame.Frame.{Frame}
use Rattle.bundle_reader.specs.declared.frame.Frame.TheVariants.{Header, Branch, Message, Event, Edit, Counts, Stock, Order, Agent, Waiting, End}
use Rattle.bundle_reader.specs.Frames.{IsFrame}
use Rattle.bundle_reader.specs.Parts.{header_part, branch_part, event_part, stock_part, agent_part, waiting_part, head_part, rest_part, is_none, IsOf}
use Rattle.bundle_reader.proofs.HeadAndRest.{led_of, frame_of, some_same}

-- ---- frames that nothing follows

pub alone_of : (P : Frame → Type 0) (o r : Option Frame) (rest : List ℕ) (f : Frame) → o ≡ r → r ≡ (if is_none rest then Some f else None) → (rest ≡ [] → P f) → IfSome o P
alone_of P o r [] f same is make = let Q : Option Frame → Type 0 = λ k. IfSome k P in subst Q (sym (same ∙ is)) (make refl)
alone_of P o r (b ∷ rest) f same is make = let Q : Option Frame → Type 0 = λ k. IfSome k P in subst Q (sym (same ∙ is)) tt

ranges_at : (h k : Head) → h ≡ k → IsInRange (head_wire h) → IsInRange (head_wire k)
ranges_at h k e range = let P : Head → Type 0 = λ x. IsInRange (head_wire x) in subst P e range

pub edit_of : (stocks : Option ℕ) (h : Head) (rest : List ℕ) (x : EditHead) → h ≡ head.Edit x → IsInRange (head_wire h) → rest ≡ [] → IsOf stocks h rest (Edit x)
edit_of stocks h rest x is range none = record { first = ap Some (sym is); after = sym none; ranges = ranges_at h (head.Edit x) is range }

pub counts_of : (stocks : Option ℕ) (h : Head) (rest : List ℕ) (x : ClosingCounts) → h ≡ head.Counts x → IsInRange (head_wire h) → rest ≡ [] → IsOf stocks h rest (Counts x)
counts_of stocks h rest x is range none = record { first = ap Some (sym is); after = sym none; ranges = ranges_at h (head.Counts x) is range }

pub order_of : (stocks : Option ℕ) (h : Head) (rest : List ℕ) (x : ClosingOrder) → h ≡ head.Order x → IsInRange (head_wire h) → rest ≡ [] → IsOf stocks h rest (Order x)
order_of stocks h rest x is range none = record { first = ap Some (sym is); after = sym none; ranges = ranges_at h (head.Order x) is range }

pub end_of : (stocks : Option ℕ) (h : Head) (rest : List ℕ) (x : ℕ) → h ≡ head.End x → IsInRange (head_wire h) → rest ≡ [] → IsOf stocks h rest (End x)
end_of stocks h rest x is range none = record { first = ap Some (sym is); after = sym none; ranges = ranges_at h (head.End x) is range }

-- ---- frames that were made of any head

pub made_of : (stocks : Option ℕ) (h k : Head) (rest : List ℕ) (o r : Option Frame) → o ≡ r → h ≡ k → IfSome r (λ f. (s : Option ℕ) → IsOf s k rest f) → IfSome o (IsOf stocks h rest)
made_of stocks h k rest o None same is made = let Q : Option Frame → Type 0 = λ x. IfSome x (IsOf stocks h rest) in subst Q (sym same) tt
made_of stocks h k rest o (Some f) same is made =
    let Q : Option Frame → Type 0 = λ x. IfSome x (IsOf stocks h rest) in
    let P : Head → Type 0 = λ x. IsOf stocks x rest f in
    subst Q (sym same) (subst P (sym is) (made stocks))

-- ---- payloads

-- a frame is a message or has a head
message_or_head : (f : Frame) → ((m : Feed) × (f ≡ Message m)) ⊎ ((h : Head) × (head_part f ≡ Some h))
message_or_head (Header x) = inr (head.Header (header_part x), refl)
message_or_head (Branch x) = inr (head.Branch (branch_part x), refl)
message_or_head (Message m) = inl (m, refl)
message_or_head (Event x) = inr (head.Event (event_part x), refl)
message_or_head (Edit x) = inr (head.Edit x, refl)
message_or_head (Counts x) = inr (head.Counts x, refl)
message_or_head (Stock x) = inr (head.Stock (stock_part x), refl)
message_or_head (Order x) = inr (head.Order x, refl)
message_or_head (Agent x) = inr (head.Agent (agent_part x), refl)
message_or_head (Waiting x) = inr (head.Waiting (waiting_part x), refl)
message_or_head (End x) = inr (head.End x, refl)

err_ok : (r : Result Feed CodecError) (e : CodecError) (m : Feed) → r ≡ Err e → r ≡ Ok m → ⊥
err_ok r e m is f = cc

-- a payload that is no message of the feed
no_message : (stocks : Option ℕ) (payload : List ℕ) (f : Frame) (m : Feed) (d : Result Feed CodecError) (e : CodecError) → d ≡ Err e
    → ((k : Feed) → IsSpelled payload (feed_wire k) → d ≡ Ok k) → f ≡ Message m → IsFrame stocks payload f → ⊥
no_message stocks payload f m d e refused only is frame =
    let P : Frame → Type 0 = λ x. IsFrame stocks payload x in
    let whole : IsFrame stocks payload (Message m) = subst P is frame in
    err_ok d e m refused (only m (record { same = whole.same; in_range = whole.ranges }))

-- a payload that begins with no head is no frame
pub no_frame : (stocks : Option ℕ) (payload : List ℕ) (f : Frame) (d : Result Feed CodecError) (e : CodecError) → d ≡ Err e
    → ((k : Feed) → IsSpelled payload (feed_wire k) → d ≡ Ok k) → ((h : Head) (rest : List ℕ) → IsLed payload h rest → ⊥) → IsFrame stocks payload f → ⊥
no_frame stocks payload f d e refused only no_head frame =
    elim (message_or_head f) [
      | inl m ↦ no_message stocks payload f m.0 d e refused only m.1 frame
      | inr h ↦ no_head h.0 (rest_part f) (led_of stocks payload f h.0 h.1 frame)
    ]

-- a frame is of the head that its payload begins with
pub of_frame : (stocks : Option ℕ) (payload : List ℕ) (h : Head) (rest : List ℕ) (f : Frame) (d : Result Feed CodecError) (e : CodecError) → d ≡ Err e
    → ((k : Feed) → IsSpelled payload (feed_wire k) → d ≡ Ok k)
    → ((k : Head) (l : List ℕ) → IsLed payload k l → ◌≡◌ {A = Option (Head × List ℕ)} (Some (h, rest)) (Some (k, l))) → IsFrame stocks payload f → IsOf stocks h rest f
of_frame stocks payload h rest f d e refused only led frame =
    elim (message_or_head f) [
      | inl m ↦ absurd (no_message stocks payload f m.0 d e refused only m.1 frame)
      | inr k ↦
          let same = some_same (h, rest) (k.0, rest_part f) (led k.0 (rest_part f) (led_of stocks payload f k.0 k.1 frame)) in
          record { first = k.1 ∙ ap (λ (p : Head × List ℕ). Some p.0) (sym same); after = ap (λ (p : Head × List ℕ). p.1) (sym same); ranges = frame.ranges }
    ]

-- what is of a head and its rest stands in the payload
pub framed_of : {M : Type 0} (stocks : Option ℕ) (payload : List ℕ) (h : Head) (rest : List ℕ) (r : Result (Option Frame) M) → IsLed payload h rest
    → IfOk r (λ o. IfSome o (IsOf stocks h rest)) → IfOk r (λ o. IfSome o (IsFrame stocks payload))
framed_of stocks payload h rest (Ok None) led is = tt
framed_of stocks payload h rest (Ok (Some f)) led is = frame_of stocks payload h rest f led is
framed_of stocks payload h rest (Err e) led is = tt
