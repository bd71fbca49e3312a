-- The body behind a letter is found.
use Rattle.std.proofs.Common.{◌≡◌, ◌∙◌, ℕ, ◌==◌, true, List, [], ◌∷◌, drop, slice_index, Option, Some, None, IfSome, if◌then◌else◌, refl, ap}
use Rattle.std.specs.Prelude.{option_map}
use Rattle.std.proofs.lemmas.Bool.{eqb-true}
use Rattle.market_types.specs.declared.order.Inbound.{Inbound}
use Rattle.market_types.specs.declared.reply.Reply.{Reply}
use Rattle.market_types.specs.declared.message.Body.{Body}
use Rattle.market_types.specs.declared.message.Body.TheVariants as body
use Rattle.wire_fields.specs.Wire.{IsSpelled}
use Rattle.wire_fields.proofs.Decoders.{IsTable}
use Rattle.ouch_codec.specs.Inbound.{inbound_wire, inbound_layout}
use Rattle.ouch_codec.specs.InboundBack.{inbound_of, inbound_told, inbound_back}
use Rattle.ouch_codec.specs.Outbound.{reply_wire, reply_layout}
use Rattle.ouch_codec.specs.OutboundBack.{reply_of, reply_told, reply_back}
use Rattle.bundle_reader.specs.declared.market_body.MarketBody.{MarketBody}
use Rattle.bundle_reader.specs.declared.market_body.MarketBody.TheVariants.{Ask, Quote}
use Rattle.bundle_reader.specs.Bodies.{market_wire, market_layout, IsBody}
use Rattle.bundle_reader.specs.BodiesBack.{market_of, market_told, market_back}
use Rattle.bundle_reader.specs.Parts.{is_none}
use Rattle.bundle_reader.specs.Messages.{message_in}
use Rattle.bundle_reader.specs.FramesRead.{market_body, body_behind}
use Rattle.bundle_reader.proofs.MessageFound.{some_when, either_is, map_is, message_is, message_found}

inbound_table : IsTable inbound_wire inbound_layout inbound_of
inbound_table = record { kinds = inbound_told; back = inbound_back }

reply_table : IsTable reply_wire reply_layout reply_of
reply_table = record { kinds = reply_told; back = reply_back }

market_table : IsTable market_wire market_layout market_of
market_table = record { kinds = market_told; back = market_back }

pub none_is : (rest : List ℕ) → is_none rest ≡ true → rest ≡ []
none_is [] e = refl
none_is (b ∷ rest) e = absurd cc

-- ---- what is found is the body

wake_is : (letter : ℕ) (rest : List ℕ) → letter ≡ 119 → rest ≡ [] → IsBody (letter ∷ rest) body.Wake
wake_is letter rest is none = record { same = ap (λ n. n ∷ rest) is ∙ ap (λ (l : List ℕ). 119 ∷ l) none; in_range = tt }

order_is : (letter : ℕ) (rest : List ℕ) → letter ≡ 105 → (m : Inbound) → IsSpelled rest (inbound_wire m) → IsBody (letter ∷ rest) (body.Order m)
order_is letter rest is m spelled = record { same = ap (λ n. n ∷ rest) is ∙ ap (λ (l : List ℕ). 105 ∷ l) spelled.same; in_range = spelled.in_range }

answer_is : (letter : ℕ) (rest : List ℕ) → letter ≡ 111 → (m : Reply) → IsSpelled rest (reply_wire m) → IsBody (letter ∷ rest) (body.Answer m)
answer_is letter rest is m spelled = record { same = ap (λ n. n ∷ rest) is ∙ ap (λ (l : List ℕ). 111 ∷ l) spelled.same; in_range = spelled.in_range }

market_is : (bytes : List ℕ) (m : MarketBody) → IsSpelled bytes (market_wire m) → IsBody bytes (market_body m)
market_is bytes (Ask stock) spelled = record { same = spelled.same; in_range = spelled.in_range }
market_is bytes (Quote quote) spelled = record { same = spelled.same; in_range = spelled.in_range }

pub body_is : (letter : ℕ) (rest : List ℕ) → IfSome (body_behind letter rest) (IsBody (letter ∷ rest))
body_is letter rest =
    let bytes = letter ∷ rest in
    let P : Body → Type 0 = λ b. IsBody (letter ∷ rest) b in
    let wake = if is_none rest then Some body.Wake else None in
    let orders = option_map body.Order (message_in inbound_wire inbound_of inbound_layout rest) in
    let answers = option_map body.Answer (message_in reply_wire reply_of reply_layout rest) in
    let markets = option_map market_body (message_in market_wire market_of market_layout (letter ∷ rest)) in
    either_is P (letter == 119) wake _
    (λ l. some_when P (is_none rest) body.Wake (λ t. wake_is letter rest (eqb-true letter 119 l) (none_is rest t)))
    (either_is P (letter == 105) orders _
    (λ l. map_is (λ m. IsSpelled rest (inbound_wire m)) P body.Order (message_in inbound_wire inbound_of inbound_layout rest)
    (message_is inbound_wire inbound_of inbound_layout rest) (order_is letter rest (eqb-true letter 105 l)))
    (either_is P (letter == 111) answers markets
    (λ l. map_is (λ m. IsSpelled rest (reply_wire m)) P body.Answer (message_in reply_wire reply_of reply_layout rest)
    (message_is reply_wire reply_of reply_layout rest) (answer_is letter rest (eqb-true letter 111 l)))
    (map_is (λ m. IsSpelled (letter ∷ rest) (market_wire m)) P market_body (message_in market_wire market_of market_layout (letter ∷ rest))
    (message_is market_wire market_of market_layout (letter ∷ rest)) (market_is (letter ∷ rest)))))

-- ---- the body is found

-- a letter and what follows it, apart
apart : (letter n : ℕ) (rest bytes : List ℕ) (o : Option Body) → letter ∷ rest ≡ n ∷ bytes → body_behind n bytes ≡ o → body_behind letter rest ≡ o
apart letter n rest bytes o same is =
    ap (λ (l : List ℕ). body_behind (slice_index l 0) (drop 1 l)) same ∙ is

pub body_found : (letter : ℕ) (rest : List ℕ) (b : Body) → IsBody (letter ∷ rest) b → body_behind letter rest ≡ Some b
body_found letter rest body.Wake is = apart letter 119 rest [] (Some body.Wake) is.same refl
body_found letter rest (body.Order m) is =
    apart letter 105 rest _ (Some (body.Order m)) is.same
    (ap (option_map body.Order) (message_found inbound_wire inbound_of inbound_layout inbound_table _ m (record { same = refl; in_range = is.in_range })))
body_found letter rest (body.Answer m) is =
    apart letter 111 rest _ (Some (body.Answer m)) is.same
    (ap (option_map body.Answer) (message_found reply_wire reply_of reply_layout reply_table _ m (record { same = refl; in_range = is.in_range })))
body_found letter rest (body.Ask stock) is =
    apart letter 97 rest _ (Some (body.Ask stock)) is.same
    (ap (option_map market_body) (message_found market_wire market_of market_layout market_table _ (Ask stock) (record { same = refl; in_range = is.in_range })))
body_found letter rest (body.Quote quote) is =
    apart letter 113 rest _ (Some (body.Quote quote)) is.same
    (ap (option_map market_body) (message_found market_wire market_of market_layout market_table _ (Quote quote) (record { same = refl; in_range = is.in_range })))
