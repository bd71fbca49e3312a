-- Letters of frames are in their ranges.
use Rattle.std.proofs.Common.{◌≡◌, Bool, true, false, refl}
use Rattle.std.specs.Prelude.{codes}
use Rattle.market_types.specs.declared.message.Body.{Body}
use Rattle.market_types.specs.declared.message.Body.TheVariants as body
use Rattle.market_types.specs.declared.order.Side.{Side}
use Rattle.market_types.specs.declared.order.Side.TheVariants.{Buy, Sell}
use Rattle.wire_fields.specs.declared.kind.Kind.TheVariants.{Either, OneOf}
use Rattle.wire_fields.specs.declared.kind.Kind.TheVariants as kind
use Rattle.wire_fields.specs.Kinds.{is_good}
use Rattle.wire_fields.specs.Values.{is_in_range, side_letter}
use Rattle.bundle_frames.specs.Wires.{byte, letter_of_body, letter_of_delivery, letter_of_silence}

pub side-in : (s : Side) → is_in_range kind.Side (byte (side_letter s)) ≡ true
unfolding is_in_range is_good
side-in Buy = refl
side-in Sell = refl

pub silence-in : (b : Bool) → is_in_range (Either (codes "YN")) (byte (letter_of_silence b)) ≡ true
unfolding is_in_range is_good
silence-in true = refl
silence-in false = refl

pub delivery-in : (b : Bool) → is_in_range (Either (codes "DP")) (byte (letter_of_delivery b)) ≡ true
unfolding is_in_range is_good
delivery-in true = refl
delivery-in false = refl

pub letter-in : (b : Body) → is_in_range (OneOf (codes "wioaq")) (byte (letter_of_body b)) ≡ true
unfolding is_in_range is_good
letter-in body.Wake = refl
letter-in (body.Order order) = refl
letter-in (body.Answer reply) = refl
letter-in (body.Ask stock) = refl
letter-in (body.Quote quote) = refl
