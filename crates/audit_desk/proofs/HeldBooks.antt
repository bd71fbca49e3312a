-- What tells the books of a bundle stays, where it fits its fields.
use Rattle.std.proofs.Common.{◌≡◌, ◌∙◌, ℕ, ◌^◌, ◌<◌, Bool, true, false, List, [], ◌∷◌, map, All, Result, Ok, Err, refl, ap}
use Rattle.std.specs.Prelude.{filter, if◌then◌else◌}
use Rattle.std.proofs.Math.Nat.{mod-eq_of_lt}
use Rattle.std.proofs.lemmas.List.Elements.{All-head, All-tail}
use Rattle.market_types.specs.declared.feed.Feed.{Feed}
use Rattle.market_types.specs.declared.feed.What.{What}
use Rattle.market_types.specs.declared.feed.What.TheVariants as what
use Rattle.bundle_frames.specs.declared.closing.Closing.{Closing}
use Rattle.bundle_frames.specs.declared.closing.ClosingOrder.{ClosingOrder}
use Rattle.bundle_frames.specs.declared.closing.ClosingStock.{ClosingStock}
use Rattle.feed_rebuild.specs.declared.shown.Shown.{Shown}
use Rattle.feed_rebuild.specs.Fold.{Told, fold, fresh, told_by, told_what}
use Rattle.audit_desk.specs.Audited.{displayed, order_shown, states_of}
use Rattle.audit_desk.specs.Clipped.{HasBookNumbers, IsComparable, TellsBooks, clipped_closing, clipped_feed, clipped_number, clipped_order, clipped_stock, clipped_what}

-- a number that fits stays
pub number-stays : (w n : ℕ) → n < 256 ^ w → clipped_number w n ≡ n
number-stays w n h = mod-eq_of_lt h

-- ---- messages

told-by : (t : Told) (locate : ℕ) (w : What) → HasBookNumbers w → told_what t locate (clipped_what w) ≡ told_what t locate w
told-by t locate (what.System code) h = refl
told-by t locate (what.Directory stock category financial lot lots_only class sub_type authenticity short_sale ipo tier etp leverage inverse) h = refl
told-by t locate (what.Trading stock state reserved reason) h = refl
told-by t locate (what.Add reference side shares stock price) h =
    ap (λ (n : ℕ). told_what t locate (what.Add n side (clipped_number 4 shares) stock (clipped_number 4 price))) (number-stays 8 reference h.0)
    ∙ ap (λ (n : ℕ). told_what t locate (what.Add reference side n stock (clipped_number 4 price))) (number-stays 4 shares h.1)
    ∙ ap (λ (n : ℕ). told_what t locate (what.Add reference side shares stock n)) (number-stays 4 price h.2)
told-by t locate (what.Executed reference shares match_number) h =
    ap (λ (n : ℕ). told_what t locate (what.Executed n (clipped_number 4 shares) match_number)) (number-stays 8 reference h.0)
    ∙ ap (λ (n : ℕ). told_what t locate (what.Executed reference n match_number)) (number-stays 4 shares h.1)
told-by t locate (what.Cancel reference shares) h =
    ap (λ (n : ℕ). told_what t locate (what.Cancel n (clipped_number 4 shares))) (number-stays 8 reference h.0)
    ∙ ap (λ (n : ℕ). told_what t locate (what.Cancel reference n)) (number-stays 4 shares h.1)
told-by t locate (what.Delete reference) h = ap (λ (n : ℕ). told_what t locate (what.Delete n)) (number-stays 8 reference h)
told-by t locate (what.Trade reference side shares stock price match_number) h = refl
told-by t locate (what.Cross shares stock price match_number kind) h = refl

pub told-stays : (t : Told) (m : Feed) → TellsBooks m → told_what t (clipped_feed m).locate (clipped_feed m).what ≡ told_what t m.locate m.what
told-stays t m h =
    ap (λ (n : ℕ). told_what t n (clipped_what m.what)) (number-stays 2 m.locate h.locate) ∙ told-by t m.locate m.what h.numbers

told-on : (r : Result Told ℕ) (ms : List Feed) → All TellsBooks ms → told_by r (map clipped_feed ms) ≡ told_by r ms
told-on r [] h = refl
told-on (Ok t) (m ∷ ms) h =
    ap (λ (r : Result Told ℕ). told_by r (map clipped_feed ms)) (told-stays t m (All-head TellsBooks m ms h))
    ∙ told-on (told_what t m.locate m.what) ms (All-tail TellsBooks m ms h)
told-on (Err reference) (m ∷ ms) h = refl

pub fold-stays : (stocks : ℕ) (feed : List Feed) → All TellsBooks feed → fold stocks (map clipped_feed feed) ≡ fold stocks feed
unfolding fold
fold-stays stocks feed h = told-on (Ok (fresh stocks)) feed h

-- ---- closings

shown-stays : (o : ClosingOrder) → IsComparable o → order_shown (clipped_order o) ≡ order_shown o
shown-stays o h =
    let shown : ℕ → ℕ → ℕ → ℕ → Shown = λ stock reference left price. record { stock = stock; reference = reference; side = o.side; left = left; price = price } in
    ap (λ (n : ℕ). shown n (clipped_number 8 o.reference) (clipped_number 4 o.left) (clipped_number 4 o.price)) (number-stays 2 o.stock h.stock)
    ∙ ap (λ (n : ℕ). shown o.stock n (clipped_number 4 o.left) (clipped_number 4 o.price)) (number-stays 8 o.reference h.reference)
    ∙ ap (λ (n : ℕ). shown o.stock o.reference n (clipped_number 4 o.price)) (number-stays 4 o.left h.left)
    ∙ ap (λ (n : ℕ). shown o.stock o.reference o.left n) (number-stays 4 o.price h.price)

abbrev is_shown : ClosingOrder → Bool
is_shown o = o.shown

orders-stay : (os : List ClosingOrder) → All IsComparable os → map order_shown (filter is_shown (map clipped_order os)) ≡ map order_shown (filter is_shown os)
orders-stay [] h = refl
orders-stay (o ∷ os) h =
    let later = orders-stay os (All-tail IsComparable o os h) in
    let rest = filter is_shown (map clipped_order os) in
    elim o.shown as (λ b. map order_shown (if b then clipped_order o ∷ filter is_shown (map clipped_order os) else filter is_shown (map clipped_order os)) ≡ map order_shown (if b then o ∷ filter is_shown os else filter is_shown os)) [
      | true ↦ ap (λ (s : Shown). s ∷ map order_shown rest) (shown-stays o (All-head IsComparable o os h)) ∙ ap (λ (l : List Shown). order_shown o ∷ l) later
      | false ↦ later
    ]

pub displayed-stays : (c : Closing) → All IsComparable c.orders → displayed (clipped_closing c) ≡ displayed c
displayed-stays c h = orders-stay c.orders h

states-stay : (ss : List ClosingStock) → map (λ (s : ClosingStock). s.state) (map clipped_stock ss) ≡ map (λ (s : ClosingStock). s.state) ss
states-stay [] = refl
states-stay (s ∷ ss) = ap (λ (l : List ℕ). s.state ∷ l) (states-stay ss)

pub closed-states-stay : (c : Closing) → states_of (clipped_closing c) ≡ states_of c
closed-states-stay c = states-stay c.stocks
