-- The feed of the opening, one stock more at a time.
use Rattle.std.proofs.Common.{◌≡◌, ℕ, ◌+◌, ◌<◌, List, ◌++◌, length, get_or, sym, ap, ◌∙◌, add-one}
use Rattle.std.proofs.lemmas.List.{flat_map_more, get_or_read}
use Rattle.market_types.specs.declared.order.Symbol.{Symbol}
use Rattle.bundle_frames.specs.Frames.{feed_frames, message_frame}
use Rattle.exchange_agent.specs.declared.told.StockRules.{StockRules}
use Rattle.market_floor.specs.declared.opening.Opening.{Opening}
use Rattle.market_floor.specs.Reaction.{no_rules}
use Rattle.trace_bundle.specs.Feed.{directories, directory, symbol_at, trading, tradings}

symbol-read : (o : Opening) (k : ℕ) (x : StockRules) → k < length o.stocks → x ≡ get_or o.stocks k x → x.symbol ≡ symbol_at o k
symbol-read o k x within is = ap (λ (r : StockRules). r.symbol) (get_or_read o.stocks k x within is no_rules)

-- bytes so far, the feed before and one message more
pub directory-more : (o : Opening) (k : ℕ) (x : StockRules) (bytes : List ℕ) → k < length o.stocks → x ≡ get_or o.stocks k x
    → (bytes ++ feed_frames (directories o k)) ++ message_frame (directory o.start k x.symbol) ≡ bytes ++ feed_frames (directories o (k + 1))
directory-more o k x bytes within is =
    ap (λ (s : Symbol). (bytes ++ feed_frames (directories o k)) ++ message_frame (directory o.start k s)) (symbol-read o k x within is)
    ∙ flat_map_more message_frame bytes (directories o k) (directory o.start k (symbol_at o k))
    ∙ sym (ap (λ (n : ℕ). bytes ++ feed_frames (directories o n)) (add-one k))

pub trading-more : (o : Opening) (k : ℕ) (x : StockRules) (bytes : List ℕ) → k < length o.stocks → x ≡ get_or o.stocks k x
    → (bytes ++ feed_frames (tradings o k)) ++ message_frame (trading o.start k x.symbol) ≡ bytes ++ feed_frames (tradings o (k + 1))
trading-more o k x bytes within is =
    ap (λ (s : Symbol). (bytes ++ feed_frames (tradings o k)) ++ message_frame (trading o.start k s)) (symbol-read o k x within is)
    ∙ flat_map_more message_frame bytes (tradings o k) (trading o.start k (symbol_at o k))
    ∙ sym (ap (λ (n : ℕ). bytes ++ feed_frames (tradings o n)) (add-one k))
