use Rattle.std.proofs.Common.{◌≡◌, List, ◌++◌, length, get_or, sym, ap, ◌∙◌, arith}
use Rattle.std.specs.Prelude.{ℕ}
use Rattle.market_types.specs.declared.feed.Feed.{Feed}
use Rattle.bundle_frames.specs.Frames.{message_frame}
use Rattle.exchange_agent.specs.declared.told.StockRules.{StockRules}
use Rattle.trace_bundle.specs.Feed.{directory}
use Rattle.trace_bundle.proofs.Feeds.{directory-more}
use Rattle.trace_bundle.proofs.feed.put_directories.Goals as goal

pub loop-k-preserved : goal.loop-k-preserved
loop-k-preserved c =
    let o = c.args.o.now in
    let k = c.loop-k.k in
    let x = c.index-as_slice-k.result in
    let is : x ≡ get_or o.stocks k x = c.index-as_slice-k.is ∙ ap (λ (xs : List StockRules). get_or xs k x) c.as_slice.ensures in
    let count = ap (λ (xs : List StockRules). length xs) c.as_slice-k-end.ensures in
    c.in_ok-put.ensures
    ∙ ap (λ (f : Feed). c.loop-k.out.items ++ message_frame f) c.directory.ensures
    ∙ ap (λ (y : StockRules). c.loop-k.out.items ++ message_frame (directory o.start k y.symbol)) (sym c.index-as_slice-k.is)
    ∙ ap (λ (l : List ℕ). l ++ message_frame (directory o.start k x.symbol)) c.loop-k.invariant
    ∙ directory-more o k x c.args.out.now.items (omega (arith, c.loop-k-test.true, count)) is
