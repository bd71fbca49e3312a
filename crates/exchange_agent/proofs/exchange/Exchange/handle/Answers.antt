use Rattle.std.proofs.Common.{◌≡◌, List, All, length, subst, sym, ◌∙◌}
use Rattle.std.specs.Prelude.{OnOk, OnErr, Result, Ok, Err}
use Rattle.std.proofs.lemmas.List.Elements.{All-nil}
use Rattle.market_types.specs.declared.feed.Feed.{Feed}
use Rattle.exchange_agent.specs.declared.handled.Outgoing.{Outgoing}
use Rattle.exchange_agent.specs.Market.{market}
use Rattle.exchange_agent.specs.Outcome.{IsToTrader}
use Rattle.exchange_agent.specs.Sound.{is_trader}
use Rattle.exchange_agent.specs.State.{State}
use Rattle.exchange_agent.proofs.Tellings.{IsAt, KeepsSize, at-time, keeps-size, keeps-all, to-traders}
use Rattle.exchange_agent.proofs.exchange.Exchange.handle.Goals as goal

either : {A E : Type 0} (r : Result A E) (P Q R : Type 0) → OnOk r P → OnErr r Q → (P → R) → (Q → R) → R
either (Ok x) P Q R p q f g = f p
either (Err e) P Q R p q f g = g q

pub returns-clause-receivers : goal.returns-clause-receivers
returns-clause-receivers c =
    let s = c.args.self.now in
    let n = length s.cash in
    let new = c.answer.new.out.replies.list in
    let there : All (IsToTrader n) (market s c.args.time c.args.from c.args.body.now).replies =
    to-traders s c.args.time c.args.from c.args.body.now c.know_soundness.ensures (c.fills_add_up.ensures.tested (is_trader n) (λ o left le e. e)) c.requires.trader c.requires.exists in
    either c.answer.result (new ≡ (market s c.args.time c.args.from c.args.body.now).replies) (new ≡ c.args.out.now.replies.list) (All (IsToTrader n) new) c.answer.ensures.replies c.answer.ensures.replies_refused
    (λ e. subst (λ (rs : List Outgoing). All (IsToTrader n) rs) (sym e) there)
    (λ e. subst (λ (rs : List Outgoing). All (IsToTrader n) rs) (sym (e ∙ c.requires.no_replies)) (All-nil (IsToTrader n)))

pub returns-clause-times : goal.returns-clause-times
returns-clause-times c =
    let s = c.args.self.now in
    let time = c.args.time in
    let new = c.answer.new.out.feed.list in
    either c.answer.result (new ≡ (market s time c.args.from c.args.body.now).feed) (new ≡ c.args.out.now.feed.list) (All (IsAt time) new) c.answer.ensures.feed c.answer.ensures.feed_refused
    (λ e. subst (λ (fs : List Feed). All (IsAt time) fs) (sym e) (at-time s time c.args.from c.args.body.now))
    (λ e. subst (λ (fs : List Feed). All (IsAt time) fs) (sym (e ∙ c.requires.no_feed)) (All-nil (IsAt time)))

size : (c : goal.After-answer) → KeepsSize c.args.self.now c.answer.new.self
size c =
    let s = c.args.self.now in
    let new = c.answer.new.self in
    let after = (market s c.args.time c.args.from c.args.body.now).state in
    either c.answer.result (new ≡ after) (new ≡ s) (KeepsSize s new) c.answer.ensures.state c.answer.ensures.exchange_refused
    (λ e. subst (λ (q : State). KeepsSize s q) (sym e) (keeps-size s c.args.time c.args.from c.args.body.now))
    (λ e. subst (λ (q : State). KeepsSize s q) (sym e) (keeps-all s))

pub returns-clause-stocks : goal.returns-clause-stocks
returns-clause-stocks c = (size c).stocks

pub returns-clause-traders : goal.returns-clause-traders
returns-clause-traders c = (size c).cash

pub returns-clause-ignored_enters : goal.returns-clause-ignored_enters
returns-clause-ignored_enters c = (size c).enters

pub returns-clause-ignored_cancels : goal.returns-clause-ignored_cancels
returns-clause-ignored_cancels c = (size c).cancels

pub returns-clause-state : goal.returns-clause-state
returns-clause-state c = c.answer.ensures.state

pub returns-clause-replies : goal.returns-clause-replies
returns-clause-replies c = c.answer.ensures.replies

pub returns-clause-feed : goal.returns-clause-feed
returns-clause-feed c = c.answer.ensures.feed

pub returns-clause-fee : goal.returns-clause-fee
returns-clause-fee c = c.answer.ensures.fee

pub returns-clause-exchange_refused : goal.returns-clause-exchange_refused
returns-clause-exchange_refused c = c.answer.ensures.exchange_refused

pub returns-clause-replies_refused : goal.returns-clause-replies_refused
returns-clause-replies_refused c = c.answer.ensures.replies_refused

pub returns-clause-feed_refused : goal.returns-clause-feed_refused
returns-clause-feed_refused c = c.answer.ensures.feed_refused

pub returns-clause-fee_refused : goal.returns-clause-fee_refused
returns-clause-fee_refused c = c.answer.ensures.fee_refused
