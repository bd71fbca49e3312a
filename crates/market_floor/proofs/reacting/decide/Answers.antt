use Rattle.std.proofs.Common.{◌≡◌, List, length, map, refl, ap, ◌∙◌, subst, sym}
use Rattle.market_types.specs.Room.{Room}
use Rattle.market_types.specs.declared.feed.Feed.{Feed}
use Rattle.agent_shell.specs.Decide.{Decided}
use Rattle.agent_shell.specs.Sight.{sight_of}
use Rattle.market_floor.specs.declared.posting.Posting.{Posting}
use Rattle.market_floor.specs.Party.{reacted, with_trader}
use Rattle.market_floor.specs.Posted.{to_exchange}
use Rattle.market_floor.specs.Reaction.{ArePosted, decided_by}
use Rattle.market_floor.proofs.Posts.{sendings-posted}
use Rattle.market_floor.proofs.Reactions.{ok-all, ok-map, shown}
use Rattle.market_floor.proofs.reacting.decide.Goals as goal

pub returns-clause-party : goal.returns-clause-party
returns-clause-party c =
    let o = c.args.o.now in
    let s = c.args.exchange.now in
    let os = c.args.offsets.now in
    let m = c.args.m.now in
    let p = c.args.party.now in
    let v = sight_of c.view_at-view.result in
    let same : reacted v p m.body ≡ decided_by o s os p m = shown o s os c.stock.result v p m c.view_at-view.ensures.sight c.stock.ensures in
    ok-map c.take_sends.result (c.take_sends.new.party ≡ with_trader (reacted v p m.body).trader p) (c.take_sends.new.party ≡ with_trader (decided_by o s os p m).trader p)
    (λ e. e ∙ ap (λ (d : Decided). with_trader d.trader p) same) c.take_sends.ensures.party

pub returns-clause-told : goal.returns-clause-told
returns-clause-told c =
    let o = c.args.o.now in
    let s = c.args.exchange.now in
    let os = c.args.offsets.now in
    let m = c.args.m.now in
    let p = c.args.party.now in
    let v = sight_of c.view_at-view.result in
    let same : reacted v p m.body ≡ decided_by o s os p m = shown o s os c.stock.result v p m c.view_at-view.ensures.sight c.stock.ensures in
    λ f. ok-map c.take_sends.result _ _
    (λ e. record {
      postings = e ∙ ap (λ (d : Decided). map to_exchange d.sends) same;
      delay = c.delay-out.ensures.value;
      feed = ap (λ (l : Room Feed). l.list) c.clear.ensures;
      fee = refl;
    }) c.take_sends.ensures.postings

pub returns-clause-posted : goal.returns-clause-posted
returns-clause-posted c =
    let m = c.args.m.now in
    let n = length c.args.exchange.now.stocks in
    let p = c.args.party.now in
    let v = sight_of c.view_at-view.result in
    λ traders few. ok-map c.take_sends.result _ _
    (λ e. subst (λ (xs : List Posting). ArePosted traders n m xs) (sym e)
    (sendings-posted traders n m v p.trader (reacted v p m.body).sends c.requires.trader few c.requires.sound.stock c.view_at-view.ensures.time c.take_sends.ensures.sendings))
    c.take_sends.ensures.postings

pub returns-clause-hour : goal.returns-clause-hour
returns-clause-hour c = ok-all c.take_sends.result _ c.delay-out.ensures.hour
