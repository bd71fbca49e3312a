use Rattle.std.proofs.Common.{◌≡◌, ◌+◌, ◌++◌, ◌-◌, suc, ap, ◌∙◌, arith}
use Rattle.agent_shell.specs.declared.wish.Wish.{Wish}
use Rattle.agent_shell.specs.Ordered.{ordered}
use Rattle.quoter_agents.proofs.Leveling.{orders-step, sends-step}
use Rattle.quoter_agents.proofs.levels.quote_levels.Goals as goal

pub loop-i-preserved : goal.loop-i-preserved
loop-i-preserved c =
    let symbol = c.args.view.now.symbol in
    let m = c.args.levels.now in
    let bands = c.args.view.now.ticks.now in
    let i = c.loop-i.i in
    let n = c.args.count - i in
    let k = c.args.count - (i + 1) in
    let o = c.loop-i.shell.orders in
    let left : n ≡ suc k = omega (arith, c.loop-i-test.true) in
    let o1 = c.send.new.shell.orders in
    let buy = c.send.ensures.orders ∙ ap (λ (w : Wish). (ordered symbol w o).orders) c.buy_at.ensures.value in
    let sell = c.send-in-loop-i.ensures.orders ∙ ap (λ (w : Wish). (ordered symbol w o1).orders) c.sell_at.ensures.value in
    let sent_buy = c.send.ensures.sends ∙ ap (λ (w : Wish). c.loop-i.out.list ++ (ordered symbol w o).sends) c.buy_at.ensures.value in
    let sent_sell = c.send-in-loop-i.ensures.sends ∙ ap (λ (w : Wish). c.send.new.out.list ++ (ordered symbol w o1).sends) c.sell_at.ensures.value in
    let v = c.loop-i.invariant in
    record {
      orders = orders-step symbol m bands c.args.centre i n k o o1 c.send-in-loop-i.new.shell.orders left buy sell ∙ v.orders;
      sends = sends-step symbol m bands c.args.centre i n k o o1 c.send-in-loop-i.new.shell.orders c.loop-i.out.list c.send.new.out.list c.send-in-loop-i.new.out.list left buy sell sent_buy sent_sell ∙ v.sends;
      own = c.send-in-loop-i.ensures.own;
      agent = c.send-in-loop-i.ensures.agent ∙ c.send.ensures.agent ∙ v.agent;
      within = omega (arith, c.loop-i-test.true);
      tokens = omega (arith, c.send.ensures.tokens, c.send-in-loop-i.ensures.tokens, v.tokens);
      places = omega (arith, c.send.ensures.place, c.send-in-loop-i.ensures.place, v.places);
      room = omega (arith, c.send.ensures.room, c.send-in-loop-i.ensures.room, v.room);
    }
