use Rattle.std.proofs.Common.{true, false, refl, sym, ap, ◌∙◌}
use Rattle.price_time_book.specs.declared.levels.Queue.{Queue}
use Rattle.price_time_book.specs.Queues.{hidden_of, queue_of, shown_of}
use Rattle.price_time_book.proofs.Sides.{hidden_apart, indexed_as, queue_is, shown_apart}
use Rattle.price_time_book.proofs.levels.join.Goals as goal

pub join_queue-requires-clause-indexed : goal.join_queue-requires-clause-indexed
join_queue-requires-clause-indexed c =
    let x = c.args.order in
    indexed_as (shown_of x.side) (queue_of x) c.args.orders.now.items c.args.nexts.now.items c.args.half.now.shown.items (sym (queue_is x x.side true refl c.if-order.true)) c.requires.shown

pub returns-then-order-clause-shown : goal.returns-then-order-clause-shown
returns-then-order-clause-shown c =
    let x = c.args.order in
    indexed_as (queue_of x) (shown_of x.side) c.join_queue.new.orders.items c.join_queue.new.nexts.items c.join_queue.new.levels.items (queue_is x x.side true refl c.if-order.true) c.join_queue.ensures.indexed

pub returns-then-order-clause-hidden : goal.returns-then-order-clause-hidden
returns-then-order-clause-hidden c =
    let x = c.args.order in
    c.join_queue.ensures.others (hidden_of x.side) c.args.half.now.hidden.items (λ e. hidden_apart x.side x.side (e ∙ queue_is x x.side true refl c.if-order.true)) c.requires.hidden

pub returns-then-order-clause-others : goal.returns-then-order-clause-others
returns-then-order-clause-others c = λ t ms n v. c.join_queue.ensures.others t ms (λ e. n (ap (λ (r : Queue). r.side) e)) v

pub join_queue-requires-2-clause-indexed : goal.join_queue-requires-2-clause-indexed
join_queue-requires-2-clause-indexed c =
    let x = c.args.order in
    indexed_as (hidden_of x.side) (queue_of x) c.args.orders.now.items c.args.nexts.now.items c.args.half.now.hidden.items (sym (queue_is x x.side false refl c.if-order.false)) c.requires.hidden

pub returns-clause-hidden : goal.returns-clause-hidden
returns-clause-hidden c =
    let x = c.args.order in
    indexed_as (queue_of x) (hidden_of x.side) c.join_queue-2.new.orders.items c.join_queue-2.new.nexts.items c.join_queue-2.new.levels.items (queue_is x x.side false refl c.if-order.false) c.join_queue-2.ensures.indexed

pub returns-clause-shown : goal.returns-clause-shown
returns-clause-shown c =
    let x = c.args.order in
    c.join_queue-2.ensures.others (shown_of x.side) c.args.half.now.shown.items (λ e. shown_apart x.side x.side (e ∙ queue_is x x.side false refl c.if-order.false)) c.requires.shown

pub returns-clause-others : goal.returns-clause-others
returns-clause-others c = λ t ms n v. c.join_queue-2.ensures.others t ms (λ e. n (ap (λ (r : Queue). r.side) e)) v
