use Rattle.std.proofs.Common.{◌≡◌, ◌+◌, [], List, ap, ◌∙◌, arith, subst, sym}
use Rattle.std.proofs.lemmas.List.Elements.{All-nil}
use Rattle.market_types.specs.Room.{Room}
use Rattle.market_types.specs.Timely.{AreTimely, IsTimely}
use Rattle.market_types.specs.declared.feed.Feed.{Feed}
use Rattle.kernel_core.proofs.Timelies.{timely-at, timely-to}
use Rattle.kernel_core.proofs.telling.meet.Goals as goal

-- the message goes back

pub returns-then-m-busy-clause-until : goal.returns-then-m-busy-clause-until
returns-then-m-busy-clause-until c free = absurd (omega (arith, free, c.if-m-busy.true))

pub returns-then-m-busy-clause-hour : goal.returns-then-m-busy-clause-hour
returns-then-m-busy-clause-hour c free = absurd (omega (arith, free, c.if-m-busy.true))

pub returns-then-m-busy-clause-floor_back : goal.returns-then-m-busy-clause-floor_back
returns-then-m-busy-clause-floor_back c later = c.in-Ok.ensures.floor

pub returns-then-m-busy-clause-floor : goal.returns-then-m-busy-clause-floor
returns-then-m-busy-clause-floor c free = absurd (omega (arith, free, c.if-m-busy.true))

pub returns-then-m-busy-clause-feed_back : goal.returns-then-m-busy-clause-feed_back
returns-then-m-busy-clause-feed_back c later = ap (λ (l : Room Feed). l.list) c.clear.ensures

pub returns-then-m-busy-clause-told : goal.returns-then-m-busy-clause-told
returns-then-m-busy-clause-told c free = absurd (omega (arith, free, c.if-m-busy.true))

pub returns-then-m-busy-clause-posted : goal.returns-then-m-busy-clause-posted
returns-then-m-busy-clause-posted c free = absurd (omega (arith, free, c.if-m-busy.true))

pub returns-then-m-busy-clause-before : goal.returns-then-m-busy-clause-before
returns-then-m-busy-clause-before c = c.in-Ok.ensures.feed

pub returns-then-m-busy-clause-timely_before : goal.returns-then-m-busy-clause-timely_before
returns-then-m-busy-clause-timely_before c = timely-to c.args.m.now.time c.rule_into.new.before.list c.requires.early c.in-Ok.ensures.times

pub returns-then-m-busy-clause-timely_after : goal.returns-then-m-busy-clause-timely_after
returns-then-m-busy-clause-timely_after c = subst (λ (l : Room Feed). AreTimely l.list) (sym c.clear.ensures) (All-nil _)

pub returns-then-m-busy-clause-sound : goal.returns-then-m-busy-clause-sound
returns-then-m-busy-clause-sound c n h = c.floors_stay_sound.ensures n (n + 1) c.rule_into.new.floor (omega arith) (c.rule_into.ensures.sound n h)

pub returns-then-m-busy-clause-stocks : goal.returns-then-m-busy-clause-stocks
returns-then-m-busy-clause-stocks c = c.rule_into.ensures.stocks

pub returns-then-m-busy-clause-traders : goal.returns-then-m-busy-clause-traders
returns-then-m-busy-clause-traders c = c.rule_into.ensures.traders

-- the message is delivered

pub overflow_add-result : goal.overflow_add-result
overflow_add-result c = omega (arith, c.requires.early, c.in-Ok-deliver.ensures.hour)

pub returns-clause-until_back : goal.returns-clause-until_back
returns-clause-until_back c later = absurd (omega (arith, later, c.if-m-busy.false))

pub returns-clause-until : goal.returns-clause-until
returns-clause-until c free = ap (λ d. c.args.m.now.time + d) c.in-Ok-deliver.ensures.told.delay

pub returns-clause-hour : goal.returns-clause-hour
returns-clause-hour c free = omega (arith, c.in-Ok-deliver.ensures.hour)

pub returns-clause-floor_back : goal.returns-clause-floor_back
returns-clause-floor_back c later = absurd (omega (arith, later, c.if-m-busy.false))

pub returns-clause-floor : goal.returns-clause-floor
returns-clause-floor c free = c.in-Ok-deliver.ensures.floor

pub returns-clause-feed_back : goal.returns-clause-feed_back
returns-clause-feed_back c later = absurd (omega (arith, later, c.if-m-busy.false))

pub returns-clause-fee_back : goal.returns-clause-fee_back
returns-clause-fee_back c later = absurd (omega (arith, later, c.if-m-busy.false))

pub returns-clause-told : goal.returns-clause-told
returns-clause-told c free = c.in-Ok-deliver.ensures.told

pub returns-clause-posted : goal.returns-clause-posted
returns-clause-posted c free = c.in-Ok-deliver.ensures.posted

pub returns-clause-before : goal.returns-clause-before
returns-clause-before c = c.in-Ok-deliver.ensures.before

pub returns-clause-timely_before : goal.returns-clause-timely_before
returns-clause-timely_before c = timely-to c.args.m.now.time c.deliver.new.out.before.list c.requires.early c.in-Ok-deliver.ensures.times_before

pub returns-clause-timely_after : goal.returns-clause-timely_after
returns-clause-timely_after c = timely-at c.args.m.now.time c.deliver.new.out.after.list c.requires.early c.in-Ok-deliver.ensures.times_after

pub returns-clause-sound : goal.returns-clause-sound
returns-clause-sound c = c.deliver.ensures.sound

pub returns-clause-stocks : goal.returns-clause-stocks
returns-clause-stocks c = c.deliver.ensures.stocks

pub returns-clause-traders : goal.returns-clause-traders
returns-clause-traders c = c.deliver.ensures.traders

-- after want of memory

pub returns-in_default-clause-sound : goal.returns-in_default-clause-sound
returns-in_default-clause-sound c n h = c.floors_stay_sound.ensures n (n + 1) c.rule_into.new.floor (omega arith) (c.rule_into.ensures.sound n h)

pub returns-in_default-deliver-clause-sound : goal.returns-in_default-deliver-clause-sound
returns-in_default-deliver-clause-sound c = c.deliver.ensures.sound
