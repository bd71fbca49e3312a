use Rattle.std.proofs.Common.{◌≡◌, ℕ, ◌+◌, IfOk, subst, arith}
use Rattle.rewind_desk.proofs.reach.from_near.Goals as goal

pub resumed-requires-clause-near : goal.resumed-requires-clause-near
resumed-requires-clause-near g c = record {
  held = c.requires.near.held;
  key = c.requires.near.key;
  events = c.requires.near.events;
  early = omega arith;
}

pub arrive-requires-clause-early : goal.arrive-requires-clause-early
arrive-requires-clause-early g c = omega (arith, c.in-Ok.ensures.events, c.requires.near.early)

pub arrive-requires-clause-count : goal.arrive-requires-clause-count
arrive-requires-clause-count g c = omega (arith, c.in-Ok.ensures.events, c.requires.count)

pub returns-in_default-clause-most : goal.returns-in_default-clause-most
returns-in_default-clause-most g c = omega (arith, c.requires.near.early)

pub returns-clause-ticks : goal.returns-clause-ticks
returns-clause-ticks g c =
    subst (λ (n : ℕ). IfOk c.arrive.result (λ a. c.arrive.new.steps + n ≡ c.args.steps.now + a.kernel.events)) c.in-Ok.ensures.events c.arrive.ensures.ticks

pub returns-clause-most : goal.returns-clause-most
returns-clause-most g c = omega (arith, c.in-Ok.ensures.events, c.arrive.ensures.most)
