use Rattle.std.proofs.Common.{◌≤◌, All, ap, ◌∙◌, subst, sym}
use Rattle.std.proofs.lemmas.List.Elements.{All-nil}
use Rattle.market_types.specs.declared.feed.Feed.{Feed}
use Rattle.market_types.specs.Room.{Room}
use Rattle.market_rules.specs.Changes.{dated_by}
use Rattle.market_floor.proofs.Rulings.{not-due, ruled-none, untold-none}
use Rattle.kernel_core.proofs.telling.rule_into.Goals as goal

pub returns-then-not-is_due-clause-floor : goal.returns-then-not-is_due-clause-floor
returns-then-not-is_due-clause-floor c =
    let o = c.args.o.now in
    let none : dated_by o.dated c.args.time ≤ c.args.applied = not-due c.args.applied (dated_by o.dated c.args.time) c.args.is_due c.requires.due c.if-not-is_due.true in
    ruled-none o c.args.applied c.args.time c.args.floor.now none

pub returns-then-not-is_due-clause-feed : goal.returns-then-not-is_due-clause-feed
returns-then-not-is_due-clause-feed c =
    let o = c.args.o.now in
    let none : dated_by o.dated c.args.time ≤ c.args.applied = not-due c.args.applied (dated_by o.dated c.args.time) c.args.is_due c.requires.due c.if-not-is_due.true in
    ap (λ (l : Room Feed). l.list) c.clear.ensures ∙ untold-none o c.args.applied c.args.time c.args.floor.now none

pub returns-then-not-is_due-clause-times : goal.returns-then-not-is_due-clause-times
returns-then-not-is_due-clause-times c =
    let P = λ (f : Feed). f.time ≤ c.args.time in
    subst (λ (l : Room Feed). All P l.list) (sym c.clear.ensures) (All-nil P)
