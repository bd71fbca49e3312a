use Rattle.std.proofs.Common.{◌≡◌, true, length, subst, sym, ap, rules, arith}
use Rattle.shelf_core.specs.Possible.{possible}
use Rattle.shelf_core.specs.Orderly.{Orderly}
use Rattle.shelf_core.specs.Law.{Keeps}
use Rattle.shelf_core.proofs.Steps.{after_orderly}
use Rattle.shelf_core.proofs.Kept.{after_keeps}
use Rattle.shelf_core.proofs.Grown.{after_seats}
use Rattle.shelf_core.specs.After.{after}
use Rattle.shelf_core.specs.declared.system.System.{System}
use Rattle.shelf_core.proofs.run.step.Goals as goal

pub returns-clause-stays_orderly : goal.returns-clause-stays_orderly
returns-clause-stays_orderly c =
    let can : possible c.args.s.now c.args.e.now ≡ true = search rules in
    subst Orderly (sym c.in_ok-apply.ensures.after) (after_orderly c.args.s.now c.args.e.now c.requires.orderly can)

pub returns-clause-keeps : goal.returns-clause-keeps
returns-clause-keeps c =
    let can : possible c.args.s.now c.args.e.now ≡ true = search rules in
    subst (Keeps c.args.s.now) (sym c.in_ok-apply.ensures.after) (after_keeps c.args.s.now c.args.e.now c.requires.orderly can)

pub returns-clause-one_more : goal.returns-clause-one_more
returns-clause-one_more c =
    let long : length c.apply.new.self.views ≡ length (after c.args.s.now c.args.e.now).views = ap (λ (t : System). length t.views) c.in_ok-apply.ensures.after in
    let most = after_seats c.args.s.now c.args.e.now in
    omega arith
