use Rattle.std.proofs.Common.{◌∙◌, sym}
use Rattle.feed_rebuild.specs.Entries.{vacant}
use Rattle.feed_rebuild.proofs.Places.{absent-held, held-there, not_held-there}
use Rattle.feed_rebuild.proofs.entries.held_at.Goals as goal

pub returns-in_default-clause-none : goal.returns-in_default-clause-none
returns-in_default-clause-none c = absent-held c.args.locate c.args.reference c.args.entries.now c.in_default.ensures.absent

pub returns-then-not-is_held_at-clause-none : goal.returns-then-not-is_held_at-clause-none
returns-then-not-is_held_at-clause-none c =
    not_held-there c.args.locate c.args.reference c.in-Some.at c.args.entries.now c.requires c.in-Some.ensures.within (c.in-Some.ensures.found vacant) (sym c.is_held_at.ensures ∙ c.if-not-is_held_at.true)

pub returns-clause-some : goal.returns-clause-some
returns-clause-some c =
    held-there c.args.locate c.args.reference c.in-Some.at c.args.entries.now c.in-Some.ensures.within (c.in-Some.ensures.found vacant) (sym c.is_held_at.ensures ∙ c.if-not-is_held_at.false)
