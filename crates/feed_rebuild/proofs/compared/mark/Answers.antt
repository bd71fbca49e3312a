use Rattle.std.proofs.Common.{◌∙◌, true, set, List, Bool, ap}
use Rattle.feed_rebuild.proofs.Marking.{mark-none, mark-one}
use Rattle.feed_rebuild.proofs.compared.mark.Goals as goal

pub returns-in_default : goal.returns-in_default
returns-in_default c = λ live e. e ∙ mark-none live c.args.order.now c.args.entries.now c.in_default.ensures.none

pub returns : goal.returns
returns c = λ live e. c.mark_at.ensures ∙ ap (λ (v : List Bool). set v c.in-Some.at true) e ∙ mark-one 0 c.in-Some.at live c.args.order.now c.args.entries.now c.requires.rising c.in-Some.ensures.within c.in-Some.ensures.same
