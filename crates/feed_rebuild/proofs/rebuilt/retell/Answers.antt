use Rattle.std.proofs.Common.{◌+◌, ◌<◌, Ok, List, Result, ℕ, length, get_or, drop, sym, ap, ◌∙◌, subst, arith}
use Rattle.std.proofs.lemmas.List.{at_drop_more}
use Rattle.market_types.specs.declared.feed.Feed.{Feed}
use Rattle.market_types.specs.declared.feed.What.TheVariants as what
use Rattle.feed_rebuild.specs.Entries.{IsMisfitOf}
use Rattle.feed_rebuild.specs.Fold.{fold, told_by, told_what, Told}
use Rattle.feed_rebuild.proofs.Places.{ended}
use Rattle.feed_rebuild.proofs.rebuilt.retell.Goals as goal

pub loop-message-init : goal.loop-message-init
unfolding fold
loop-message-init c = record {
  told = ap (λ (t : Told). told_by (Ok t) c.args.feed.now.list) c.in_ok-told.ensures.told;
  count = c.in_ok-told.ensures.count;
}

pub returns-in-Err-clause-misfit : goal.returns-in-Err-clause-misfit
returns-in-Err-clause-misfit c =
    let d : Feed = record { locate = 0; tracking = 0; time = 0; what = what.System 0 } in
    let feed = c.args.feed.now.list in
    let i = c.loop-message.message-index in
    let same = c.as_slice-message-items.ensures in
    let told = told_what c.loop-message.told (get_or feed i d).locate (get_or feed i d).what in
    let misfit = subst (λ (v : List Feed). IsMisfitOf (told_what c.loop-message.told (get_or v i d).locate (get_or v i d).what) c.in-Err.error) same c.in-Err.ensures.misfit in
    let within : i < length feed = omega (arith, ap (λ (v : List Feed). length v) same) in
    let all = sym (at_drop_more (told_by (Ok c.loop-message.told)) feed i d within) ∙ c.loop-message.invariant.told in
    subst (λ (r : Result Told ℕ). IsMisfitOf r c.in-Err.error) all (ended told (drop (i + 1) feed) c.in-Err.error misfit)
