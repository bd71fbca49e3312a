use Rattle.std.proofs.Common.{◌≡◌, ◌∷◌, ◌++◌, [], List, refl, sym, ap, subst, ◌∙◌, All}
use Rattle.std.proofs.lemmas.List.Elements.{All-push}
use Rattle.market_types.specs.Room.{Room}
use Rattle.market_types.specs.Timely.{IsTimely}
use Rattle.market_types.specs.Told.{EntryTold, EditTold, edit}
use Rattle.kernel_core.specs.State.{State}
use Rattle.kernel_core.specs.Edited.{edited_one, mark_of}
use Rattle.kernel_core.proofs.Possible.{edit-edited}
use Rattle.kernel_core.proofs.kernel.Kernel.apply.Goals as goal

pub returns-clause-made : goal.returns-clause-made
unfolding edited_one
returns-clause-made c =
    let s = c.args.self.now in
    let e = c.args.edit.now in
    let xs = c.args.trace.now.list in
    let kept = c.self.view_is ∙ c.in-Ok-change.ensures.state in
    let told : EditTold = record {
      events = c.self.inside.events;
      time = c.self.inside.time;
      branch = c.args.branch;
      index = c.args.index;
      letter = c.letter.result;
      feed = c.in-Ok-change.feed.list;
    } in
    let mark : told ≡ mark_of c.args.branch c.args.index e s = rw (ap (λ (q : State). q.events) kept, ap (λ (q : State). q.time) kept, c.letter.ensures, c.in-Ok-change.ensures.feed) refl in
    let entries : c.put.new.self.list ≡ xs ++ edit (mark_of c.args.branch c.args.index e s) ∷ [] =
    ap (λ (q : Room EntryTold). q.list) c.put.ensures ∙ ap (λ (l : List EntryTold). l ++ edit told ∷ []) c.in-Ok.ensures.list ∙ ap (λ (t : EditTold). xs ++ edit t ∷ []) mark in
    rw (c.in-Ok-change.ensures.state, entries) refl

pub returns-clause-timely : goal.returns-clause-timely
returns-clause-timely c before =
    let xs = c.args.trace.now.list in
    let told : EditTold = record {
      events = c.self.inside.events;
      time = c.self.inside.time;
      branch = c.args.branch;
      index = c.args.index;
      letter = c.letter.result;
      feed = c.in-Ok-change.feed.list;
    } in
    let entries : c.put.new.self.list ≡ xs ++ edit told ∷ [] = ap (λ (q : Room EntryTold). q.list) c.put.ensures ∙ ap (λ (l : List EntryTold). l ++ edit told ∷ []) c.in-Ok.ensures.list in
    subst (λ (l : List EntryTold). All IsTimely l) (sym entries) (All-push IsTimely xs (edit told) before c.in-Ok-change.ensures.timely)

pub returns-clause-editable : goal.returns-clause-editable
returns-clause-editable c e h =
    let s = c.args.self.now in
    let is = ap (λ (q : State). q.floor) c.in-Ok-change.ensures.state in
    edit-edited c.parameters_stay_those_of_the_kind.ensures c.args.o.now s c.change.new.self c.args.edit.now e c.requires.fits (c.change.ensures.fitting c.args.o.now c.requires.fits) is h
