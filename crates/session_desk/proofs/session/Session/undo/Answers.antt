use Rattle.std.proofs.Common.{◌++◌, ◌<◌, Bool, false, List, Option, length, ap, ◌∙◌, arith, rules}
use Rattle.std.specs.Prelude.{option_to_list}
use Rattle.std.proofs.lemmas.List.{length_push}
use Rattle.branch_tree.specs.declared.branch.Branch.{Branch}
use Rattle.session_desk.specs.Session.{SessionTold}
use Rattle.session_desk.proofs.Stands.{undo-stands}
use Rattle.session_desk.proofs.session.Session.undo.Goals as goal

pub invariant_of-self : goal.invariant_of-self
invariant_of-self c =
    let s : SessionTold = record { course = c.self.inside.course.value; branches = c.self.inside.branches.items; own = c.self.inside.own.items } in
    let bs = c.pop-2.new.self.items in
    let os = c.pop.new.self.items in
    let many : 1 < length s.branches = search rules in
    let here = c.pop-2.ensures.items ∙ ap (λ (r : Option Branch). bs ++ option_to_list r) c.in-Some.is in
    let own = c.pop.ensures.items ∙ ap (λ (r : Option Bool). os ++ option_to_list r) (c.pop.ensures.value false (omega (arith, many, c.self.invariant.count, c.self.inside.own.ok.0))) in
    undo-stands s bs c.in-Some.branch os _ here own (omega (arith, many, ap (λ (xs : List Branch). length xs) here, length_push bs c.in-Some.branch)) c.self.invariant
