use Rattle.std.proofs.Common.{◌≡◌, ◌+◌, ◌∷◌, List, None, All, map, subst, rules}
use Rattle.toml.specs.View.{view}
use Rattle.toml.specs.declared.value.Value.{Value}
use Rattle.study_rules.specs.BranchRules.{first_edit, forms_broken}
use Rattle.study_rules.specs.Branches.{branch_of, IsHeaded}
use Rattle.study_rules.proofs.Walks.{first-held}
use Rattle.study_rules.proofs.Reading.{branches-said, headed-first, headed-rest}
use Rattle.study_rules.proofs.made.+push_branches.Goals as goal

pub read_branch-requires-clause-headed : goal.read_branch-requires-clause-headed
read_branch-requires-clause-headed t c = headed-first c.args.entries.now c.in-Some.entry.now c.in-Some.rest.now c.in-Some.ensures.cases.0 c.requires.headed

pub push_branches-requires : goal.push_branches-requires
push_branches-requires t c =
    let same : c.args.entries.now ≡ c.in-Some.entry.now ∷ c.in-Some.rest.now = c.in-Some.ensures.cases.0 in
    let headed : All IsHeaded (map view c.in-Some.rest.now) = headed-rest c.args.entries.now c.in-Some.entry.now c.in-Some.rest.now same c.requires.headed in
    let forms : first_edit forms_broken (c.args.place + 16) (map view c.in-Some.rest.now) ≡ None
    = (first-held forms_broken c.args.place (view c.in-Some.entry.now) (map view c.in-Some.rest.now)
    (subst (λ (vs : List Value). first_edit forms_broken c.args.place (map view vs) ≡ None) same c.requires.forms)).1 in
    search (rules, same, headed, forms)

pub returns-in_ok-push-in-Ok-clause-said : goal.returns-in_ok-push-in-Ok-clause-said
returns-in_ok-push-in-Ok-clause-said t c =
    let said = rw c.in-Ok.is at c.in_ok-branch-in-Some.ensures.said in
    branches-said (branch_of c.args.scope.now (map view c.args.branches.now)) c.args.entries.now c.in-Some.entry.now c.in-Some.rest.now c.in-Ok.branch
    c.args.list.now.items c.push.new.self.items c.push_branches.new.list.items c.push_branches.result c.in-Some.ensures.cases.0 said
    c.in_ok-push-in-Ok.ensures.items c.push_branches.ensures.said
