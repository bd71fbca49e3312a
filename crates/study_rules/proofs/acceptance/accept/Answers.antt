use Rattle.std.proofs.Common.{◌≡◌, ◌∙◌, ap, sym, Bor, List, ℕ, Option, None, Ok, Err, Some, option_map}
use Rattle.toml.specs.View.{table_view}
use Rattle.study_market.specs.declared.early_refusal.ReadError.TheVariants as read
use Rattle.study_market.specs.declared.early_refusal.Refusal.{Refusal}
use Rattle.study_market.specs.FirstBroken.{first_of_rules}
use Rattle.study_rules.specs.FirstBroken.{branch_rules}
use Rattle.study_rules.specs.declared.study.AcceptError.{AcceptError}
use Rattle.study_rules.specs.declared.study.AcceptError.TheVariants.{Refused}
use Rattle.study_rules.specs.declared.study.Study.{Study}
use Rattle.study_rules.specs.Accepted.{study_of, study_told, told_with}
use Rattle.study_rules.proofs.Accepting.{accepted_told, refused_told, branches_refused, if-err}
use Rattle.study_rules.proofs.acceptance.accept.Goals as goal
use Rattle.study_rules.proofs.Single.{if-ok}

pub accept_branches-requires : goal.accept_branches-requires
accept_branches-requires c =
    let series : Option (List ℕ) = option_map (λ (text : Bor (List ℕ)). text.now) c.args.series in
    let said = c.in-Ok.ensures.read in
    record { tables = said.tables; accepted = record { series = series; accepted = said.accepted; rows = said.rows }; said = said.said }

pub returns-in-Ok-clause-accepted : goal.returns-in-Ok-clause-accepted
returns-in-Ok-clause-accepted c =
    let t = table_view c.args.raw.now.table in
    let series : Option (List ℕ) = option_map (λ (text : Bor (List ℕ)). text.now) c.args.series in
    let said = c.in-Ok.ensures.read in
    if-ok c.accept_branches.result (λ (s : Study). (first_of_rules branch_rules t ≡ None) × (study_told s ≡ told_with t c.in-Ok.opening)) (λ (s : Study). study_of t series ≡ Ok (study_told s))
    (λ s told. accepted_told t series said.tables said.accepted told.0 said.rows ∙ ap Ok (sym (told.1 ∙ ap (told_with t) said.said))) c.accept_branches.ensures.accepted

pub returns-in-Ok-clause-refused : goal.returns-in-Ok-clause-refused
returns-in-Ok-clause-refused c =
    let t = table_view c.args.raw.now.table in
    let series : Option (List ℕ) = option_map (λ (text : Bor (List ℕ)). text.now) c.args.series in
    if-err c.accept_branches.result (λ (e : AcceptError). (r : Refusal) → e ≡ Refused r → first_of_rules branch_rules t ≡ Some r) (λ (e : AcceptError). (r : Refusal) → e ≡ Refused r → study_of t series ≡ Err r)
    (λ e told r same. branches_refused t series r c.in-Ok.ensures.read.accepted (told r same)) c.accept_branches.ensures.refused

pub returns-in-Err-Refused-clause-refused : goal.returns-in-Err-Refused-clause-refused
returns-in-Err-Refused-clause-refused c r e =
    let same : c.in-Err-Refused.refusal ≡ r = cc e in
    refused_told (table_view c.args.raw.now.table) (option_map (λ (text : Bor (List ℕ)). text.now) c.args.series) r
    (c.in-Err-Refused.ensures.refused r (c.in-Err-Refused.field-0-is ∙ ap read.Refused same))
