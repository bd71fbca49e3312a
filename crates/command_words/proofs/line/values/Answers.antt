use Rattle.std.proofs.Common.{rules, ◌≡◌, ◌∙◌, [], None, Some, ap, map, unwrap_or}
use Rattle.std.proofs.lemmas.Result.{IfOk-weaker}
use Rattle.clap.specs.Words.{all_of, found_of, rows_of}
use Rattle.clap.proofs.WalkLemmas.{raw_values-rows}
use Rattle.command_words.proofs.line.values.Goals as goal

pub returns-in-Some : goal.returns-in-Some
returns-in-Some c =
    let rows = rows_of (found_of c.args.matches.now) in
    let all : Some (map (λ s. s.now) c.in-Some.given.now) ≡ all_of c.args.id.now rows = c.in-Some.ensures ∙ raw_values-rows (found_of c.args.matches.now) c.args.id.now in
    let same : map (λ s. s.now) c.in-Some.given.now ≡ unwrap_or (all_of c.args.id.now rows) [] = ap (λ o. unwrap_or o []) all in
    IfOk-weaker c.collect.result _ _ (λ v h. ap (map (λ s. s.now)) h ∙ same) (search rules)

pub returns-in-None : goal.returns-in-None
returns-in-None c =
    let rows = rows_of (found_of c.args.matches.now) in
    let all : None ≡ all_of c.args.id.now rows = c.in-None.ensures ∙ raw_values-rows (found_of c.args.matches.now) c.args.id.now in
    rw c.new.ensures.items (ap (λ o. unwrap_or o []) all)
