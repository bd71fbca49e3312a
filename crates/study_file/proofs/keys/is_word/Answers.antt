use Rattle.std.proofs.Common.{◌≡◌, ◌∙◌, Bor, List, ℕ, bytes_eq, rules, tests}
use Rattle.std.proofs.lemmas.Iterator.{YieldsList-from_slice}
use Rattle.std.proofs.lemmas.Iterator.Search.{any_from_yields_List}
use Rattle.std.specs.List.{list_any}
use Rattle.study_file.proofs.Lists.{listed-now}
use Rattle.study_file.proofs.keys.is_word.Goals as goal

pub returns : goal.returns
returns c =
    let listed : c.any.result ≡ list_any (λ (n : Bor (List ℕ)). bytes_eq n.now c.args.word.now) c.args.words.now
    = any_from_yields_List (λ (n : Bor (List ℕ)). bytes_eq n.now c.args.word.now) _ _ c.any.result c.any.ensures.ran (YieldsList-from_slice c.args.words.now cc) (λ x b q k. search (rules, tests)) in
    listed ∙ listed-now c.args.words.now c.args.word.now
