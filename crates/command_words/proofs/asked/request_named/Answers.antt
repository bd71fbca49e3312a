use Rattle.std.proofs.Common.{true, false, ◌≡◌, ◌∙◌, map, codes, bytes_eq, rules, tests}
use Rattle.std.proofs.lemmas.Result.{IfOk-weaker}
use Rattle.command_words.proofs.Names.{none_is, rewind_is}
use Rattle.command_words.proofs.asked.request_named.Goals as goal

pub returns-in-rewind : goal.returns-in-rewind
returns-in-rewind c =
    let run : bytes_eq c.args.name.now (codes "run") ≡ false = search (tests, rules) in
    let table : bytes_eq c.args.name.now (codes "table") ≡ false = search (tests, rules) in
    let check : bytes_eq c.args.name.now (codes "check") ≡ false = search (tests, rules) in
    let rewind : bytes_eq c.args.name.now (codes "rewind") ≡ true = search (tests, rules) in
    let same = rewind_is c.args.name.now c.args.study.now (map (λ word. word.now) c.args.more.now) c.args.places run table check rewind in
    IfOk-weaker c.rewind.result _ _ (λ request h. h ∙ same) c.rewind.ensures

pub returns-in_default : goal.returns-in_default
returns-in_default c =
    let run : bytes_eq c.args.name.now (codes "run") ≡ false = search (tests, rules) in
    let table : bytes_eq c.args.name.now (codes "table") ≡ false = search (tests, rules) in
    let check : bytes_eq c.args.name.now (codes "check") ≡ false = search (tests, rules) in
    let rewind : bytes_eq c.args.name.now (codes "rewind") ≡ false = search (tests, rules) in
    let big : bytes_eq c.args.name.now (codes "big") ≡ false = search (tests, rules) in
    let cross : bytes_eq c.args.name.now (codes "cross") ≡ false = search (tests, rules) in
    let audit : bytes_eq c.args.name.now (codes "audit") ≡ false = search (tests, rules) in
    let session : bytes_eq c.args.name.now (codes "session") ≡ false = search (tests, rules) in
    none_is c.args.name.now c.args.study.now (map (λ word. word.now) c.args.more.now) c.args.places run table check rewind big cross audit session

pub returns-in-audit : goal.returns-in-audit
returns-in-audit c = search (tests, rules)
