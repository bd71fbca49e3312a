use Rattle.std.proofs.Common.{◌≡◌, ◌<◌, ◌+◌, ◌*◌, ◌^◌, ◌∷◌, ℕ, true, sym, subst, arith, rules}
use Rattle.std.specs.Int.{is_in_range}
use Rattle.std.specs.List.{list_all}
use Rattle.study_market.specs.Records.{number_after}
use Rattle.study_market.proofs.Digits.{step, step-digits}
use Rattle.reopening_desk.proofs.number.+number_after.Goals as goal

pub overflow_mul-number : goal.overflow_mul-number
overflow_mul-number t c =
    let more = step c.args.number c.in-Some.digit.now c.args.text.now c.in-Some.rest.now c.in-Some.ensures.cases.0 c.requires.small in
    let fits : c.args.number * 10 < 10 ^ 14 = omega (arith, more.0) in
    search (rules, fits)

pub overflow_add-number : goal.overflow_add-number
overflow_add-number t c =
    let more = step c.args.number c.in-Some.digit.now c.args.text.now c.in-Some.rest.now c.in-Some.ensures.cases.0 c.requires.small in
    let fits : c.args.number * 10 + c.from.result < 10 ^ 14 = omega (arith, more.0, c.from.ensures) in
    search (rules, fits)

pub number_after-requires : goal.number_after-requires
number_after-requires t c =
    let text : c.args.text.now ≡ c.in-Some.digit.now ∷ c.in-Some.rest.now = c.in-Some.ensures.cases.0 in
    let more = step c.args.number c.in-Some.digit.now c.args.text.now c.in-Some.rest.now text c.requires.small in
    let digits : list_all (is_in_range 48 57) c.in-Some.rest.now ≡ true = step-digits c.in-Some.digit.now c.args.text.now c.in-Some.rest.now text c.requires.digits in
    let small : number_after (c.args.number * 10 + c.from.result) c.in-Some.rest.now < 10 ^ 14
    = subst (λ (d : ℕ). number_after (c.args.number * 10 + d) c.in-Some.rest.now < 10 ^ 14) (sym c.from.ensures) more.1 in
    search (rules, text, digits, small)
