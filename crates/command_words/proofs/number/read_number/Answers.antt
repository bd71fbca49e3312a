use Rattle.std.proofs.Common.{◌<◌, ◌^◌, true, ◌≡◌, ◌∙◌, Some, None, Ok, if◌then◌else◌, ap, sym, arith, rules}
use Rattle.std.specs.Result.{result_ok}
use Rattle.std.specs.Str.Parse.{digits_value}
use Rattle.std.proofs.lemmas.Str.Parse.{digits_value_short, parse_gives}
use Rattle.command_words.specs.Numbers.{is_digits}
use Rattle.command_words.proofs.Numbers.{numerals, digits_parts}
use Rattle.command_words.proofs.number.read_number.Goals as goal

pub returns-then-is_digits : goal.returns-then-is_digits
returns-then-is_digits c =
    let text = c.args.text.now in
    let test : is_digits c.args.most c.args.text.now ≡ true = search rules in
    let parts = digits_parts c.args.most c.args.text.now test in
    let few : c.args.most < 10 = omega arith in
    let short : digits_value 10 c.args.text.now < 10 ^ 9 = digits_value_short numerals c.args.text.now 9 parts.2 (omega (arith, parts.1)) in
    let fits : digits_value 10 c.args.text.now < 2 ^ 32 = omega arith in
    let parsed : c.parse.result ≡ Ok (digits_value 10 c.args.text.now) = parse_gives numerals 32 c.args.text.now c.parse.result c.parse.ensures.value.0 parts.2 parts.0 fits in
    c.ok.ensures.value ∙ ap result_ok parsed ∙ sym (λ i. if test i then Some (digits_value 10 text) else None)
