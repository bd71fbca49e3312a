use Rattle.std.proofs.Common.{◌≡◌, List, ℕ, subst}
use Rattle.std.specs.Result.{IfOk}
use Rattle.std.specs.String.{string_bytes}
use Rattle.study_file.proofs.LargeKeys.{key-written}
use Rattle.study_file.proofs.text.key.Goals as goal

pub returns : goal.returns
returns c =
    subst (λ (bytes : List ℕ). IfOk c.format.result (λ text. string_bytes text ≡ bytes)) (key-written c.args.number)
    (rw c.in_radix.ensures at (rw c.laid_out.ensures at c.format.ensures.ok))
