use Rattle.std.proofs.Common.{◌∙◌, sym, rules, bytes_eq, string_bytes, false, ◌≡◌}
use Rattle.outside.proofs.Held.{held-passed}
use Rattle.outside.proofs.memory_library.copy_of.Goals as goal

pub loop-file-preserved : goal.loop-file-preserved
loop-file-preserved c =
    let other : bytes_eq (string_bytes c.loop-file-item.result.0) c.args.name.now ≡ false = search rules in
    sym (held-passed c.args.files.now _ _ _ (search rules) c.loop-file-item.is other) ∙ c.loop-file.invariant
