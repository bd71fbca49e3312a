use Rattle.std.proofs.Common.{rules, inl, inr}
use Rattle.std.specs.Str.{is_utf8}
use Rattle.std.proofs.lemmas.Bool.{cases_Bool}
use Rattle.std.proofs.lemmas.Str.{IsUtf8-from_is_utf8, is_utf8-from_IsUtf8}
use Rattle.toml.specs.Errors.{IsMemory}
use Rattle.study_file.proofs.raw.read_tables.Goals as goal

pub returns-in-Ok-clause-table : goal.returns-in-Ok-clause-table
returns-in-Ok-clause-table c = rw (is_utf8-from_IsUtf8 _ c.in-Ok.ensures.ok.0) c.in-Ok.ensures.ok.1

pub returns-else-is_memory-clause-refused : goal.returns-else-is_memory-clause-refused
returns-else-is_memory-clause-refused c _ =
    let other : ¬ (IsMemory c.in-Err.e) = search rules in
    elim (cases_Bool (is_utf8 c.args.bytes.now)) [
      | inl text ↦ rw text (c.in-Err.ensures.refused other (IsUtf8-from_is_utf8 _ text))
      | inr bytes ↦ rw bytes
    ]
