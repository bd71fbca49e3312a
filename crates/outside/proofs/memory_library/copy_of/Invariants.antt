use Rattle.std.proofs.Common.{◌≡◌, drop}
use Rattle.outside.specs.Files.{held, files_in}
use Rattle.outside.proofs.memory_library.copy_of.Given as goal

abbrev pub invariant-loop-file : goal.invariant-loop-file
invariant-loop-file l = held (files_in (drop l.file-index l.files)) l.name ≡ held (files_in l.files) l.name
