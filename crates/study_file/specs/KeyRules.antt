-- A key of the code as a key of the definitions.
use Rattle.std.specs.Prelude.{map}
use Rattle.study_file.specs.declared.keys.Key.{Key}
use Rattle.study_file.specs.Keys.{KeyRule}

abbrev pub rule_of : Key → KeyRule
rule_of k = record { name = k.name.now; kind = k.kind; needed = k.needed; with = map (λ w. w.now) k.with.now }
