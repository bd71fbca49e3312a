-- A probe of the tests that adds one number at each record.
use Rattle.std.specs.Prelude.{ℤ, pos, [], ◌∷◌}
use Rattle.probe_desk.specs.Probe.{Meaning}
use Rattle.probe_desk.specs.Columns.{summed, total_of}

-- this number for each record, in a sum that stays at its type's ends
abbrev pub adding : ℤ → Meaning
adding term = record { settings = term ∷ []; opening = pos 0 ∷ []; after = λ numbers r. summed numbers term; value = total_of }
