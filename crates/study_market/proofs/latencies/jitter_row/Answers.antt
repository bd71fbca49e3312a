use Rattle.std.proofs.Common.{◌≡◌, All, true, subst, sym, pos, List}
use Rattle.toml.specs.Data.{Data}
use Rattle.study_file.specs.Values.{number_in, is_between}
use Rattle.study_market.proofs.latencies.jitter_row.Goals as goal

pub jitter_numbers-requires : goal.jitter_numbers-requires
jitter_numbers-requires c =
    subst (λ (ds : List Data). All (λ (x : Data). is_between (pos 0) (pos 4294967295) (number_in x) ≡ true) ds) (sym c.list_in.ensures) c.requires
