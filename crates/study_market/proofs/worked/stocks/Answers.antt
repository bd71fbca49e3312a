use Rattle.std.proofs.Common.{refl}
use Rattle.toml.proofs.OnLiterals.{toml_on_literals}
use Rattle.study_market.proofs.worked.stocks.Goals as goal

pub returns : goal.returns
unfolding toml_on_literals
returns c = record { accepted = refl; no_stock = refl; rows_have_no_start = refl; long_symbol = refl; no_bands = refl; uneven_bands = refl; fee_too_great = refl; no_price = refl; one_step_more = refl; series_not_used = refl }
