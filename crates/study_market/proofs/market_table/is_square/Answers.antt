use Rattle.std.proofs.Common.{sym, ap, ◌∙◌, ◌&&◌, ◌==◌, length, map}
use Rattle.std.specs.List.{list_all}
use Rattle.toml.specs.View.{view}
use Rattle.study_file.specs.Values.{list_in}
use Rattle.study_file.proofs.KeyLists.{length-mapped, all-map}
use Rattle.study_market.proofs.market_table.is_square.Goals as goal

pub returns : goal.returns
returns c =
    c.are_square.ensures
    ∙ ap (λ b. length c.args.rows.now == c.args.size && b) (sym (all-map view (λ d. length (list_in d) == c.args.size) c.args.rows.now))
    ∙ ap (λ n. n == c.args.size && list_all (λ d. length (list_in d) == c.args.size) (map view c.args.rows.now)) (sym (length-mapped view c.args.rows.now))
