use Rattle.std.proofs.Common.{◌≡◌, ◌<◌, [], List, length, map, sym, ap, ◌∙◌, get_or, arith}
use Rattle.std.specs.Prelude.{slice_set}
use Rattle.std.specs.Vec.{with_item}
use Rattle.std.proofs.lemmas.List.{get_or-map, map-set}
use Rattle.latency_model.proofs.rows.write.Goals as goal

pub returns : goal.returns
returns g c =
    let rows = c.args.rows.now.items in
    let within : c.args.row < length rows = omega (arith, c.args.rows.now.ok.0) in
    let seen : get_or (map (λ row. row.items) rows) c.args.row [] ≡ c.index_mut.result.now.items = get_or-map (λ row. row.items) rows c.args.row c.index_mut.result.now [] within ∙ ap (λ row. row.items) (sym c.index_mut.ensures.value) in
    map-set (λ row. row.items) rows c.args.row (with_item c.index_mut.result.now c.args.column c.args.value) ∙ ap (λ (items : List g.row.T.Denot). slice_set (map (λ row. row.items) rows) c.args.row (slice_set items c.args.column c.args.value)) (sym seen)
