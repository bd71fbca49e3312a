use Rattle.std.proofs.Common.{◌≡◌, map, take}
use Rattle.latency_model.proofs.rows.copied_rows.Given as goal

abbrev pub invariant-loop-row : goal.invariant-loop-row
invariant-loop-row g l = map (λ row. row.items) l.copy.items ≡ map (λ row. row.items) (take l.row-index l.rows)
