-- Runs to a stop, by the kinds of stops.
use Rattle.std.proofs.Common.{◌≡◌, ℕ, min, sym, ap, ◌∙◌}
use Rattle.branch_tree.specs.declared.stop.Stop.{Stop}
use Rattle.branch_tree.specs.declared.stop.Stop.TheVariants.{At, When}
use Rattle.market_floor.specs.declared.opening.Opening.{Opening}
use Rattle.kernel_core.specs.Until.{Run, until}
use Rattle.kernel_core.specs.Due.{until_time}
use Rattle.kernel_copy.specs.UntilStop.{until_part}

pub part-at : (o : Opening) (stop : Stop) (events most n : ℕ) (r : Run) → stop ≡ At events → n ≡ min events most → until o n r ≡ until_part o stop most r
part-at o stop events most n r is least = ap (λ (m : ℕ). until o m r) least ∙ sym (ap (λ (s : Stop). until_part o s most r) is)

pub part-when : (o : Opening) (stop : Stop) (time most : ℕ) (r : Run) → stop ≡ When time → until_time o time most r ≡ until_part o stop most r
part-when o stop time most r is = sym (ap (λ (s : Stop). until_part o s most r) is)
