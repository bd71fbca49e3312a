-- Where two lists of records part.
use Rattle.std.proofs.Common.{◌≡◌, ◌∙◌, ℕ, ◌+◌, Bool, true, false, List, [], ◌∷◌, ◌++◌, refl, ap}
use Rattle.std.specs.Prelude.{if◌then◌else◌}
use Rattle.market_types.specs.Told.{EventTold}
use Rattle.study_report.specs.Same.{same_event}
use Rattle.study_report.specs.Difference.{AreNumbered, difference_from, first_apart}
use Rattle.study_report.proofs.Sameness.{event-same}

abbrev pub part : Bool → ℕ → ℕ → ℕ
part same later n = if same then later else n

-- records that both lists begin with make no difference
pub apart-behind : (shared rs ss : List EventTold) → first_apart (shared ++ rs) (shared ++ ss) ≡ first_apart rs ss
apart-behind [] rs ss = refl
apart-behind (r ∷ shared) rs ss =
    ap (λ (same : Bool). part same (first_apart (shared ++ rs) (shared ++ ss)) r.number) (event-same r) ∙ apart-behind shared rs ss

parts : (r s : EventTold) (rs ss : List EventTold) (k : ℕ) (same : Bool) → r.number ≡ k → first_apart rs ss ≡ difference_from (k + 1) rs ss
    → part same (first_apart rs ss) r.number ≡ part same (difference_from (k + 1) rs ss) k
parts r s rs ss k true is later = later
parts r s rs ss k false is later = is

-- records that are numbered part at the least number at which they differ
pub apart-numbered : (k : ℕ) (rs ss : List EventTold) → AreNumbered k rs → AreNumbered k ss → first_apart rs ss ≡ difference_from k rs ss
apart-numbered k [] [] x y = refl
apart-numbered k [] (s ∷ ss) x y = y.0
apart-numbered k (r ∷ rs) [] x y = x.0
apart-numbered k (r ∷ rs) (s ∷ ss) x y = parts r s rs ss k (same_event r s) x.0 (apart-numbered (k + 1) rs ss x.1 y.1)
