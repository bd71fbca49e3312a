-- What holds of the orders of each book.
use Rattle.std.specs.Prelude.{◌<◌, ◌≤◌, ◌^◌, List, [], ◌∷◌, length}
use Rattle.std.specs.List.{AllByRecursion}
use Rattle.price_time_book.specs.declared.resting.Resting.{Resting}

-- each reference is below all that follow it
abbrev pub IsRising : List Resting → Type 0
IsRising [] = Unit {0}
IsRising (x ∷ book) = AllByRecursion (λ (o : Resting). x.reference < o.reference) book × IsRising book

pub record IsOrderly (book : List Resting) : Type 0 where
  pub rising : IsRising book
  pub live : AllByRecursion (λ (o : Resting). 0 < o.left) book
  pub within : AllByRecursion (λ (o : Resting). o.left ≤ o.intended) book
  pub few : length book ≤ 2 ^ 32
