use Rattle.std.proofs.Common.{List, ◌∷◌, [], All, lit≤, lit<, sym, subst}
use Rattle.std.proofs.lemmas.List.Elements.{All-cons, All-nil}
use Rattle.agent_shell.specs.declared.setting.TraderSetting.{TraderSetting}
use Rattle.market_floor.specs.Opening.{IsOpening, IsTraderOf}
use Rattle.market_floor.specs.OpeningWorked.{market_of, watcher}
use Rattle.branch_tests.proofs.branch_tables_tests.busy_market.Goals as goal

abbrev three : List TraderSetting
three = watcher 1000 ∷ watcher 1000 ∷ watcher 1003 ∷ []

early : IsTraderOf (market_of 2000 100 3 three) (watcher 1000)
early = record {
  setting = record { kind = tt; every = record { not_below = lit≤ tt; not_above = lit≤ tt }; delay = lit≤ tt };
  group = lit< tt;
  stock = lit< tt;
  start = lit≤ tt;
  first = lit≤ tt;
  wobble = lit≤ tt;
}

late : IsTraderOf (market_of 2000 100 3 three) (watcher 1003)
late = record {
  setting = record { kind = tt; every = record { not_below = lit≤ tt; not_above = lit≤ tt }; delay = lit≤ tt };
  group = lit< tt;
  stock = lit< tt;
  start = lit≤ tt;
  first = lit≤ tt;
  wobble = lit≤ tt;
}

all : All (λ (s : TraderSetting). IsTraderOf (market_of 2000 100 3 three) s) three
all =
    let P : TraderSetting → Type 0 = λ s. IsTraderOf (market_of 2000 100 3 three) s in
    All-cons P (watcher 1000) (watcher 1000 ∷ watcher 1003 ∷ []) early
    (All-cons P (watcher 1000) (watcher 1003 ∷ []) early (All-cons P (watcher 1003) [] late (All-nil P)))

pub returns-clause-opening : goal.returns-clause-opening
returns-clause-opening g c =
    let made : IsOpening (market_of 2000 100 3 three) = c.markets_are_openings.ensures 2000 100 3 three (lit≤ tt) (lit≤ tt) (lit≤ tt) (lit≤ tt) (lit≤ tt) (lit≤ tt) (lit≤ tt) all in
    subst IsOpening (sym c.in-Ok.ensures) (subst (λ (ts : List TraderSetting). IsOpening (market_of 2000 100 3 ts)) (sym c.three-traders.ensures) made)
