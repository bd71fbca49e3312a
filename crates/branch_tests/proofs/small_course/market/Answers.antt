use Rattle.std.proofs.Common.{List, ◌∷◌, [], All, lit≤, lit<, sym, subst}
use Rattle.std.proofs.lemmas.List.Elements.{All-cons, All-nil}
use Rattle.agent_shell.specs.declared.setting.TraderSetting.{TraderSetting}
use Rattle.market_floor.specs.Opening.{IsOpening, IsTraderOf}
use Rattle.market_floor.specs.OpeningWorked.{market_of, watcher}
use Rattle.branch_tests.proofs.small_course.market.Goals as goal

abbrev two : List TraderSetting
two = watcher 1000 ∷ watcher 1000 ∷ []

one : (ts : List TraderSetting) → IsTraderOf (market_of 2000 100 0 ts) (watcher 1000)
one ts = record {
  setting = record { kind = tt; every = record { not_below = lit≤ tt; not_above = lit≤ tt }; delay = lit≤ tt };
  group = lit< tt;
  stock = lit< tt;
  start = lit≤ tt;
  first = lit≤ tt;
  wobble = lit≤ tt;
}

both : All (λ (s : TraderSetting). IsTraderOf (market_of 2000 100 0 two) s) two
both =
    let P : TraderSetting → Type 0 = λ s. IsTraderOf (market_of 2000 100 0 two) s in
    All-cons P (watcher 1000) (watcher 1000 ∷ []) (one two) (All-cons P (watcher 1000) [] (one two) (All-nil P))

pub returns-clause-opening : goal.returns-clause-opening
returns-clause-opening g c =
    let made : IsOpening (market_of 2000 100 0 two) = c.markets_are_openings.ensures 2000 100 0 two (lit≤ tt) (lit≤ tt) (lit≤ tt) (lit≤ tt) (lit≤ tt) (lit≤ tt) (lit≤ tt) both in
    subst IsOpening (sym c.in-Ok.ensures) (subst (λ (ts : List TraderSetting). IsOpening (market_of 2000 100 0 ts)) (sym c.traders-traders.ensures) made)
