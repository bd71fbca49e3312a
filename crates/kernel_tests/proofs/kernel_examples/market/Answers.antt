use Rattle.std.proofs.Common.{◌≡◌, ◌∙◌, ℕ, List, length, map, ap, sym, subst, arith, lit≤, All}
use Rattle.std.proofs.lemmas.List.{length-map}
use Rattle.agent_shell.specs.declared.setting.Kind.{Kind}
use Rattle.agent_shell.specs.declared.setting.TraderSetting.{TraderSetting}
use Rattle.market_floor.specs.Opening.{IsOpening, IsTraderOf}
use Rattle.market_floor.specs.OpeningWorked.{market_of, trader}
use Rattle.kernel_tests.proofs.Testing.{kinds-admitted}
use Rattle.kernel_tests.proofs.kernel_examples.market.Goals as goal

pub returns-clause-opening : goal.returns-clause-opening
returns-clause-opening g c =
    let ks = c.args.kinds.now in
    let ts = c.in-Ok.settings.items in
    let close = c.args.close in
    let delay = c.args.delay in
    let is : ts ≡ map (λ (k : Kind × ℕ). trader k.0 k.1) ks = c.in-Ok.ensures in
    let long : length ts ≡ length ks = ap (λ (l : List TraderSetting). length l) is ∙ length-map ks (λ (k : Kind × ℕ). trader k.0 k.1) in
    let each = subst (λ (l : List TraderSetting). All (λ (s : TraderSetting). IsTraderOf (market_of close 100000 delay ts) s) l) (sym is)
    (kinds-admitted close 100000 delay ts ks c.requires.kinds c.requires.early c.requires.late) in
    let open' = c.markets_are_openings.ensures close 100000 delay ts c.requires.low c.requires.high (omega (arith, c.requires.delay)) (lit≤ tt) (lit≤ tt)
    (omega (arith, c.requires.some, long)) (omega (arith, c.requires.few, long)) each in
    subst IsOpening (sym c.in-Ok-opening.ensures) open'
