-- One level after another is quoted.
use Rattle.std.proofs.Common.{◌≡◌, ℕ, suc, ◌+◌, ◌++◌, List, ap, sym, subst, ◌∙◌, arith, append_assoc}
use Rattle.market_types.specs.declared.order.Symbol.{Symbol}
use Rattle.market_rules.specs.declared.bands.Band.{Band}
use Rattle.agent_shell.specs.declared.sending.Sending.{Sending}
use Rattle.agent_shell.specs.Ordered.{all_ordered, ordered}
use Rattle.agent_shell.specs.Shell.{Orders}
use Rattle.agent_shell.specs.declared.setting.Levels.{Levels}
use Rattle.agent_shell.specs.Maker.{buy_at, levels_from, sell_at}

orders-at : (symbol : Symbol) (m : Levels) (bands : List Band) (centre i k : ℕ) (o o1 o2 : Orders)
    → o1 ≡ (ordered symbol (buy_at m bands centre i) o).orders → o2 ≡ (ordered symbol (sell_at m bands centre i) o1).orders
    → (all_ordered symbol (levels_from m bands centre (suc i) k) o2).orders ≡ (all_ordered symbol (levels_from m bands centre i (suc k)) o).orders
orders-at symbol m bands centre i k o o1 o2 buy sell =
    ap (λ x. (all_ordered symbol (levels_from m bands centre (suc i) k) x).orders) (sell ∙ ap (λ x. (ordered symbol (sell_at m bands centre i) x).orders) buy)

pub orders-step : (symbol : Symbol) (m : Levels) (bands : List Band) (centre i n k : ℕ) (o o1 o2 : Orders)
    → n ≡ suc k → o1 ≡ (ordered symbol (buy_at m bands centre i) o).orders → o2 ≡ (ordered symbol (sell_at m bands centre i) o1).orders
    → (all_ordered symbol (levels_from m bands centre (i + 1) k) o2).orders ≡ (all_ordered symbol (levels_from m bands centre i n) o).orders
orders-step symbol m bands centre i n k o o1 o2 e buy sell =
    let next : suc i ≡ i + 1 = omega arith in
    subst (λ j. (all_ordered symbol (levels_from m bands centre j k) o2).orders ≡ (all_ordered symbol (levels_from m bands centre i n) o).orders) next
    (subst (λ x. (all_ordered symbol (levels_from m bands centre (suc i) k) o2).orders ≡ (all_ordered symbol (levels_from m bands centre i x) o).orders) (sym e)
    (orders-at symbol m bands centre i k o o1 o2 buy sell))

sends-at : (symbol : Symbol) (m : Levels) (bands : List Band) (centre i k : ℕ) (o : Orders) (out : List Sending)
    → (let o1 = (ordered symbol (buy_at m bands centre i) o).orders in
    let o2 = (ordered symbol (sell_at m bands centre i) o1).orders in
    (out ++ (ordered symbol (buy_at m bands centre i) o).sends ++ (ordered symbol (sell_at m bands centre i) o1).sends) ++ (all_ordered symbol (levels_from m bands centre (suc i) k) o2).sends
    ≡ out ++ (all_ordered symbol (levels_from m bands centre i (suc k)) o).sends)
sends-at symbol m bands centre i k o out =
    let first = ordered symbol (buy_at m bands centre i) o in
    let second = ordered symbol (sell_at m bands centre i) first.orders in
    let rest = all_ordered symbol (levels_from m bands centre (suc i) k) second.orders in
    append_assoc (out ++ first.sends) second.sends rest.sends ∙ append_assoc out first.sends (second.sends ++ rest.sends)

pub sends-step : (symbol : Symbol) (m : Levels) (bands : List Band) (centre i n k : ℕ) (o o1 o2 : Orders) (out out1 out2 : List Sending)
    → n ≡ suc k → o1 ≡ (ordered symbol (buy_at m bands centre i) o).orders → o2 ≡ (ordered symbol (sell_at m bands centre i) o1).orders
    → out1 ≡ out ++ (ordered symbol (buy_at m bands centre i) o).sends → out2 ≡ out1 ++ (ordered symbol (sell_at m bands centre i) o1).sends
    → out2 ++ (all_ordered symbol (levels_from m bands centre (i + 1) k) o2).sends ≡ out ++ (all_ordered symbol (levels_from m bands centre i n) o).sends
sends-step symbol m bands centre i n k o o1 o2 out out1 out2 e buy sell sent_buy sent_sell =
    let next : suc i ≡ i + 1 = omega arith in
    let first = ordered symbol (buy_at m bands centre i) o in
    let second = ordered symbol (sell_at m bands centre i) first.orders in
    let is1 = ap (λ x. (ordered symbol (sell_at m bands centre i) x).sends) buy in
    let is2 : o2 ≡ second.orders = sell ∙ ap (λ x. (ordered symbol (sell_at m bands centre i) x).orders) buy in
    let sent : out2 ≡ out ++ first.sends ++ second.sends = sent_sell ∙ ap (λ x. x ++ (ordered symbol (sell_at m bands centre i) o1).sends) sent_buy ∙ ap (λ x. out ++ first.sends ++ x) is1 in
    subst (λ j. out2 ++ (all_ordered symbol (levels_from m bands centre j k) o2).sends ≡ out ++ (all_ordered symbol (levels_from m bands centre i n) o).sends) next
    (subst (λ x. out2 ++ (all_ordered symbol (levels_from m bands centre (suc i) k) o2).sends ≡ out ++ (all_ordered symbol (levels_from m bands centre i x) o).sends) (sym e)
    (ap (λ x. x ++ (all_ordered symbol (levels_from m bands centre (suc i) k) o2).sends) sent
    ∙ ap (λ x. (out ++ first.sends ++ second.sends) ++ (all_ordered symbol (levels_from m bands centre (suc i) k) x).sends) is2
    ∙ sends-at symbol m bands centre i k o out))
