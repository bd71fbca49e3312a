use Rattle.std.proofs.Common.{List, sym, ap, ◌∙◌, subst}
use Rattle.market_types.specs.declared.order.Side.{Side}
use Rattle.price_time_book.specs.declared.levels.Level.{Level}
use Rattle.price_time_book.specs.Indexed.{IsIndexed, open_orders}
use Rattle.price_time_book.specs.Queues.{best_in, hidden_of, shown_of}
use Rattle.price_time_book.proofs.Takes.{is_met_by, none_cross}
use Rattle.price_time_book.proofs.levels.is_met.Goals as goal

pub returns-else-is_crossed : goal.returns-else-is_crossed
returns-else-is_crossed c = λ os nx x y h.
    let side = c.args.side in
    let w = open_orders os in
    let shown = subst (λ (v : List Level). IsIndexed (shown_of c.opposite-other.result) os nx v) (sym c.as_slice.ensures.value) (subst (λ (s : Side). IsIndexed (shown_of s) os nx c.args.half.now.shown.items) (sym c.opposite-other.ensures) x) in
    let hidden = subst (λ (v : List Level). IsIndexed (hidden_of c.opposite-other.result) os nx v) (sym c.as_slice-2.ensures.value) (subst (λ (s : Side). IsIndexed (hidden_of s) os nx c.args.half.now.hidden.items) (sym c.opposite-other.ensures) y) in
    let before = c.best_in-before.ensures os nx shown ∙ ap (λ (s : Side). best_in (shown_of s) w) c.opposite-other.ensures in
    let behind = c.best_in-behind.ensures os nx hidden ∙ ap (λ (s : Side). best_in (hidden_of s) w) c.opposite-other.ensures in
    none_cross side c.args.limit w
    (ap (is_met_by side c.args.limit) (sym before) ∙ sym c.is_crossed.ensures ∙ c.if-is_crossed.false)
    (ap (is_met_by side c.args.limit) (sym behind) ∙ sym c.is_crossed-else-is_crossed.ensures ∙ h)
