use Rattle.std.proofs.Common.{length, arith}
use Rattle.audit_desk.specs.Back.{bundle_back}
use Rattle.audit_desk.specs.Clipped.{clipped}
use Rattle.audit_desk.proofs.Agreements.{AreTold, branches-agree}
use Rattle.audit_desk.proofs.Clipping.{AreSmall, Stays, all-clipped-agree}
use Rattle.audit_desk.proofs.Lifted.{AreMet, FeedsOf, OrdersOf, StatesOf, are-small, are-told}
use Rattle.audit_desk.proofs.honest.feeds_tell_the_closings.Goals as goal

pub returns-clause-agree : goal.returns-clause-agree
returns-clause-agree g c is =
    let met : AreMet c = λ b within. g.runs_are_what_the_exchange_met.ensures c b c.opening.limit is within in
    let states : StatesOf c = λ b e within. g.courses_stay_in_range.ensures.states c b e is within in
    branches-agree c (length c.plan.branches) (are-told c is met g.feeds_tell_the_books.ensures states) (omega arith)

pub returns-clause-told : goal.returns-clause-told
returns-clause-told g c is = g.a_passed_audit_says_equal.ensures.agrees (bundle_back c) (returns-clause-agree g c is)

pub returns-clause-clipped : goal.returns-clause-clipped
returns-clause-clipped g c is =
    let met : AreMet c = λ b within. g.runs_are_what_the_exchange_met.ensures c b c.opening.limit is within in
    let states : StatesOf c = λ b e within. g.courses_stay_in_range.ensures.states c b e is within in
    let orders : OrdersOf c = λ b within. g.live_orders_of_courses_are_small.ensures.orders c b c.opening.limit is within in
    let feeds : FeedsOf c = λ b within. g.live_orders_of_courses_are_small.ensures.feed c b c.opening.limit is within in
    let told : AreTold c = are-told c is met g.feeds_tell_the_books.ensures states in
    let small : AreSmall c = are-small c is orders feeds states in
    let stays : Stays = record { feed = g.what_fits_stays.ensures.feed; displayed = g.what_fits_stays.ensures.displayed; states = g.what_fits_stays.ensures.states } in
    g.a_passed_audit_says_equal.ensures.agrees (clipped (bundle_back c)) (all-clipped-agree c is.opening.market.few stays told small)
