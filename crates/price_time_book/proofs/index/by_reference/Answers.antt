use Rattle.std.proofs.Common.{◌<◌, eqb, get_or, arith}
use Rattle.std.specs.Ordering.{nat_cmp}
use Rattle.price_time_book.specs.declared.index.ReferenceEntry.{ReferenceEntry}
use Rattle.price_time_book.specs.declared.resting.Resting.{Resting}
use Rattle.price_time_book.specs.Indexed.{nothing}
use Rattle.price_time_book.proofs.Indexes.{IsFrom, absent_by, agrees_reference, closed_by, found_by, reference_total}
use Rattle.price_time_book.proofs.index.by_reference.Goals as goal

pub returns-then-not-has_reference-clause-absent : goal.returns-then-not-has_reference-clause-absent
returns-then-not-has_reference-clause-absent c =
    let es = c.args.entries.now in
    let at = c.reference_from-at.result in
    let d : ReferenceEntry = record { reference = 0; place = 0 } in
    let from : IsFrom (λ (e : ReferenceEntry). e.reference) nat_cmp es c.args.reference at = record { within = c.reference_from-at.ensures.within; below = c.reference_from-at.ensures.below; above = c.reference_from-at.ensures.above } in
    absent_by (λ (e : ReferenceEntry). e.reference) (λ (e : ReferenceEntry). e.place) nat_cmp (λ (o : Resting). o.reference) reference_total c.args.orders.now es c.requires c.args.reference (λ (o : Resting). eqb o.reference c.args.reference) (agrees_reference c.args.reference) at d from (λ k h. c.has_reference.ensures.none k c.if-not-has_reference.true h)

pub returns-then-orders-place-eq0-clause-absent : goal.returns-then-orders-place-eq0-clause-absent
returns-then-orders-place-eq0-clause-absent c =
    let es = c.args.entries.now in
    let at = c.reference_from-at.result in
    let d : ReferenceEntry = record { reference = 0; place = 0 } in
    let there = c.has_reference.ensures.some c.if-not-has_reference.false in
    closed_by (λ (e : ReferenceEntry). e.reference) (λ (e : ReferenceEntry). e.place) nat_cmp (λ (o : Resting). o.reference) reference_total c.args.orders.now es c.requires c.args.reference (λ (o : Resting). eqb o.reference c.args.reference) (agrees_reference c.args.reference) at d there.0 (there.1 d) c.if-orders-place-eq0.true

pub returns-clause-found : goal.returns-clause-found
returns-clause-found c =
    let es = c.args.entries.now in
    let at = c.reference_from-at.result in
    let d : ReferenceEntry = record { reference = 0; place = 0 } in
    let there = c.has_reference.ensures.some c.if-not-has_reference.false in
    let open_there : 0 < (get_or c.args.orders.now (get_or es at d).place nothing).left = omega (arith, c.if-orders-place-eq0.false) in
    found_by (λ (e : ReferenceEntry). e.reference) (λ (e : ReferenceEntry). e.place) nat_cmp (λ (o : Resting). o.reference) reference_total c.args.orders.now es c.requires c.args.reference (λ (o : Resting). eqb o.reference c.args.reference) (agrees_reference c.args.reference) at d there.0 (there.1 d) open_there
