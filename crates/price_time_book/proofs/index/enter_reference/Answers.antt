use Rattle.std.proofs.Common.{◌≡◌, ◌≢◌, ◌<◌, ◌++◌, ◌∷◌, List, [], length, get_or, refl, sym, subst}
use Rattle.std.proofs.lemmas.List.{get_or_default}
use Rattle.std.specs.Ordering.{nat_cmp}
use Rattle.std.specs.declared.cmp.Ordering.TheVariants.{Equal}
use Rattle.price_time_book.specs.declared.index.ReferenceEntry.{ReferenceEntry}
use Rattle.price_time_book.specs.declared.resting.Resting.{Resting}
use Rattle.price_time_book.specs.Index.{IsByReference}
use Rattle.price_time_book.proofs.Indexes.{IsFrom, fresh_reference, index_insert, index_replace, parted, reference_total}
use Rattle.price_time_book.proofs.index.enter_reference.Goals as goal

pub returns-then-has_reference-clause-indexed : goal.returns-then-has_reference-clause-indexed
returns-then-has_reference-clause-indexed c = λ os last h free.
    let es = c.args.entries.now.items in
    let x = c.args.order.now in
    let at = c.reference_from-at.result in
    let d : ReferenceEntry = record { reference = 0; place = 0 } in
    let e : ReferenceEntry = record { reference = x.reference; place = c.args.place } in
    let seen = c.as_slice-2.ensures.value in
    let there = c.has_reference.ensures.some c.if-has_reference.true in
    let within : at < length es = subst (λ (v : List ReferenceEntry). at < length v) seen there.0 in
    let tie : nat_cmp ((λ (e : ReferenceEntry). e.reference) (get_or es at d)) x.reference ≡ Equal = subst (λ (v : List ReferenceEntry). nat_cmp ((λ (e : ReferenceEntry). e.reference) (get_or v at d)) x.reference ≡ Equal) seen (there.1 d) in
    index_replace (λ (e : ReferenceEntry). e.reference) (λ (e : ReferenceEntry). e.place) nat_cmp (λ (o : Resting). o.reference) reference_total os es x e (get_or es at d) at h refl last within (λ k. get_or_default es at k d within) tie (fresh_reference os x free)

pub returns-clause-indexed : goal.returns-clause-indexed
returns-clause-indexed c = λ os last h free.
    let es = c.args.entries.now.items in
    let x = c.args.order.now in
    let at = c.reference_from-at.result in
    let e : ReferenceEntry = record { reference = x.reference; place = c.args.place } in
    let from : IsFrom (λ (e : ReferenceEntry). e.reference) nat_cmp es x.reference at = subst (λ (v : List ReferenceEntry). IsFrom (λ (e : ReferenceEntry). e.reference) nat_cmp v x.reference at) c.as_slice.ensures.value (record { within = c.reference_from-at.ensures.within; below = c.reference_from-at.ensures.below; above = c.reference_from-at.ensures.above }) in
    let none : (d : ReferenceEntry) → at < length es → nat_cmp ((λ (e : ReferenceEntry). e.reference) (get_or es at d)) x.reference ≢ Equal = subst (λ (v : List ReferenceEntry). (d : ReferenceEntry) → at < length v → nat_cmp ((λ (e : ReferenceEntry). e.reference) (get_or v at d)) x.reference ≢ Equal) c.as_slice-2.ensures.value (λ d. c.has_reference.ensures.none d c.if-has_reference.false) in
    subst (λ (w : List ReferenceEntry). IsByReference (os ++ x ∷ []) w) (sym c.in-Ok.ensures.items) (index_insert (λ (e : ReferenceEntry). e.reference) (λ (e : ReferenceEntry). e.place) nat_cmp (λ (o : Resting). o.reference) reference_total os es x e at h refl last from.within (parted (λ (e : ReferenceEntry). e.reference) (λ (e : ReferenceEntry). e.place) nat_cmp (λ (o : Resting). o.reference) reference_total os es h x.reference at from none))
