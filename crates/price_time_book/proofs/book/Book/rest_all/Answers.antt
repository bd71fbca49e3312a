use Rattle.std.proofs.Common.{◌≡◌, ◌≢◌, ◌<◌, ℕ, Bool, true, false, not, eqb, inl, inr, ◌++◌, ◌∷◌, List, [], length, get_or, take, sym, ap, ◌∙◌, arith, rules, add-one, length-append}
use Rattle.std.proofs.lemmas.Bool.{cases_eq, eq-eqb, ne_eqb}
use Rattle.market_types.specs.Room.{Room}
use Rattle.price_time_book.specs.declared.resting.Resting.{Resting}
use Rattle.price_time_book.specs.Indexed.{nothing, open_orders}
use Rattle.price_time_book.proofs.Packs.{open-more, open-same}
use Rattle.price_time_book.proofs.book.Book.rest_all.Goals as goal
use Rattle.price_time_book.proofs.book.Book.rest_all.Goals.{then-is_open, else-is_open}

is_not_zero : (n : ℕ) (b : Bool) → b ≡ not (eqb n 0) → b ≡ true → n ≢ 0
is_not_zero n b e t z = let q = eq-eqb n 0 z in absurd (cc (e, t, q))

is_zero : (n : ℕ) (b : Bool) → b ≡ not (eqb n 0) → b ≡ false → n ≡ 0
is_zero n b e f = elim (cases_eq n 0) [ inl z ↦ z | inr m ↦ (let q = ne_eqb n 0 m in absurd (cc (e, f, q))) ]

pub loop-order-preserved : goal.loop-order-preserved
loop-order-preserved c =
    let os = c.args.orders.now in
    let i = c.loop-order.order-index in
    let v = c.loop-order.invariant in
    let within : i < length os = search rules in
    elim c.if-is_open.branch [
      | then-is_open w ↦
          let some : (get_or os i nothing).left ≢ 0 = is_not_zero (get_or os i nothing).left c.is_open.result c.is_open.ensures w.if-is_open.true in
          let a = c.requires.awaited i within some in
          let now = w.self-is ∙ w.rest.ensures in
          let list : c.if-is_open.self.list ≡ c.loop-order.self.list ++ get_or os i nothing ∷ [] = ap (λ (r : Room Resting). r.list) now in
          let spare = ap (λ (r : Room Resting). r.spare) now in
          record {
            list = list ∙ ap (λ (w : List Resting). w ++ get_or os i nothing ∷ []) v.list ∙ sym (open-more os i within some) ∙ ap (λ n. open_orders (take n os)) (sym (add-one i));
            room = omega (arith, v.room, spare, ap (λ (w : List Resting). length w) list, length-append c.loop-order.self.list (get_or os i nothing ∷ []), a.few, ap (λ (w : List Resting). length w) v.list);
          }
      | else-is_open w ↦
          let none : (get_or os i nothing).left ≡ 0 = is_zero (get_or os i nothing).left c.is_open.result c.is_open.ensures w.if-is_open.false in
          let list = ap (λ (r : Room Resting). r.list) w.self-is in
          let spare = ap (λ (r : Room Resting). r.spare) w.self-is in
          record {
            list = list ∙ v.list ∙ sym (open-same os i within none) ∙ ap (λ n. open_orders (take n os)) (sym (add-one i));
            room = omega (arith, v.room, spare, ap (λ (w : List Resting). length w) list);
          }
    ]
