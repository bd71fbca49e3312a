-- The book that the way of an accepted order leaves is the one that its matching leaves.
use Rattle.std.proofs.Common.{◌≡◌, ℕ, zero, suc, true, false, List, [], ◌∷◌, ◌++◌, Option, Some, None, refl, ap, sym, ◌∙◌, append_assoc, length}
use Rattle.std.specs.Prelude.{◌==◌, if◌then◌else◌}
use Rattle.std.proofs.lemmas.List.{append-nil}
use Rattle.market_types.specs.declared.order.Side.{Side}
use Rattle.price_time_book.specs.declared.resting.Fill.{Fill}
use Rattle.price_time_book.specs.declared.resting.Resting.{Resting}
use Rattle.price_time_book.specs.Matched.{Matching, after_fill, fill_of, matched, matched_by, with_fill, with_next}
use Rattle.price_time_book.specs.Next.{next_of}
use Rattle.exchange_agent.specs.declared.settle.Taking.{Taking}
use Rattle.exchange_agent.specs.Settle.{Way, all_settled, settled}

-- the book after some fills
abbrev after_all : List Fill → List Resting → List Resting
after_all [] book = book
after_all (f ∷ fs) book = after_all fs (after_fill f book)

all-book : (t : Taking) (fills : List Fill) (w : Way) → (all_settled t fills w).stock.book ≡ after_all fills w.stock.book
all-book t [] w = refl
all-book t (f ∷ fs) w = all-book t fs (settled t f w)

after-append : (fs gs : List Fill) (book : List Resting) → after_all (fs ++ gs) book ≡ after_all gs (after_all fs book)
after-append [] gs book = refl
after-append (f ∷ fs) gs book = after-append fs gs (after_fill f book)

-- a matching goes on by some fills
record GoesOn (m k : Matching) : Type 0 where
  fills : List Fill
  are : k.fills ≡ m.fills ++ fills
  book : k.book ≡ after_all fills m.book

goes-nowhere : (m : Matching) → GoesOn m m
goes-nowhere m = record { fills = []; are = sym (append-nil m.fills); book = refl }

goes-next : (q : Option Resting) (m : Matching) → GoesOn m (with_next q m)
goes-next None m = goes-nowhere m
goes-next (Some o) m =
    elim (m.shares == 0) as (λ b. GoesOn m (if b then m else with_fill (fill_of m.shares o) m)) [ true ↦ goes-nowhere m | false ↦ record { fills = fill_of m.shares o ∷ []; are = refl; book = refl } ]

goes-far : (m k j : Matching) → GoesOn m k → GoesOn k j → GoesOn m j
goes-far m k j p q = record {
  fills = p.fills ++ q.fills;
  are = q.are ∙ ap (λ (fs : List Fill). fs ++ q.fills) p.are ∙ append_assoc m.fills p.fills q.fills;
  book = q.book ∙ ap (λ (b : List Resting). after_all q.fills b) p.book ∙ sym (after-append p.fills q.fills m.book);
}

goes-by : (n : ℕ) (side : Side) (limit : ℕ) (m : Matching) → GoesOn m (matched_by n side limit m)
goes-by zero side limit m = goes-nowhere m
goes-by (suc n) side limit m =
    let k = with_next (next_of m.book side limit) m in
    goes-far m k (matched_by n side limit k) (goes-next (next_of m.book side limit) m) (goes-by n side limit k)

pub way-book : (t : Taking) (book : List Resting) (side : Side) (limit shares : ℕ) (w : Way) → w.stock.book ≡ book → (all_settled t (matched book side limit shares).fills w).stock.book ≡ (matched book side limit shares).book
way-book t book side limit shares w e =
    let m : Matching = record { fills = []; book = book; shares = shares } in
    let h = goes-by (length book) side limit m in
    all-book t (matched book side limit shares).fills w
    ∙ ap (λ (b : List Resting). after_all (matched book side limit shares).fills b) e
    ∙ ap (λ (fs : List Fill). after_all fs book) h.are
    ∙ sym h.book
