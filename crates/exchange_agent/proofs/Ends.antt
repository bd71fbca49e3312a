-- The whole way of an accepted order: what it keeps and what it counts.
use Rattle.std.proofs.Common.{◌≡◌, ◌≢◌, ℕ, zero, suc, ◌+◌, ◌-◌, ◌<◌, ◌≤◌, Bool, true, false, ◌+ℤ◌, List, [], ◌∷◌, ◌++◌, inl, inr, length, All, Option, Some, None, arith, refl, subst, ap, sym, ◌∙◌, sum_by, append_assoc}
use Rattle.std.specs.Prelude.{◌==◌, ◌&&◌, nat_le, if◌then◌else◌}
use Rattle.std.proofs.lemmas.Bool.Decides.{nat_tests}
use Rattle.std.proofs.lemmas.Bool.{false≢true}
use Rattle.std.proofs.lemmas.List.{append-nil}
use Rattle.std.proofs.lemmas.List.Elements.{All-push, All-weaker}
use Rattle.std.proofs.lemmas.List.Sums.{sum_by-append}
use Rattle.market_types.specs.declared.order.Enter.{Enter}
use Rattle.market_types.specs.declared.order.Side.{Side}
use Rattle.price_time_book.specs.declared.resting.Fill.{Fill}
use Rattle.price_time_book.specs.declared.resting.Resting.{Resting}
use Rattle.price_time_book.specs.Kept.{IsKeptByFills, IsKeptByReduce}
use Rattle.price_time_book.specs.Matched.{IsEnded, Matching, after_fill, completed, fill_of, matched, matched_by, with_fill, with_next}
use Rattle.price_time_book.specs.Next.{crosses, next_of}
use Rattle.price_time_book.specs.Orderly.{IsOrderly}
use Rattle.price_time_book.specs.Orders.{changed, order_of, order_with, reduced}
use Rattle.market_types.specs.declared.order.Token.{Token}
use Rattle.exchange_agent.specs.declared.settle.Taking.{Taking}
use Rattle.exchange_agent.specs.Enter.{added_feed, resting_of, way_of}
use Rattle.exchange_agent.specs.Settle.{Way, all_settled, settled}
use Rattle.market_types.specs.declared.feed.Feed.{Feed}
use Rattle.market_types.specs.declared.message.Body.{Body}
use Rattle.market_types.specs.declared.message.Body.TheVariants.{Answer}
use Rattle.market_types.specs.declared.reply.Reply.TheVariants.{Canceled}
use Rattle.exchange_agent.specs.declared.handled.Outgoing.{Outgoing}
use Rattle.exchange_agent.specs.Runs.{accepted_shares, canceled_shares, executed_shares, removed_shares, total, total_of}
use Rattle.exchange_agent.specs.Sound.{is_trader}
use Rattle.exchange_agent.proofs.Crossings.{IsApart, apart-kept, apart-rested}
use Rattle.exchange_agent.proofs.Totals.{IsOnWay, on-all}

-- the book after some fills
abbrev pub after_all : List Fill → List Resting → List Resting
after_all [] book = book
after_all (f ∷ fs) book = after_all fs (after_fill f book)

all-book : (t : Taking) (fills : List Fill) (w : Way) → (all_settled t fills w).stock.book ≡ after_all fills w.stock.book
all-book t [] w = refl
all-book t (f ∷ fs) w = all-book t fs (settled t f w)

after-append : (fs gs : List Fill) (book : List Resting) → after_all (fs ++ gs) book ≡ after_all gs (after_all fs book)
after-append [] gs book = refl
after-append (f ∷ fs) gs book = after-append fs gs (after_fill f book)

-- a matching goes on by some fills
pub record GoesOn (m k : Matching) : Type 0 where
  pub fills : List Fill
  pub are : k.fills ≡ m.fills ++ fills
  pub book : k.book ≡ after_all fills m.book

goes-nowhere : (m : Matching) → GoesOn m m
goes-nowhere m = record { fills = []; are = sym (append-nil m.fills); book = refl }

goes-next : (q : Option Resting) (m : Matching) → GoesOn m (with_next q m)
goes-next None m = goes-nowhere m
goes-next (Some o) m =
    elim (m.shares == 0) as (λ b. GoesOn m (if b then m else with_fill (fill_of m.shares o) m)) [ true ↦ goes-nowhere m | false ↦ record { fills = fill_of m.shares o ∷ []; are = refl; book = refl } ]

goes-far : (m k j : Matching) → GoesOn m k → GoesOn k j → GoesOn m j
goes-far m k j p q = record {
  fills = p.fills ++ q.fills;
  are = q.are ∙ ap (λ (fs : List Fill). fs ++ q.fills) p.are ∙ append_assoc m.fills p.fills q.fills;
  book = q.book ∙ ap (λ (b : List Resting). after_all q.fills b) p.book ∙ sym (after-append p.fills q.fills m.book);
}

goes-by : (n : ℕ) (side : Side) (limit : ℕ) (m : Matching) → GoesOn m (matched_by n side limit m)
goes-by zero side limit m = goes-nowhere m
goes-by (suc n) side limit m =
    let k = with_next (next_of m.book side limit) m in
    goes-far m k (matched_by n side limit k) (goes-next (next_of m.book side limit) m) (goes-by n side limit k)

-- the way of an order leaves the book that its matching leaves
pub way-book : (t : Taking) (book : List Resting) (side : Side) (limit shares : ℕ) (w : Way) → w.stock.book ≡ book → (all_settled t (matched book side limit shares).fills w).stock.book ≡ (matched book side limit shares).book
way-book t book side limit shares w e =
    let m : Matching = record { fills = []; book = book; shares = shares } in
    let h = goes-by (length book) side limit m in
    all-book t (matched book side limit shares).fills w
    ∙ ap (λ (b : List Resting). after_all (matched book side limit shares).fills b) e
    ∙ ap (λ (fs : List Fill). after_all fs book) h.are
    ∙ sym h.book

-- The laws of books that a run rests on, each a public law of the book.
pub record BookLaws : Type 0 where
  pub fills : (p : Resting → Bool) → IsKeptByFills p → (book : List Resting) (side : Side) (limit shares : ℕ) → All (λ o. p o ≡ true) book → All (λ f. p f.resting ≡ true) (matched book side limit shares).fills
  pub sums : (side : Side) (limit : ℕ) (m : Matching) → sum_by (λ f. f.shares) (completed side limit m).fills + (completed side limit m).shares ≡ sum_by (λ f. f.shares) m.fills + m.shares
  pub shares : (side : Side) (limit : ℕ) (m : Matching) → IsOrderly m.book → sum_by (λ o. o.left) (completed side limit m).book + sum_by (λ f. f.shares) (completed side limit m).fills ≡ sum_by (λ o. o.left) m.book + sum_by (λ f. f.shares) m.fills
  pub orderly : (side : Side) (limit : ℕ) (m : Matching) → IsOrderly m.book → IsOrderly (completed side limit m).book
  pub tested : (p : Resting → Bool) → IsKeptByFills p → (side : Side) (limit : ℕ) (m : Matching) → All (λ o. p o ≡ true) m.book → All (λ o. p o ≡ true) (completed side limit m).book
  pub references : (n : ℕ) (side : Side) (limit : ℕ) (m : Matching) → All (λ o. o.reference < n) m.book → All (λ o. o.reference < n) (completed side limit m).book
  pub few : (side : Side) (limit : ℕ) (m : Matching) → length (completed side limit m).book ≤ length m.book
  pub ends : (side : Side) (limit : ℕ) (m : Matching) → IsEnded side limit (completed side limit m)
  pub none : (book : List Resting) (side : Side) (limit : ℕ) → next_of book side limit ≡ None → All (λ o. crosses side limit o ≡ false) book
  pub lower-tested : (p : Resting → Bool) → IsKeptByReduce p → (reference left : ℕ) (book : List Resting) (o : Resting) → order_with reference book ≡ Some o → left ≤ o.left → All (λ x. p x ≡ true) book → All (λ x. p x ≡ true) (changed (reduced left o) book)
  pub lower-references : (n reference left : ℕ) (book : List Resting) (o : Resting) → order_with reference book ≡ Some o → left ≤ o.left → All (λ x. x.reference < n) book → All (λ x. x.reference < n) (changed (reduced left o) book)
  pub lowered : (reference left : ℕ) (book : List Resting) (o : Resting) → IsOrderly book → order_with reference book ≡ Some o → left < o.left → IsOrderly (changed (reduced left o) book)
  pub lowered-shares : (reference left : ℕ) (book : List Resting) (o : Resting) → IsOrderly book → order_with reference book ≡ Some o → left < o.left → sum_by (λ x. x.left) (changed (reduced left o) book) + (o.left - left) ≡ sum_by (λ x. x.left) book
  pub by-reference : (agent : ℕ) (token : Token) (book : List Resting) (o : Resting) → IsOrderly book → order_of agent token book ≡ Some o → order_with o.reference book ≡ Some o
  pub rested : (book : List Resting) (o : Resting) → IsOrderly book → All (λ x. x.reference < o.reference) book → 0 < o.left → o.left ≤ o.intended → length book < 4294967296 → IsOrderly (book ++ o ∷ [])

-- An order of so many shares whose matches are done, of which so many are left.
pub record IsCrossed (n reference : ℕ) (w v : Way) (moved left shares : ℕ) : Type 0 where
  pub on : IsOnWay n w v moved
  pub sum : moved + left ≡ shares
  pub opens : sum_by (λ o. o.left) v.stock.book + moved ≡ sum_by (λ o. o.left) w.stock.book
  pub orderly : IsOrderly v.stock.book
  pub traders : All (λ o. is_trader n o ≡ true) v.stock.book
  pub references : All (λ o. o.reference < reference) v.stock.book
  pub apart : IsApart v.stock.book
  pub few : length v.stock.book < 4294967296

-- The end of an order's way, at which so many of its shares have matched.
pub record IsEnd (n reference : ℕ) (w z : Way) (moved wanted : ℕ) : Type 0 where
  pub cash : length z.cash ≡ n
  pub accounts : length z.stock.tally.positions ≡ n
  pub money : total z.cash +ℤ z.stock.tally.taken ≡ total w.cash +ℤ w.stock.tally.taken
  pub positions : total z.stock.tally.positions ≡ total w.stock.tally.positions
  pub matched : z.stock.tally.matched ≡ w.stock.tally.matched + moved
  pub removed : total_of removed_shares z.replies ≡ total_of removed_shares w.replies + moved
  pub accepted : total_of accepted_shares z.replies ≡ total_of accepted_shares w.replies
  pub shares : sum_by (λ o. o.left) z.stock.book + total_of executed_shares z.replies + total_of canceled_shares z.replies ≡ sum_by (λ o. o.left) w.stock.book + total_of executed_shares w.replies + total_of canceled_shares w.replies + wanted
  pub orderly : IsOrderly z.stock.book
  pub traders : All (λ o. is_trader n o ≡ true) z.stock.book
  pub references : All (λ o. o.reference < reference + 1) z.stock.book
  pub apart : IsApart z.stock.book

less-more : (reference : ℕ) (book : List Resting) → All (λ o. o.reference < reference) book → All (λ o. o.reference < reference + 1) book
less-more reference book h = All-weaker (λ (o : Resting). o.reference < reference) (λ (o : Resting). o.reference < reference + 1) (λ o lt. omega (arith, lt)) book h

end-whole : (n reference : ℕ) (w v : Way) (moved left shares : ℕ) → IsCrossed n reference w v moved left shares → left ≡ 0 → IsEnd n reference w v moved shares
end-whole n reference w v moved left shares h none = record {
  cash = h.on.cash;
  accounts = h.on.accounts;
  money = h.on.money;
  positions = h.on.positions;
  matched = h.on.matched;
  removed = h.on.removed;
  accepted = h.on.accepted;
  shares = omega (arith, h.opens, h.sum, h.on.executed, h.on.canceled, none);
  orderly = h.orderly;
  traders = h.traders;
  references = less-more reference v.stock.book h.references;
  apart = h.apart;
}

end-canceled : (n reference : ℕ) (w v : Way) (moved left shares : ℕ) (t : Taking) (e : Enter) → IsCrossed n reference w v moved left shares → IsEnd n reference w (record v { replies = v.replies ++ record { to = t.agent; body = Answer (Canceled t.time e.token left 73) } ∷ [] }) moved shares
end-canceled n reference w v moved left shares t e h =
    let reply : Outgoing = record { to = t.agent; body = Answer (Canceled t.time e.token left 73) } in
    let told : (of : Body → ℕ) → total_of of (v.replies ++ reply ∷ []) ≡ total_of of v.replies + (0 + of reply.body) = λ of. sum_by-append (λ (r : Outgoing). of r.body) v.replies (reply ∷ []) in
    let executed : total_of executed_shares (v.replies ++ reply ∷ []) ≡ total_of executed_shares v.replies + 0 = told executed_shares in
    let canceled : total_of canceled_shares (v.replies ++ reply ∷ []) ≡ total_of canceled_shares v.replies + (0 + left) = told canceled_shares in
    let removed : total_of removed_shares (v.replies ++ reply ∷ []) ≡ total_of removed_shares v.replies + 0 = told removed_shares in
    let accepted : total_of accepted_shares (v.replies ++ reply ∷ []) ≡ total_of accepted_shares v.replies + 0 = told accepted_shares in
    record {
      cash = h.on.cash;
      accounts = h.on.accounts;
      money = h.on.money;
      positions = h.on.positions;
      matched = h.on.matched;
      removed = omega (arith, removed, h.on.removed);
      accepted = omega (arith, accepted, h.on.accepted);
      shares = omega (arith, executed, canceled, h.opens, h.sum, h.on.executed, h.on.canceled);
      orderly = h.orderly;
      traders = h.traders;
      references = less-more reference v.stock.book h.references;
      apart = h.apart;
    }

end-rested : (laws : BookLaws) (n reference : ℕ) (w v : Way) (moved left shares : ℕ) (o : Resting) (feed : List Feed) → IsCrossed n reference w v moved left shares → o.reference ≡ reference → o.left ≡ left → left ≢ 0 → left ≤ o.intended → is_trader n o ≡ true → All (λ x. crosses o.side o.price x ≡ false) v.stock.book → IsEnd n reference w (record v { stock = record v.stock { book = v.stock.book ++ o ∷ [] }; feed = feed }) moved shares
end-rested laws n reference w v moved left shares o feed h is-reference is-left some within trader none =
    let sum : sum_by (λ x. x.left) (v.stock.book ++ o ∷ []) ≡ sum_by (λ x. x.left) v.stock.book + (0 + o.left) = sum_by-append (λ (x : Resting). x.left) v.stock.book (o ∷ []) in
    let before : All (λ (x : Resting). x.reference < o.reference) v.stock.book = subst (λ (m : ℕ). All (λ (x : Resting). x.reference < m) v.stock.book) (sym is-reference) h.references in
    record {
      cash = h.on.cash;
      accounts = h.on.accounts;
      money = h.on.money;
      positions = h.on.positions;
      matched = h.on.matched;
      removed = h.on.removed;
      accepted = h.on.accepted;
      shares = omega (arith, sum, is-left, h.opens, h.sum, h.on.executed, h.on.canceled);
      orderly = laws.rested v.stock.book o h.orderly before (omega (arith, is-left, some)) (omega (arith, is-left, within)) h.few;
      traders = All-push (λ (x : Resting). is_trader n x ≡ true) v.stock.book o h.traders trader;
      references = All-push (λ (x : Resting). x.reference < reference + 1) v.stock.book o (less-more reference v.stock.book h.references) (omega (arith, is-reference));
      apart = apart-rested v.stock.book o none h.apart;
    }

zero-from : (m : ℕ) → (m == 0) ≡ true → m ≡ 0
zero-from m e = grind (arith, nat_tests)

some-from : (m : ℕ) → (m == 0) ≡ false → m ≢ 0
some-from m e = λ z. absurd (false≢true (sym e ∙ subst (λ (k : ℕ). (k == 0) ≡ true) (sym z) refl))

nothing-crosses : (laws : BookLaws) (side : Side) (limit : ℕ) (m : Matching) → IsEnded side limit m → m.shares ≢ 0 → All (λ (o : Resting). crosses side limit o ≡ false) m.book
nothing-crosses laws side limit m (inl none) some = absurd (some none)
nothing-crosses laws side limit m (inr none) some = laws.none m.book side limit none

abbrev tif-by : Bool → Taking → Enter → ℕ → ℕ → Way → Way
tif-by d t e reference left w =
    if d
    then record w { replies = w.replies ++ record { to = t.agent; body = Answer (Canceled t.time e.token left 73) } ∷ [] }
    else record w {
      stock = record w.stock { book = w.stock.book ++ resting_of reference t.agent e left ∷ [] };
      feed = w.feed ++ added_feed t e reference left;
    }

abbrev left-by : Bool → Taking → Enter → ℕ → ℕ → Way → Way
left-by b t e reference left w = if b then w else tif-by (e.tif == 0) t e reference left w

trader-is : (n agent : ℕ) → 1 ≤ agent → agent ≤ n → (nat_le 1 agent && nat_le agent n) ≡ true
trader-is n agent low high = grind (arith, nat_tests)

-- the whole way of an accepted order
pub ended-way : (laws : BookLaws) (n reference : ℕ) (t : Taking) (e : Enter) (w : Way) → length w.cash ≡ n → length w.stock.tally.positions ≡ n → 1 ≤ t.agent → t.agent ≤ n → All (λ o. is_trader n o ≡ true) w.stock.book → All (λ o. o.reference < reference) w.stock.book → IsOrderly w.stock.book → IsApart w.stock.book → length w.stock.book < 4294967296 → IsEnd n reference w (way_of t e reference w) (sum_by (λ f. f.shares) (matched w.stock.book e.side e.price e.shares).fills) e.shares
ended-way laws n reference t e w cash accounts low high traders references orderly apart few =
    let m : Matching = record { fills = []; book = w.stock.book; shares = e.shares } in
    let k = matched w.stock.book e.side e.price e.shares in
    let v = all_settled t k.fills w in
    let moved = sum_by (λ f. f.shares) k.fills in
    let is-book : v.stock.book ≡ k.book = way-book t w.stock.book e.side e.price e.shares w refl in
    let adds : moved + k.shares ≡ 0 + e.shares = laws.sums e.side e.price m in
    let opens : sum_by (λ o. o.left) k.book + moved ≡ sum_by (λ o. o.left) w.stock.book + 0 = laws.shares e.side e.price m orderly in
    let opens-here : sum_by (λ o. o.left) v.stock.book ≡ sum_by (λ o. o.left) k.book = ap (λ (b : List Resting). sum_by (λ o. o.left) b) is-book in
    let fewer : length k.book ≤ length w.stock.book = laws.few e.side e.price m in
    let few-here : length v.stock.book ≡ length k.book = ap (λ (b : List Resting). length b) is-book in
    let kept : IsApart k.book = apart-kept w.stock.book k.book (λ p keeps. laws.tested p (λ o left le h. keeps o left o.intended h) e.side e.price m) apart in
    let h : IsCrossed n reference w v moved k.shares e.shares = record {
      on = on-all n t k.fills w cash accounts low high (laws.fills (is_trader n) (λ o left le q. q) w.stock.book e.side e.price e.shares traders);
      sum = omega (arith, adds);
      opens = omega (arith, opens, opens-here);
      orderly = subst (λ (b : List Resting). IsOrderly b) (sym is-book) (laws.orderly e.side e.price m orderly);
      traders = subst (λ (b : List Resting). All (λ o. is_trader n o ≡ true) b) (sym is-book) (laws.tested (is_trader n) (λ o left le q. q) e.side e.price m traders);
      references = subst (λ (b : List Resting). All (λ o. o.reference < reference) b) (sym is-book) (laws.references reference e.side e.price m references);
      apart = subst (λ (b : List Resting). IsApart b) (sym is-book) kept;
      few = omega (arith, few-here, fewer, few);
    } in
    elim (k.shares == 0) as (λ b. (k.shares == 0) ≡ b → IsEnd n reference w (left-by b t e reference k.shares v) moved e.shares) [
      | true ↦ λ q. end-whole n reference w v moved k.shares e.shares h (zero-from k.shares q)
      | false ↦ λ q. elim (e.tif == 0) as (λ d. IsEnd n reference w (tif-by d t e reference k.shares v) moved e.shares) [
        | true ↦ end-canceled n reference w v moved k.shares e.shares t e h
        | false ↦
            end-rested laws n reference w v moved k.shares e.shares (resting_of reference t.agent e k.shares) _ h refl refl (some-from k.shares q) (omega (arith, adds)) (trader-is n t.agent low high)
            (subst (λ (b : List Resting). All (λ x. crosses e.side e.price x ≡ false) b) (sym is-book) (nothing-crosses laws e.side e.price k (laws.ends e.side e.price m) (some-from k.shares q)))
      ]
    ] refl
