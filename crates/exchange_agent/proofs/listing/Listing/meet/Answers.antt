use Rattle.std.proofs.Common.{◌≡◌, ◌≤◌, ◌+◌, ◌-◌, ◌+ℤ◌, ◌++◌, ◌∷◌, [], ℕ, length, rules, arith, ap, ◌∙◌, sym, refl, Option, Some, None, IfSome, option_map, true, subst}
use Rattle.std.proofs.lemmas.Bool.Decides.{nat_tests}
use Rattle.price_time_book.specs.declared.resting.Resting.{Resting}
use Rattle.price_time_book.specs.declared.resting.Fill.{Fill}
use Rattle.price_time_book.specs.Matched.{fill_of}
use Rattle.price_time_book.specs.Next.{next_of}
use Rattle.exchange_agent.specs.Sound.{is_trader}
use Rattle.price_time_book.specs.Matched.{after_fill}
use Rattle.exchange_agent.specs.declared.listing.Listing.{Listing}
use Rattle.exchange_agent.specs.declared.settle.Taking.{Taking}
use Rattle.exchange_agent.specs.Settle.{Way, both_fees_of, cash_after, fed, settled, tally_after}
use Rattle.exchange_agent.specs.Sound.{IsSmall}
use Rattle.exchange_agent.specs.State.{Tally}
use Rattle.exchange_agent.specs.View.{stock_of, way_at}
use Rattle.exchange_agent.proofs.Ways.{way-made}
use Rattle.exchange_agent.proofs.listing.Listing.meet.Goals as goal

-- the order that gave a fill is the next one
head : (n wanted : ℕ) (f : Fill) (q : Option Resting) → Some f ≡ option_map (fill_of wanted) q → ((o : Resting) → q ≡ Some o → is_trader n o ≡ true) → is_trader n f.resting ≡ true
head n wanted f None e all = cc
head n wanted f (Some o) e all =
    let same : fill_of wanted o ≡ f = grind arith in
    subst (λ (g : Fill). is_trader n g.resting ≡ true) same (all o refl)

there : (wanted : ℕ) (f : Fill) (q : Option Resting) (P : Type 0) → Some f ≡ option_map (fill_of wanted) q → IfSome q (λ (o : Resting). P) → P
there wanted f None P e h = absurd cc
there wanted f (Some o) P e h = h

at_least : (n : ℕ) (o : Resting) → is_trader n o ≡ true → 1 ≤ o.agent
at_least n o e = grind (arith, nat_tests)

at_most : (n : ℕ) (o : Resting) → is_trader n o ≡ true → o.agent ≤ n
at_most n o e = grind (arith, nat_tests)

trader : (c : goal.After-settle-arg-4-1) → is_trader (length c.args.cash.now.items) c.in_ok-fill.fill.resting ≡ true
trader c =
    let n = length c.args.cash.now.items in
    let book = c.args.self.now.book.list in
    let side = c.args.taking.now.side in
    let limit = c.args.limit in
    head n c.args.wanted c.in_ok-fill.fill (next_of book side limit) (search rules)
    (λ o e. c.next_is_best.ensures.tested (is_trader n) book side limit o e c.requires.resting)

pub settle-requires-clause-resting_trader : goal.settle-requires-clause-resting_trader
settle-requires-clause-resting_trader c = at_least (length c.args.cash.now.items) c.in_ok-fill.fill.resting (trader c)

pub settle-requires-clause-resting_exists : goal.settle-requires-clause-resting_exists
settle-requires-clause-resting_exists c = at_most (length c.args.cash.now.items) c.in_ok-fill.fill.resting (trader c)

met-by : (t : Taking) (wanted : ℕ) (f : Fill) (q : Option Resting) (w v : Way) → Some f ≡ option_map (fill_of wanted) q → v ≡ settled t f w → IfSome q (λ (o : Resting). v ≡ settled t (fill_of wanted o) w)
met-by t wanted f None w v e h = tt
met-by t wanted f (Some o) w v e h = let same : f ≡ fill_of wanted o = grind arith in h ∙ ap (λ (g : Fill). settled t g w) same

pub returns-clause-met : goal.returns-clause-met
returns-clause-met c =
    let t = c.args.taking.now in
    let f = c.in_ok-fill.fill in
    let old = c.args.self.now in
    let mid = c.next_fill.new.self in
    let new = c.settle.new.self in
    let w = way_at old c.args.cash.now.items c.args.matches.now c.args.out.now in
    let v = way_at new c.settle.new.cash.items c.settle.new.matches c.settle.new.out in
    let filled : mid ≡ record old { book = record { list = after_fill f old.book.list; spare = mid.book.spare } } = c.in_ok-fill.ensures.filled in
    let stock : stock_of new ≡ (settled t f w).stock =
    c.settle.ensures.rest ∙ ap (λ (x : Tally). record (stock_of mid) { tally = x }) c.settle.ensures.tally
    ∙ ap (λ (m : Listing). record (stock_of m) { tally = tally_after m.fees t.agent t.side f (stock_of m).tally }) filled in
    met-by t c.args.wanted f (next_of old.book.list t.side c.args.limit) w v (search rules)
    (way-made t f w v stock
    (c.settle.ensures.cash ∙ ap (λ (m : Listing). cash_after m.fees t.agent t.side f c.args.cash.now.items) filled)
    c.settle.ensures.matches
    (ap (λ r. r.list) c.settle.ensures.replies)
    (ap (λ r. r.list) c.settle.ensures.feed ∙ ap (λ (m : Listing). c.args.out.now.feed.list ++ fed t.locate t.time m.symbol (c.args.matches.now + 1) f ∷ []) filled)
    (c.settle.ensures.fee ∙ ap (λ (m : Listing). c.args.out.now.fee +ℤ both_fees_of m.fees f) filled))

pub returns-clause-small : goal.returns-clause-small
returns-clause-small c = λ orders shares h.
    let f = c.in_ok-fill.fill in
    let old = c.args.self.now in
    let mid = c.next_fill.new.self in
    let v = way_at c.settle.new.self c.settle.new.cash.items c.settle.new.matches c.settle.new.out in
    let filled : mid ≡ record old { book = record { list = after_fill f old.book.list; spare = mid.book.spare } } = c.in_ok-fill.ensures.filled in
    let start : IsSmall orders shares (way_at mid c.args.cash.now.items c.args.matches.now c.args.out.now) =
    subst (λ (m : Listing). IsSmall orders shares (way_at m c.args.cash.now.items c.args.matches.now c.args.out.now)) (sym filled) (record { cash = h.cash; matches = h.matches; matched = h.matched; taken = h.taken; positions = h.positions; fee = h.fee }) in
    let same : f.shares ≡ c.args.wanted - (c.args.wanted - f.shares) = omega (arith, c.in_ok-fill.ensures.within) in
    subst (λ (n : ℕ). IsSmall orders (shares + n) v) same (c.settle.ensures.small orders shares (omega (arith, c.in_ok-fill.ensures.gives)) start)
