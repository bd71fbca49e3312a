use Rattle.std.proofs.Common.{◌≡◌, ◌≤◌, ◌+◌, ◌-◌, ◌*◌, ℕ, All, length, true}
use Rattle.price_time_book.specs.Matched.{matched}
use Rattle.exchange_agent.specs.Settle.{Way, all_settled}
use Rattle.exchange_agent.specs.Sound.{IsSmall, is_trader}
use Rattle.exchange_agent.specs.View.{way_at}
use Rattle.exchange_agent.proofs.listing.Listing.cross.Given as goal

abbrev pub invariant-fills : goal.invariant-fills
invariant-fills l = record {
  way : ◌≡◌ {A = Way} (all_settled l.taking (matched l.self.book.list l.taking.side l.limit l.left).fills (way_at l.self l.cash.items l.matches l.out)) (all_settled l.taking (matched l.initial.self.book.list l.taking.side l.limit l.shares).fills (way_at l.initial.self l.initial.cash.items l.initial.matches l.initial.out));
  left : (matched l.self.book.list l.taking.side l.limit l.left).shares ≡ (matched l.initial.self.book.list l.taking.side l.limit l.shares).shares;
  book : (matched l.self.book.list l.taking.side l.limit l.left).book ≡ (matched l.initial.self.book.list l.taking.side l.limit l.shares).book;
  fewer : l.left ≤ l.shares;
  small : (orders : ℕ) → IsSmall orders 0 (way_at l.initial.self l.initial.cash.items l.initial.matches l.initial.out) → IsSmall orders (l.shares - l.left) (way_at l.self l.cash.items l.matches l.out);
  resting : All (λ o. is_trader (length l.cash.items) o ≡ true) l.self.book.list;
  traders : length l.self.positions.items ≡ length l.initial.self.positions.items;
  same : length l.cash.items ≡ length l.initial.cash.items;
  room : l.initial.out.replies.spare + 2 * length (matched l.self.book.list l.taking.side l.limit l.left).fills ≤ l.out.replies.spare + 2 * length (matched l.initial.self.book.list l.taking.side l.limit l.shares).fills;
  feed_room : l.initial.out.feed.spare + length (matched l.self.book.list l.taking.side l.limit l.left).fills ≤ l.out.feed.spare + length (matched l.initial.self.book.list l.taking.side l.limit l.shares).fills;
  book_room : l.initial.self.book.spare ≤ l.self.book.spare;
}

abbrev pub decreases-fills : goal.decreases-fills
decreases-fills l = l.left
