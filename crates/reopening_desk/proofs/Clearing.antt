-- The price of a stock's live orders and a file's clears.
use Rattle.std.proofs.Common.{◌≡◌, ◌≤◌, ℕ, List, ◌++◌, Option, None, Some, IfSome, length, map, All, refl}
use Rattle.exchange_agent.specs.State.{stock_at}
use Rattle.kernel_core.specs.State.{State}
use Rattle.reopen_cross.specs.declared.cross.Cross.{Cross}
use Rattle.reopen_cross.specs.declared.cross.Interest.{Interest}
use Rattle.reopen_cross.specs.Clearing.{IsClearing}
use Rattle.reopen_cross.specs.Cross.{cross_of, executed}
use Rattle.reopen_cross.specs.Orderly.{AreInterests}
use Rattle.reopening_desk.specs.Filed.{AreFiled, numbered_after}
use Rattle.reopening_desk.specs.Books.{AreResting}
use Rattle.reopening_desk.specs.Reopened.{Clears, interest_of, interests_of}
use Rattle.reopening_desk.proofs.Interests.{are-interests, few-interests, last-interests}

-- a file's orders behind those of a book
abbrev pub FilesJoin : Type 0
FilesJoin =
    (book orders : List Interest) (last : ℕ) → AreInterests book → length book ≤ 16384 → All (λ (o : Interest). o.reference ≤ last) book
    → AreFiled orders → AreInterests (book ++ map (numbered_after last) orders)

pub interests-join : FilesJoin → (s : State) (k : ℕ) (filed : List Interest) → AreResting s.floor.exchange.counts.orders (stock_at s.floor.exchange k).book
    → AreFiled filed → AreInterests (interests_of s k filed)
interests-join joins s k filed h f =
    let accepted = s.floor.exchange.counts.orders in
    let book = (stock_at s.floor.exchange k).book in
    joins (map interest_of book) filed accepted (are-interests accepted book h) (few-interests accepted book h) (last-interests accepted book h) f

crossed-clears : (list : List Interest) → ((c : Cross) → cross_of list ≡ Some c → IsClearing list c) → (cross : Option Cross) → cross_of list ≡ cross → IfSome cross (IsClearing list)
crossed-clears list clear None is = tt
crossed-clears list clear (Some c) is = clear c is

pub list-clears : (list : List Interest) → ((c : Cross) → cross_of list ≡ Some c → IsClearing list c) → ((p : ℕ) → cross_of list ≡ None → executed list p ≡ 0) → Clears list
list-clears list clear nothing = record { crossed = crossed-clears list clear (cross_of list) refl; uncrossed = λ none p. nothing p none }
