-- Lemmas on what an agent posts.
use Rattle.std.proofs.Common.{◌≡◌, ℕ, ◌+◌, ◌<◌, ◌≤◌, List, [], ◌∷◌, ◌++◌, length, refl, sym, subst, arith, inl, inr}
use Rattle.std.proofs.lemmas.Bool.{cases_eq}
use Rattle.latency_model.specs.Tables.{Tables, group_count}
use Rattle.market_floor.specs.declared.opening.Opening.{Opening}
use Rattle.market_floor.specs.declared.posting.Posting.{Posting}
use Rattle.market_floor.specs.declared.posting.Posting.TheVariants.{To, WakeAt}
use Rattle.market_floor.specs.Opening.{IsOpening}
use Rattle.market_floor.specs.Groups.{group_of}
use Rattle.market_floor.specs.Postings.{IsAddressed, IsAmong, earliest_of}
use Rattle.market_floor.specs.OpeningWorked.{market, watcher}
use Rattle.market_floor.proofs.Openings.{group-of_agent}
use Rattle.latency_model.specs.Worked.{two_groups}
use Rattle.kernel_core.specs.MailWorked.{two_agents}
use Rattle.kernel_core.specs.Post.{Post}
use Rattle.kernel_core.specs.Send.{all_sent, message_of, sent}
use Rattle.kernel_core.specs.Sendable.{IsGrouped}
use Rattle.kernel_core.proofs.Posts.{joins-counted}

pub seq-message : (o : Opening) (groups : Tables) (from leave : ℕ) (x : Posting) (n : ℕ) → (message_of o groups from leave x n).seq ≡ n
seq-message o groups from leave (To to body extra) n = refl
seq-message o groups from leave (WakeAt time) n = refl

-- what is posted as it may be gives a message that may be sent
pub among-message : (o : Opening) (groups : Tables) (traders stocks from leave : ℕ) (x : Posting) (n : ℕ) → IsAddressed traders stocks from x → IsAmong traders stocks (message_of o groups from leave x n)
among-message o groups traders stocks from leave (To to body extra) n a = record { from = a.sender; to = a.receiver; known = a.known; asks = a.asks }
among-message o groups traders stocks from leave (WakeAt time) n a = record { from = a.sender; to = a.receiver; known = a.known; asks = a.asks }

-- it is due no earlier than it may be
pub due-message : (o : Opening) (groups : Tables) (time from leave : ℕ) (x : Posting) (n : ℕ) → time ≤ leave → time ≤ earliest_of time x → time ≤ (message_of o groups from leave x n).time
due-message o groups time from leave (To to body extra) n h e = omega arith
due-message o groups time from leave (WakeAt wake) n h e = e

-- one after another
pub all_sent-append : (o : Opening) (groups : Tables) (from leave : ℕ) (p : Post) (xs : List Posting) (x : Posting) → all_sent o groups from leave p (xs ++ x ∷ []) ≡ sent o groups from leave (all_sent o groups from leave p xs) x
all_sent-append o groups from leave p [] x = refl
all_sent-append o groups from leave p (y ∷ xs) x = all_sent-append o groups from leave (sent o groups from leave p y) xs x

pub all_sent-counted : (o : Opening) (groups : Tables) (from leave : ℕ) (p : Post) (xs : List Posting) → (all_sent o groups from leave p xs).next_seq + (all_sent o groups from leave p xs).dropped ≡ p.next_seq + p.dropped + length xs
all_sent-counted o groups from leave p [] = omega arith
all_sent-counted o groups from leave p (x ∷ xs) = omega (arith, all_sent-counted o groups from leave (sent o groups from leave p x) xs, joins-counted p (message_of o groups from leave x))

-- each agent's group is one of the tables'
pub grouped-opening : (o : Opening) (groups : Tables) → IsOpening o → group_count o.groups ≡ group_count groups → IsGrouped o groups
grouped-opening o groups h e = λ agent k. subst (λ (n : ℕ). group_of o agent < n) e (group-of_agent o agent h k)

-- of two agents the exchange is of group 0, and the watcher of group 1
pub grouped-two : IsGrouped two_agents two_groups
grouped-two = λ agent k. elim (cases_eq agent 0) [
  | inl e ↦ subst (λ (a : ℕ). group_of two_agents a < 2) (sym e) (omega arith)
  | inr e ↦ (let one : 1 ≡ agent = omega arith in subst (λ (a : ℕ). group_of two_agents a < 2) one (omega arith))
]

-- a market of one watcher under any tables of one group
pub grouped-one : (groups : Tables) → group_count groups ≡ 1 → IsGrouped (market 2000 0 (watcher 1000 ∷ [])) groups
grouped-one groups e = λ agent k. elim (cases_eq agent 0) [
  | inl f ↦ subst (λ (a : ℕ). group_of (market 2000 0 (watcher 1000 ∷ [])) a < group_count groups) (sym f) (omega (arith, e))
  | inr f ↦ (let one : 1 ≡ agent = omega arith in subst (λ (a : ℕ). group_of (market 2000 0 (watcher 1000 ∷ [])) a < group_count groups) one (omega (arith, e)))
]
