-- Lemmas on postings that join.
use Rattle.std.proofs.Common.{◌≡◌, ℕ, ◌+◌, ◌<◌, ◌≤◌, true, false, cond, ltb, List, [], ◌∷◌, ◌++◌, All, length, map, drop, get_or, refl, ap, sym, ◌∙◌, arith}
use Rattle.std.proofs.lemmas.List.{at_drop_more}
use Rattle.std.proofs.lemmas.List.Elements.{All-cons, All-head, All-nil, All-tail}
use Rattle.market_types.specs.Limits.{most_waiting}
use Rattle.market_types.specs.declared.message.Message.{Message}
use Rattle.event_queue.specs.Waiting.{joined}
use Rattle.latency_model.specs.Tables.{Tables}
use Rattle.market_floor.specs.declared.opening.Opening.{Opening}
use Rattle.market_floor.specs.declared.posting.Posting.{Posting}
use Rattle.kernel_core.specs.Post.{Post, joins}
use Rattle.kernel_core.specs.Send.{all_sent, message_of, sent}

-- the postings of a list join behind those of another
pub all_sent-both : (o : Opening) (groups : Tables) (from leave : ℕ) (p : Post) (xs ys : List Posting)
    → all_sent o groups from leave p (xs ++ ys) ≡ all_sent o groups from leave (all_sent o groups from leave p xs) ys
all_sent-both o groups from leave p [] ys = refl
all_sent-both o groups from leave p (x ∷ xs) ys = all_sent-both o groups from leave (sent o groups from leave p x) xs ys

-- the next of a list joins, each of which is a posting
pub all_sent-next : {A : Type 0} (posting : A → Posting) (o : Opening) (groups : Tables) (from leave : ℕ) (p q start : Post) (xs : List A) (i : ℕ) (x : A)
    → i < length xs → q ≡ sent o groups from leave p (posting (get_or xs i x)) → all_sent o groups from leave p (map posting (drop i xs)) ≡ start
    → all_sent o groups from leave q (map posting (drop (i + 1) xs)) ≡ start
all_sent-next posting o groups from leave p q start xs i x within is rest =
    ap (λ (r : Post). all_sent o groups from leave r (map posting (drop (i + 1) xs))) is
    ∙ sym (at_drop_more (λ (ys : List _). all_sent o groups from leave p (map posting ys)) xs i x within)
    ∙ rest

-- what holds of each posting of two lists holds of each of either
pub All-front : {X : Type 0} (P : X → Type 0) (xs ys : List X) → All P (xs ++ ys) → All P xs
All-front P [] ys h = All-nil P
All-front P (x ∷ xs) ys h = All-cons P x xs (All-head P x (xs ++ ys) h) (All-front P xs ys (All-tail P x (xs ++ ys) h))

pub All-behind : {X : Type 0} (P : X → Type 0) (xs ys : List X) → All P (xs ++ ys) → All P ys
All-behind P [] ys h = h
All-behind P (x ∷ xs) ys h = All-behind P xs ys (All-tail P x (xs ++ ys) h)

-- and of each that the postings are made of
pub All-made : {X : Type 0} (P : X → Type 0) {Y : Type 0} (f : Y → X) (ys : List Y) → All P (map f ys) → All (λ (y : Y). P (f y)) ys
All-made P f [] h = All-nil (λ y. P (f y))
All-made P f (y ∷ ys) h = All-cons (λ y. P (f y)) y ys (All-head P (f y) (map f ys) h) (All-made P f ys (All-tail P (f y) (map f ys) h))

-- a message that joins raises each count by one at most
pub joins-counts : (p : Post) (m : ℕ → Message) → ((joins p m).next_seq ≤ p.next_seq + 1) × ((joins p m).dropped ≤ p.dropped + 1)
joins-counts p m =
    elim (ltb (length p.waiting) most_waiting) as (λ b. let q : Post = cond b (record { waiting = joined (m p.next_seq) p.waiting; next_seq = p.next_seq + 1; dropped = p.dropped }) (record { waiting = p.waiting; next_seq = p.next_seq; dropped = p.dropped + 1 }) in (q.next_seq ≤ p.next_seq + 1) × (q.dropped ≤ p.dropped + 1)) [
      | true ↦ (omega arith, omega arith)
      | false ↦ (omega arith, omega arith)
    ]

-- and so does a posting of a list
pub sent-counts : {A : Type 0} (posting : A → Posting) (o : Opening) (groups : Tables) (from leave : ℕ) (p q : Post) (xs : List A) (i : ℕ) (x : A)
    → q ≡ sent o groups from leave p (posting (get_or xs i x)) → (q.next_seq ≤ p.next_seq + 1) × (q.dropped ≤ p.dropped + 1)
sent-counts posting o groups from leave p q xs i x is =
    let counts = joins-counts p (message_of o groups from leave (posting (get_or xs i x))) in
    (omega (arith, ap (λ (r : Post). r.next_seq) is, counts.0), omega (arith, ap (λ (r : Post). r.dropped) is, counts.1))
