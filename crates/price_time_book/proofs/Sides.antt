-- The first order of a side, from the first ones of its two queues.
use Rattle.std.proofs.Common.{◌≡◌, ◌≢◌, ℕ, Bool, true, false, List, Option, Some, None, IfNone, IfSome, sym, ap, ◌∙◌, inl, inr, subst}
use Rattle.std.proofs.lemmas.Bool.{cases_Bool}
use Rattle.market_types.specs.declared.order.Side.{Side}
use Rattle.price_time_book.specs.declared.levels.Queue.{Queue}
use Rattle.price_time_book.specs.declared.lowering.First.{First}
use Rattle.price_time_book.specs.declared.resting.Resting.{Resting}
use Rattle.price_time_book.specs.Indexed.{IsIndexed}
use Rattle.price_time_book.specs.Queues.{better_of, first_on, hidden_of, queue_of, shown_of, top_in}
use Rattle.price_time_book.proofs.Tops.{first_is}
use Rattle.price_time_book.specs.declared.levels.Level.{Level}

pub if_some : {A : Type 0} (P Q : A → Type 0) (r : Option A) → ((a : A) → P a → Q a) → IfSome r P → IfSome r Q
if_some P Q None f h = tt
if_some P Q (Some a) f h = f a h

pub if_none : {A : Type 0} (P Q : Type 0) (r : Option A) → (P → Q) → IfNone r P → IfNone r Q
if_none P Q None f h = f h
if_none P Q (Some a) f h = tt

-- what is known of the first order of a queue is known of the first order of the side, where that is in the queue
pub from_one : (P : ℕ × ℕ → Type 0) (b : Bool) (r : Option First) (a : Option (ℕ × ℕ)) → IfSome r (λ f. f.shown ≡ b → a ≡ Some (f.level, f.place)) → IfSome a P → IfSome r (λ f. f.shown ≡ b → P (f.level, f.place))
from_one P b None a h k = tt
from_one P b (Some f) a h k = λ e. subst (λ t. IfSome t P) (h e) k

pub from_either : (P : First → Type 0) (r : Option First) → IfSome r (λ f. f.shown ≡ true → P f) → IfSome r (λ f. f.shown ≡ false → P f) → IfSome r P
from_either P None h k = tt
from_either P (Some f) h k = elim (cases_Bool f.shown) [ inl e ↦ h e | inr e ↦ k e ]

pub first_by_queues : (s : Side) (w : List Resting) (a b first : Option Resting) → top_in (shown_of s) w ≡ a → top_in (hidden_of s) w ≡ b → first ≡ better_of s a b → first_on s w ≡ first
first_by_queues s w a b first e f g = first_is s w ∙ ap (λ (o : Option Resting). better_of s o (top_in (hidden_of s) w)) e ∙ ap (better_of s a) f ∙ sym g

-- ---- an order's queue by its side and whether it is shown
pub queue_is : (o : Resting) (s : Side) (b : Bool) → o.side ≡ s → o.shown ≡ b → queue_of o ≡ record { side = s; shown = b }
queue_is o s b e f = λ i. record { side = e i; shown = f i }

pub indexed_as : (q r : Queue) (os : List Resting) (nx : List ℕ) (ls : List Level) → q ≡ r → IsIndexed q os nx ls → IsIndexed r os nx ls
indexed_as q r os nx ls e x = subst (λ (t : Queue). IsIndexed t os nx ls) e x

-- queues apart
pub sides_apart : (t q : Queue) → t.side ≢ q.side → t ≢ q
sides_apart t q n e = n (ap (λ (r : Queue). r.side) e)

pub hidden_apart : (s r : Side) → hidden_of s ≢ shown_of r
hidden_apart s r e = let f : false ≡ true = ap (λ (q : Queue). q.shown) e in absurd (cc f)

pub shown_apart : (s r : Side) → shown_of s ≢ hidden_of r
shown_apart s r e = let f : true ≡ false = ap (λ (q : Queue). q.shown) e in absurd (cc f)
