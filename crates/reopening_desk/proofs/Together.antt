-- How the parts of the answer come together.
use Rattle.std.proofs.Common.{◌≡◌, ◌∙◌, ℕ, ◌+◌, List, [], ◌∷◌, ◌++◌, Option, ap, drop, length, map, refl}
use Rattle.exchange_agent.specs.State.{stock_at}
use Rattle.kernel_core.specs.State.{State}
use Rattle.reopen_cross.specs.declared.cross.Cross.{Cross}
use Rattle.reopen_cross.specs.declared.cross.Interest.{Interest}
use Rattle.reopen_cross.specs.declared.cross.Part.{Part}
use Rattle.reopen_cross.specs.Cross.{cross_of}
use Rattle.reopening_desk.specs.Filed.{numbered_after}
use Rattle.reopening_desk.specs.declared.whole.Reopening.{Reopening}
use Rattle.reopening_desk.specs.Reopening.{reopening_frames}
use Rattle.reopening_desk.specs.declared.stock.StockNamed.{StockNamed}
use Rattle.reopening_desk.specs.Reopened.{interest_of, interests_of, joining, parts_in, reopened, reopening_at, told_of}

-- what stands behind the first part of two
drop-first : (xs ys : List Interest) → drop (length xs) (xs ++ ys) ≡ ys
drop-first [] ys = refl
drop-first (x ∷ xs) ys = drop-first xs ys

-- the moment of a reopening, by its parts
pub moment-is : (s : State) (stock : StockNamed) (time matches : ℕ) → time ≡ s.time → matches ≡ s.floor.exchange.counts.matches
    → ◌≡◌ {A = Reopening} (record { time = time; locate = stock.number + 1; symbol = stock.symbol; matches = matches }) (reopening_at s stock)
moment-is s stock time matches t m =
    ap (λ (x : ℕ). record { time = x; locate = stock.number + 1; symbol = stock.symbol; matches = matches }) t
    ∙ ap (λ (x : ℕ). record { time = s.time; locate = stock.number + 1; symbol = stock.symbol; matches = x }) m

-- a book's orders and a file's
pub list-is : (s : State) (k orders : ℕ) (filed book list : List Interest) → orders ≡ s.floor.exchange.counts.orders
    → book ≡ map interest_of (stock_at s.floor.exchange k).book → list ≡ book ++ map (numbered_after orders) filed
    → list ≡ interests_of s k filed
list-is s k orders filed book list counted made joined =
    joined ∙ ap (λ (n : ℕ). book ++ map (numbered_after n) filed) counted ∙ ap (λ (xs : List Interest). xs ++ joining s filed) made

-- of which the file's stand behind the book's
pub tail-is : (s : State) (orders n : ℕ) (filed book list : List Interest) → orders ≡ s.floor.exchange.counts.orders
    → n ≡ length book → list ≡ book ++ map (numbered_after orders) filed → drop n list ≡ joining s filed
tail-is s orders n filed book list counted long joined =
    ap (λ (m : ℕ). drop m list) long ∙ ap (drop (length book)) joined ∙ drop-first book (map (numbered_after orders) filed)
    ∙ ap (λ (n : ℕ). map (numbered_after n) filed) counted

pub answer-is : (s : State) (stock : StockNamed) (filed tail list : List Interest) (at : Reopening) (cross : Option Cross) (parts : List Part) (old new : List ℕ)
    → old ≡ [] → at ≡ reopening_at s stock → tail ≡ joining s filed → list ≡ interests_of s stock.number filed → cross ≡ cross_of list → parts ≡ parts_in list cross
    → new ≡ old ++ reopening_frames at tail cross parts → new ≡ reopened s stock filed
unfolding reopened
answer-is s stock filed tail list at cross parts old new empty moment joins whole crosses trades put =
    put ∙ ap (λ (bytes : List ℕ). bytes ++ reopening_frames at tail cross parts) empty
    ∙ ap (λ (x : Reopening). reopening_frames x tail cross parts) moment
    ∙ ap (λ (x : List Interest). reopening_frames (reopening_at s stock) x cross parts) joins
    ∙ ap (λ (x : List Part). reopening_frames (reopening_at s stock) (joining s filed) cross x) trades
    ∙ ap (λ (x : Option Cross). reopening_frames (reopening_at s stock) (joining s filed) x (parts_in list x)) crosses
    ∙ ap (λ (x : List Interest). told_of (reopening_at s stock) (joining s filed) x) whole
