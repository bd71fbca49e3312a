-- What holds of a floor after more events, and once its parts changed.
use Rattle.std.proofs.Common.{◌≡◌, ℕ, ℤ, ◌+◌, ◌≤◌, List, length, All, arith, ap, subst, sym, ◌∙◌}
use Rattle.std.specs.Prelude.{slice_set}
use Rattle.std.proofs.lemmas.List.{length-set}
use Rattle.std.proofs.lemmas.List.Elements.{All-set, All-weaker}
use Rattle.agent_shell.specs.Bounds.{IsAfter}
use Rattle.agent_shell.specs.Trader.{Trader}
use Rattle.exchange_agent.specs.declared.told.Counts.{Counts}
use Rattle.exchange_agent.specs.State.{State, Stock}
use Rattle.market_floor.specs.Party.{PartyState}
use Rattle.market_floor.specs.Floor.{FloorState, floor_of, with_exchange}
use Rattle.market_floor.specs.Sound.{IsSoundFloor, IsSoundParty}
use Rattle.market_floor.proofs.Changes.{IsLike, IsShort}

-- what the traders' law says
abbrev pub TradersStay : Type 0
TradersStay = (n m : ℕ) (t : Trader) → n ≤ m → IsAfter n t → IsAfter m t

pub parties-later : (law : TradersStay) (stocks n m : ℕ) (ps : List PartyState) → n ≤ m → All (IsSoundParty stocks n) ps → All (IsSoundParty stocks m) ps
parties-later law stocks n m ps le h =
    All-weaker (IsSoundParty stocks n) (IsSoundParty stocks m) (λ (p : PartyState) (q : IsSoundParty stocks n p). record { stock = q.stock; after = law n m p.trader le q.after }) ps h

pub floor-later : (law : TradersStay) (n m : ℕ) (f : FloorState) → n ≤ m → IsSoundFloor n f → IsSoundFloor m f
floor-later law n m f le h = record {
  traders = h.traders;
  few = h.few;
  offsets = h.offsets;
  enters = omega (arith, le, h.enters);
  cancels = omega (arith, le, h.cancels);
  books = All-weaker (IsShort n) (IsShort m) (λ (k : Stock) (q : IsShort n k). omega (arith, le, q)) f.exchange.stocks h.books;
  parties = parties-later law (length f.exchange.stocks) n m f.parties le h.parties;
}

-- another exchange of its size, whose counts are the same
pub like-sound : (n : ℕ) (f : FloorState) (s : State) → IsLike f.exchange s → All (IsShort n) s.stocks → IsSoundFloor n f → IsSoundFloor n (with_exchange s f)
like-sound n f s like short h = record {
  traders = like.cash ∙ h.traders;
  few = h.few;
  offsets = h.offsets ∙ sym like.stocks;
  enters = omega (arith, h.enters, ap (λ (c : Counts). c.enters) like.counts);
  cancels = omega (arith, h.cancels, ap (λ (c : Counts). c.cancels) like.counts);
  books = short;
  parties = subst (λ (k : ℕ). All (IsSoundParty k n) f.parties) (sym like.stocks) h.parties;
}

-- the exchange after a message
pub answered-sound : (law : TradersStay) (n : ℕ) (f : FloorState) (s : State) → length s.stocks ≡ length f.exchange.stocks → length s.cash ≡ length f.exchange.cash → s.counts.enters ≤ f.exchange.counts.enters + 1 → s.counts.cancels ≤ f.exchange.counts.cancels + 1 → All (IsShort (n + 1)) s.stocks → IsSoundFloor n f → IsSoundFloor (n + 1) (with_exchange s f)
answered-sound law n f s stocks cash enters cancels short h = record {
  traders = cash ∙ h.traders;
  few = h.few;
  offsets = h.offsets ∙ sym stocks;
  enters = omega (arith, enters, h.enters);
  cancels = omega (arith, cancels, h.cancels);
  books = short;
  parties = subst (λ (k : ℕ). All (IsSoundParty k (n + 1)) f.parties) (sym stocks) (parties-later law (length f.exchange.stocks) n (n + 1) f.parties (omega arith) h.parties);
}

-- a trader after a message
pub decided-sound : (law : TradersStay) (n i : ℕ) (f : FloorState) (p : PartyState) → IsSoundParty (length f.exchange.stocks) (n + 1) p → IsSoundFloor n f → IsSoundFloor (n + 1) (record { exchange = f.exchange; parties = slice_set f.parties i p; offsets = f.offsets })
decided-sound law n i f p here h =
    let all = floor-later law n (n + 1) f (omega arith) h in
    record {
      traders = h.traders ∙ sym (length-set f.parties i p);
      few = omega (arith, h.few, length-set f.parties i p);
      offsets = h.offsets;
      enters = all.enters;
      cancels = all.cancels;
      books = all.books;
      parties = All-set (IsSoundParty (length f.exchange.stocks) (n + 1)) f.parties i p here all.parties;
    }

-- the parts of a floor with as many other offsets
pub shifted-sound : (n : ℕ) (f : FloorState) (s : State) (ps : List PartyState) (os xs : List ℤ) → floor_of s ps os ≡ f → length xs ≡ length os → IsSoundFloor n f → IsSoundFloor n (floor_of s ps xs)
shifted-sound n f s ps os xs seen long sound =
    let h : IsSoundFloor n (floor_of s ps os) = subst (λ (q : FloorState). IsSoundFloor n q) (sym seen) sound in
    record { traders = h.traders; few = h.few; offsets = long ∙ h.offsets; enters = h.enters; cancels = h.cancels; books = h.books; parties = h.parties }
