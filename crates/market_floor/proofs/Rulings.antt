-- A floor on which the changes that are due are made.
use Rattle.std.proofs.Common.{◌≡◌, ℕ, ◌≤◌, Bool, false, ltb, List, [], length, All, None, ap, arith, refl, subst, ◌∙◌, sym}
use Rattle.std.proofs.lemmas.Bool.Decides.{nat_tests}
use Rattle.market_types.specs.declared.feed.Feed.{Feed}
use Rattle.market_rules.specs.Changes.{dated_by, dates_refusal}
use Rattle.exchange_agent.specs.State.{State}
use Rattle.market_floor.specs.Party.{PartyState}
use Rattle.std.specs.Prelude.{ℤ}
use Rattle.market_floor.specs.declared.opening.Opening.{Opening}
use Rattle.market_floor.specs.Floor.{FloorState, floor_of, with_exchange}
use Rattle.market_floor.specs.Ruled.{all_changed, due, ruled}
use Rattle.market_floor.specs.Sound.{FitsFloor, IsSoundFloor}
use Rattle.market_floor.proofs.Changes.{ChangesKeepBooks, FirstAreDue, IsBy, by-all, due-by, like-all, none-due, short-all}
use Rattle.market_floor.proofs.Sounds.{like-sound}

-- the parts are those of the floor
pub whole : (g : FloorState) (s : State) (ps : List PartyState) (os xs : List ℤ) → xs ≡ os → floor_of s ps os ≡ g → floor_of s ps xs ≡ g
whole g s ps os xs same is = ap (λ (l : List ℤ). floor_of s ps l) same ∙ is

-- none is due
pub not-due : (applied due : ℕ) (b : Bool) → b ≡ ltb applied due → b ≡ false → due ≤ applied
not-due applied due b e h = grind (arith, nat_tests)

pub ruled-none : (o : Opening) (applied time : ℕ) (f : FloorState) → dated_by o.dated time ≤ applied → f ≡ (ruled o applied time f).floor
unfolding ruled
ruled-none o applied time f le = rw (none-due o applied time le) refl

pub untold-none : (o : Opening) (applied time : ℕ) (f : FloorState) → dated_by o.dated time ≤ applied → [] ≡ (ruled o applied time f).feed
unfolding ruled
untold-none o applied time f le = rw (none-due o applied time le) refl

-- the parts of a floor, whose exchange met the changes
pub ruled-made : (o : Opening) (applied time : ℕ) (f : FloorState) (before after : State) (parties : List PartyState) (offsets : List ℤ) → floor_of before parties offsets ≡ f → after ≡ (all_changed (due o applied time) before).state → floor_of after parties offsets ≡ (ruled o applied time f).floor
unfolding ruled
ruled-made o applied time f before after parties offsets seen is =
    subst (λ (g : FloorState). floor_of after parties offsets ≡ with_exchange (all_changed (due o applied time) g.exchange).state g) seen
    (ap (λ (s : State). floor_of s parties offsets) is)

pub ruled-told : (o : Opening) (applied time : ℕ) (f : FloorState) (before : State) (feed : List Feed) → before ≡ f.exchange → feed ≡ (all_changed (due o applied time) before).feed → feed ≡ (ruled o applied time f).feed
unfolding ruled
ruled-told o applied time f before feed seen is = subst (λ (s : State). feed ≡ (all_changed (due o applied time) s).feed) seen is

-- what the changes leave of the floor
pub ruled-times : (law : FirstAreDue) (o : Opening) (applied time : ℕ) (f : FloorState) → dates_refusal o.dated ≡ None → All (IsBy time) (ruled o applied time f).feed
unfolding ruled
ruled-times law o applied time f rising = by-all time (due o applied time) f.exchange (due-by law o applied time rising)

pub ruled-sound : (law : ChangesKeepBooks) (n : ℕ) (o : Opening) (applied time : ℕ) (f : FloorState) → IsSoundFloor n f → IsSoundFloor n (ruled o applied time f).floor
unfolding ruled
ruled-sound law n o applied time f h =
    like-sound n f (all_changed (due o applied time) f.exchange).state (like-all (due o applied time) f.exchange) (short-all law n (due o applied time) f.exchange h.books) h

pub ruled-stocks : (o : Opening) (applied time : ℕ) (f : FloorState) → length (ruled o applied time f).floor.exchange.stocks ≡ length f.exchange.stocks
unfolding ruled
ruled-stocks o applied time f = (like-all (due o applied time) f.exchange).stocks

pub ruled-parties : (o : Opening) (applied time : ℕ) (f : FloorState) → (ruled o applied time f).floor.parties ≡ f.parties
unfolding ruled
ruled-parties o applied time f = refl

pub ruled-fits : (o : Opening) (applied time : ℕ) (f : FloorState) → FitsFloor o f → FitsFloor o (ruled o applied time f).floor
ruled-fits o applied time f h = record {
  opening = h.opening;
  stocks = h.stocks ∙ sym (ruled-stocks o applied time f);
  traders = h.traders ∙ sym (ap (λ (ps : List PartyState). length ps) (ruled-parties o applied time f));
}
