-- The two cases of a reaction.
use Rattle.std.proofs.Common.{◌≡◌, ◌≢◌, ◌<◌, ◌-◌, ℕ, zero, suc, false, List, [], ◌∷◌, length, All, Result, Ok, Err, ap, arith, refl, subst, sym, ◌∙◌}
use Rattle.std.specs.Prelude.{◌==◌, ℤ, OnOk, slice_index_or}
use Rattle.std.proofs.lemmas.Bool.Decides.{nat_tests}
use Rattle.std.proofs.lemmas.List.Elements.{All-nil}
use Rattle.market_types.specs.declared.feed.Feed.{Feed}
use Rattle.market_types.specs.declared.message.Body.{Body}
use Rattle.market_types.specs.declared.message.Body.TheVariants.{Wake, Order, Answer, Ask, Quote}
use Rattle.agent_shell.specs.Sight.{Sight}
use Rattle.exchange_agent.specs.State.{State}
use Rattle.market_floor.specs.Party.{PartyState, reacted}
use Rattle.market_floor.specs.declared.postings.Happening.{Happening}
use Rattle.market_types.specs.declared.message.Message.{Message}
use Rattle.exchange_agent.specs.Market.{market}
use Rattle.market_floor.specs.declared.opening.Opening.{Opening}
use Rattle.market_floor.specs.Floor.{FloorState, nobody, party_at}
use Rattle.market_floor.specs.Reaction.{IsTold, Reaction, decided_by, market_reaction, reaction, sight_at, sight_for, trader_reaction}

pub to-exchange : (o : Opening) (f : FloorState) (m : Message) → m.to ≡ 0 → reaction o f m ≡ market_reaction o f (market f.exchange m.time m.from m.body)
unfolding reaction
to-exchange o f m e = rw e refl

pub to-trader : (o : Opening) (f : FloorState) (m : Message) → (m.to == 0) ≡ false → reaction o f m ≡ trader_reaction f m.to (party_at f m.to) (decided_by o f.exchange f.offsets (party_at f m.to) m)
unfolding reaction
to-trader o f m e = rw e refl

pub not-zero : (n : ℕ) → n ≢ 0 → (n == 0) ≡ false
not-zero n h = grind (arith, nat_tests)

-- what follows of a call's answer
pub ok-map : {A E : Type 0} (r : Result A E) (P Q : Type 0) → (P → Q) → OnOk r P → OnOk r Q
ok-map (Ok x) P Q f p = f p
ok-map (Err e) P Q f p = tt

any-default : (xs : List PartyState) (k : ℕ) (d e : PartyState) → k < length xs → slice_index_or xs k d ≡ slice_index_or xs k e
any-default [] k d e lt = absurd (omega (arith, lt))
any-default (x ∷ xs) zero d e lt = refl
any-default (x ∷ xs) (suc k) d e lt = any-default xs k d e (omega (arith, lt))

-- the item of a list of traders is the trader of its number
pub party-here : (f : FloorState) (agent number : ℕ) (p : PartyState) → number ≡ agent → number - 1 < length f.parties → p ≡ slice_index_or f.parties (number - 1) p → p ≡ party_at f agent
party-here f agent number p is within at =
    at ∙ any-default f.parties (number - 1) p nobody within ∙ ap (λ (k : ℕ). slice_index_or f.parties (k - 1) nobody) is

-- what holds anyway follows of a call's answer
pub ok-all : {A E : Type 0} (r : Result A E) (P : Type 0) → P → OnOk r P
ok-all (Ok x) P p = p
ok-all (Err e) P p = tt

-- a trader tells no feed
pub tells-none : (h : Happening) (w : Reaction) (time : ℕ) → w.feed ≡ [] → IsTold w h → All (λ (x : Feed). x.time ≡ time) h.after.list
tells-none h w time none told = subst (λ (l : List Feed). All (λ (x : Feed). x.time ≡ time) l) (sym (told.feed ∙ none)) (All-nil (λ (x : Feed). x.time ≡ time))

-- a trader judges by a value where it hears a quote alone
unread : (o : Opening) (s : State) (os : List ℤ) (stock time : ℕ) (p : PartyState) (body : Body) → reacted (sight_for o s os stock time body) p body ≡ reacted (sight_at o s os stock time) p body
unread o s os stock time p Wake = refl
unread o s os stock time p (Order inbound) = refl
unread o s os stock time p (Answer reply) = refl
unread o s os stock time p (Ask asked) = refl
unread o s os stock time p (Quote q) = refl

-- what a trader does with what it is shown
pub shown : (o : Opening) (s : State) (os : List ℤ) (stock : ℕ) (v : Sight) (p : PartyState) (m : Message) → v ≡ sight_for o s os stock m.time m.body → stock ≡ p.trader.setting.stock → reacted v p m.body ≡ decided_by o s os p m
shown o s os stock v p m sight own =
    ap (λ (w : Sight). reacted w p m.body) (sight ∙ ap (λ (k : ℕ). sight_for o s os k m.time m.body) own)
    ∙ unread o s os p.trader.setting.stock m.time p m.body
