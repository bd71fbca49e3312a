use Rattle.std.proofs.Common.{◌≡◌, List, length, ap, arith, subst, sym}
use Rattle.std.specs.Prelude.{OnErr, OnOk, Result, Ok, Err}
use Rattle.exchange_agent.specs.declared.pair.Pair.{Pair}
use Rattle.exchange_agent.specs.Pairs.{by_pair, pair_of, with_pair}
use Rattle.exchange_agent.specs.Sound.{IsSound}
use Rattle.exchange_agent.specs.State.{State}
use Rattle.exchange_agent.specs.View.{state_of}
use Rattle.exchange_agent.proofs.Knowns.{sound-remembering}
use Rattle.exchange_agent.proofs.Pairs.{bounds-insert_key}
use Rattle.exchange_agent.proofs.exchange.Exchange.remember.Goals as goal

-- what holds after an `Ok` and after an `Err`
either : {A E : Type 0} (r : Result A E) (P Q R : Type 0) → (P → R) → (Q → R) → OnOk r P → OnErr r Q → R
either (Ok x) P Q R f g p q = f p
either (Err e) P Q R f g p q = g q

pub invariant_of-self : goal.invariant_of-self
invariant_of-self c =
    let i = c.self.inside in
    let after = c.insert.new.self.keys in
    let pair = pair_of c.args.agent c.args.e.now.token in
    let room : length i.pairs.keys ≡ length c.args.self.now.pairs = ap (λ (q : State). length q.pairs) c.self.view_is in
    let bounds = bounds-insert_key by_pair pair i.pairs.keys in
    either c.insert.result (after ≡ with_pair pair i.pairs.keys) (after ≡ i.pairs.keys) (IsSound (state_of i.stocks.items i.cash.items after i.counts i.hidden))
    (λ keys. let long : length after ≡ length (with_pair pair i.pairs.keys) = ap (λ (ps : List Pair). length ps) keys in
    sound-remembering i.stocks.items i.cash.items i.pairs.keys i.counts i.hidden pair after c.self.invariant keys (omega (arith, bounds, long)) (omega (arith, bounds, long, room, c.requires)))
    (λ same. subst (λ (ks : List Pair). IsSound (state_of i.stocks.items i.cash.items ks i.counts i.hidden)) (sym same) c.self.invariant)
    c.insert.ensures.keys c.insert.ensures.refused
