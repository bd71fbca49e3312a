use Rattle.std.proofs.Common.{◌≡◌, ◌++◌, ◌+◌, [], ◌∷◌, drop, map, Some, ap, sym, ◌∙◌, arith, append_assoc}
use Rattle.std.specs.Prelude.{option_map, slice_get}
use Rattle.market_types.specs.Room.{Room}
use Rattle.market_types.specs.declared.order.Token.{Token}
use Rattle.agent_shell.specs.declared.sending.Sending.{Sending}
use Rattle.agent_shell.specs.declared.shell.OwnOrder.{OwnOrder}
use Rattle.agent_shell.specs.Wakeup.{cancel_of}
use Rattle.agent_shell.proofs.Cancels.{cancel-next}
use Rattle.agent_shell.proofs.parts.take_back.Goals as goal

pub loop-i-preserved : goal.loop-i-preserved
loop-i-preserved c =
    let own = c.args.shell.now.orders.own in
    let t = c.in-Some.token in
    let rest = map (λ (e : Token × OwnOrder). cancel_of e.0) (drop (c.loop-i.i + 1) own) in
    let found : option_map (λ (e : Token × OwnOrder). e.0) (slice_get own c.loop-i.i) ≡ Some t = sym c.open_token.ensures ∙ c.in-Some.is in
    let step = cancel-next own c.loop-i.i t found in
    record {
      rest = ap (λ (r : Room Sending). r.list ++ rest) c.put.ensures ∙ append_assoc c.loop-i.out.list (cancel_of t ∷ []) rest ∙ ap (λ s. c.loop-i.out.list ++ s) (sym step) ∙ c.loop-i.invariant.rest;
      end = c.loop-i.invariant.end;
      within = omega (arith, c.loop-i-test.true, c.loop-i.invariant.within);
      room = omega (arith, ap (λ (r : Room Sending). r.spare) c.put.ensures, c.loop-i.invariant.room);
    }
