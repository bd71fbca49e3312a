use Rattle.std.proofs.Common.{◌≡◌, ◌^◌, ℤ, ◌++◌, ◌∷◌, [], List, All, arith, rules, subst, sym}
use Rattle.std.proofs.lemmas.Grind.{common_steps}
use Rattle.std.proofs.lemmas.List.Elements.{All-push}
use Rattle.exchange_agent.specs.Sound.{IsWithin}
use Rattle.exchange_agent.proofs.exchange.accounts.Goals as goal

pub loop-amount-preserved : goal.loop-amount-preserved
loop-amount-preserved c =
    let pushed : c.push.new.self.items ≡ c.loop-amount.accounts.items ++ c.money_of.result ∷ [] = search (rules, c.push.ensures.items) in
    record {
      value = grind (arith, common_steps, pushed, c.loop-amount.invariant.value, c.money_of.ensures.value);
      small = subst (λ (l : List ℤ). All (IsWithin (2 ^ 63)) l) (sym pushed) (All-push (IsWithin (2 ^ 63)) c.loop-amount.accounts.items c.money_of.result c.loop-amount.invariant.small c.money_of.ensures.small);
    }
