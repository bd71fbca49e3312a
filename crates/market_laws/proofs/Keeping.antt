-- What holds of an exchange from its opening on, whatever it meets.
use Rattle.std.proofs.Common.{◌≡◌, ℕ, zero, suc, ◌+◌, ◌<◌, ℤ, pos, List, [], ◌∷◌, length, replicate, arith, refl, subst, sym, Bool, true}
use Rattle.std.specs.Prelude.{slice_index_or}
use Rattle.std.specs.List.{AllByRecursion}
use Rattle.std.proofs.lemmas.Int.{ints}
use Rattle.std.proofs.lemmas.List.{length-map, length-replicate}
use Rattle.std.proofs.lemmas.List.Elements.{All-map, All-nil}
use Rattle.price_time_book.specs.declared.resting.Resting.{Resting}
use Rattle.agent_shell.specs.declared.setting.TraderSetting.{TraderSetting}
use Rattle.exchange_agent.specs.declared.told.StockRules.{StockRules}
use Rattle.exchange_agent.specs.Open.{listed, opened}
use Rattle.exchange_agent.specs.Runs.{Act, IsPossible, message, change, run, state_after, total}
use Rattle.exchange_agent.specs.Sound.{is_trader}
use Rattle.exchange_agent.specs.State.{State}
use Rattle.exchange_agent.proofs.Crossings.{apart-nil}
use Rattle.exchange_agent.proofs.Ends.{BookLaws}
use Rattle.exchange_agent.proofs.Steps.{IsKept, IsKeptStock, change-step, message-step}
use Rattle.market_floor.specs.declared.opening.Opening.{Opening}
use Rattle.market_floor.specs.Opening.{cash_of}
use Rattle.market_laws.specs.History.{first_exchange}

kept-after : BookLaws → (n stocks : ℕ) (s : State) (a : Act) → IsKept n stocks s → IsPossible n stocks a → IsKept n stocks (state_after s a)
kept-after laws n stocks s (message time from b) kept h = (message-step laws n stocks s time from b kept h.0 h.1).kept
kept-after laws n stocks s (change time k c) kept h = (change-step n stocks s time k c kept (subst (λ (m : ℕ). k < m) (sym kept.many) h)).kept

-- it holds after all that is met
pub kept-run : BookLaws → (n stocks : ℕ) (s : State) (acts : List Act) → IsKept n stocks s → AllByRecursion (IsPossible n stocks) acts → IsKept n stocks (run s acts)
kept-run laws n stocks s [] kept h = kept
kept-run laws n stocks s (a ∷ acts) kept h = kept-run laws n stocks (state_after s a) acts (kept-after laws n stocks s a kept h.0) h.1

flat-zeros : (n : ℕ) → total (replicate n (pos 0)) ≡ pos 0
flat-zeros zero = refl
flat-zeros (suc n) = let rest : total (replicate n (pos 0)) ≡ pos 0 = flat-zeros n in omega (arith, ints, rest)

kept-listed : (n : ℕ) (r : StockRules) → IsKeptStock n 0 (listed n r)
kept-listed n r = record {
  orderly = record { rising = tt; live = tt; within = tt; few = omega arith };
  traders = All-nil (λ (o : Resting). is_trader n o ≡ true);
  references = All-nil (λ (o : Resting). o.reference < 0 + 1);
  accounts = length-replicate n (pos 0);
  flat = flat-zeros n;
  apart = apart-nil;
}

kept-opened : (rules : List StockRules) (cash : List ℤ) (hidden : Bool) → IsKept (length cash) (length rules) (opened rules cash hidden)
kept-opened rules cash hidden =
    let n = length cash in
    record { cash = refl; many = length-map rules (listed n); each = All-map (IsKeptStock n 0) (listed n) rules (λ k d in'. kept-listed n (slice_index_or rules k d)) }

pub few-accounts : (o : Opening) → length (cash_of o) ≡ length o.traders
few-accounts o = length-map o.traders (λ (s : TraderSetting). s.cash)

-- a study's exchange before the first message
pub kept-first : (o : Opening) → IsKept (length o.traders) (length o.stocks) (first_exchange o)
kept-first o = subst (λ (n : ℕ). IsKept n (length o.stocks) (first_exchange o)) (few-accounts o) (kept-opened o.stocks (cash_of o) o.hidden)
