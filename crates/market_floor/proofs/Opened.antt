-- What holds of a floor at the opening.
use Rattle.std.proofs.Common.{◌≡◌, ℕ, suc, pos, ◌+◌, List, [], ◌∷◌, length, All, arith, refl, ap, ◌∙◌, subst, sym}
use Rattle.std.proofs.lemmas.List.{length-map, length-replicate}
use Rattle.std.proofs.lemmas.List.Elements.{All-map}
use Rattle.agent_shell.specs.declared.setting.TraderSetting.{TraderSetting}
use Rattle.exchange_agent.specs.declared.told.StockRules.{StockRules}
use Rattle.exchange_agent.specs.Open.{listed}
use Rattle.market_floor.specs.declared.opening.Opening.{Opening}
use Rattle.market_floor.specs.Opening.{IsOpening, cash_of}
use Rattle.market_floor.specs.Floor.{floor_at_opening, parties_from}
use Rattle.market_floor.specs.Sound.{FitsFloor, IsSoundFloor, IsSoundParty}
use Rattle.market_floor.proofs.Changes.{IsShort}

parties-length : (agent : ℕ) (ss : List TraderSetting) → length (parties_from agent ss) ≡ length ss
parties-length agent [] = refl
parties-length agent (s ∷ ss) = ap (λ (n : ℕ). suc n) (parties-length (agent + 1) ss)

stocks-length : (o : Opening) → length (floor_at_opening o).exchange.stocks ≡ length o.stocks
stocks-length o = length-map o.stocks (listed (length (cash_of o)))

cash-length : (o : Opening) → length (cash_of o) ≡ length o.traders
cash-length o = length-map o.traders (λ (s : TraderSetting). s.cash)

pub opened-sound : (o : Opening) → IsOpening o → All (IsSoundParty (length o.stocks) 0) (parties_from 1 o.traders) → IsSoundFloor 0 (floor_at_opening o)
opened-sound o h parties = record {
  traders = cash-length o ∙ sym (parties-length 1 o.traders);
  few = omega (arith, h.market.traders, cash-length o, parties-length 1 o.traders);
  offsets = length-replicate (length o.stocks) (pos 0) ∙ sym (stocks-length o);
  enters = omega arith;
  cancels = omega arith;
  books = All-map (IsShort 0) (listed (length (cash_of o))) o.stocks (λ (k : ℕ) (d : StockRules) lt. omega arith);
  parties = subst (λ (n : ℕ). All (IsSoundParty n 0) (parties_from 1 o.traders)) (sym (stocks-length o)) parties;
}

pub opened-fits : (o : Opening) → IsOpening o → FitsFloor o (floor_at_opening o)
opened-fits o h = record { opening = h; stocks = sym (stocks-length o); traders = sym (parties-length 1 o.traders) }
