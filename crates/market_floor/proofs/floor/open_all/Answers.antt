use Rattle.std.proofs.Common.{◌≡◌, ◌<◌, ◌++◌, ◌∷◌, [], List, All, length, get_or, arith, rules, ap, ◌∙◌, subst, sym}
use Rattle.std.proofs.lemmas.Grind.{common_steps}
use Rattle.std.proofs.lemmas.List.Elements.{All-push}
use Rattle.agent_shell.specs.declared.setting.TraderSetting.{TraderSetting}
use Rattle.market_floor.specs.Party.{PartyState}
use Rattle.market_floor.specs.Groups.{no_setting}
use Rattle.market_floor.specs.Sound.{IsSoundParty}
use Rattle.market_floor.proofs.floor.open_all.Goals as goal

pub loop-i-preserved : goal.loop-i-preserved
loop-i-preserved c =
    let o = c.args.o.now in
    let n = length o.stocks in
    let i = c.loop-i.i in
    let ts = c.as_slice-setting-items.result.now in
    let p = c.in-Ok.party in
    let pushed : c.push.new.self.items ≡ c.loop-i.parties.items ++ p ∷ [] = search (rules, c.push.ensures.items) in
    let value = c.in-Ok.ensures.value in
    let within : i < length o.traders = omega (arith, c.loop-i-test.true, ap (λ (xs : List TraderSetting). length xs) c.as_slice-setting-items.ensures) in
    let stock : p.trader.setting.stock ≡ (get_or o.traders i no_setting).stock = ap (λ (q : PartyState). q.trader.setting.stock) value ∙ ap (λ (xs : List TraderSetting). (get_or xs i no_setting).stock) c.as_slice-setting-items.ensures in
    record {
      rest = grind (arith, common_steps, pushed, c.loop-i.invariant.rest, value);
      sound = subst (λ (ps : List PartyState). All (IsSoundParty n 0) ps) (sym pushed)
          (All-push (IsSoundParty n 0) c.loop-i.parties.items p c.loop-i.invariant.sound
          (record { stock = omega (arith, stock, (c.requires.traders i no_setting within).stock); after = c.in-Ok.ensures.fresh }));
    }
