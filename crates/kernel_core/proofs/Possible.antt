-- An edit that could be made can still be made after an event and after another edit.
use Rattle.std.proofs.Common.{◌≡◌, ℕ, zero, suc, ◌-◌, true, List, [], ◌∷◌, length, map, refl, sym, ap, ◌∙◌, subst, get_or, slice_set}
use Rattle.latency_model.specs.Tables.{group_count}
use Rattle.market_rules.specs.declared.edit.Edit.{Edit}
use Rattle.market_rules.specs.declared.edit.Edit.TheVariants.{Tick, Fee, Halt, Resume, Latency, Agent, Silence, Inject, Series}
use Rattle.market_rules.specs.declared.edit.Param.{Param}
use Rattle.market_rules.specs.declared.edit.Param.TheVariants as parameter
use Rattle.market_rules.specs.EditRanges.{is_among}
use Rattle.agent_shell.specs.declared.setting.Kind.{Kind}
use Rattle.agent_shell.specs.declared.setting.TraderSetting.{TraderSetting}
use Rattle.agent_shell.specs.Parameters.{IsOwnParam, kind_with, setting_with}
use Rattle.market_floor.specs.Party.{PartyState}
use Rattle.market_floor.specs.declared.opening.Opening.{Opening}
use Rattle.market_floor.specs.Edited.{IsParamOf, edited_floor}
use Rattle.market_floor.specs.Floor.{FloorState, nobody, party_at}
use Rattle.kernel_core.specs.State.{State}
use Rattle.kernel_core.specs.Step.{Fits}
use Rattle.kernel_core.specs.Edited.{IsEditOf}
use Rattle.kernel_core.proofs.Kept.{settings_of}

-- an item of a list of values
get-map : {X Y : Type 0} (g : X → Y) (xs : List X) (i : ℕ) (d : X) → get_or (map g xs) i (g d) ≡ g (get_or xs i d)
get-map g [] i d = refl
get-map g (x ∷ xs) zero d = refl
get-map g (x ∷ xs) (suc i) d = get-map g xs i d

-- what an item that takes another one's place has, where that had it
set-keeps : {X : Type 0} (P : X → Type 0) (xs : List X) (i j : ℕ) (x d : X) → (P (get_or xs i d) → P x) → P (get_or xs j d) → P (get_or (slice_set xs i x) j d)
set-keeps P [] i j x d f h = h
set-keeps P (y ∷ ys) zero zero x d f h = f h
set-keeps P (y ∷ ys) zero (suc j) x d f h = h
set-keeps P (y ∷ ys) (suc i) zero x d f h = h
set-keeps P (y ∷ ys) (suc i) (suc j) x d f h = set-keeps P ys i j x d f h

-- the setting of each trader is that of the list of settings
party-setting : (f q : FloorState) (agent : ℕ) → settings_of q ≡ settings_of f → (party_at q agent).trader.setting ≡ (party_at f agent).trader.setting
party-setting f q agent e =
    let g = λ (p : PartyState). p.trader.setting in
    sym (get-map g q.parties (agent - 1) nobody) ∙ ap (λ (l : List TraderSetting). get_or l (agent - 1) (g nobody)) e ∙ get-map g f.parties (agent - 1) nobody

param-kept : (f q : FloorState) (e : Edit) → settings_of q ≡ settings_of f → IsParamOf f e → IsParamOf q e
param-kept f q (Tick stock table) same h = tt
param-kept f q (Fee stock fees) same h = tt
param-kept f q (Halt stock) same h = tt
param-kept f q (Resume stock) same h = tt
param-kept f q (Latency from to base jitter) same h = tt
param-kept f q (Agent agent name value) same h = subst (λ (s : TraderSetting). IsOwnParam s.kind name value) (sym (party-setting f q agent same)) h
param-kept f q (Silence agent) same h = tt
param-kept f q (Inject agent after message) same h = tt
param-kept f q (Series stock offset) same h = tt

-- that a parameter of a kind stays one of the kind
abbrev pub StaysOwn : Type 0
StaysOwn = (kind : Kind) (other name : Param) (given value : ℕ) → IsOwnParam kind name value → IsOwnParam (kind_with kind other given) name value

still-own : StaysOwn → (s : TraderSetting) (other name : Param) (given value : ℕ) → IsOwnParam s.kind name value → IsOwnParam (setting_with other given s).kind name value
still-own law s parameter.Every name given value h = h
still-own law s parameter.Wobble name given value h = h
still-own law s parameter.Delay name given value h = h
still-own law s parameter.Size name given value h = law s.kind parameter.Size name given value h
still-own law s parameter.Noise name given value h = law s.kind parameter.Noise name given value h
still-own law s parameter.Margin name given value h = law s.kind parameter.Margin name given value h
still-own law s parameter.Half name given value h = law s.kind parameter.Half name given value h
still-own law s parameter.Step name given value h = law s.kind parameter.Step name given value h
still-own law s parameter.Levels name given value h = law s.kind parameter.Levels name given value h
still-own law s parameter.Pause name given value h = law s.kind parameter.Pause name given value h

own-edited : StaysOwn → (time : ℕ) (made : Edit) (f : FloorState) (agent : ℕ) (name : Param) (value : ℕ)
    → IsOwnParam (party_at f agent).trader.setting.kind name value → IsOwnParam (party_at (edited_floor time made f).floor agent).trader.setting.kind name value
own-edited law time (Tick stock table) f agent name value h = h
own-edited law time (Fee stock fees) f agent name value h = h
own-edited law time (Halt stock) f agent name value h = h
own-edited law time (Resume stock) f agent name value h = h
own-edited law time (Latency from to base jitter) f agent name value h = h
own-edited law time (Agent other changed given) f agent name value h =
    let p = party_at f other in
    set-keeps (λ (q : PartyState). IsOwnParam q.trader.setting.kind name value) f.parties (other - 1) (agent - 1) _ nobody
    (still-own law p.trader.setting changed name given value) h
own-edited law time (Silence other) f agent name value h =
    set-keeps (λ (q : PartyState). IsOwnParam q.trader.setting.kind name value) f.parties (other - 1) (agent - 1) _ nobody (λ r. r) h
own-edited law time (Inject other after message) f agent name value h = h
own-edited law time (Series stock offset) f agent name value h = h

param-edited : StaysOwn → (time : ℕ) (made e : Edit) (f : FloorState) → IsParamOf f e → IsParamOf (edited_floor time made f).floor e
param-edited law time made (Tick stock table) f h = tt
param-edited law time made (Fee stock fees) f h = tt
param-edited law time made (Halt stock) f h = tt
param-edited law time made (Resume stock) f h = tt
param-edited law time made (Latency from to base jitter) f h = tt
param-edited law time made (Agent agent name value) f h = own-edited law time made f agent name value h
param-edited law time made (Silence agent) f h = tt
param-edited law time made (Inject agent after message) f h = tt
param-edited law time made (Series stock offset) f h = tt

-- what there is in a state that one opening fits there is in another one
among-kept : (o : Opening) (s q : State) (e : Edit) → Fits o s → Fits o q
    → is_among (length s.floor.exchange.stocks) (length s.floor.parties) (group_count s.groups) e ≡ true
    → is_among (length q.floor.exchange.stocks) (length q.floor.parties) (group_count q.groups) e ≡ true
among-kept o s q e f g h =
    subst (λ (n : ℕ). is_among n (length q.floor.parties) (group_count q.groups) e ≡ true) (sym f.stocks ∙ g.stocks)
    (subst (λ (n : ℕ). is_among (length s.floor.exchange.stocks) n (group_count q.groups) e ≡ true) (sym f.traders ∙ g.traders)
    (subst (λ (n : ℕ). is_among (length s.floor.exchange.stocks) (length s.floor.parties) n e ≡ true) (sym f.groups ∙ g.groups) h))

pub edit-kept : (o : Opening) (s q : State) (e : Edit) → Fits o s → Fits o q → settings_of q.floor ≡ settings_of s.floor → IsEditOf s e → IsEditOf q e
edit-kept o s q e f g same h = record {
  among = among-kept o s q e f g h.among;
  range = h.range;
  parameter = param-kept s.floor q.floor e same h.parameter;
}

pub edit-edited : StaysOwn → (o : Opening) (s q : State) (made e : Edit) → Fits o s → Fits o q → q.floor ≡ (edited_floor s.time made s.floor).floor → IsEditOf s e → IsEditOf q e
edit-edited law o s q made e f g is h = record {
  among = among-kept o s q e f g h.among;
  range = h.range;
  parameter = subst (λ (r : FloorState). IsParamOf r e) (sym is) (param-edited law s.time made e s.floor h.parameter);
}
