use Rattle.std.proofs.Common.{◌≡◌, ◌∙◌, ◌++◌, ◌∷◌, [], List, ap, sym, rules}
use Rattle.std.specs.Prelude.{OnOk, Result, Ok, Err}
use Rattle.std.proofs.lemmas.List.Quantifiers.{position-Some}
use Rattle.exchange_agent.specs.declared.verdict.Verdict.{Verdict}
use Rattle.exchange_agent.specs.declared.verdict.Verdict.TheVariants.{Accepted, Forgotten, Refused}
use Rattle.market_types.specs.declared.message.Body.TheVariants.{Answer}
use Rattle.exchange_agent.specs.declared.handled.Outgoing.{Outgoing}
use Rattle.exchange_agent.specs.Enter.{entered_by, rejection_of, verdict_found}
use Rattle.exchange_agent.specs.State.{no_stock}
use Rattle.exchange_agent.proofs.Verdicts.{accepted-few, accepted-is, accepted-number, forgotten-is, refused-is}
use Rattle.exchange_agent.proofs.exchange.Exchange.enter.Goals as goal

pub accept-requires-clause-stock : goal.accept-requires-clause-stock
accept-requires-clause-stock c =
    let s = c.args.self.now in
    let is : verdict_found s c.args.from c.args.e.now ≡ Accepted c.in-Accepted.stock = search rules in
    (position-Some _ s.stocks c.in-Accepted.stock no_stock (accepted-number s c.args.from c.args.e.now c.in-Accepted.stock is)).0

pub accept-requires-clause-few : goal.accept-requires-clause-few
accept-requires-clause-few c =
    let is : verdict_found c.args.self.now c.args.from c.args.e.now ≡ Accepted c.in-Accepted.stock = search rules in
    accepted-few c.args.self.now c.args.from c.args.e.now c.in-Accepted.stock is

pub accept-requires-clause-room : goal.accept-requires-clause-room
accept-requires-clause-room c =
    let is : verdict_found c.args.self.now c.args.from c.args.e.now ≡ Accepted c.in-Accepted.stock = search rules in
    (accepted-is c.args.self.now c.args.from c.args.e.now c.in-Accepted.stock is).room

pub reject-requires-clause-room : goal.reject-requires-clause-room
reject-requires-clause-room c =
    let is : verdict_found c.args.self.now c.args.from c.args.e.now ≡ Refused c.in-Refused.reason = search rules in
    (refused-is c.args.self.now c.args.from c.args.e.now c.in-Refused.reason is).room

on-ok : {A E : Type 0} (r : Result A E) (P Q : Type 0) → OnOk r P → (P → Q) → OnOk r Q
on-ok (Ok x) P Q p f = f p
on-ok (Err e) P Q p f = p

always : {A E : Type 0} (r : Result A E) (P : Type 0) → P → OnOk r P
always (Ok x) P p = p
always (Err e) P p = tt

pub returns-in-Forgotten-clause-state : goal.returns-in-Forgotten-clause-state
returns-in-Forgotten-clause-state c =
    let s = c.args.self.now in
    let e = c.args.e.now in
    let is : verdict_found s c.args.from e ≡ Forgotten c.in-Forgotten.reason = search rules in
    always c.forget.result _
    (ap (λ (v : Verdict). (entered_by s c.args.time c.args.from e v).state) (sym (forgotten-is s c.args.from e c.in-Forgotten.reason is)))

pub returns-in-Forgotten-clause-replies : goal.returns-in-Forgotten-clause-replies
returns-in-Forgotten-clause-replies c =
    let s = c.args.self.now in
    let e = c.args.e.now in
    let reason = c.in-Forgotten.reason in
    let is : verdict_found s c.args.from e ≡ Forgotten reason = search rules in
    on-ok c.forget.result _ _ c.forget.ensures.replies (λ told. told
    ∙ ap (λ (rs : List Outgoing). rs ++ record { to = c.args.from; body = Answer (rejection_of c.args.time e reason) } ∷ []) c.requires.no_replies
    ∙ ap (λ (v : Verdict). (entered_by s c.args.time c.args.from e v).replies) (sym (forgotten-is s c.args.from e reason is)))
