use Rattle.std.proofs.Common.{refl, ap, ◌∙◌}
use Rattle.market_types.specs.declared.message.Body.TheVariants as body
use Rattle.bundle_frames.proofs.Told.{ask_bytes, of_body, of_bytes}
use Rattle.bundle_frames.proofs.events.put_parts.Goals as goal

pub returns-in-Wake-clause-appended : goal.returns-in-Wake-clause-appended
returns-in-Wake-clause-appended c = of_bytes _ _ _ c.args.head.now _ _ _ c.in-Wake.is refl c.put_event.ensures.appended

pub returns-in-Order-Enter-clause-appended : goal.returns-in-Order-Enter-clause-appended
returns-in-Order-Enter-clause-appended c =
    of_bytes _ _ _ c.args.head.now _ _ _ (c.in-Order-Enter.is ∙ ap (λ i. body.Order i) (rw c.in-Order-Enter.is at c.in-Order-Enter.field-0-is)) c.enter.ensures
    c.put_event-in-Order-Enter.ensures.appended

pub returns-in-Order-Cancel-clause-appended : goal.returns-in-Order-Cancel-clause-appended
returns-in-Order-Cancel-clause-appended c =
    of_bytes _ _ _ c.args.head.now _ _ _ (c.in-Order-Cancel.is ∙ ap (λ i. body.Order i) (rw c.in-Order-Cancel.is at c.in-Order-Cancel.field-0-is)) c.cancel.ensures
    c.put_event-in-Order-Cancel.ensures.appended

pub returns-in-Answer-clause-appended : goal.returns-in-Answer-clause-appended
returns-in-Answer-clause-appended c = of_body _ _ _ c.args.head.now _ _ c.in-Answer.is c.put_answer.ensures.appended

pub returns-in-Ask-clause-appended : goal.returns-in-Ask-clause-appended
returns-in-Ask-clause-appended c = of_bytes _ _ _ c.args.head.now _ _ _ c.in-Ask.is (c.to_be_bytes.ensures ∙ ask_bytes c.in-Ask.stock) c.put_event-in-Ask.ensures.appended

pub returns-in-Quote-clause-appended : goal.returns-in-Quote-clause-appended
returns-in-Quote-clause-appended c = of_bytes _ _ _ c.args.head.now _ _ _ c.in-Quote.is c.quote.ensures c.put_event-in-Quote.ensures.appended
