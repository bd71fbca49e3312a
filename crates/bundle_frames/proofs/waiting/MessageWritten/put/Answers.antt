use Rattle.std.proofs.Common.{refl, ap, ◌∙◌}
use Rattle.market_types.specs.declared.message.Body.TheVariants as body
use Rattle.bundle_frames.proofs.Told.{ask_bytes, of_waiting}
use Rattle.bundle_frames.proofs.waiting.MessageWritten.put.Goals as goal

pub returns-in-Wake : goal.returns-in-Wake
returns-in-Wake c =
    of_waiting _ _ _ c.args.self.now _ _ _ c.waiting_head-head.ensures c.in-Wake.is refl c.frame_of_two.ensures.appended

pub returns-in-Order-Enter : goal.returns-in-Order-Enter
returns-in-Order-Enter c =
    of_waiting _ _ _ c.args.self.now _ _ _ c.waiting_head-head.ensures (c.in-Order-Enter.is ∙ ap (λ i. body.Order i) (rw c.in-Order-Enter.is at c.in-Order-Enter.field-0-is)) c.enter.ensures c.frame_of_two-in-Order-Enter.ensures.appended

pub returns-in-Order-Cancel : goal.returns-in-Order-Cancel
returns-in-Order-Cancel c =
    of_waiting _ _ _ c.args.self.now _ _ _ c.waiting_head-head.ensures (c.in-Order-Cancel.is ∙ ap (λ i. body.Order i) (rw c.in-Order-Cancel.is at c.in-Order-Cancel.field-0-is)) c.cancel.ensures c.frame_of_two-in-Order-Cancel.ensures.appended

pub returns-in-Answer : goal.returns-in-Answer
returns-in-Answer c =
    of_waiting _ _ _ c.args.self.now _ _ _ c.waiting_head-head.ensures c.in-Answer.is (c.as_slice.ensures.bytes ∙ c.encode_reply.ensures.spelling) c.frame_of_two-in-Answer.ensures.appended

pub returns-in-Ask : goal.returns-in-Ask
returns-in-Ask c =
    of_waiting _ _ _ c.args.self.now _ _ _ c.waiting_head-head.ensures c.in-Ask.is (c.to_be_bytes.ensures ∙ ask_bytes c.in-Ask.stock) c.frame_of_two-in-Ask.ensures.appended

pub returns-in-Quote : goal.returns-in-Quote
returns-in-Quote c =
    of_waiting _ _ _ c.args.self.now _ _ _ c.waiting_head-head.ensures c.in-Quote.is c.quote.ensures c.frame_of_two-in-Quote.ensures.appended
