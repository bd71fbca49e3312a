use Rattle.bundle_reader.specs.declared.market_body.MarketBody.TheVariants.{Ask, Quote}
use Rattle.bundle_reader.proofs.Bodied.{market_read, market_refused}
use Rattle.bundle_reader.proofs.bodies.market.Goals as goal

pub returns-in-Ok-Ask-clause-only : goal.returns-in-Ok-Ask-clause-only
returns-in-Ok-Ask-clause-only c b is =
    market_read c.args.bytes.now b c.decode.result c.in-Ok-Ask.field-0 (Ask c.in-Ok-Ask.stock) c.requires.wakeup c.requires.order c.requires.answer
    c.decode.ensures.only is c.in-Ok-Ask.is c.in-Ok-Ask.field-0-is

pub returns-in-Ok-Quote-clause-only : goal.returns-in-Ok-Quote-clause-only
returns-in-Ok-Quote-clause-only c b is =
    market_read c.args.bytes.now b c.decode.result c.in-Ok-Quote.field-0 (Quote c.in-Ok-Quote.quote) c.requires.wakeup c.requires.order c.requires.answer
    c.decode.ensures.only is c.in-Ok-Quote.is c.in-Ok-Quote.field-0-is

pub returns-in-Err-clause-only : goal.returns-in-Err-clause-only
returns-in-Err-clause-only c b is =
    absurd (market_refused c.args.bytes.now b c.decode.result c.in-Err.field-0 c.requires.wakeup c.requires.order c.requires.answer c.decode.ensures.only is c.in-Err.is)
