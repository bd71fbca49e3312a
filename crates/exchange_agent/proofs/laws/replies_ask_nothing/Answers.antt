use Rattle.exchange_agent.proofs.Replied.{replies-ask-nothing}
use Rattle.exchange_agent.proofs.laws.replies_ask_nothing.Goals as goal

pub returns : goal.returns
returns c = λ s time agent stocks b. replies-ask-nothing stocks s time agent b
