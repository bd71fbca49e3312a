use Rattle.market_laws.proofs.FeedKinds.{feed-full}
use Rattle.market_laws.proofs.fields.feeds_are_of_their_kinds.Goals as goal

pub returns : goal.returns
returns g = λ c b e. feed-full c.opening c.plan b e
