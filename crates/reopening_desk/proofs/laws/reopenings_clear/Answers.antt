use Rattle.reopening_desk.specs.Reopened.{interests_of}
use Rattle.reopening_desk.proofs.Clearing.{interests-join, list-clears}
use Rattle.reopening_desk.proofs.laws.reopenings_clear.Goals as goal

pub returns-clause-interests : goal.returns-clause-interests
returns-clause-interests c = λ traders messages s k filed small there file.
    interests-join c.a_file_joins_a_book.ensures s k filed (c.live_orders_are_in_range.ensures traders messages s.floor.exchange k small there) file

pub returns-clause-clears : goal.returns-clause-clears
returns-clause-clears c = λ traders messages s k filed small there file.
    let list = interests_of s k filed in
    let interests = interests-join c.a_file_joins_a_book.ensures s k filed (c.live_orders_are_in_range.ensures traders messages s.floor.exchange k small there) file in
    list-clears list (λ x is. c.crosses_clear.ensures list x interests is) (λ p none. c.none_trades_where_none_crosses.ensures.nothing list p none)
