-- Columns: what entries of each kind have, each kind in a list of its own, in the order of the entries.
use Rattle.std.specs.Prelude.{List, [], ◌++◌}
use Rattle.market_types.specs.declared.order.Enter.{Enter}
use Rattle.market_types.specs.declared.order.Cancel.{Cancel}
use Rattle.market_types.specs.declared.message.Quote.{Quote}
use Rattle.market_types.specs.declared.feed.Feed.{Feed}
use Rattle.packed_entries.specs.declared.mark.Accepted.{Accepted}
use Rattle.packed_entries.specs.declared.mark.Short.{Short}
use Rattle.packed_entries.specs.declared.mark.Extra.{Extra}
use Rattle.packed_entries.specs.declared.mark.EditHead.{EditHead}

pub record Parts : Type 0 where
  pub enters : List Enter
  pub cancels : List Cancel
  pub accepted : List Accepted
  pub shorts : List Short
  pub quotes : List Quote
  pub extras : List Extra
  pub edits : List EditHead
  pub feed : List Feed

abbrev pub nothing : Parts
nothing = record { enters = []; cancels = []; accepted = []; shorts = []; quotes = []; extras = []; edits = []; feed = [] }

-- columns, and others behind them
abbrev pub joined : Parts → Parts → Parts
joined p q = record {
  enters = p.enters ++ q.enters;
  cancels = p.cancels ++ q.cancels;
  accepted = p.accepted ++ q.accepted;
  shorts = p.shorts ++ q.shorts;
  quotes = p.quotes ++ q.quotes;
  extras = p.extras ++ q.extras;
  edits = p.edits ++ q.edits;
  feed = p.feed ++ q.feed;
}
