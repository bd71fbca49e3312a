-- A resume and a halt that gave no feed, each before an event with which two dated halts were made, as they are read.
use Rattle.std.specs.Prelude.{ℕ, ◌+◌, pos, false, List, [], ◌∷◌, codes}
use Rattle.market_types.specs.declared.feed.Feed.{Feed}
use Rattle.market_types.specs.declared.feed.What.TheVariants.{Trading}
use Rattle.market_types.specs.declared.message.Body.TheVariants.{Wake}
use Rattle.market_types.specs.declared.order.Inbound.TheVariants.{Cancel}
use Rattle.market_types.specs.Told.{EntryTold, EventTold, EditTold, event, edit}
use Rattle.market_rules.specs.declared.edit.Edit.{Edit}
use Rattle.market_rules.specs.declared.edit.Edit.TheVariants.{Inject}

-- a halt of the stock of a number at a time
abbrev pub halt_at : ℕ → ℕ → Feed
halt_at time k = record {
  locate = k + 1;
  tracking = 0;
  time = time;
  what = Trading (record { 0 = codes "ABM     " }) 72 32 (32 ∷ 32 ∷ 32 ∷ 32 ∷ []);
}

-- an edit at the time 1000, of a letter and with a feed
abbrev pub edit_of : ℕ → List Feed → EditTold
edit_of letter feed = record { events = 0; time = 1000; branch = 1; index = 0; letter = letter; feed = feed }

-- a wakeup with this feed before it
abbrev pub wakeup_behind : List Feed → EventTold
wakeup_behind before = record {
  number = 1;
  time = 1500;
  seq = 0;
  from = 1;
  to = 1;
  put_back = false;
  until = 1500;
  fee = pos 0;
  body = Wake;
  before = before;
  after = [];
}

-- the first halt has the time of the edits, the second doesn't
abbrev pub two_halts : List Feed
two_halts = halt_at 1000 0 ∷ halt_at 1200 1 ∷ []

-- as they are made: behind a resume, behind a change of ticks, and behind a resume that gave a feed
abbrev pub made : List EntryTold
made =
    edit (edit_of 114 []) ∷ event (wakeup_behind two_halts)
    ∷ edit (edit_of 116 []) ∷ event (wakeup_behind two_halts)
    ∷ edit (edit_of 104 (halt_at 1000 2 ∷ [])) ∷ event (wakeup_behind two_halts) ∷ []

-- as they are read: the first halt is the resume's, and nothing else is moved
abbrev pub read : List EntryTold
read =
    edit (edit_of 114 (halt_at 1000 0 ∷ [])) ∷ event (wakeup_behind (halt_at 1200 1 ∷ []))
    ∷ edit (edit_of 116 []) ∷ event (wakeup_behind two_halts)
    ∷ edit (edit_of 104 (halt_at 1000 2 ∷ [])) ∷ event (wakeup_behind two_halts) ∷ []

-- ---- orders that are injected

-- an edit that injects the cancel of an order with this token
abbrev pub canceling : List ℕ → Edit
canceling token = Inject 1 100 (Cancel (record { token = record { 0 = token }; shares = 0 }))
