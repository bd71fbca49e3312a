-- A table of three branches, and small runs beside each other.
use Rattle.std.specs.Prelude.{ℕ, pos, false, List, [], ◌∷◌, ◌++◌, Option, None, Some, codes}
use Rattle.market_types.specs.Told.{EntryTold, event, edit}
use Rattle.market_types.specs.declared.message.Body.TheVariants.{Wake}
use Rattle.market_types.specs.declared.entry.End.TheVariants.{Closed}
use Rattle.market_types.specs.declared.feed.Feed.{Feed}
use Rattle.market_types.specs.declared.feed.What.TheVariants.{System}
use Rattle.study_report.specs.declared.row.TableRow.{TableRow}

-- a branch of six events in which nothing is traded
abbrev pub quiet_row : List ℕ → Option (List ℕ) → ℕ → ℕ → TableRow
quiet_row name parent stop difference = record {
  name = name;
  parent = parent;
  stop = stop;
  events = 6;
  end = Closed;
  difference = difference;
  values = pos 0 ∷ pos 0 ∷ pos 0 ∷ pos 0 ∷ [];
}

-- two branches with other latencies, and one without an edit
abbrev pub three_branches : List TableRow
three_branches =
    quiet_row (codes "root") None 0 0 ∷ quiet_row (codes "x") (Some (codes "root")) 2 5 ∷ quiet_row (codes "y") (Some (codes "root")) 2 5
    ∷ quiet_row (codes "z") (Some (codes "root")) 2 0 ∷ []

abbrev pub four_probes : List (List ℕ)
four_probes = codes "volume" ∷ codes "spread_sum" ∷ codes "range" ∷ codes "fees" ∷ []

-- a wakeup of this number and this time, and the feed of its own
abbrev pub wakeup : ℕ → ℕ → List Feed → EntryTold
wakeup number time after = event (record {
  number = number;
  time = time;
  seq = number;
  from = 1;
  to = 1;
  put_back = false;
  until = time;
  fee = pos 0;
  body = Wake;
  before = [];
  after = after;
})

abbrev pub mark : EntryTold
mark = edit (record { events = 2; time = 1005; branch = 1; index = 0; letter = 108; feed = [] })

abbrev pub message : Feed
message = record { locate = 0; tracking = 0; time = 1005; what = System 67 }

abbrev pub two_events : List EntryTold
two_events = wakeup 1 1000 [] ∷ wakeup 2 1005 [] ∷ []

-- with a third event of this time
abbrev pub three_events : ℕ → List EntryTold
three_events time = two_events ++ wakeup 3 time [] ∷ []
