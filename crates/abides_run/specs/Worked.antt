-- The empty run, byte by byte: one watcher would first wake after the close, so that no event comes.
use Rattle.std.specs.Prelude.{ℕ, List, [], ◌∷◌, ◌++◌, replicate, codes}
use Rattle.market_floor.specs.OpeningWorked.{market, watcher}
use Rattle.market_rules.specs.declared.edit.Edit.TheVariants.{Latency}
use Rattle.branch_tree.specs.declared.branch.Branch.{Branch}
use Rattle.branch_tree.specs.declared.stop.Stop.{Stop}
use Rattle.branch_tree.specs.declared.stop.Stop.TheVariants.{At, When}
use Rattle.kernel_copy.specs.Courses.{CourseTold}
use Rattle.study_rules.specs.Accepted.{StudyTold}
use Rattle.command_words.specs.declared.mark.Mark.{Mark}
use Rattle.command_words.specs.declared.asked.Crossing.{Crossing}
use Rattle.reopening_desk.specs.declared.stock.StockNamed.{StockNamed}
use Rattle.rewind_desk.specs.declared.target.Target.{Target}
use Rattle.bundle_reader.specs.Told.{BundleTold}

abbrev pub root : Branch
root = record { name = codes "root"; parent = 0; stop = At 0; edits = [] }

abbrev pub empty_course : CourseTold
empty_course = record { opening = market 1000 0 (watcher 2000 ∷ []); plan = record { branches = root ∷ []; limit = 100 } }

-- two watchers wake at 1000 and ask for quotes, which the exchange hears at 1005; their quotes come at 1010
abbrev pub two_watchers : List Branch → CourseTold
two_watchers branches = record {
  opening = market 2000 0 (watcher 1000 ∷ watcher 1000 ∷ []);
  plan = record { branches = root ∷ branches; limit = 100 };
}

-- A branch after which messages are under way for so many nanoseconds.
abbrev pub slower : List ℕ → Stop → ℕ → Branch
slower name stop base = record { name = name; parent = 0; stop = stop; edits = Latency 0 0 base 0 ∷ [] }

-- A branch that changes nothing.
abbrev pub unchanged : List ℕ → ℕ → Stop → Branch
unchanged name parent stop = record { name = name; parent = parent; stop = stop; edits = [] }

-- Three branches that leave the root at a stop: in one messages are under way for 50 nanoseconds, in one for 7, and in the last
-- nothing is changed.
abbrev pub three_branches_at : Stop → CourseTold
three_branches_at stop = two_watchers (slower (codes "x") stop 50 ∷ slower (codes "y") stop 7 ∷ unchanged (codes "z") 0 stop ∷ [])

-- they leave after two events
abbrev pub three_branches : CourseTold
three_branches = three_branches_at (At 2)

-- one branch, and messages under way for 50 nanoseconds once 1005 is over
abbrev pub slower_at_a_time : CourseTold
slower_at_a_time = two_watchers (slower (codes "x") (When 1005) 50 ∷ [])

-- A branch that leaves the root at a time, when two events stand, and one that leaves it after one event: there it begins.
abbrev pub late_parent : CourseTold
late_parent = two_watchers (unchanged (codes "x") 0 (When 1004) ∷ unchanged (codes "w") 1 (At 1) ∷ [])

abbrev pub three_branches_study : StudyTold
three_branches_study = record { course = three_branches; stride = 10000 }

-- a mark that is written so
abbrev pub mark_at : List ℕ → List ℕ → ℕ → Mark
mark_at word branch event = record { word = word; branch = branch; event = event }

-- the state of a branch after so many events
abbrev pub target_at : ℕ → ℕ → Target
target_at branch event = record { branch = branch; event = event }

-- a question for a stock's reopening, with a file that is called f
abbrev pub crossing_at : List ℕ → List ℕ → ℕ → List ℕ → Crossing
crossing_at word branch event symbol = record { mark = mark_at word branch event; symbol = symbol; file = codes "f" }

-- the one stock of the worked markets
abbrev pub first_stock : StockNamed
first_stock = record { number = 0; symbol = record { 0 = codes "ABM     " } }

-- a file of no orders
abbrev pub header_alone : List ℕ
header_alone = codes "agent,side,shares,price\n"

-- a study file that names a series file
abbrev pub study_with_series : List ℕ
study_with_series = codes "series = \"t\""

-- the header, 11 bytes with its length
abbrev pub header_bytes : List ℕ
header_bytes = (0 ∷ 9 ∷ 104 ∷ 0 ∷ 1 ∷ 0 ∷ 2 ∷ 0 ∷ 1 ∷ 0 ∷ 1 ∷ [])

-- the branch, 16 bytes with its length
abbrev pub branch_bytes : List ℕ
branch_bytes = (0 ∷ 14 ∷ 98 ∷ 0 ∷ 0 ∷ 255 ∷ 255 ∷ 0 ∷ 0 ∷ 0 ∷ 0 ∷ 4 ∷ 114 ∷ 111 ∷ 111 ∷ 116 ∷ [])

-- System Event `O`, 14 bytes with its length
abbrev pub start_bytes : List ℕ
start_bytes = (0 ∷ 12 ∷ 83 ∷ 0 ∷ 0 ∷ 0 ∷ 0 ∷ 0 ∷ 0 ∷ 0 ∷ 0 ∷ 3 ∷ 232 ∷ 79 ∷ [])

-- Stock Directory, 41 bytes with its length
abbrev pub directory_bytes : List ℕ
directory_bytes = (0 ∷ 39 ∷ 82 ∷ 0 ∷ 1 ∷ 0 ∷ 0 ∷ 0 ∷ 0 ∷ 0 ∷ 0 ∷ 3 ∷ 232 ∷ 65 ∷ 66 ∷ 77 ∷ 32 ∷ 32 ∷ 32 ∷ 32 ∷ 32 ∷ 81 ∷ 78 ∷ 0 ∷ 0 ∷ 0 ∷ 100 ∷ 78 ∷ 67 ∷ 90 ∷ 32 ∷ 84 ∷ 78 ∷ 78 ∷ 32 ∷ 78 ∷ 0 ∷ 0 ∷ 0 ∷ 0 ∷ 78 ∷ [])

-- Stock Trading Action, 27 bytes with its length
abbrev pub trading_bytes : List ℕ
trading_bytes = (0 ∷ 25 ∷ 72 ∷ 0 ∷ 1 ∷ 0 ∷ 0 ∷ 0 ∷ 0 ∷ 0 ∷ 0 ∷ 3 ∷ 232 ∷ 65 ∷ 66 ∷ 77 ∷ 32 ∷ 32 ∷ 32 ∷ 32 ∷ 32 ∷ 84 ∷ 32 ∷ 32 ∷ 32 ∷ 32 ∷ 32 ∷ [])

-- System Event `C`, 14 bytes with its length
abbrev pub last_bytes : List ℕ
last_bytes = (0 ∷ 12 ∷ 83 ∷ 0 ∷ 0 ∷ 0 ∷ 0 ∷ 0 ∷ 0 ∷ 0 ∷ 0 ∷ 3 ∷ 232 ∷ 67 ∷ [])

-- the counters, 68 bytes with its length
abbrev pub counters_bytes : List ℕ
counters_bytes = (0 ∷ 66 ∷ 99 ∷ 67 ∷ []) ++ replicate 10 0 ++ (3 ∷ 232 ∷ 0 ∷ 0 ∷ 0 ∷ 0 ∷ 0 ∷ 0 ∷ 0 ∷ 1 ∷ 0 ∷ 0 ∷ 0 ∷ 1 ∷ []) ++ replicate 40 0

-- the stock, 46 bytes with its length
abbrev pub stock_bytes : List ℕ
stock_bytes = (0 ∷ 44 ∷ 115 ∷ 0 ∷ 0 ∷ 84 ∷ []) ++ replicate 40 0

-- the exchange, 80 bytes with its length
abbrev pub exchange_bytes : List ℕ
exchange_bytes = (0 ∷ 78 ∷ 97 ∷ 0 ∷ 0 ∷ 78 ∷ 0 ∷ 0 ∷ 0 ∷ 0 ∷ 0 ∷ 0 ∷ 3 ∷ 232 ∷ []) ++ replicate 66 0

-- the watcher, 80 bytes with its length
abbrev pub watcher_bytes : List ℕ
watcher_bytes = (0 ∷ 78 ∷ 97 ∷ 0 ∷ 1 ∷ 78 ∷ 0 ∷ 0 ∷ 0 ∷ 0 ∷ 0 ∷ 0 ∷ 3 ∷ 232 ∷ []) ++ replicate 66 0

-- the end, 5 bytes with its length
abbrev pub end_bytes : List ℕ
end_bytes = (0 ∷ 3 ∷ 122 ∷ 0 ∷ 1 ∷ [])

abbrev pub empty_run : List ℕ
empty_run =
    header_bytes
    ++ branch_bytes
    ++ start_bytes
    ++ directory_bytes
    ++ trading_bytes
    ++ last_bytes
    ++ counters_bytes
    ++ stock_bytes
    ++ exchange_bytes
    ++ watcher_bytes
    ++ end_bytes

-- a bundle of no branches
abbrev pub no_branches : BundleTold
no_branches = record { agents = 2; stocks = 1; branches = [] }

-- its bytes: the header and the end
abbrev pub no_branches_bytes : List ℕ
no_branches_bytes = (0 ∷ 9 ∷ 104 ∷ 0 ∷ 1 ∷ 0 ∷ 2 ∷ 0 ∷ 1 ∷ 0 ∷ 0 ∷ []) ++ (0 ∷ 3 ∷ 122 ∷ 0 ∷ 0 ∷ [])
