-- The keys of a study's top table, of its exchange, its latencies and its stocks, in order.
use Rattle.std.specs.Prelude.{ℕ, List, [], ◌∷◌, codes}
use Rattle.study_file.specs.Keys.{KeyRule, Form, needed, spare, own}
use Rattle.study_file.specs.declared.keys.Kind.TheVariants.{Number, Text, SubTable, Tables, Rows, Pairs}

abbrev pub top_keys : List KeyRule
top_keys =
    needed (codes "version") Number
    ∷ needed (codes "key") Text
    ∷ needed (codes "open") Number
    ∷ needed (codes "close") Number
    ∷ needed (codes "events") Number
    ∷ spare (codes "stride") Number
    ∷ spare (codes "series") Text
    ∷ needed (codes "exchange") SubTable
    ∷ needed (codes "latency") SubTable
    ∷ needed (codes "stock") Tables
    ∷ spare (codes "change") Tables
    ∷ needed (codes "agent") Tables
    ∷ spare (codes "branch") Tables
    ∷ []

abbrev pub exchange_keys : List KeyRule
exchange_keys = needed (codes "group") Number ∷ needed (codes "delay") Number ∷ []

abbrev pub latency_keys : List KeyRule
latency_keys = needed (codes "base") Rows ∷ needed (codes "jitter") Rows ∷ []

-- the word of a stock whose values go by the rule
abbrev pub by_rule : List (List ℕ)
by_rule = codes "rule" ∷ []

abbrev pub stock_form : Form
stock_form = record {
  by = codes "series";
  words = codes "rule" ∷ codes "rows" ∷ [];
  keys =
      needed (codes "symbol") Text
      ∷ needed (codes "bands") Pairs
      ∷ needed (codes "add") Number
      ∷ needed (codes "take") Number
      ∷ needed (codes "series") Text
      ∷ own (codes "start") Number by_rule
      ∷ own (codes "mean") Number by_rule
      ∷ own (codes "pull") Number by_rule
      ∷ own (codes "shock") Number by_rule
      ∷ own (codes "every") Number by_rule
      ∷ [];
}
