-- The keys of a study's branches and of their edits, in order.
use Rattle.std.specs.Prelude.{ℕ, List, [], ◌∷◌, codes}
use Rattle.study_file.specs.Keys.{KeyRule, Form, needed, spare, own}
use Rattle.study_file.specs.declared.keys.Kind.TheVariants.{Number, Text, HexText, Tables, Pairs}

-- the keys of a branch whose stop stands at a key
abbrev pub branch_keys : List ℕ → List KeyRule
branch_keys stop =
    needed (codes "name") Text
    ∷ needed (codes "parent") Text
    ∷ needed stop Number
    ∷ spare (codes "edit") Tables
    ∷ []

-- the kinds of edits that change a stock
abbrev pub stock_kinds : List (List ℕ)
stock_kinds = codes "tick" ∷ codes "fee" ∷ codes "halt" ∷ codes "resume" ∷ codes "series" ∷ []

-- the kinds of edits that concern a trader
abbrev pub trader_kinds : List (List ℕ)
trader_kinds = codes "agent" ∷ codes "silence" ∷ codes "inject" ∷ []

abbrev pub edit_form : Form
edit_form = record {
  by = codes "kind";
  words =
      codes "tick" ∷ codes "fee" ∷ codes "halt" ∷ codes "resume" ∷ codes "latency" ∷ codes "agent" ∷ codes "silence"
      ∷ codes "inject" ∷ codes "series" ∷ [];
  keys =
      needed (codes "kind") Text
      ∷ own (codes "stock") Text stock_kinds
      ∷ own (codes "bands") Pairs (codes "tick" ∷ [])
      ∷ own (codes "add") Number (codes "fee" ∷ [])
      ∷ own (codes "take") Number (codes "fee" ∷ [])
      ∷ own (codes "from") Number (codes "latency" ∷ [])
      ∷ own (codes "to") Number (codes "latency" ∷ [])
      ∷ own (codes "base") Number (codes "latency" ∷ [])
      ∷ own (codes "jitter") Number (codes "latency" ∷ [])
      ∷ own (codes "agent") Number trader_kinds
      ∷ own (codes "name") Text (codes "agent" ∷ [])
      ∷ own (codes "value") Number (codes "agent" ∷ [])
      ∷ own (codes "after") Number (codes "inject" ∷ [])
      ∷ own (codes "message") HexText (codes "inject" ∷ [])
      ∷ own (codes "offset") Number (codes "series" ∷ [])
      ∷ [];
}
