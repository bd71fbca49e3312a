-- The keys of a study's changes and agents, in order.
use Rattle.std.specs.Prelude.{ℕ, List, [], ◌∷◌, codes}
use Rattle.study_file.specs.Keys.{Form, needed, spare, own}
use Rattle.study_file.specs.declared.keys.Kind.TheVariants.{Number, Text, Pairs}

abbrev pub ticking : List (List ℕ)
ticking = codes "tick" ∷ []

abbrev pub charging : List (List ℕ)
charging = codes "fee" ∷ []

abbrev pub change_form : Form
change_form = record {
  by = codes "kind";
  words = codes "tick" ∷ codes "fee" ∷ codes "halt" ∷ codes "resume" ∷ [];
  keys =
      needed (codes "time") Number
      ∷ needed (codes "stock") Text
      ∷ needed (codes "kind") Text
      ∷ own (codes "bands") Pairs ticking
      ∷ own (codes "add") Number charging
      ∷ own (codes "take") Number charging
      ∷ [];
}

-- the kinds of agents that send orders
abbrev pub ordering : List (List ℕ)
ordering = codes "noise" ∷ codes "value" ∷ codes "momentum" ∷ codes "maker" ∷ []

abbrev pub valuing : List (List ℕ)
valuing = codes "value" ∷ []

abbrev pub trending : List (List ℕ)
trending = codes "momentum" ∷ []

abbrev pub making : List (List ℕ)
making = codes "maker" ∷ []

abbrev pub agent_form : Form
agent_form = record {
  by = codes "kind";
  words = codes "watcher" ∷ ordering;
  keys =
      needed (codes "kind") Text
      ∷ needed (codes "group") Number
      ∷ needed (codes "stock") Text
      ∷ needed (codes "first") Number
      ∷ needed (codes "every") Number
      ∷ spare (codes "wobble") Number
      ∷ spare (codes "delay") Number
      ∷ spare (codes "cash") Number
      ∷ spare (codes "count") Number
      ∷ spare (codes "spread") Number
      ∷ own (codes "size") Number ordering
      ∷ own (codes "noise") Number valuing
      ∷ own (codes "margin") Number valuing
      ∷ own (codes "short") Number trending
      ∷ own (codes "long") Number trending
      ∷ own (codes "half") Number making
      ∷ own (codes "step") Number making
      ∷ own (codes "levels") Number making
      ∷ own (codes "pause") Number making
      ∷ [];
}
