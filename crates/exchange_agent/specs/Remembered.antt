-- The remembered pairs of agent and token: the tokens of each agent in order.
use Rattle.std.specs.Prelude.{◌≡◌, ℕ, ◌+◌, List, [], ◌∷◌, ◌++◌, map}
use Rattle.std.specs.List.{AllByRecursion}
use Rattle.std.specs.Ordering.{nat_cmp}
use Rattle.std.specs.Cmp.Lexicographic.{slice_cmp}
use Rattle.std.specs.declared.cmp.Ordering.{Ordering}
use Rattle.std.specs.declared.cmp.Ordering.TheVariants.{Less}
use Rattle.exchange_agent.specs.declared.pair.Pair.{Pair}

-- tokens by their bytes
abbrev pub by_bytes : List ℕ → List ℕ → Ordering
by_bytes = slice_cmp nat_cmp

-- each token is below all that follow it
abbrev pub AreRising : List (List ℕ) → Type 0
AreRising [] = Unit {0}
AreRising (t ∷ ts) = AllByRecursion (λ (u : List ℕ). by_bytes t u ≡ Less) ts × AreRising ts

-- an agent and the bytes of a token
abbrev pub keyed : ℕ → List ℕ → Pair
keyed agent token = record { agent = agent; token = token }

-- the pairs of the agents from this number on, of each agent in order of its tokens
abbrev pub pairs_from : ℕ → List (List (List ℕ)) → List Pair
pairs_from n [] = []
pairs_from n (ts ∷ tss) = map (keyed n) ts ++ pairs_from (n + 1) tss

-- The pairs in order.
pub record Keys : Type 0 where
  pub keys : List Pair
