use Rattle.std.proofs.Common.{◌≡◌, ◌≤◌, ◌∷◌, [], ℕ, List, map, refl, ◌∙◌, ap, arith, rules, length, All}
use Rattle.std.proofs.lemmas.List.Elements.{All-from_recursion}
use Rattle.latency_model.specs.Ranges.{IsInRange}
use Rattle.market_types.specs.Limits.{longest_delay}
use Rattle.base_tests.proofs.latency_model_tests.one_group.Goals as goal

one_in_range : (b j : ℕ) (base jitter : List (List ℕ)) → b ≤ longest_delay → base ≡ (b ∷ []) ∷ [] → jitter ≡ (j ∷ []) ∷ [] → IsInRange (record { base = base; jitter = jitter })
one_in_range b j base jitter low is is' = rw (is, is') (record {
  some_group = omega arith;
  few_groups = omega arith;
  base_square = record { rows = refl; columns = All-from_recursion (λ row. length row ≡ 1) ((b ∷ []) ∷ []) (refl, tt) };
  jitter_square = record { rows = refl; columns = All-from_recursion (λ row. length row ≡ 1) ((j ∷ []) ∷ []) (refl, tt) };
  base_low = All-from_recursion (All (λ n. n ≤ longest_delay)) ((b ∷ []) ∷ []) (All-from_recursion (λ n. n ≤ longest_delay) (b ∷ []) (low, tt), tt);
})

pub new-requires : goal.new-requires
new-requires c = one_in_range c.args.base c.args.jitter _ _ c.requires
    (ap (map (λ row. row.items)) c.as_slice.ensures.value ∙ search rules)
    (ap (map (λ row. row.items)) c.as_slice-2.ensures.value ∙ search rules)
