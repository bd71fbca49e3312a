-- Entries and events along a branch's chain of segments.
use Rattle.std.proofs.Common.{◌≡◌, ℕ, ◌<◌, ◌≤◌, ◌⊎◌, inl, inr, List, [], ◌∷◌, ◌++◌, Option, Some, None, option_map, unwrap_or, sum_by, length, append-nil, refl, sym, ap, ◌∙◌, arith, suc, zero, subst}
use Rattle.std.specs.List.{flat_map}
use Rattle.std.proofs.lemmas.List.{flat_map_more}
use Rattle.std.proofs.lemmas.List.Sums.{sum_by-append}
use Rattle.branch_tree.specs.Plan.{Plan}
use Rattle.branch_tree.specs.Segments.{segments_in, segment_at, last_of}
use Rattle.branch_tree.specs.Planned.{IsTree}
use Rattle.branch_tree.proofs.PartLemmas.{last-at}
use Rattle.market_types.specs.Told.{EntryTold}
use Rattle.market_floor.specs.declared.opening.Opening.{Opening}
use Rattle.kernel_core.specs.Until.{Run}
use Rattle.kernel_copy.specs.Full.{opening_run, full}
use Rattle.kernel_copy.specs.Segmentwise.{segment_end, parent_end, segment_entries, from_count, own_count, chain_within, chain_to, chain_of}
use Rattle.kernel_copy.proofs.Walks.{has_parent, segment-copy, segment-grows, full-last}

-- These segments' entries and events are those up to a segment's end.
pub record IsChain (o : Opening) (p : Plan) (s : ℕ) (chain : List ℕ) : Type 0 where
  pub entries : (segment_end o p (segment_at p s)).entries ≡ flat_map (λ (k : ℕ). segment_entries o p (segment_at p k)) chain
  pub events : (segment_end o p (segment_at p s)).state.events ≡ sum_by (λ (k : ℕ). own_count o p (segment_at p k)) chain

entries_same : (r q : Run) → r ≡ q → r.entries ≡ q.entries
entries_same r q e = ap (λ (x : Run). x.entries) e

chain-first : (o : Opening) (p : Plan) (s : ℕ) → IsTree p.branches p.limit → p.limit ≡ o.limit → s < length (segments_in p) → (segment_at p s).parent ≡ None → IsChain o p s (s ∷ [])
chain-first o p s t lim l none =
    let g = segment_at p s in
    let before : parent_end o p g.parent ≡ opening_run o = ap (λ (x : Option ℕ). parent_end o p x) none in
    let zero_events : from_count o p g ≡ 0 = ap (λ (r : Run). r.state.events) before in
    let grows = segment-grows o p s t lim l in
    record {
      entries = entries_same _ _ (segment-copy o p s t lim l) ∙ ap (λ (r : Run). r.entries ++ segment_entries o p g) before ∙ sym (append-nil (segment_entries o p g));
      events = omega arith;
    }

chain-more : (o : Opening) (p : Plan) (s q : ℕ) (chain : List ℕ) → IsTree p.branches p.limit → p.limit ≡ o.limit → s < length (segments_in p) → (segment_at p s).parent ≡ Some q → IsChain o p q chain → IsChain o p s (chain ++ s ∷ [])
chain-more o p s q chain t lim l is h =
    let g = segment_at p s in
    let f : ℕ → List EntryTold = λ k. segment_entries o p (segment_at p k) in
    let own : ℕ → ℕ = λ k. own_count o p (segment_at p k) in
    let before : parent_end o p g.parent ≡ segment_end o p (segment_at p q) = ap (λ (x : Option ℕ). parent_end o p x) is in
    let count : from_count o p g ≡ (segment_end o p (segment_at p q)).state.events = ap (λ (r : Run). r.state.events) before in
    let grows = segment-grows o p s t lim l in
    record {
      entries = entries_same _ _ (segment-copy o p s t lim l) ∙ ap (λ (r : Run). r.entries ++ f s) before ∙ ap (λ (es : List EntryTold). es ++ f s) h.entries ∙ flat_map_more f [] chain s;
      events = omega (arith, h.events, sum_by-append own chain (s ∷ []));
    }

option_cases : (x : Option ℕ) → (x ≡ None) ⊎ ((q : ℕ) × (x ≡ Some q))
option_cases None = inl refl
option_cases (Some q) = inr (q, refl)

chain-is : (n : ℕ) (o : Opening) (p : Plan) (s : ℕ) → IsTree p.branches p.limit → p.limit ≡ o.limit → s < length (segments_in p) → s ≤ n → IsChain o p s (chain_within n p s)
chain-is zero o p s t lim l h = elim (option_cases (segment_at p s).parent) [
  | inl none ↦ chain-first o p s t lim l none
  | inr some ↦ let k = has_parent p s some.0 t l some.1 in absurd (omega (arith, k.earlier))
]
chain-is (suc n) o p s t lim l h = elim (option_cases (segment_at p s).parent) [
  | inl none ↦
      let same : chain_within (suc n) p s ≡ s ∷ [] = ap (λ (x : Option ℕ). unwrap_or (option_map (λ (q : ℕ). chain_within n p q) x) [] ++ s ∷ []) none in
      subst (λ (xs : List ℕ). IsChain o p s xs) (sym same) (chain-first o p s t lim l none)
  | inr some ↦
      let q = some.0 in
      let k = has_parent p s q t l some.1 in
      let same : chain_within (suc n) p s ≡ chain_within n p q ++ s ∷ [] = ap (λ (x : Option ℕ). unwrap_or (option_map (λ (q : ℕ). chain_within n p q) x) [] ++ s ∷ []) some.1 in
      subst (λ (xs : List ℕ). IsChain o p s xs) (sym same)
      (chain-more o p s q (chain_within n p q) t lim l some.1 (chain-is n o p q t lim (omega (arith, k.earlier)) (omega (arith, k.earlier))))
]

-- the entries and events up to a segment's end are those of its chain
pub chain-to : (o : Opening) (p : Plan) (s : ℕ) → IsTree p.branches p.limit → p.limit ≡ o.limit → s < length (segments_in p) → IsChain o p s (chain_to p s)
chain-to o p s t lim l = chain-is s o p s t lim l (omega arith)

-- those of a full run are those of its branch's chain
pub full-entries : (o : Opening) (p : Plan) (b : ℕ) → IsTree p.branches p.limit → p.limit ≡ o.limit → b < length p.branches
    → (full o p b o.limit).entries ≡ flat_map (λ (k : ℕ). segment_entries o p (segment_at p k)) (chain_of p b)
full-entries o p b t same l =
    let last = last-at p b l in
    entries_same _ _ (full-last o p b t same l) ∙ (chain-to o p (last_of p.branches b) t same last.0).entries

pub full-events : (o : Opening) (p : Plan) (b : ℕ) → IsTree p.branches p.limit → p.limit ≡ o.limit → b < length p.branches
    → (full o p b o.limit).state.events ≡ sum_by (λ (k : ℕ). own_count o p (segment_at p k)) (chain_of p b)
full-events o p b t same l =
    let last = last-at p b l in
    ap (λ (r : Run). r.state.events) (full-last o p b t same l) ∙ (chain-to o p (last_of p.branches b) t same last.0).events
