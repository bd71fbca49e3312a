-- Parts that are carried one behind another.
use Rattle.std.proofs.Common.{◌≡◌, ℕ, ◌+◌, ◌^◌, ◌≤◌, List, [], ◌++◌, Result, Ok, Err, OnOk, append_assoc, append-nil, ap, ◌∙◌, sym, subst, add_assoc, add-le-add, le-add_right, le_refl, le_trans, mul-le-mul_right}
use Rattle.plain_lists.specs.declared.memory.Memory.{Memory}
use Rattle.kernel_copy.specs.Tallies.{IsTallyOf}
use Rattle.trace_bundle.specs.Tallied.{IsWith}
use Rattle.kernel_copy.specs.declared.tally.Tally.{Tally}

pub bytes-nothing : (before : List ℕ) → before ≡ before ++ []
bytes-nothing before = sym (append-nil before)

pub bytes-behind : (d e f a b : List ℕ) (m n most : ℕ) (r : Result (Unit {0}) Memory) → e ≡ d ++ a → OnOk r (f ≡ e ++ b) → m + n ≤ most → OnOk r (f ≡ d ++ (a ++ b))
bytes-behind d e f a b m n most (Err error) first second few = tt
bytes-behind d e f a b m n most (Ok done) first second few = second ∙ ap (λ (l : List ℕ). l ++ b) first ∙ append_assoc d a b

-- bytes in so many parts or fewer
pub parts-more : (t : Tally) (bytes : List ℕ) (parts most : ℕ) → parts ≤ most → IsTallyOf t bytes parts → IsTallyOf t bytes most
parts-more t bytes parts most less is = record { count = is.count; total = is.total; few = le_trans is.few (mul-le-mul_right (2 ^ 64) less); small = is.small }

pub with-nothing : (t : Tally) → IsWith t t [] 0
with-nothing t = record {
  behind = λ before n few is.
      subst (λ (bytes : List ℕ). IsTallyOf t bytes (n + 0)) (sym (append-nil before)) (parts-more t before n (n + 0) (le-add_right n 0) is);
}

parts-both : (k m n most : ℕ) → m + n ≤ most → k + m + n ≤ k + most
parts-both k m n most few = subst (λ (x : ℕ). x ≤ k + most) (sym (add_assoc k m n)) (add-le-add (le_refl k) few)

pub with-behind : (t u v : Tally) (a b : List ℕ) (m n most : ℕ) (r : Result (Unit {0}) Memory) → IsWith t u a m → OnOk r (IsWith u v b n) → m + n ≤ most
    → OnOk r (IsWith t v (a ++ b) most)
with-behind t u v a b m n most (Err error) first second few = tt
with-behind t u v a b m n most (Ok done) first second few = record {
  behind = λ before k all is.
      subst (λ (bytes : List ℕ). IsTallyOf v bytes (k + most)) (append_assoc before a b)
      (let more : k + m + n ≤ k + most = parts-both k m n most few in
      let both = le_trans more all in
      parts-more v ((before ++ a) ++ b) (k + m + n) (k + most) more
      (second.behind (before ++ a) (k + m) both (first.behind before k (le_trans (le-add_right (k + m) n) both) is)));
}
