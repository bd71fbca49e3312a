-- What is read of values, one value after the other.
use Rattle.std.proofs.Common.{◌≡◌, ◌∙◌, ◌<◌, ◌+◌, ◌++◌, ◌∷◌, [], ◌&&◌, Bool, true, ℕ, List, length, get_or, take, map, sym, ap}
use Rattle.std.specs.List.{list_all}
use Rattle.std.proofs.lemmas.List.{map_more, map_push, take_more}
use Rattle.std.proofs.lemmas.List.Folds.{list_all-append}
use Rattle.toml.specs.Data.{Data}
use Rattle.toml.specs.View.{view}
use Rattle.toml.specs.declared.value.Value.{Value}

-- what is read of the values before a place, and of the one there
pub read-more : {Y : Type 0} (f : Data → Y) (vs : List Value) (i : ℕ) (v : Value) → i < length vs → get_or vs i v ≡ v
    → map f (map view (take i vs)) ++ f (view v) ∷ [] ≡ map f (map view (take (i + 1) vs))
read-more {Y} f vs i v within here =
    ap (λ (w : Value). map f (map view (take i vs)) ++ f (view w) ∷ []) (sym here)
    ∙ sym (map_push f (map view (take i vs)) (view (get_or vs i v)))
    ∙ ap (map f) (sym (map_more view vs i v within))

-- each value before a place passes, and the one there
pub all-more : (p : Value → Bool) (vs : List Value) (i : ℕ) (v : Value) → i < length vs → get_or vs i v ≡ v
    → list_all p (take i vs) ≡ true → p v ≡ true → list_all p (take (i + 1) vs) ≡ true
all-more p vs i v within here before this =
    ap (list_all p) (take_more vs i v within)
    ∙ list_all-append p (take i vs) (get_or vs i v ∷ [])
    ∙ ap (λ (b : Bool). b && list_all p (get_or vs i v ∷ [])) before
    ∙ ap (λ (w : Value). list_all p (w ∷ [])) here
    ∙ ap (λ (b : Bool). b && true) this
