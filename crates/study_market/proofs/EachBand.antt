-- Lemmas on bands.
use Rattle.std.proofs.Common.{◌≡◌, ◌<◌, ◌&&◌, Bool, false, true, ℕ, List, length, get_or, map, sym, ap, ◌∙◌, refl}
use Rattle.std.specs.Int.{is_in_range}
use Rattle.std.specs.List.{list_all}
use Rattle.std.proofs.lemmas.List.Folds.{list_all_at}
use Rattle.toml.specs.View.{view}
use Rattle.toml.specs.declared.value.Value.{Value}
use Rattle.study_file.proofs.KeyLists.{all-map, length-mapped}
use Rattle.study_market.specs.StockRules.{is_band, are_in_range}

pub are-counted : (vs : List Value) → are_in_range (map view vs) ≡ (is_in_range 1 16 (length vs) && list_all (λ (v : Value). is_band (view v)) vs)
are-counted vs =
    ap (λ n. is_in_range 1 16 n && list_all is_band (map view vs)) (length-mapped view vs)
    ∙ ap (λ b. is_in_range 1 16 (length vs) && b) (all-map view is_band vs)

no-and : (b : Bool) → false ≡ (b && false)
no-and true = refl
no-and false = refl

pub no-band : (vs : List Value) (i : ℕ) (d : Value) → i < length vs → is_band (view (get_or vs i d)) ≡ false → false ≡ are_in_range (map view vs)
no-band vs i d within e =
    no-and (is_in_range 1 16 (length vs))
    ∙ sym (ap (λ (b : Bool). is_in_range 1 16 (length vs) && b) (list_all_at (λ (v : Value). is_band (view v)) vs i d within e))
    ∙ sym (are-counted vs)

pub all-bands : (vs : List Value) → is_in_range 1 16 (length vs) ≡ true → list_all (λ (v : Value). is_band (view v)) vs ≡ true → true ≡ are_in_range (map view vs)
all-bands vs e f =
    sym (are-counted vs ∙ ap (λ (b : Bool). b && list_all (λ (v : Value). is_band (view v)) vs) e ∙ f)
