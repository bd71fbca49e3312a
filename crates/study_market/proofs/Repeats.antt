-- Lemmas on the first repeated symbol.
use Rattle.std.proofs.Math.Path.{fun_ext}
use Rattle.std.proofs.Common.{◌≡◌, ◌<◌, subst, IfSome, length, Option, ℕ, ◌+◌, Bool, List, [], ◌∷◌, map, take, refl, ap, ◌∙◌, bytes_eq}
use Rattle.std.specs.Prelude.{position}
use Rattle.std.specs.List.{list_any, enumerate_from, take-map}
use Rattle.toml.specs.View.{view}
use Rattle.toml.specs.declared.value.Value.{Value}
use Rattle.study_file.specs.Tables.{is_named}
use Rattle.study_file.proofs.KeyLists.{any-map, position-map, position-found}
use Rattle.std.proofs.lemmas.List.FromFn.{length-enumerate_from}
use Rattle.study_market.specs.StockRules.{symbol_in, first_repeated}

pub enumerate-map : {X Y : Type 0} (f : X → Y) (n : ℕ) (xs : List X)
    → enumerate_from n (map f xs) ≡ map (λ (p : ℕ × X). (p.0, f p.1)) (enumerate_from n xs)
enumerate-map f n [] = refl
enumerate-map f n (x ∷ xs) = ap (λ ys. (n, f x) ∷ ys) (enumerate-map f (n + 1) xs)

map-twice : (vs : List Value) → map symbol_in (map view vs) ≡ map (λ v. symbol_in (view v)) vs
map-twice [] = refl
map-twice (v ∷ vs) = ap (λ ys. symbol_in (view v) ∷ ys) (map-twice vs)

named-among : (n : ℕ) (text : List ℕ) (vs : List Value)
    → is_named (take n (map (λ v. symbol_in (view v)) vs)) text ≡ list_any (λ v. bytes_eq (symbol_in (view v)) text) (take n vs)
named-among n text vs =
    ap (λ names. is_named names text) (take-map (λ v. symbol_in (view v)) n vs)
    ∙ any-map (λ v. symbol_in (view v)) (λ name. bytes_eq name text) (take n vs)

position-same : {X : Type 0} (p q : X → Bool) (same : (x : X) → p x ≡ q x) (xs : List X) → position p xs ≡ position q xs
position-same p q same xs = ap (λ r. position r xs) (fun_ext same)

pub repeated : (vs : List Value)
    → first_repeated (map symbol_in (map view vs))
    ≡ position (λ (p : ℕ × Value). list_any (λ v. bytes_eq (symbol_in (view v)) (symbol_in (view p.1))) (take p.0 vs)) (enumerate_from 0 vs)
repeated vs =
    ap first_repeated (map-twice vs)
    ∙ ap (position (λ (p : ℕ × List ℕ). is_named (take p.0 (map (λ v. symbol_in (view v)) vs)) p.1)) (enumerate-map (λ v. symbol_in (view v)) 0 vs)
    ∙ position-map (λ (p : ℕ × Value). (p.0, symbol_in (view p.1))) (λ (p : ℕ × List ℕ). is_named (take p.0 (map (λ v. symbol_in (view v)) vs)) p.1) (enumerate_from 0 vs)
    ∙ position-same (λ (p : ℕ × Value). is_named (take p.0 (map (λ v. symbol_in (view v)) vs)) (symbol_in (view p.1)))
    (λ (p : ℕ × Value). list_any (λ v. bytes_eq (symbol_in (view v)) (symbol_in (view p.1))) (take p.0 vs))
    (λ p. named-among p.0 (symbol_in (view p.1)) vs) (enumerate_from 0 vs)

-- a place found in an enumeration is one of the list
pub place-within : {X : Type 0} (p : ℕ × X → Bool) (xs : List X) (r : Option ℕ) → r ≡ position p (enumerate_from 0 xs) → IfSome r (λ at. at < length xs)
place-within p xs r e = subst (λ n. IfSome r (λ at. at < n)) (length-enumerate_from 0 xs) (position-found p (enumerate_from 0 xs) r e)
