-- What an item of a list adds, and what is still to come.
use Rattle.std.proofs.Common.{◌≡◌, ℕ, ◌+◌, ◌<◌, List, [], ◌∷◌, ◌++◌, length, get_or, drop, map, sym, ap, ◌∙◌, append_assoc}
use Rattle.std.specs.List.{flat_map}
use Rattle.std.proofs.lemmas.List.{drop_more}

-- one item more of a list that is mapped
pub one_mapped : {X Y : Type 0} (f : X → Y) (xs : List X) (i : ℕ) (d : X) (now new : List Y) → i < length xs
    → new ≡ now ++ f (get_or xs i d) ∷ [] → new ++ map f (drop (i + 1) xs) ≡ now ++ map f (drop i xs)
one_mapped f xs i d now new within after =
    ap (λ l. l ++ map f (drop (i + 1) xs)) after
    ∙ append_assoc now (f (get_or xs i d) ∷ []) (map f (drop (i + 1) xs))
    ∙ sym (ap (λ ys. now ++ map f ys) (drop_more xs i d within))

-- the same of an item that was read
pub one_mapped_at : {X Y : Type 0} (f : X → Y) (xs : List X) (i : ℕ) (x : X) (y : Y) (now new : List Y) → i < length xs → x ≡ get_or xs i x → y ≡ f x
    → new ≡ now ++ y ∷ [] → new ++ map f (drop (i + 1) xs) ≡ now ++ map f (drop i xs)
one_mapped_at f xs i x y now new within at is after =
    one_mapped f xs i x now new within (after ∙ ap (λ z. now ++ z ∷ []) (is ∙ ap f at))

-- one item more of a list of texts
pub one_text_at : {X : Type 0} (f : X → List ℕ) (xs : List X) (i : ℕ) (x : X) (now new : List ℕ) → i < length xs → x ≡ get_or xs i x
    → new ≡ now ++ f x → new ++ flat_map f (drop (i + 1) xs) ≡ now ++ flat_map f (drop i xs)
one_text_at f xs i x now new within at after =
    ap (λ (l : List ℕ). l ++ flat_map f (drop (i + 1) xs)) (after ∙ ap (λ y. now ++ f y) at)
    ∙ append_assoc now (f (get_or xs i x)) (flat_map f (drop (i + 1) xs))
    ∙ sym (ap (λ ys. now ++ flat_map f ys) (drop_more xs i x within))
