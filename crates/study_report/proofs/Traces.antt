-- Runs as parts one after another.
use Rattle.std.proofs.Common.{◌≡◌, ◌∙◌, ℕ, ◌+◌, ◌<◌, List, [], ◌∷◌, ◌++◌, length, get_or, take, ap, ap₂, sym, append-nil, append_assoc}
use Rattle.std.specs.List.{flat_map}
use Rattle.std.proofs.lemmas.List.{take_more}
use Rattle.market_types.specs.Told.{EntryTold}

-- one part more
pub parts-push : {X : Type 0} (f : X → List EntryTold) (xs : List X) (x : X) → flat_map f (xs ++ x ∷ []) ≡ flat_map f xs ++ f x
parts-push f [] x = append-nil (f x)
parts-push f (y ∷ ys) x = ap (λ es. f y ++ es) (parts-push f ys x) ∙ sym (append_assoc (f y) (flat_map f ys) (f x))

-- the parts up to one that was read
pub parts-taken : {X : Type 0} (f : X → List EntryTold) (xs : List X) (i : ℕ) (x : X) → i < length xs → x ≡ get_or xs i x → flat_map f (take (i + 1) xs) ≡ flat_map f (take i xs) ++ f x
parts-taken f xs i x within at =
    ap (flat_map f) (take_more xs i x within) ∙ parts-push f (take i xs) (get_or xs i x) ∙ ap (λ y. flat_map f (take i xs) ++ f y) (sym at)

-- one part more, of the next of some segments
pub parts-more : {X : Type 0} (f : X → List EntryTold) (g : ℕ → List EntryTold) (xs new : List X) (x : X) (chain : List ℕ) (i s : ℕ) → i < length chain → s ≡ get_or chain i s
    → new ≡ xs ++ x ∷ [] → flat_map f xs ≡ flat_map g (take i chain) → f x ≡ g s → flat_map f new ≡ flat_map g (take (i + 1) chain)
parts-more f g xs new x chain i s within at pushed before own =
    ap (flat_map f) pushed ∙ parts-push f xs x ∙ ap₂ (λ (es fs : List EntryTold). es ++ fs) before own ∙ sym (parts-taken g chain i s within at)
