-- A list that is made from another, one item after another.
use Rattle.std.proofs.Common.{◌≡◌, ℕ, ◌+◌, ◌<◌, List, [], ◌∷◌, ◌++◌, length, get_or, map, take, sym, ap, ◌∙◌}
use Rattle.std.proofs.lemmas.List.{map-append, take_more}

-- each item made tells what the one that it is made from tells
pub told-more : {A B S : Type 0} (f : A → S) (g : B → S) (old new : List A) (xs : List B) (i : ℕ) (x : B) (y : A) → new ≡ old ++ y ∷ [] → f y ≡ g x → x ≡ get_or xs i x → i < length xs → map f old ≡ map g (take i xs) → map f new ≡ map g (take (i + 1) xs)
told-more f g old new xs i x y pushed told at within so_far =
    ap (map f) pushed ∙ map-append f old (y ∷ []) ∙ ap (λ k. map f old ++ k ∷ []) (told ∙ ap g at) ∙ ap (λ w. w ++ g (get_or xs i x) ∷ []) so_far
    ∙ sym (map-append g (take i xs) (get_or xs i x ∷ [])) ∙ sym (ap (map g) (take_more xs i x within))

-- each item made equals the one that it is made from
pub same-more : {A : Type 0} (old new xs : List A) (i : ℕ) (x y : A) → new ≡ old ++ y ∷ [] → y ≡ x → x ≡ get_or xs i x → i < length xs → old ≡ take i xs → new ≡ take (i + 1) xs
same-more old new xs i x y pushed same at within so_far =
    pushed ∙ ap (λ k. old ++ k ∷ []) (same ∙ at) ∙ ap (λ w. w ++ get_or xs i x ∷ []) so_far ∙ sym (take_more xs i x within)
