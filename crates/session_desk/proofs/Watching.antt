-- What probes say of entries that they see from their opening on.
use Rattle.std.proofs.Common.{◌≡◌, ◌∙◌, ℤ, List, [], ◌∷◌, map, refl, ap, ap₂}
use Rattle.market_types.specs.Told.{EntryTold}
use Rattle.probe_desk.specs.Probe.{Meaning, seen, column_of}

head_same : {Y : Type 0} (a b : Y) (xs ys : List Y) → ◌≡◌ {A = List Y} (a ∷ xs) (b ∷ ys) → a ≡ b
head_same a b xs ys h = cc

tail_same : {Y : Type 0} (a b : Y) (xs ys : List Y) → ◌≡◌ {A = List Y} (a ∷ xs) (b ∷ ys) → xs ≡ ys
tail_same a b xs ys h = cc

-- what is made from two lists of as many items is the same wherever they are
both_same : {X M N Y : Type 0} (mean : X → M) (num : X → N) (want : X → N) (f : M → N → Y) (ps qs : List X) → map mean ps ≡ map mean qs → map num ps ≡ map want qs
    → map (λ p. f (mean p) (num p)) ps ≡ map (λ q. f (mean q) (want q)) qs
both_same mean num want f [] [] m n = refl
both_same mean num want f [] (q ∷ qs) m n = cc
both_same mean num want f (p ∷ ps) [] m n = cc
both_same mean num want f (p ∷ ps) (q ∷ qs) m n =
    ap₂ (λ y ys. y ∷ ys) (ap₂ f (head_same _ _ _ _ m) (head_same _ _ _ _ n))
    (both_same mean num want f ps qs (tail_same _ _ _ _ m) (tail_same _ _ _ _ n))

map_twice : {X Y Z : Type 0} (f : X → Y) (g : Y → Z) (xs : List X) → map (λ x. g (f x)) xs ≡ map g (map f xs)
map_twice f g [] = refl
map_twice f g (x ∷ xs) = ap (λ ys. g (f x) ∷ ys) (map_twice f g xs)

-- probes that opened anew, and then saw entries, say what their columns are
pub values-seen : {X : Type 0} (mean : X → Meaning) (num : X → List ℤ) (before anew after : List X) (xs : List EntryTold)
    → map num anew ≡ map (λ p. (mean p).opening) before → map mean anew ≡ map mean before
    → map num after ≡ map (λ p. seen (mean p) (num p) xs) anew → map mean after ≡ map mean anew
    → map (λ p. (mean p).value (num p)) after ≡ map (λ m. column_of m xs) (map mean before)
values-seen mean num before anew after xs opened kept saw stayed =
    both_same mean num (λ q. seen (mean q) (mean q).opening xs) (λ k s. k.value s) after before (stayed ∙ kept)
    (saw ∙ both_same mean num (λ q. (mean q).opening) (λ k s. seen k s xs) anew before kept opened)
    ∙ map_twice mean (λ (k : Meaning). column_of k xs) before
