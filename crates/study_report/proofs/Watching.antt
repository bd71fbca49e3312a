-- Probes that see traces one after another.
use Rattle.std.proofs.Common.{◌≡◌, ◌∙◌, ℤ, List, [], ◌∷◌, ◌++◌, map, refl, ap, ap₂, sym}
use Rattle.market_types.specs.Told.{EntryTold, event, edit}
use Rattle.probe_desk.specs.Probe.{Meaning, seen, column_of}

seen-append : (m : Meaning) (s : List ℤ) (xs ys : List EntryTold) → seen m s (xs ++ ys) ≡ seen m (seen m s xs) ys
seen-append m s [] ys = refl
seen-append m s (event r ∷ xs) ys = seen-append m (m.after s r) xs ys
seen-append m s (edit x ∷ xs) ys = seen-append m s xs ys

head_same : {Y : Type 0} (a b : Y) (xs ys : List Y) → ◌≡◌ {A = List Y} (a ∷ xs) (b ∷ ys) → a ≡ b
head_same a b xs ys h = cc

tail_same : {Y : Type 0} (a b : Y) (xs ys : List Y) → ◌≡◌ {A = List Y} (a ∷ xs) (b ∷ ys) → xs ≡ ys
tail_same a b xs ys h = cc

-- what is made from two lists of as many items is the same wherever they are
both_same : {X M N Y : Type 0} (mean : X → M) (num : X → N) (want : X → N) (f : M → N → Y) (ps qs : List X) → map mean ps ≡ map mean qs → map num ps ≡ map want qs
    → map (λ p. f (mean p) (num p)) ps ≡ map (λ q. f (mean q) (want q)) qs
both_same mean num want f [] [] m n = refl
both_same mean num want f [] (q ∷ qs) m n = cc
both_same mean num want f (p ∷ ps) [] m n = cc
both_same mean num want f (p ∷ ps) (q ∷ qs) m n =
    ap₂ (λ y ys. y ∷ ys) (ap₂ f (head_same _ _ _ _ m) (head_same _ _ _ _ n))
    (both_same mean num want f ps qs (tail_same _ _ _ _ m) (tail_same _ _ _ _ n))

map_same : {X Y : Type 0} (f g : X → Y) (xs : List X) → ((x : X) → f x ≡ g x) → map f xs ≡ map g xs
map_same f g [] h = refl
map_same f g (x ∷ xs) h = ap₂ (λ y ys. y ∷ ys) (h x) (map_same f g xs h)

map_twice : {X Y Z : Type 0} (f : X → Y) (g : Y → Z) (xs : List X) → map (λ x. g (f x)) xs ≡ map g (map f xs)
map_twice f g [] = refl
map_twice f g (x ∷ xs) = ap (λ ys. g (f x) ∷ ys) (map_twice f g xs)

-- probes that saw entries from their opening on see more
pub seen_on : {X : Type 0} (mean : X → Meaning) (num : X → List ℤ) (ps qs : List X) (xs ys zs : List EntryTold) → map mean ps ≡ map mean qs
    → map num ps ≡ map (λ q. seen (mean q) (mean q).opening xs) qs → zs ≡ xs ++ ys → map (λ p. seen (mean p) (num p) ys) ps ≡ map (λ q. seen (mean q) (mean q).opening zs) qs
seen_on mean num ps qs xs ys zs m n is =
    both_same mean num (λ q. seen (mean q) (mean q).opening xs) (λ k s. seen k s ys) ps qs m n
    ∙ map_same (λ q. seen (mean q) (seen (mean q) (mean q).opening xs) ys) (λ q. seen (mean q) (mean q).opening zs) qs
    (λ q. sym (seen-append (mean q) (mean q).opening xs ys) ∙ ap (λ es. seen (mean q) (mean q).opening es) (sym is))

-- their numbers
pub columns_read : {X : Type 0} (mean : X → Meaning) (num : X → List ℤ) (ps qs : List X) (xs : List EntryTold) → map mean ps ≡ map mean qs
    → map num ps ≡ map (λ q. seen (mean q) (mean q).opening xs) qs → map (λ p. (mean p).value (num p)) ps ≡ map (λ m. column_of m xs) (map mean qs)
columns_read mean num ps qs xs m n =
    both_same mean num (λ q. seen (mean q) (mean q).opening xs) (λ k s. k.value s) ps qs m n
    ∙ map_twice mean (λ (k : Meaning). column_of k xs) qs

-- the columns of probes are those of their meanings
pub columns_by : {X : Type 0} (mean : X → Meaning) (qs : List X) (xs : List EntryTold) → map (λ q. column_of (mean q) xs) qs ≡ map (λ m. column_of m xs) (map mean qs)
columns_by mean qs xs = map_twice mean (λ (k : Meaning). column_of k xs) qs
