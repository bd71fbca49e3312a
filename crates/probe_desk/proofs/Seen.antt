-- One more record is seen, one more probe is done.
use Rattle.std.proofs.Common.{◌≡◌, ◌∙◌, ℕ, ℤ, ◌+◌, ◌<◌, List, [], ◌∷◌, ◌++◌, length, get_or, set, drop, take, map, refl, add-zero, arith, ap, ap₂, sym}
use Rattle.std.proofs.lemmas.List.{drop-drop, get_or_default, drop-set-lt, get_or-drop, map-append, take_more, take_more_set}
use Rattle.market_types.specs.Told.{EntryTold, EventTold, event, edit}
use Rattle.probe_desk.specs.Probe.{Meaning, seen}

seen-push : (m : Meaning) (s : List ℤ) (es : List EntryTold) (e : EntryTold) → seen m s (es ++ e ∷ []) ≡ seen m (seen m s es) (e ∷ [])
seen-push m s [] e = refl
seen-push m s (event r ∷ es) e = seen-push m (m.after s r) es e
seen-push m s (edit x ∷ es) e = seen-push m s es e

pub seen-more : {X : Type 0} (told : X → EntryTold) (m : Meaning) (s : List ℤ) (es : List X) (i : ℕ) (d : X) → i < length es → seen m s (map told (take (i + 1) es)) ≡ seen m (seen m s (map told (take i es))) (told (get_or es i d) ∷ [])
seen-more told m s es i d within =
    ap (λ l. seen m s (map told l)) (take_more es i d within) ∙ ap (seen m s) (map-append told (take i es) (get_or es i d ∷ [])) ∙ seen-push m s (map told (take i es)) (told (get_or es i d))

-- one more item, in a list that was made item by item
pub map_take-more : {X Y : Type 0} (f : X → Y) (xs : List X) (i : ℕ) (x : X) (y : Y) (done all : List Y) → i < length xs → get_or xs i x ≡ x → y ≡ f x → done ≡ map f (take i xs)
    → all ≡ done ++ y ∷ [] → all ≡ map f (take (i + 1) xs)
map_take-more f xs i x y done all within here is was made =
    made ∙ ap₂ (λ t v. t ++ v ∷ []) was (is ∙ ap f (sym here)) ∙ sym (map-append f (take i xs) (get_or xs i x ∷ [])) ∙ ap (map f) (sym (take_more xs i x within))

-- one more place, in a list whose places are written in turn: `p` is what stood at the place
pub map_set-more : {X Y : Type 0} (f h : X → Y) (ps qs : List X) (i : ℕ) (p w : X) → i < length ps → i < length qs → get_or qs i p ≡ p → f w ≡ h p → map f (take i ps) ≡ map h (take i qs)
    → map f (take (i + 1) (set ps i w)) ≡ map h (take (i + 1) qs)
map_set-more f h ps qs i p w here there at same was =
    ap (map f) (take_more_set ps i w here)
    ∙ map-append f (take i ps) (w ∷ [])
    ∙ ap₂ (λ t v. t ++ v ∷ []) was (same ∙ ap h (sym at))
    ∙ sym (map-append h (take i qs) (get_or qs i p ∷ []))
    ∙ ap (map h) (sym (take_more qs i p there))

pub get_or_any : {X : Type 0} (xs : List X) (i : ℕ) (d e : X) → i < length xs → get_or xs i d ≡ get_or xs i e
get_or_any xs i d e within = get_or_default xs i d e within

-- what stands from a place on in both lists
pub same_at : {X : Type 0} (ps qs : List X) (i : ℕ) (d : X) → drop i ps ≡ drop i qs → get_or ps i d ≡ get_or qs i d
same_at ps qs i d same =
    rw (add-zero i) at (sym (get_or-drop i ps 0 d) ∙ ap (λ l. get_or l 0 d) same ∙ get_or-drop i qs 0 d)

drop-add : {X : Type 0} (xs : List X) (i : ℕ) → drop 1 (drop i xs) ≡ drop (i + 1) xs
drop-add xs i = drop-drop 1 i xs

drop_after : {X : Type 0} (ps qs : List X) (i : ℕ) → drop i ps ≡ drop i qs → drop (i + 1) ps ≡ drop (i + 1) qs
drop_after ps qs i same = sym (drop-add ps i) ∙ ap (drop 1) same ∙ drop-add qs i

pub drop_set-more : {X : Type 0} (ps qs : List X) (i : ℕ) (w : X) → drop i ps ≡ drop i qs → drop (i + 1) (set ps i w) ≡ drop (i + 1) qs
drop_set-more ps qs i w same = drop-set-lt (i + 1) ps i w (omega arith) ∙ drop_after ps qs i same

head_same : {Y : Type 0} (a b : Y) (xs ys : List Y) → ◌≡◌ {A = List Y} (a ∷ xs) (b ∷ ys) → a ≡ b
head_same a b xs ys h = cc

tail_same : {Y : Type 0} (a b : Y) (xs ys : List Y) → ◌≡◌ {A = List Y} (a ∷ xs) (b ∷ ys) → xs ≡ ys
tail_same a b xs ys h = cc

-- what is made from two lists of as many items is the same wherever they are
both_same : {X M N Y : Type 0} (mean : X → M) (num : X → N) (want : X → N) (f : M → N → Y) (ps qs : List X) → map mean ps ≡ map mean qs → map num ps ≡ map want qs
    → map (λ p. f (mean p) (num p)) ps ≡ map (λ q. f (mean q) (want q)) qs
both_same mean num want f [] [] m n = refl
both_same mean num want f [] (q ∷ qs) m n = cc
both_same mean num want f (p ∷ ps) [] m n = cc
both_same mean num want f (p ∷ ps) (q ∷ qs) m n =
    ap₂ (λ y ys. y ∷ ys) (ap₂ f (head_same _ _ _ _ m) (head_same _ _ _ _ n))
    (both_same mean num want f ps qs (tail_same _ _ _ _ m) (tail_same _ _ _ _ n))

-- probes that saw the first record see the rest
pub seen_one : {X : Type 0} (mean : X → Meaning) (num : X → List ℤ) (ps qs : List X) (e : EventTold) (xs ys : List EntryTold) → map mean ps ≡ map mean qs
    → map num ps ≡ map (λ q. (mean q).after (num q) e) qs → xs ≡ event e ∷ ys → map (λ p. seen (mean p) (num p) ys) ps ≡ map (λ q. seen (mean q) (num q) xs) qs
seen_one mean num ps qs e xs ys m n is =
    both_same mean num (λ q. (mean q).after (num q) e) (λ k s. seen k s ys) ps qs m n ∙ ap (λ (es : List EntryTold). map (λ q. seen (mean q) (num q) es) qs) (sym is)
