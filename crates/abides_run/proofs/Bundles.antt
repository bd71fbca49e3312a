-- Bytes that are sent one piece after another.
use Rattle.std.proofs.Common.{◌≡◌, ◌<◌, ◌+◌, ℕ, suc, List, [], ◌++◌, Option, Result, Ok, Err, IsErr, IsErrAnd, sym, ap, ◌∙◌, subst, arith, length, take, drop, get_or}
use Rattle.std.specs.List.{flat_map}
use Rattle.std.proofs.Math.Seq.{take-suc}
use Rattle.std.proofs.lemmas.Grind.{flat_map-append}
use Rattle.std.proofs.lemmas.List.{flat_map_more, take-append-drop}
use Rattle.outside.specs.Taken.{appended}
use Rattle.abides_run.specs.Performed.{Sent}
use Rattle.abides_run.specs.Sending.{appended_twice, sent_before, sent_behind}
use Rattle.abides_run.specs.declared.status.Status.{Status}

-- an end that is handed on
pub handed_sent : (bytes : List ℕ) (f n : ℕ) (old new : Option (List ℕ)) (r : Result (Unit {0}) Status) (st : Status) → IsErr r × IsErrAnd r (λ x. x ≡ st)
    → Sent bytes f n old new (Err st) → Sent bytes f n old new r
handed_sent bytes f n old new (Ok done) st is s = absurd is.1
handed_sent bytes f n old new (Err other) st is s = subst (λ (x : Status). Sent bytes f n old new (Err x)) (sym is.1) s

-- the frames of one item more
pub frames_more : {X : Type 0} (F : X → List ℕ) (xs : List X) (i : ℕ) (d : X) → i < length xs → flat_map F (take (i + 1) xs) ≡ flat_map F (take i xs) ++ F (get_or xs i d)
frames_more F xs i d less =
    let up : i + 1 ≡ suc i = omega arith in
    ap (λ (k : ℕ). flat_map F (take k xs)) up ∙ ap (λ (ys : List _). flat_map F ys) (take-suc xs i d less) ∙ sym (flat_map_more F [] (take i xs) (get_or xs i d))

-- the frames of all items begin with those of some
frames_begin : {X : Type 0} (F : X → List ℕ) (xs : List X) (n : ℕ) → flat_map F xs ≡ flat_map F (take n xs) ++ flat_map F (drop n xs)
frames_begin F xs n = ap (λ (ys : List _). flat_map F ys) (sym (take-append-drop n xs)) ∙ flat_map-append F (take n xs) (drop n xs)

-- one item's frames more were sent
pub item_sent : {X : Type 0} (F : X → List ℕ) (xs : List X) (i : ℕ) (d : X) (old mid new : Option (List ℕ)) → i < length xs
    → mid ≡ appended old (flat_map F (take i xs)) → new ≡ appended mid (F (get_or xs i d)) → new ≡ appended old (flat_map F (take (i + 1) xs))
item_sent F xs i d old mid new less before took =
    took ∙ ap (λ (t : Option (List ℕ)). appended t (F (get_or xs i d))) before ∙ appended_twice old (flat_map F (take i xs)) (F (get_or xs i d))
    ∙ ap (λ (bytes : List ℕ). appended old bytes) (sym (frames_more F xs i d less))

-- an item's frames were not sent whole
pub item_cut : {X : Type 0} (F : X → List ℕ) (xs : List X) (i : ℕ) (d : X) (f m k : ℕ) (old mid new : Option (List ℕ)) (st : Status) → i < length xs
    → mid ≡ appended old (flat_map F (take i xs)) → m ≡ f → Sent (F (get_or xs i d)) m k mid new (Err st) → Sent (flat_map F xs) f k old new (Err st)
item_cut F xs i d f m k old mid new st less before still s =
    let own = F (get_or xs i d) in
    subst (λ (bytes : List ℕ). Sent bytes f k old new (Err st)) (sym (frames_begin F xs (i + 1)))
    (sent_before (flat_map F (take (i + 1) xs)) (flat_map F (drop (i + 1) xs)) f k old new st
    (subst (λ (bytes : List ℕ). Sent bytes f k old new (Err st)) (sym (frames_more F xs i d less))
    (sent_behind (flat_map F (take i xs)) own f m k old mid new (Err st) before still s)))
