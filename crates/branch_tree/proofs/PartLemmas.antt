-- The segments of a tree of branches.
use Rattle.std.proofs.Common.{◌≡◌, ℕ, ◌+◌, ◌<◌, ◌≤◌, ◌⊎◌, inl, inr, Bool, List, [], ◌∷◌, ◌++◌, Option, Some, None, length, get_or, refl, sym, ap, ◌∙◌, arith, suc, zero, subst, length-append, append_assoc}
use Rattle.std.proofs.lemmas.Bool.{cases_lt, cases_eq, eq-eqb, ne_eqb}
use Rattle.std.proofs.lemmas.List.{get_or_append_left, get_or-append-add, get_or_push, length_push, get_or_past}
use Rattle.branch_tree.specs.declared.branch.Branch.{Branch}
use Rattle.branch_tree.specs.declared.segment.Segment.{Segment}
use Rattle.branch_tree.specs.declared.stop.Stop.{Stop}
use Rattle.branch_tree.specs.declared.stop.Stop.TheVariants.{At}
use Rattle.branch_tree.specs.Plan.{Plan, parent_at, stop_at}
use Rattle.branch_tree.specs.Stops.{IsWithin}
use Rattle.branch_tree.specs.Segments.{cuts_of, count_before, last_of, place_among, fork_of, origin_of, parts, segments_of, segments_before, segments_in, segment_at, no_segment}
use Rattle.branch_tree.specs.Planned.{IsTree, IsNext, IsFork, ParentIs, IsPlanned, ArePlanned}
use Rattle.branch_tree.proofs.CutLemmas.{Rises, Sorted, Alike, cuts-are, cuts-place}

length-parts : (limit branch number : ℕ) (parent : Option ℕ) (start : Stop) (cuts : List Stop) → length (parts limit branch number parent start cuts) ≡ length cuts + 1
length-parts limit branch number parent start [] = refl
length-parts limit branch number parent start (c ∷ cs) = omega (arith, length-parts limit branch (number + 1) (Some number) c cs)

pub length-before : (bs : List Branch) (limit b : ℕ) → length (segments_before bs limit b) ≡ count_before bs b
length-before bs limit zero = refl
length-before bs limit (suc b) =
    omega (arith, length-append (segments_before bs limit b) (segments_of bs limit b), length-before bs limit b, length-parts limit b (count_before bs b) (origin_of bs b) (stop_at bs b) (cuts_of bs b))

-- Which branch a segment is of, and where it stops.
pub record IsPart (b : ℕ) (to : Stop) (g : Segment) : Type 0 where
  pub branch : g.branch ≡ b
  pub stop : g.stop ≡ to

part-at : (limit branch number : ℕ) (parent : Option ℕ) (start : Stop) (cuts : List Stop) (i : ℕ) → i ≤ length cuts → IsPart branch (get_or cuts i (At limit)) (get_or (parts limit branch number parent start cuts) i no_segment)
part-at limit branch number parent start [] zero h = record { branch = refl; stop = refl }
part-at limit branch number parent start [] (suc i) h = absurd (omega arith)
part-at limit branch number parent start (c ∷ cs) zero h = record { branch = refl; stop = refl }
part-at limit branch number parent start (c ∷ cs) (suc i) h = part-at limit branch (number + 1) (Some number) c cs i (omega arith)

-- a branch's segments come before those of a later one
pub count-within : (bs : List Branch) (p b i : ℕ) → p < b → i ≤ length (cuts_of bs p) → count_before bs p + i < count_before bs b
count-within bs p zero i l h = absurd (omega arith)
count-within bs p (suc b) i l h = elim (cases_lt p b) [
  | inl less ↦ omega (arith, count-within bs p b i less h)
  | inr more ↦ let same : p ≡ b = omega arith in subst (λ (q : ℕ). count_before bs p + i < count_before bs q + (length (cuts_of bs q) + 1)) same (omega arith)
]

-- the segments of each branch stand at its numbers
pub before-at : (bs : List Branch) (limit p b i : ℕ) → p < b → i ≤ length (cuts_of bs p) → IsPart p (get_or (cuts_of bs p) i (At limit)) (get_or (segments_before bs limit b) (count_before bs p + i) no_segment)
before-at bs limit p zero i l h = absurd (omega arith)
before-at bs limit p (suc b) i l h =
    let xs = segments_before bs limit b in
    let ys = segments_of bs limit b in
    elim (cases_lt p b) [
      | inl less ↦
          let w = count-within bs p b i less h in
          subst (λ (g : Segment). IsPart p (get_or (cuts_of bs p) i (At limit)) g) (sym (get_or_append_left xs ys no_segment (count_before bs p + i) (omega (arith, length-before bs limit b)))) (before-at bs limit p b i less h)
      | inr more ↦
          let same : b ≡ p = omega arith in
          let here = part-at limit b (count_before bs b) (origin_of bs b) (stop_at bs b) (cuts_of bs b) in
          let at : (j : ℕ) → j ≤ length (cuts_of bs b) → IsPart b (get_or (cuts_of bs b) j (At limit)) (get_or (xs ++ ys) (count_before bs b + j) no_segment) = λ j k.
          subst (λ (n : ℕ). IsPart b (get_or (cuts_of bs b) j (At limit)) (get_or (xs ++ ys) (n + j) no_segment)) (length-before bs limit b)
          (subst (λ (g : Segment). IsPart b (get_or (cuts_of bs b) j (At limit)) g) (sym (get_or-append-add xs ys j no_segment)) (here j k)) in
          let P : ℕ → Type 0 = λ q. (j : ℕ) → j ≤ length (cuts_of bs q) → IsPart q (get_or (cuts_of bs q) j (At limit)) (get_or (xs ++ ys) (count_before bs q + j) no_segment) in
          (subst P same at) i h
    ]

-- a segment's parent is the same among more segments
parent-more : (bs : List Branch) (limit : ℕ) (xs ys : List Segment) (s b : ℕ) (at to : Stop) (parent : Option ℕ) → s ≤ length xs → ParentIs bs limit xs s b at to parent → ParentIs bs limit (xs ++ ys) s b at to parent
parent-more bs limit xs ys s b at to None l h = h
parent-more bs limit xs ys s b at to (Some q) l h =
    let same = sym (get_or_append_left xs ys no_segment q (omega (arith, h.earlier))) in
    record {
      earlier = h.earlier;
      unfinished = subst (λ (g : Segment). q < last_of bs g.branch) same h.unfinished;
      joins = subst (λ (g : Segment). IsNext limit b at to g ⊎ IsFork bs b at g) same h.joins;
    }

planned-more : (bs : List Branch) (limit : ℕ) (xs ys : List Segment) (s : ℕ) (g : Segment) → s ≤ length xs → IsPlanned bs limit xs s g → IsPlanned bs limit (xs ++ ys) s g
planned-more bs limit xs ys s g l h = record {
  branch = h.branch;
  within = h.within;
  parent = parent-more bs limit xs ys s g.branch g.start g.stop g.parent l h.parent;
}

-- one segment more
grown : (bs : List Branch) (limit : ℕ) (xs : List Segment) (g : Segment) → ArePlanned bs limit xs → IsPlanned bs limit xs (length xs) g → ArePlanned bs limit (xs ++ g ∷ [])
grown bs limit xs g all h = record {
  each = λ s l. elim (cases_lt s (length xs)) [
    | inl less ↦ subst (λ (x : Segment). IsPlanned bs limit (xs ++ g ∷ []) s x) (sym (get_or_append_left xs (g ∷ []) no_segment s less))
        (planned-more bs limit xs (g ∷ []) s (get_or xs s no_segment) (omega arith) (all.each s less))
    | inr more ↦ let same : length xs ≡ s = omega (arith, length_push xs g) in
        subst (λ (x : Segment). IsPlanned bs limit (xs ++ g ∷ []) s x) (sym (get_or_push xs g no_segment s same))
        (subst (λ (n : ℕ). IsPlanned bs limit (xs ++ g ∷ []) n g) same (planned-more bs limit xs (g ∷ []) (length xs) g (omega arith) h))
  ];
}

-- what a segment with this parent, the next cuts given, has: it goes on to the first of them
abbrev Before : List Branch → ℕ → List Segment → ℕ → ℕ → Stop → List Stop → Option ℕ → Type 0
Before bs limit xs number b start [] parent = ParentIs bs limit xs number b start (At limit) parent
Before bs limit xs number b start (c ∷ cs) parent = ParentIs bs limit xs number b start c parent

-- a later cut follows
rises-next : (bs : List Branch) (limit : ℕ) (xs : List Segment) (b number : ℕ) (c : Stop) (cs : List Stop) → Rises limit c cs
    → number < last_of bs b → (get_or xs number no_segment).branch ≡ b → (get_or xs number no_segment).stop ≡ c → Before bs limit xs (number + 1) b c cs (Some number)
rises-next bs limit xs b number c [] r u eb es = record {
  earlier = omega arith;
  unfinished = subst (λ (q : ℕ). number < last_of bs q) (sym eb) u;
  joins = inl (record { branch = eb; meets = es; rises = r });
}
rises-next bs limit xs b number c (d ∷ ds) r u eb es = record {
  earlier = omega arith;
  unfinished = subst (λ (q : ℕ). number < last_of bs q) (sym eb) u;
  joins = inl (record { branch = eb; meets = es; rises = r.0 });
}

sorted-rest : (limit : ℕ) (c : Stop) (cs : List Stop) → Rises limit c cs → Sorted limit cs
sorted-rest limit c [] r = tt
sorted-rest limit c (d ∷ ds) r = r.1

-- these stops are within the limit
abbrev AllWithin : ℕ → List Stop → Type 0
AllWithin limit [] = Unit {0}
AllWithin limit (c ∷ cs) = IsWithin limit c × AllWithin limit cs

alike-within : (limit : ℕ) (k : Bool) (cs : List Stop) → Alike limit k cs → AllWithin limit cs
alike-within limit k [] h = tt
alike-within limit k (c ∷ cs) h = (h.1, alike-within limit k cs h.2)

-- a branch's segments join those of the branches before it
grown-parts : (bs : List Branch) (limit branch : ℕ) (cuts : List Stop) (number : ℕ) (parent : Option ℕ) (start : Stop) (xs : List Segment) → number ≡ length xs → number + length cuts ≡ last_of bs branch → branch < length bs → Sorted limit cuts → AllWithin limit cuts → Before bs limit xs number branch start cuts parent → ArePlanned bs limit xs → ArePlanned bs limit (xs ++ parts limit branch number parent start cuts)
grown-parts bs limit branch [] number parent start xs n z b r w p all =
    grown bs limit xs (record { branch = branch; start = start; stop = At limit; parent = parent }) all (record {
      branch = b;
      within = omega arith;
      parent = subst (λ (k : ℕ). ParentIs bs limit xs k branch start (At limit) parent) n p;
    })
grown-parts bs limit branch (c ∷ cs) number parent start xs n z b r w p all =
    let g : Segment = record { branch = branch; start = start; stop = c; parent = parent } in
    let more = grown bs limit xs g all (record {
      branch = b;
      within = w.0;
      parent = subst (λ (k : ℕ). ParentIs bs limit xs k branch start c parent) n p;
    }) in
    let at = get_or_push xs g no_segment number (sym n) in
    let next = rises-next bs limit (xs ++ g ∷ []) branch number c cs r (omega arith) (ap (λ (x : Segment). x.branch) at) (ap (λ (x : Segment). x.stop) at) in
    let rest = grown-parts bs limit branch cs (number + 1) (Some number) c (xs ++ g ∷ []) (omega (arith, length_push xs g)) (omega arith) b (sorted-rest limit c cs r) w.1 next more in
    subst (λ (ys : List Segment). ArePlanned bs limit ys) (append_assoc xs (g ∷ []) (parts limit branch (number + 1) (Some number) c cs)) rest

-- what a branch's first segment goes on from, whatever its stop
origin-is : (bs : List Branch) (limit b : ℕ) (to : Stop) → IsTree bs limit → b < length bs → ParentIs bs limit (segments_before bs limit b) (count_before bs b) b (stop_at bs b) to (origin_of bs b)
origin-is bs limit b to t l = elim (cases_eq b 0) [
  | inl e ↦ rw (eq-eqb b 0 e) e
  | inr n ↦ rw (ne_eqb b 0 n) (
      let p = parent_at bs b in
      let less = t.parents b (omega arith) l in
      let place = cuts-place bs limit b (At limit) t (omega arith) l in
      let at = before-at bs limit p b (place_among (stop_at bs b) (cuts_of bs p)) less (omega (arith, place.0)) in
      record {
        earlier = count-within bs p b (place_among (stop_at bs b) (cuts_of bs p)) less (omega (arith, place.0));
        unfinished = subst (λ (q : ℕ). fork_of bs b < last_of bs q) (sym at.branch) (omega (arith, place.0));
        joins = inr (record { later = omega arith; parent = at.branch; start = refl; meets = at.stop ∙ place.1 });
      })
]

before-first : (bs : List Branch) (limit b : ℕ) (cuts : List Stop) → IsTree bs limit → b < length bs → Before bs limit (segments_before bs limit b) (count_before bs b) b (stop_at bs b) cuts (origin_of bs b)
before-first bs limit b [] t l = origin-is bs limit b (At limit) t l
before-first bs limit b (c ∷ cs) t l = origin-is bs limit b c t l

planned-before : (bs : List Branch) (limit b : ℕ) → IsTree bs limit → b ≤ length bs → ArePlanned bs limit (segments_before bs limit b)
planned-before bs limit zero t l = record { each = λ s h. absurd (omega arith) }
planned-before bs limit (suc b) t l =
    grown-parts bs limit b (cuts_of bs b) (count_before bs b) (origin_of bs b) (stop_at bs b) (segments_before bs limit b) (sym (length-before bs limit b)) refl (omega arith) (cuts-are bs limit b t).1.sorted (alike-within limit (cuts-are bs limit b t).0 (cuts_of bs b) (cuts-are bs limit b t).1.alike) (before-first bs limit b (cuts_of bs b) t (omega arith)) (planned-before bs limit b t (omega arith))

-- the segments of a tree are planned
pub planned : (p : Plan) → IsTree p.branches p.limit → ArePlanned p.branches p.limit (segments_in p)
planned p t = planned-before p.branches p.limit (length p.branches) t (omega arith)

-- the last segment of a branch
pub last-at : (p : Plan) (b : ℕ) → b < length p.branches → (last_of p.branches b < length (segments_in p)) × IsPart b (At p.limit) (segment_at p (last_of p.branches b))
last-at p b l =
    let cuts = cuts_of p.branches b in
    let at = before-at p.branches p.limit b (length p.branches) (length cuts) l (omega arith) in (
      omega (arith, count-within p.branches b (length p.branches) (length cuts) l (omega arith), length-before p.branches p.limit (length p.branches)),
      subst (λ (n : Stop). IsPart b n (segment_at p (last_of p.branches b))) (get_or_past cuts (length cuts) (At p.limit) (omega arith)) at,
    )
