-- The nearest state under the keys of lists.
use Rattle.std.proofs.Common.{◌≡◌, ◌≤◌, ◌<◌, ℕ, Bool, true, false, ◌||◌, ◌&&◌, inl, inr, List, [], ◌∷◌, ◌++◌, Option, Some, None, IfSome, refl, sym, ap, ◌∙◌, arith, subst, true≢false}
use Rattle.std.specs.Prelude.{max, is_some, nat_le, nat_lt, if◌then◌else◌}
use Rattle.std.specs.List.{list_any}
use Rattle.std.proofs.lemmas.Bool.{cases_lt, lt-ltb, le-ltb, lt-leb, le-leb}
use Rattle.std.proofs.lemmas.List.Folds.{list_any-append}
use Rattle.shelf_core.specs.declared.plan.Key.{Key}
use Rattle.checkpoint_shelf.specs.Told.{ClosedTold}
use Rattle.kernel_copy.specs.Courses.{CheckpointTold, CourseTold, IsKeyOf}
use Rattle.rewind_desk.specs.declared.near.Near.{Near}
use Rattle.rewind_desk.specs.Best.{count_at, is_on, is_near, is_held, is_held_near}
use Rattle.rewind_desk.specs.Nearest.{events_of, nearer_of, HasKeys, IsHeld, IsNearest}
use Rattle.rewind_desk.specs.Reach.{IsOn}
use Rattle.rewind_desk.proofs.Most.{most-append, and-false, and-true, in-either, in-one}

picked_some : (t : Bool) (a b : Near) → is_some (if t then Some a else Some b) ≡ true
picked_some true a b = refl
picked_some false a b = refl

nearer-some : (a b : Option Near) → is_some (nearer_of a b) ≡ (is_some a || is_some b)
nearer-some None None = refl
nearer-some None (Some b) = refl
nearer-some (Some a) None = refl
nearer-some (Some a) (Some b) = picked_some (nat_lt b.events a.events) a b

nearer-events : (a b : Option Near) → events_of (nearer_of a b) ≡ max (events_of a) (events_of b)
nearer-events None None = refl
nearer-events None (Some b) = omega arith
nearer-events (Some a) None = omega arith
nearer-events (Some a) (Some b) = elim (cases_lt b.events a.events) [
  | inl less ↦ rw (lt-ltb b.events a.events less) (omega arith)
  | inr more ↦ rw (le-ltb b.events a.events more) (omega arith)
]

picked_either : (P : Near → Type 0) (t : Bool) (a b : Near) → P a → P b → IfSome (if t then Some a else Some b) P
picked_either P true a b h k = h
picked_either P false a b h k = k

-- what holds of both holds of the nearer one
nearer-either : (P : Near → Type 0) (a b : Option Near) → IfSome a P → IfSome b P → IfSome (nearer_of a b) P
nearer-either P None None h k = tt
nearer-either P None (Some b) h k = k
nearer-either P (Some a) None h k = h
nearer-either P (Some a) (Some b) h k = picked_either P (nat_lt b.events a.events) a b h k

-- what is so of the keys of two lists is so of both together
both-keys : (shelf : ClosedTold CourseTold) (xs ys : List Key) → HasKeys shelf xs → HasKeys shelf ys → HasKeys shelf (xs ++ ys)
both-keys shelf xs ys a b k i held = elim (in-either k xs ys i) [
  | inl first ↦ a k first held
  | inr second ↦ b k second held
]

one-key : (shelf : ClosedTold CourseTold) (k : Key) → (is_held shelf k ≡ true → IsKeyOf shelf.course k) → HasKeys shelf (k ∷ [])
one-key shelf k of x i held =
    let same : k ≡ x = in-one k x i in
    subst (λ (y : Key). IsKeyOf shelf.course y) same (of (subst (λ (y : Key). is_held shelf y ≡ true) (sym same) held))

-- the nearer of the nearest under each of two lists is the nearest under both
pub nearer-both : (shelf : ClosedTold CourseTold) (s e : ℕ) (xs ys : List Key) (a b : Option Near) → IsNearest shelf s e xs a → IsNearest shelf s e ys b
    → IsNearest shelf s e (xs ++ ys) (nearer_of a b)
nearer-both shelf s e xs ys a b h k = record {
  some = nearer-some a b ∙ ap (λ (x : Bool). x || is_some b) h.some ∙ ap (λ (y : Bool). list_any (is_held_near shelf s e) xs || y) k.some
      ∙ sym (list_any-append (is_held_near shelf s e) xs ys);
  most = omega (arith, nearer-events a b, h.most, k.most, most-append (count_at shelf.course) (is_held_near shelf s e) xs ys);
  held = nearer-either (IsHeld shelf e) a b h.held k.held;
  chain = nearer-either (λ (n : Near). IsOn shelf.course.plan s n.key.segment) a b h.chain k.chain;
  of = both-keys shelf xs ys h.of k.of;
}

-- under no key there is none
pub nearest-none : (shelf : ClosedTold CourseTold) (s e : ℕ) → IsNearest shelf s e [] None
nearest-none shelf s e = record { some = refl; most = refl; held = tt; chain = tt; of = λ k i held. absurd (true≢false (sym i)) }

-- under one key
nearest-far : (shelf : ClosedTold CourseTold) (s e : ℕ) (k : Key) → (is_held shelf k ≡ true → IsKeyOf shelf.course k) → is_held_near shelf s e k ≡ false → IsNearest shelf s e (k ∷ []) None
nearest-far shelf s e k of h = record {
  some = sym (ap (λ (t : Bool). t || false) h);
  most = sym (ap (λ (t : Bool). max (if t then count_at shelf.course k else 0) 0) h);
  held = tt;
  chain = tt;
  of = one-key shelf k of;
}

-- what is held near, in one word
pub near-true : (shelf : ClosedTold CourseTold) (s e : ℕ) (n : Near) → IsHeld shelf e n → IsOn shelf.course.plan s n.key.segment → is_held_near shelf s e n.key ≡ true
near-true shelf s e n h on =
    let c = shelf.course in
    let early : count_at c n.key ≤ e = omega (arith, h.events, h.early) in
    and-true (is_held shelf n.key) (is_near c s e n.key) h.held (and-true (is_on c.plan s n.key.segment) (nat_le (count_at c n.key) e) on (le-leb (count_at c n.key) e early))

nearest-one : (shelf : ClosedTold CourseTold) (s e : ℕ) (n : Near) → IsHeld shelf e n → IsOn shelf.course.plan s n.key.segment → IsNearest shelf s e (n.key ∷ []) (Some n)
nearest-one shelf s e n h on =
    let near = near-true shelf s e n h on in
    let same : count_at shelf.course n.key ≡ max (count_at shelf.course n.key) 0 = omega arith in
    record {
      some = sym (ap (λ (t : Bool). t || false) near);
      most = h.events ∙ same ∙ sym (ap (λ (t : Bool). max (if t then count_at shelf.course n.key else 0) 0) near);
      held = h;
      chain = on;
      of = one-key shelf n.key (λ held. h.key);
    }

-- a state that isn't held, has more events or is of another chain isn't near
pub nearest-free : (shelf : ClosedTold CourseTold) (s e : ℕ) (k : Key) → is_held shelf k ≡ false → IsNearest shelf s e (k ∷ []) None
nearest-free shelf s e k h = nearest-far shelf s e k (λ held. absurd (true≢false (sym held ∙ h))) (ap (λ (t : Bool). t && is_near shelf.course s e k) h)

pub nearest-late : (shelf : ClosedTold CourseTold) (s e : ℕ) (k : Key) → IsKeyOf shelf.course k → e < count_at shelf.course k → IsNearest shelf s e (k ∷ []) None
nearest-late shelf s e k of late =
    let c = shelf.course in
    let past = and-false (is_on c.plan s k.segment) (nat_le (count_at c k) e) (lt-leb (count_at c k) e late) in
    nearest-far shelf s e k (λ held. of) (and-false (is_held shelf k) (is_near c s e k) past)

pub nearest-off : (shelf : ClosedTold CourseTold) (s e : ℕ) (k : Key) → IsKeyOf shelf.course k → is_on shelf.course.plan s k.segment ≡ false → IsNearest shelf s e (k ∷ []) None
nearest-off shelf s e k of off =
    let c = shelf.course in
    nearest-far shelf s e k (λ held. of) (and-false (is_held shelf k) (is_near c s e k) (ap (λ (t : Bool). t && nat_le (count_at c k) e) off))

-- the key of a checkpoint that the shelf lends is one of its course
pub kept-key : (shelf : ClosedTold CourseTold) (key : Key) (kept : CheckpointTold) (n : Near) → kept.key ≡ key → kept.course ≡ shelf.course → n.key ≡ kept.key → IsKeyOf kept.course n.key
    → IsKeyOf shelf.course key
kept-key shelf key kept n at of is keyed = subst (λ (x : Key). IsKeyOf shelf.course x) (is ∙ at) (subst (λ (c : CourseTold). IsKeyOf c n.key) of keyed)

-- what a checkpoint that the shelf lends says of its key
pub kept-count : (shelf : ClosedTold CourseTold) (key : Key) (kept : CheckpointTold) (events : ℕ) → kept.key ≡ key → kept.course ≡ shelf.course → events ≡ count_at kept.course kept.key
    → events ≡ count_at shelf.course key
kept-count shelf key kept events at of count = count ∙ ap (λ (c : CourseTold). count_at c kept.key) of ∙ ap (λ (x : Key). count_at shelf.course x) at

pub kept-near : (shelf : ClosedTold CourseTold) (s e : ℕ) (key : Key) (kept : CheckpointTold) (n : Near) → is_held shelf key ≡ true → kept.key ≡ key → kept.course ≡ shelf.course
    → n.key ≡ kept.key → n.events ≡ count_at kept.course kept.key → IsKeyOf kept.course n.key → n.events ≤ e → IsOn shelf.course.plan s key.segment → IsNearest shelf s e (key ∷ []) (Some n)
kept-near shelf s e key kept n held at of is count keyed early on =
    let same : n.key ≡ key = is ∙ at in
    let whole : IsHeld shelf e n = record {
      held = subst (λ (x : Key). is_held shelf x ≡ true) (sym same) held;
      key = subst (λ (c : CourseTold). IsKeyOf c n.key) of keyed;
      events = kept-count shelf key kept n.events at of count ∙ ap (λ (x : Key). count_at shelf.course x) (sym same);
      early = early;
    } in
    subst (λ (x : Key). IsNearest shelf s e (x ∷ []) (Some n)) same
    (nearest-one shelf s e n whole (subst (λ (x : Key). IsOn shelf.course.plan s x.segment) (sym same) on))
