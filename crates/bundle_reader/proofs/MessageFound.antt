-- The message that bytes spell is found.
use Rattle.std.proofs.Common.{◌≡◌, ◌∙◌, ℕ, Bool, true, false, ◌&&◌, List, slice_index, Option, Some, None, IfSome, if◌then◌else◌, refl, sym, ap, subst}
use Rattle.std.specs.Prelude.{bytes_eq, option_map}
use Rattle.std.proofs.lemmas.Bool.{and_parts, and_from}
use Rattle.std.proofs.lemmas.Slice.Eq.{bytes_eq-Decides}
use Rattle.wire_fields.specs.declared.kind.Kind.{Kind}
use Rattle.wire_fields.specs.Wire.{Wire, IsSpelled, spelling, are_in_range, wire_at}
use Rattle.wire_fields.proofs.Spelled.{message_again}
use Rattle.wire_fields.proofs.Decoders.{IsTable}
use Rattle.bundle_reader.specs.Messages.{where_spelled, message_by, message_in}

-- ---- what may be there

pub some_when : {M : Type 0} (P : M → Type 0) (t : Bool) (m : M) → (t ≡ true → P m) → IfSome (if t then Some m else None) P
some_when P true m is = is refl
some_when P false m is = tt

pub when_is : {M : Type 0} (P : M → Type 0) (t : Bool) (o : Option M) → (t ≡ true → IfSome o P) → IfSome (if t then o else None) P
when_is P true o is = is refl
when_is P false o is = tt

pub either_is : {M : Type 0} (P : M → Type 0) (t : Bool) (o u : Option M) → (t ≡ true → IfSome o P) → IfSome u P → IfSome (if t then o else u) P
either_is P true o u is other = is refl
either_is P false o u is other = other

pub map_is : {A B : Type 0} (P : A → Type 0) (Q : B → Type 0) (f : A → B) (o : Option A) → IfSome o P → ((a : A) → P a → Q (f a)) → IfSome (option_map f o) Q
map_is P Q f None is to = tt
map_is P Q f (Some a) is to = to a is

pub then_some : {M : Type 0} (t : Bool) (m : M) → t ≡ true → ◌≡◌ {A = Option M} (if t then Some m else None) (Some m)
then_some true m e = refl
then_some false m e = absurd cc

pub then_first : {M : Type 0} (t : Bool) (o u : Option M) → t ≡ true → ◌≡◌ {A = Option M} (if t then o else u) o
then_first true o u e = refl
then_first false o u e = absurd cc

pub nothing_is : {M : Type 0} (P : M → Type 0) (o : Option M) → IfSome o P → ((m : M) → P m → ⊥) → o ≡ None
nothing_is P None is never = refl
nothing_is P (Some m) is never = absurd (never m is)

pub some_is : {M : Type 0} (P : M → Type 0) (o : Option M) (m : M) → IfSome o P → o ≡ Some m → P m
some_is P o m is e = let Q : Option _ → Type 0 = λ k. IfSome k P in subst Q e is

-- ---- messages

kept_is : {M : Type 0} (wire : M → Wire) (bytes : List ℕ) (m : M) → IfSome (where_spelled wire bytes m) (λ x. IsSpelled bytes (wire x))
kept_is wire bytes m =
    some_when (λ x. IsSpelled bytes (wire x)) (bytes_eq bytes (spelling (wire m)) && are_in_range (wire m).kinds (wire m).values) m
    (λ t.
    let parts = and_parts (bytes_eq bytes (spelling (wire m))) (are_in_range (wire m).kinds (wire m).values) t in
    record { same = (bytes_eq-Decides bytes (spelling (wire m))).0 parts.0; in_range = parts.1 })

by_is : {M : Type 0} (wire : M → Wire) (message : Wire → M) (bytes : List ℕ) (kinds : Option (List Kind)) → IfSome (message_by wire message bytes kinds) (λ x. IsSpelled bytes (wire x))
by_is wire message bytes None = tt
by_is wire message bytes (Some kinds) = kept_is wire bytes (message (wire_at kinds bytes))

-- what is found is spelled by the bytes
pub message_is : {M : Type 0} (wire : M → Wire) (message : Wire → M) (layout : ℕ → Option (List Kind)) (bytes : List ℕ)
    → IfSome (message_in wire message layout bytes) (λ x. IsSpelled bytes (wire x))
unfolding message_in
message_is wire message layout bytes = by_is wire message bytes (layout (slice_index bytes 0))

-- where the letter has no type, nothing is found
pub no_message : {M : Type 0} (wire : M → Wire) (message : Wire → M) (layout : ℕ → Option (List Kind)) (bytes : List ℕ)
    → layout (slice_index bytes 0) ≡ None → message_in wire message layout bytes ≡ None
unfolding message_in
no_message wire message layout bytes unknown = ap (message_by wire message bytes) unknown

-- what bytes spell is found
pub message_found : {M : Type 0} (wire : M → Wire) (message : Wire → M) (layout : ℕ → Option (List Kind)) → IsTable wire layout message
    → (bytes : List ℕ) (m : M) → IsSpelled bytes (wire m) → message_in wire message layout bytes ≡ Some m
unfolding message_in
message_found {M = M} wire message layout table bytes m is =
    let letter : slice_index bytes 0 ≡ (wire m).letter = ap (λ (l : List ℕ). slice_index l 0) is.same in
    let known : layout (slice_index bytes 0) ≡ Some (wire m).kinds = ap layout letter ∙ table.kinds m in
    let same : message (wire_at (wire m).kinds bytes) ≡ m = ap message (sym (message_again (wire m).kinds bytes (wire m) refl is).same) ∙ table.back m in
    let test : (bytes_eq bytes (spelling (wire m)) && are_in_range (wire m).kinds (wire m).values) ≡ true =
    and_from (bytes_eq bytes (spelling (wire m))) (are_in_range (wire m).kinds (wire m).values) ((bytes_eq-Decides bytes (spelling (wire m))).1 is.same) is.in_range in
    ap (message_by wire message bytes) known ∙ ap (where_spelled wire bytes) same ∙ then_some (bytes_eq bytes (spelling (wire m)) && are_in_range (wire m).kinds (wire m).values) m test
