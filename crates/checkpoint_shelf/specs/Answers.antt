-- The answers of `begin` and `find`, by cases.
use Rattle.std.specs.Prelude.{Option, Some, None}
use Rattle.std.specs.declared.alloc.Global.{Global}
use Rattle.shelf_core.specs.declared.plan.Key.{Key}
use Rattle.shelf_core.specs.declared.words.PlaceWord.{PlaceWord}
use Rattle.std.specs.declared.sync.Arc.{Arc}
use Rattle.checkpoint_shelf.specs.declared.begun.Begun.{Begun}
use Rattle.checkpoint_shelf.specs.declared.begun.Begun.TheVariants.{Turn, Taken}
use Rattle.checkpoint_shelf.specs.declared.begun.Found.{Found}
use Rattle.checkpoint_shelf.specs.declared.begun.Found.TheVariants.{Here, NotYet}

abbrev pub MatchBegun : Begun → (Key → Type 0) → (PlaceWord → Type 0) → Type 0
MatchBegun (Turn key) T W = T key
MatchBegun (Taken word) T W = W word

abbrev pub IfTaken : Begun → (PlaceWord → Type 0) → Type 0
IfTaken begun W = MatchBegun begun (λ _. Unit {0}) W

abbrev pub MatchFound : {C : Type 0} → Found C → (Arc C Global → Type 0) → (PlaceWord → Type 0) → Type 0
MatchFound (Here value) H N = H value
MatchFound (NotYet word) H N = N word

abbrev pub IfHere : {C : Type 0} → Found C → (Arc C Global → Type 0) → Type 0
IfHere found H = MatchFound found H (λ _. Unit {0})

abbrev pub IfNotYet : {C : Type 0} → Found C → (PlaceWord → Type 0) → Type 0
IfNotYet found N = MatchFound found (λ _. Unit {0}) N

-- The answer of `begin` to what it found in a place's word, or to nothing.
abbrev pub begun_of : Key → Option PlaceWord → Begun
begun_of key None = Turn key
begun_of key (Some word) = Taken word
