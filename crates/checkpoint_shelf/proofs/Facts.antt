-- The answers of `begin` and `find` by cases.
use Rattle.std.proofs.Common.{Option, Some, None, IfNone, IfSome, IfOk, OnErr, Result, Ok, Err}
use Rattle.shelf_core.specs.declared.plan.Key.{Key}
use Rattle.shelf_core.specs.declared.words.PlaceWord.{PlaceWord}
use Rattle.checkpoint_shelf.specs.Answers.{MatchBegun, IfTaken, begun_of, MatchFound, IfHere, IfNotYet}
use Rattle.std.specs.declared.alloc.Global.{Global}
use Rattle.std.specs.declared.sync.Arc.{Arc}
use Rattle.checkpoint_shelf.specs.declared.begun.Found.{Found}
use Rattle.checkpoint_shelf.specs.declared.begun.Found.TheVariants.{Here, NotYet}

pub begun_says : (key : Key) (answer : Option PlaceWord) (T : Key → Type 0) (W : PlaceWord → Type 0) → IfNone answer (T key) → IfSome answer W → MatchBegun (begun_of key answer) T W
begun_says key None T W t w = t
begun_says key (Some word) T W t w = w

pub taken_says : (key : Key) (answer : Option PlaceWord) (W W' : PlaceWord → Type 0) → ((word : PlaceWord) → W word → W' word) → IfSome answer W → IfTaken (begun_of key answer) W'
taken_says key None W W' f w = tt
taken_says key (Some word) W W' f w = f word w

pub none_says : {P Q : Type 0} (answer : Option PlaceWord) → (P → Q) → IfNone answer P → IfNone answer Q
none_says None f h = f h
none_says (Some word) f h = tt

pub some_says : {P Q : PlaceWord → Type 0} (answer : Option PlaceWord) → ((word : PlaceWord) → P word → Q word) → IfSome answer P → IfSome answer Q
some_says None f h = tt
some_says (Some word) f h = f word h

pub not_yet_says : {C E : Type 0} (H : Arc C Global → Type 0) (N N' : PlaceWord → Type 0) (r : Result (Found C) E) → ((word : PlaceWord) → N word → N' word) → IfOk r (λ found. MatchFound found H N) → IfOk r (λ found. IfNotYet found N')
not_yet_says H N N' (Ok (Here a)) f h = tt
not_yet_says H N N' (Ok (NotYet word)) f h = f word h
not_yet_says H N N' (Err e) f h = tt

pub here_says : {C E : Type 0} (H H' : Arc C Global → Type 0) (N : PlaceWord → Type 0) (r : Result (Found C) E) → ((a : Arc C Global) → H a → H' a) → IfOk r (λ found. MatchFound found H N) → IfOk r (λ found. IfHere found H')
here_says H H' N (Ok (Here a)) f h = f a h
here_says H H' N (Ok (NotYet word)) f h = tt
here_says H H' N (Err e) f h = tt

-- A fact that each answer gives.
pub both_say : {A P : Type 0} {B : PlaceWord → Type 0} (answer : Option PlaceWord) → (A → P) → ((word : PlaceWord) → B word → P) → IfNone answer A → IfSome answer B → P
both_say None f g a b = f a
both_say (Some word) f g a b = g word b

pub all_say : {C E P : Type 0} (H : Arc C Global → Type 0) (N : PlaceWord → Type 0) (Q : Type 0) (r : Result (Found C) E) → ((a : Arc C Global) → H a → P) → ((word : PlaceWord) → N word → P) → (Q → P) → IfOk r (λ found. MatchFound found H N) → OnErr r Q → P
all_say H N Q (Ok (Here a)) f g k h q = f a h
all_say H N Q (Ok (NotYet word)) f g k h q = g word h
all_say H N Q (Err e) f g k h q = k q
