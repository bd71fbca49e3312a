-- Nearer states leave less to run.
use Rattle.std.proofs.Common.{◌≤◌, ℕ, List, [], ◌∷◌, arith}
use Rattle.session_desk.specs.Session.{SessionTold, last_event_in}
use Rattle.session_desk.specs.Anchors.{anchor_of, shared_count}
use Rattle.session_desk.specs.declared.act.Act.{Act}
use Rattle.session_desk.specs.declared.act.Act.TheVariants.{Fork, Undo, Edit, Rewind, Close, Values}
use Rattle.session_desk.specs.Acting.{after_act, number_in}
use Rattle.session_desk.specs.Counted.{Kept, all_reached, left_to_run, reached_for}

left-less : (less more : Kept) (s : SessionTold) (b count : ℕ) → ((b e : ℕ) → less b e ≤ more b e) → left_to_run more s b count ≤ left_to_run less s b count
left-less less more s b count nearer = omega (arith, nearer (anchor_of s b) (shared_count s b count))

one-less : (less more : Kept) (s : SessionTold) (a : Act) → ((b e : ℕ) → less b e ≤ more b e) → reached_for more s a ≤ reached_for less s a
one-less less more s (Fork name parent at edits) nearer = omega arith
one-less less more s Undo nearer = omega arith
one-less less more s (Edit name edits) nearer = omega arith
one-less less more s (Rewind name event) nearer = left-less less more s (number_in s name) event nearer
one-less less more s (Close name) nearer = left-less less more s (number_in s name) (last_event_in s (number_in s name)) nearer
one-less less more s (Values name) nearer = omega arith

pub all-less : (less more : Kept) (s : SessionTold) (acts : List Act) → ((b e : ℕ) → less b e ≤ more b e) → all_reached more s acts ≤ all_reached less s acts
all-less less more s [] nearer = omega arith
all-less less more s (a ∷ acts) nearer = omega (arith, one-less less more s a nearer, all-less less more (after_act s a) acts nearer)
