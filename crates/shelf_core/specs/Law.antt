use Rattle.std.specs.Prelude.{◌≡◌, ℕ, ◌+◌, ◌≤◌, true, List, Some, slice_get, take}
use Rattle.shelf_core.specs.Plan.{sole_in}
use Rattle.shelf_core.specs.Words.{is_filled}
use Rattle.shelf_core.specs.Possible.{word_at}
use Rattle.shelf_core.specs.After.{left_by}
use Rattle.shelf_core.specs.Orderly.{Orderly}
use Rattle.shelf_core.specs.declared.plan.Key.{Key}
use Rattle.shelf_core.specs.declared.words.ClaimWord.TheVariants.{Taken}
use Rattle.shelf_core.specs.declared.system.System.{System}
use Rattle.shelf_core.specs.declared.event.Event.{Event}

-- What no event undoes: the stop bit isn't cleared, the done number isn't lowered, a Taken word isn't changed, and a
-- sole key's place isn't taken from Ready or Lent to Free or Writing.
pub record Keeps (s t : System) : Type 0 where
  pub stopped : s.stopped ≡ true → t.stopped ≡ true
  pub done : s.done ≤ t.done
  pub taken : (segment n : ℕ) → slice_get s.claims segment ≡ Some (Taken n) →
      slice_get t.claims segment ≡ Some (Taken n)
  pub filled : (key : Key) → sole_in s.plan key ≡ true → is_filled (word_at s key) ≡ true →
      is_filled (word_at t key) ≡ true

-- The law of a list of events, of each prefix of it: what the prefix leaves of the opening system is orderly, and so
-- sound, and the next event undoes none of it.
pub record Law (events : List Event) : Type 0 where
  pub orderly : (i : ℕ) → Orderly (left_by (take i events))
  pub keeps : (i : ℕ) → Keeps (left_by (take i events)) (left_by (take (i + 1) events))
