-- Runs that stop and go on, by event number or by time.
use Rattle.std.proofs.Common.{◌≡◌, ℕ, ◌≤◌, inl, inr, min, List, refl, sym, ap, ◌∙◌, arith}
use Rattle.std.proofs.lemmas.Bool.{cases_lt}
use Rattle.branch_tree.specs.declared.stop.Stop.{Stop}
use Rattle.branch_tree.specs.declared.stop.Stop.TheVariants.{At, When}
use Rattle.branch_tree.specs.Stops.{IsWithin, ComesAfter}
use Rattle.market_types.specs.Told.{EntryTold}
use Rattle.market_floor.specs.declared.opening.Opening.{Opening}
use Rattle.kernel_core.specs.Until.{Run, until, behind}
use Rattle.kernel_core.proofs.Stops.{until-grows, until-within, until-past, until-again, until-until, until-behind}
use Rattle.kernel_core.proofs.Times.{time-grows, time-within, time-again, time-time, time-on, time-behind}
use Rattle.kernel_copy.specs.UntilStop.{until_stop, until_part}

pub stop-grows : (o : Opening) (s : Stop) (r : Run) → r.state.events ≤ (until_stop o s r).state.events
stop-grows o (At n) r = until-grows o n r
stop-grows o (When w) r = time-grows o w o.limit r

pub stop-within : (o : Opening) (s : Stop) (r : Run) → IsWithin o.limit s → r.state.events ≤ o.limit → (until_stop o s r).state.events ≤ o.limit
stop-within o (At n) r w h = elim (cases_lt n r.state.events) [
  | inl past ↦ omega (arith, ap (λ (q : Run). q.state.events) (until-past o n r (omega arith)))
  | inr ahead ↦ omega (arith, until-within o n r ahead)
]
stop-within o (When t) r w h = time-within o t o.limit r h

-- from a stop on to an event number that wasn't passed there
pub stop-again : (o : Opening) (s : Stop) (e : ℕ) (r : Run) → (until_stop o s r).state.events ≤ e → until o e (until_stop o s r) ≡ until o e r
stop-again o (At n) e r h = until-again o n e r h
stop-again o (When w) e r h = time-again o w o.limit e r h

-- from a stop on to one that comes after it
pub stop-after : (o : Opening) (s t : Stop) (r : Run) → ComesAfter o.limit s t → r.state.events ≤ o.limit → until_stop o t (until_stop o s r) ≡ until_stop o t r
stop-after o (At m) (At n) r c h = until-until o m n r c
stop-after o (When v) (When w) r c h = time-time o v w o.limit r c
stop-after o (When v) (At n) r c h = time-again o v o.limit n r (omega (arith, time-within o v o.limit r h))
stop-after o (At m) (When w) r c h = absurd c

pub stop-behind : (o : Opening) (s : Stop) (xs : List EntryTold) (r : Run) → until_stop o s (behind xs r) ≡ behind xs (until_stop o s r)
stop-behind o (At n) xs r = until-behind o n xs r
stop-behind o (When w) xs r = time-behind o w o.limit xs r

-- a run that stands at a stop's end goes no further up to its events
pub stop-own : (o : Opening) (s : Stop) (r : Run) → until o (until_stop o s r).state.events r ≡ until_stop o s r
stop-own o s r =
    let t = until_stop o s r in
    sym (stop-again o s t.state.events r (omega arith)) ∙ until-past o t.state.events t (omega arith)

-- a run to a stop and to the limit of events is one to the stop
pub part-stop : (o : Opening) (s : Stop) (r : Run) → IsWithin o.limit s → until_part o s o.limit r ≡ until_stop o s r
part-stop o (At n) r w = ap (λ (m : ℕ). until o m r) (omega arith)
part-stop o (When t) r w = refl

pub part-grows : (o : Opening) (s : Stop) (most : ℕ) (r : Run) → r.state.events ≤ (until_part o s most r).state.events
part-grows o (At n) most r = until-grows o (min n most) r
part-grows o (When w) most r = time-grows o w most r

pub part-behind : (o : Opening) (s : Stop) (most : ℕ) (xs : List EntryTold) (r : Run) → until_part o s most (behind xs r) ≡ behind xs (until_part o s most r)
part-behind o (At n) most xs r = until-behind o (min n most) xs r
part-behind o (When w) most xs r = time-behind o w most xs r

-- it goes on to more events as if it hadn't stopped
pub part-on : (o : Opening) (s : Stop) (most more : ℕ) (r : Run) → most ≤ more → until_part o s more (until_part o s most r) ≡ until_part o s more r
part-on o (At n) most more r h = until-until o (min n most) (min n more) r (omega arith)
part-on o (When w) most more r h = time-on o w w most more r (omega arith) h
