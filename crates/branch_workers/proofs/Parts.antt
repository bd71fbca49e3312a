-- Runs towards a stop that have so many events.
use Rattle.std.proofs.Common.{◌≡◌, ℕ, ◌<◌, ◌≤◌, min, inl, inr, sym, ap, ◌∙◌, arith}
use Rattle.std.proofs.lemmas.Bool.{cases_lt}
use Rattle.branch_tree.specs.declared.stop.Stop.{Stop}
use Rattle.branch_tree.specs.declared.stop.Stop.TheVariants.{At, When}
use Rattle.branch_tree.specs.Stops.{IsWithin}
use Rattle.market_floor.specs.declared.opening.Opening.{Opening}
use Rattle.kernel_core.specs.Until.{Run, until}
use Rattle.kernel_core.proofs.Stops.{until-within, until-past}
use Rattle.kernel_core.proofs.Times.{time-number, time-at, until-short}
use Rattle.kernel_copy.specs.UntilStop.{until_stop, until_part}
use Rattle.kernel_copy.proofs.Halts.{part-grows, part-on, part-stop}

-- on its way it has no more events than at the stop
pub part_few : (o : Opening) (s : Stop) (most : ℕ) (r : Run) → IsWithin o.limit s → most ≤ o.limit → (until_part o s most r).state.events ≤ (until_stop o s r).state.events
part_few o s most r within l =
    let grows = part-grows o s o.limit (until_part o s most r) in
    let whole = ap (λ (q : Run). q.state.events) (part-on o s most o.limit r l ∙ part-stop o s r within) in omega arith

-- where so many events stand, it is a run to their number
pub part_number : (o : Opening) (s : Stop) (most : ℕ) (r : Run) → (until_part o s most r).state.events ≡ most → until_part o s most r ≡ until o most r
part_number o (At n) most r there = elim (cases_lt n most) [
  | inr all ↦ let least : min n most ≡ most = omega arith in ap (λ (m : ℕ). until o m r) least
  | inl less ↦
      let least : min n most ≡ n = omega arith in
      let same = ap (λ (m : ℕ). (until o m r).state.events) least in
      elim (cases_lt n r.state.events) [
        | inl past ↦
            let stays = until-past o n r (omega arith) in
            let events = ap (λ (q : Run). q.state.events) stays in
            ap (λ (m : ℕ). until o m r) least ∙ stays ∙ sym (until-past o most r (omega arith))
        | inr ahead ↦ let below = until-within o n r ahead in absurd (omega arith)
      ]
]
part_number o (When w) most r there = time-number o w most most r (omega arith)

-- a run that began with fewer events, and has so many at the stop, has them on its way
pub part_there : (o : Opening) (s : Stop) (e : ℕ) (r : Run) → r.state.events < e → e ≤ (until_stop o s r).state.events → (until_part o s e r).state.events ≡ e
part_there o (At n) e r begins reaches = elim (cases_lt n r.state.events) [
  | inl past ↦ let stays = ap (λ (q : Run). q.state.events) (until-past o n r (omega arith)) in absurd (omega arith)
  | inr ahead ↦
      let to = until-within o n r ahead in
      let least : min n e ≡ e = omega arith in
      let same = ap (λ (m : ℕ). (until o m r).state.events) least in
      let within = until-within o e r (omega arith) in
      elim (cases_lt (until o e r).state.events e) [
        | inl low ↦ let short = ap (λ (q : Run). q.state.events) (until-short o e n r (omega arith) low) in absurd (omega arith)
        | inr high ↦ omega arith
      ]
]
part_there o (When w) e r begins reaches = time-at o w o.limit e r (omega arith) reaches
