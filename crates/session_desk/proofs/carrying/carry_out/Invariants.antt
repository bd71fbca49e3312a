use Rattle.std.proofs.Common.{◌≡◌, map}
use Rattle.rewind_desk.specs.Best.{best}
use Rattle.session_desk.specs.Session.{first_session}
use Rattle.session_desk.proofs.Turns.{IsUnderWay}
use Rattle.session_desk.proofs.carrying.carry_out.Given as goal

-- the acts so far were carried out, and the probes are the same
abbrev pub invariant-loop-i : goal.invariant-loop-i
invariant-loop-i g l = record {
  way : IsUnderWay l.course.value.opening.limit (best l.shelf) (map (λ b. (goal.Probe-dyn g (b.vtable, b.value)).meaning b.value) l.fn.probes)
      (first_session l.course.value) l.acts l.initial.steps l.i l.session l.out.items l.steps;
  meanings : map (λ b. (goal.Probe-dyn g (b.vtable, b.value)).meaning b.value) l.probes ≡ map (λ b. (goal.Probe-dyn g (b.vtable, b.value)).meaning b.value) l.fn.probes;
  titles : map (λ b. (goal.Probe-dyn g (b.vtable, b.value)).title b.value) l.probes ≡ map (λ b. (goal.Probe-dyn g (b.vtable, b.value)).title b.value) l.fn.probes;
}
