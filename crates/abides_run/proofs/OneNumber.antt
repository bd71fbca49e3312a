-- Where the nearest state that is kept is one, so is the number of a session's steps.
use Rattle.std.proofs.Common.{◌≡◌, ◌≤◌, ◌+◌, ◌-◌, ℕ, Bool, List, sym, arith}
use Rattle.shelf_core.specs.declared.plan.Key.{Key}
use Rattle.kernel_copy.specs.Courses.{CourseTold, IsCourse}
use Rattle.branch_workers.specs.Layout.{layout}
use Rattle.rewind_desk.specs.Left.{AreLeft, IsAmple, is_possible, nearest_of}
use Rattle.rewind_desk.specs.Sure.{sure}
use Rattle.session_desk.specs.declared.act.Act.{Act}
use Rattle.session_desk.specs.Counted.{Kept, all_reached, all_run, surely_kept}
use Rattle.session_desk.specs.Session.{SessionTold, first_session}
use Rattle.study_rules.specs.Accepted.{StudyTold}
use Rattle.abides_run.specs.Output.{SessionRose, allowed, carried_out, least_reached, most_reached, simulated, study_events}
use Rattle.abides_run.specs.Placed.{kept_under, possibly_kept}

-- what is asked of the states that are left
abbrev pub OfLeft : Type 0
OfLeft = (c : CourseTold) (stride places : ℕ) (held : Key → Bool) (b e : ℕ) → IsCourse c → IsAmple c stride places → AreLeft c (layout c.plan stride places) held
    → nearest_of c (layout c.plan stride places) held b e ≡ sure c (layout c.plan stride places) b e

abbrev pub OfPossible : Type 0
OfPossible = (c : CourseTold) (stride places b e : ℕ) → IsCourse c → IsAmple c stride places
    → nearest_of c (layout c.plan stride places) (is_possible c (layout c.plan stride places)) b e ≡ sure c (layout c.plan stride places) b e

-- that nearer states leave no more to run
abbrev pub OfNearer : Type 0
OfNearer = (less more : Kept) (s : SessionTold) (acts : List Act) → ((b e : ℕ) → less b e ≤ more b e) → all_reached more s acts ≤ all_reached less s acts

same-reached : OfNearer → (a b : Kept) (s : SessionTold) (acts : List Act) → ((x e : ℕ) → a x e ≡ b x e) → all_reached a s acts ≡ all_reached b s acts
same-reached nearer a b s acts same =
    omega (arith, nearer a b s acts (λ x e. omega (arith, same x e)), nearer b a s acts (λ x e. omega (arith, same x e)))

bounds-meet : OfPossible → OfNearer → (s : StudyTold) (places : ℕ) (acts : List Act) → IsCourse s.course → IsAmple s.course s.stride places → least_reached s places acts ≡ most_reached s places acts
bounds-meet possible nearer s places acts h ample =
    same-reached nearer (possibly_kept s.course s.stride places) (surely_kept s.course s.stride places) (first_session s.course) acts
    (λ b e. possible s.course s.stride places b e h ample)

pub counts-meet : OfPossible → OfNearer → (s : StudyTold) (places : ℕ) (acts : List Act) → IsCourse s.course → IsAmple s.course s.stride places → allowed (carried_out acts places s) ≡ 0
counts-meet possible nearer s places acts h ample = omega (arith, bounds-meet possible nearer s places acts h ample)

pub counts-one : OfLeft → OfPossible → OfNearer → (s : StudyTold) (places : ℕ) (acts : List Act) (old new : ℕ) → IsCourse s.course → IsAmple s.course s.stride places → SessionRose s places acts old new
    → new ≡ old + simulated (carried_out acts places s)
counts-one left possible nearer s places acts old new h ample rose =
    let same : all_reached (kept_under s.course s.stride places rose.held) (first_session s.course) acts ≡ most_reached s places acts =
    same-reached nearer (kept_under s.course s.stride places rose.held) (surely_kept s.course s.stride places) (first_session s.course) acts
    (λ b e. left s.course s.stride places rose.held b e h ample rose.kept) in
    omega (arith, rose.rose, same, bounds-meet possible nearer s places acts h ample)
