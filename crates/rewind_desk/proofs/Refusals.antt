-- Why a rewind is refused.
use Rattle.std.proofs.Common.{◌≡◌, ◌≤◌, ◌<◌, ℕ, Some, None, length, refl, sym, ap, arith}
use Rattle.std.proofs.lemmas.Bool.{le-leb, lt-leb, lt-ltb, le-ltb}
use Rattle.kernel_copy.specs.Courses.{CourseTold}
use Rattle.rewind_desk.specs.declared.desk.RewindError.TheVariants.{NoBranch, NoEvent}
use Rattle.rewind_desk.specs.Rewinds.{last_event, rewind_refusal}

pub refused-branch : (c : CourseTold) (b e : ℕ) → length c.plan.branches ≤ b → rewind_refusal c b e ≡ Some NoBranch
refused-branch c b e h = rw (le-leb (length c.plan.branches) b h) refl

pub refused-event : (c : CourseTold) (b e last : ℕ) → b < length c.plan.branches → last ≡ last_event c b → last < e → rewind_refusal c b e ≡ Some (NoEvent last)
refused-event c b e last h is less =
    let past : last_event c b < e = omega arith in
    rw (lt-leb (length c.plan.branches) b h, lt-ltb (last_event c b) e past) (ap (λ (n : ℕ). Some (NoEvent n)) (sym is))

pub not-refused : (c : CourseTold) (b e : ℕ) → b < length c.plan.branches → e ≤ last_event c b → rewind_refusal c b e ≡ None
not-refused c b e h most = rw (lt-leb (length c.plan.branches) b h, le-ltb (last_event c b) e most) refl
