-- Why an answer is refused.
use Rattle.std.proofs.Common.{◌≡◌, ◌≤◌, ◌<◌, ℕ, Some, None, length, refl, sym, ap, arith}
use Rattle.std.proofs.lemmas.Bool.{le-leb, lt-leb, lt-ltb, le-ltb}
use Rattle.session_desk.specs.declared.error.SessionError.TheVariants.{NoBranch, NoEvent}
use Rattle.session_desk.specs.Session.{SessionTold, last_event_in}
use Rattle.session_desk.specs.Answers.{branch_refusal, state_refusal}

pub lacking : (s : SessionTold) (b : ℕ) → length s.branches ≤ b → branch_refusal s b ≡ Some NoBranch
lacking s b h = rw (le-leb (length s.branches) b h) refl

pub there : (s : SessionTold) (b : ℕ) → b < length s.branches → branch_refusal s b ≡ None
there s b h = rw (lt-leb (length s.branches) b h) refl

pub refused-branch : (s : SessionTold) (b e : ℕ) → length s.branches ≤ b → state_refusal s b e ≡ Some NoBranch
refused-branch s b e h = rw (le-leb (length s.branches) b h) refl

pub refused-event : (s : SessionTold) (b e last : ℕ) → b < length s.branches → last ≡ last_event_in s b → last < e → state_refusal s b e ≡ Some (NoEvent last)
refused-event s b e last h is less =
    let past : last_event_in s b < e = omega (arith, is, less) in
    rw (lt-leb (length s.branches) b h, lt-ltb (last_event_in s b) e past) (ap (λ (n : ℕ). Some (NoEvent n)) (sym is))

pub not-refused : (s : SessionTold) (b e : ℕ) → b < length s.branches → e ≤ last_event_in s b → state_refusal s b e ≡ None
not-refused s b e h most = rw (lt-leb (length s.branches) b h, le-ltb (last_event_in s b) e most) refl
