-- A key: a message's time, number and slot as one number.
use Rattle.std.specs.Prelude.{◌≡◌, ℕ, ◌+◌, ◌*◌, ◌/◌, ◌%◌, Bool, true, false, List, ◌++◌}
use Rattle.std.specs.List.{AllByRecursion}
use Rattle.std.proofs.Common.{ap, ◌∙◌}
use Rattle.std.proofs.lemmas.Nat.{div-add-mod'}
use Rattle.std.specs.Ordering.{nat_cmp, on, flip_args, then_cmp}
use Rattle.std.specs.declared.cmp.Ordering.{Ordering}

-- what a key tells
pub record Due : Type 0 where
  pub time : ℕ
  pub seq : ℕ
  pub slot : ℕ

-- The time stands above the lower 64 bits, the message's number above the lower 16, and the slot in these.
abbrev pub due_of : ℕ → Due
due_of n = record { time = n / 65536 / 281474976710656; seq = n / 65536 % 281474976710656; slot = n % 65536 }

-- the number that tells a time, a message's number and a slot
abbrev pub code_of : Due → ℕ
code_of d = (d.time * 281474976710656 + d.seq) * 65536 + d.slot

-- the number of what a number tells is that number
pub code-due : (n : ℕ) → code_of (due_of n) ≡ n
code-due n = ap (λ (q : ℕ). q * 65536 + n % 65536) (div-add-mod' (n / 65536) 281474976710656) ∙ div-add-mod' n 65536

-- the order of each heap, whose greatest key is the one that is due first; its slot decides between equal ones
abbrev pub by_due : Due → Due → Ordering
by_due = flip_args (then_cmp (on (λ (d : Due). d.time) nat_cmp) (then_cmp (on (λ (d : Due). d.seq) nat_cmp) (on (λ (d : Due). d.slot) nat_cmp)))

-- The keys of the waiting messages, those of wakeups apart from the others, and for how many more there is room.
pub record Keys : Type 0 where
  pub others : List Due
  pub wakeups : List Due
  pub spare : ℕ

-- all of them
abbrev pub all_of : Keys → List Due
all_of k = k.others ++ k.wakeups

-- a test of slots holds of each wakeup's, and of no other's
abbrev pub AreByKind : (ℕ → Bool) → Keys → Type 0
AreByKind p k = AllByRecursion (λ (d : Due). p d.slot ≡ false) k.others × AllByRecursion (λ (d : Due). p d.slot ≡ true) k.wakeups
