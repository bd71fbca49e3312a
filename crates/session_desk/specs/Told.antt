-- What the answer tells of a script: its acts one by one, or its first bad act.
use Rattle.std.specs.Prelude.{◌≡◌, ◌<◌, ℕ, true, false, List, Some, None, length, get_or}
use Rattle.toml.specs.Data.{Data, Members}
use Rattle.kernel_copy.specs.Courses.{CourseTold}
use Rattle.study_rules.specs.Entries.{entry_of}
use Rattle.study_rules.specs.Scope.{scope_of_opening}
use Rattle.session_desk.specs.declared.act.Act.{Act}
use Rattle.session_desk.specs.Acts.{act_in, is_act}
use Rattle.session_desk.specs.Script.{act_entries, is_fit}

-- the whole is fit, and each entry says the act at its place
pub record AreSaidBy (c : CourseTold) (t : Members) (acts : List Act) : Type 0 where
  pub whole : is_fit c t ≡ true
  pub count : length acts ≡ length (act_entries t)
  pub each : (k : ℕ) (d : Data) (a : Act) → k < length (act_entries t) → act_in (scope_of_opening c.opening) (entry_of (get_or (act_entries t) k d)) ≡ Some (get_or acts k a)

-- The entry of this number says no act, and each before it says one. Where the whole is not fit the number is 64.
pub record IsFirstBad (c : CourseTold) (t : Members) (n : ℕ) : Type 0 where
  pub whole : is_fit c t ≡ false → n ≡ 64
  pub earlier : is_fit c t ≡ true → (k : ℕ) (d : Data) → k < n → is_act (scope_of_opening c.opening) (entry_of (get_or (act_entries t) k d)) ≡ true
  pub there : is_fit c t ≡ true → (d : Data) → (n < length (act_entries t)) × (act_in (scope_of_opening c.opening) (entry_of (get_or (act_entries t) n d)) ≡ None)
