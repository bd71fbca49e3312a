-- What entries of each kind take from the columns.
use Rattle.std.specs.Prelude.{ℕ, Bool, true, false, if◌then◌else◌}
use Rattle.packed_entries.specs.declared.mark.Kind.{Kind}
use Rattle.packed_entries.specs.declared.mark.Kind.TheVariants as kind

abbrev pub is_edit : Kind → Bool
is_edit kind.Edit = true
is_edit k = false

-- how many orders, cancels, accepted orders, other replies, quotes and edits an entry of a kind has
abbrev pub enters_in : Kind → ℕ
enters_in kind.Enter = 1
enters_in k = 0

abbrev pub cancels_in : Kind → ℕ
cancels_in kind.Cancel = 1
cancels_in k = 0

abbrev pub accepted_in : Kind → ℕ
accepted_in kind.Accepted = 1
accepted_in k = 0

abbrev pub shorts_in : Kind → ℕ
shorts_in kind.System = 1
shorts_in kind.Canceled = 1
shorts_in kind.Executed = 1
shorts_in kind.Rejected = 1
shorts_in k = 0

abbrev pub quotes_in : Kind → ℕ
quotes_in kind.Quote = 1
quotes_in k = 0

abbrev pub edits_in : Kind → ℕ
edits_in k = if is_edit k then 1 else 0
