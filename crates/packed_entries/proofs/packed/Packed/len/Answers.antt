use Rattle.std.proofs.Common.{◌∙◌, sym, ap, length}
use Rattle.packed_entries.proofs.Packing.{entries_length}
use Rattle.packed_entries.specs.Held.{Held}
use Rattle.packed_entries.specs.Told.{columns_told}
use Rattle.packed_entries.proofs.packed.Packed.len.Goals as goal

pub returns : goal.returns
returns c = c.len.ensures ∙ sym (entries_length c.self.inside.marks.list (columns_told c.self.inside.columns)) ∙ ap (λ (h : Held). length h.list) c.self.view_is
