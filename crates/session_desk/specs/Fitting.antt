-- Acts that fit a study's opening.
use Rattle.std.specs.Prelude.{⊤}
use Rattle.market_floor.specs.declared.opening.Opening.{Opening}
use Rattle.kernel_copy.specs.Courses.{AreEdits}
use Rattle.session_desk.specs.declared.act.Act.{Act}
use Rattle.session_desk.specs.declared.act.Act.TheVariants.{Fork, Undo, Edit, Rewind, Close, Values}

-- the edits of an act are at most 16, and each can be made at the opening
abbrev pub FitsOpening : Opening → Act → Type 0
FitsOpening o (Fork name parent at edits) = AreEdits o edits
FitsOpening o Undo = ⊤
FitsOpening o (Edit name edits) = AreEdits o edits
FitsOpening o (Rewind name event) = ⊤
FitsOpening o (Close name) = ⊤
FitsOpening o (Values name) = ⊤
