-- The rules of a study's branches.
use Rattle.std.specs.Prelude.{List, [], ◌∷◌}
use Rattle.study_market.specs.FirstBroken.{Rule, rule}
use Rattle.study_rules.specs.BranchRules.{branch_keys_broken, names_broken, parents_broken, stops_broken, edit_keys_broken, work_broken}
use Rattle.study_rules.specs.EditRules.{edits_broken}

abbrev pub branch_rules : List Rule
branch_rules =
    rule 30 branch_keys_broken ∷ rule 31 names_broken ∷ rule 32 parents_broken ∷ rule 33 stops_broken
    ∷ rule 34 edit_keys_broken ∷ rule 35 edits_broken ∷ rule 36 work_broken ∷ []

-- those before that of what the edits say
abbrev pub shape_rules : List Rule
shape_rules =
    rule 30 branch_keys_broken ∷ rule 31 names_broken ∷ rule 32 parents_broken ∷ rule 33 stops_broken
    ∷ rule 34 edit_keys_broken ∷ []
