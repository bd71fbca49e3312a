-- Lemmas on walks over branches and their edits.
use Rattle.std.proofs.Common.{◌≡◌, ◌≤◌, ◌<◌, ◌+◌, ℕ, zero, suc, get_or, Bool, true, false, List, [], ◌∷◌, map, length, Option, None, Some, refl, ap, sym, ◌∙◌, arith, nat_le, if◌then◌else◌}
use Rattle.std.specs.Prelude.{Result, Ok, Err, IfOk, option_map, slice_index_or}
use Rattle.std.specs.Option.{option_or}
use Rattle.std.proofs.lemmas.Bool.Decides.{nat_tests}
use Rattle.toml.specs.Data.{Data}
use Rattle.toml.specs.View.{view}
use Rattle.toml.specs.declared.value.Value.{Value}
use Rattle.study_file.specs.Keys.{has_form}
use Rattle.study_file.specs.Values.{first_failing}
use Rattle.study_rules.specs.Forms.{edit_form}
use Rattle.study_rules.specs.Entries.{edits_in}
use Rattle.study_rules.specs.BranchRules.{first_edit, forms_broken}

pub edit-here : (broken : List Data → Option ℕ) (place : ℕ) (branches : List Value) (v : Value) (rest : List Value) (es : List Data) (at : ℕ)
    → branches ≡ v ∷ rest → es ≡ edits_in (view v) → Some at ≡ broken es → Some (place + at) ≡ first_edit broken place (map view branches)
edit-here broken place branches v rest es at e f h =
    ap (λ o. option_or (option_map (λ n. place + n) o) (first_edit broken (place + 16) (map view rest))) (h ∙ ap broken f)
    ∙ sym (ap (λ xs. first_edit broken place (map view xs)) e)

pub edit-later : (broken : List Data → Option ℕ) (place : ℕ) (branches : List Value) (v : Value) (rest : List Value) (es : List Data) (r : Option ℕ)
    → branches ≡ v ∷ rest → es ≡ edits_in (view v) → None ≡ broken es → r ≡ first_edit broken (place + 16) (map view rest)
    → r ≡ first_edit broken place (map view branches)
edit-later broken place branches v rest es r e f h more =
    more
    ∙ ap (λ o. option_or (option_map (λ n. place + n) o) (first_edit broken (place + 16) (map view rest))) (h ∙ ap broken f)
    ∙ sym (ap (λ xs. first_edit broken place (map view xs)) e)

-- where no edit of branches is refused, none of the first is, and none of the others
none-parts : (o p : Option ℕ) (place : ℕ) → option_or (option_map (λ n. place + n) o) p ≡ None → (o ≡ None) × (p ≡ None)
none-parts None p place h = (refl, h)
none-parts (Some n) p place h = absurd (cc h)

pub first-held : (broken : List Data → Option ℕ) (place : ℕ) (d : Data) (ds : List Data) → first_edit broken place (d ∷ ds) ≡ None
    → (broken (edits_in d) ≡ None) × (first_edit broken (place + 16) ds ≡ None)
first-held broken place d ds h = none-parts (broken (edits_in d)) (first_edit broken (place + 16) ds) place h

few-if : (b : Bool) (n : ℕ) (o : Option ℕ) → nat_le n 16 ≡ b → (if b then o else Some 0) ≡ None → n ≤ 16
few-if true n o e h = grind (arith, nat_tests, e)
few-if false n o e h = absurd (cc h)

-- where the forms of edits hold, there are at most 16
pub few-edits : (es : List Data) → forms_broken es ≡ None → length es ≤ 16
few-edits es h = few-if (nat_le (length es) 16) (length es) (first_failing (has_form edit_form) es) refl h

forms-if : (b : Bool) (n : ℕ) (o : Option ℕ) → nat_le n 16 ≡ b → n ≤ 16 → (if b then o else Some 0) ≡ o
forms-if true n o e h = refl
forms-if false n o e h = absurd (grind (arith, nat_tests, e, h))

pub few-forms : (es : List Data) → length es ≤ 16 → forms_broken es ≡ first_failing (has_form edit_form) es
few-forms es h = forms-if (nat_le (length es) 16) (length es) (first_failing (has_form edit_form) es) refl h

many-if : (b : Bool) (n : ℕ) (o : Option ℕ) → nat_le n 16 ≡ b → 16 < n → (if b then o else Some 0) ≡ Some 0
many-if true n o e h = absurd (grind (arith, nat_tests, e, h))
many-if false n o e h = refl

pub many-forms : (es : List Data) → 16 < length es → forms_broken es ≡ Some 0
many-forms es h = many-if (nat_le (length es) 16) (length es) (first_failing (has_form edit_form) es) refl h

-- what is read of the entry at a place
pub read-here : {X : Type 0} (read : Data → X) (default : X) (vs : List Value) (i : ℕ) (v : Value) (z : X) → i < length vs → v ≡ get_or vs i v
    → z ≡ read (view v) → z ≡ slice_index_or (map read (map view vs)) i default
read-here read default [] i v z h is e = absurd (omega (arith, h))
read-here read default (x ∷ xs) zero v z h is e = e ∙ ap (λ u. read (view u)) is
read-here read default (x ∷ xs) (suc i) v z h is e = read-here read default xs i v z (omega (arith, h)) is e

pub edit-later-ok : {E : Type 0} (broken : List Data → Option ℕ) (place : ℕ) (branches : List Value) (v : Value) (rest : List Value) (es : List Data)
    (r : Result (Option ℕ) E) → branches ≡ v ∷ rest → es ≡ edits_in (view v) → None ≡ broken es
    → IfOk r (λ found. found ≡ first_edit broken (place + 16) (map view rest)) → IfOk r (λ found. found ≡ first_edit broken place (map view branches))
edit-later-ok broken place branches v rest es (Ok found) e f h more = edit-later broken place branches v rest es found e f h more
edit-later-ok broken place branches v rest es (Err x) e f h more = tt
