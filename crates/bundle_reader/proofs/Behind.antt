-- What follows a closing that is whole.
use Rattle.std.proofs.Common.{◌≡◌, ◌∙◌, ℕ, ◌==◌, Bool, true, ◌&&◌, List, [], ◌∷◌, ◌++◌, length, map, None, Result, if◌then◌else◌, sym, ap, subst, arith}
use Rattle.std.proofs.lemmas.List.{map-append}
use Rattle.bundle_reader.specs.declared.frame.Frame.{Frame}
use Rattle.bundle_reader.specs.declared.bundle.Told.{Told}
use Rattle.bundle_reader.specs.declared.reading.Misplaced.{Misplaced}
use Rattle.bundle_reader.specs.declared.reading.Reading.{Reading}
use Rattle.bundle_reader.specs.Told.{BranchTold, WholeTold, branch_told}
use Rattle.bundle_reader.specs.Order.{is_closed, take_next, with_branch}
use Rattle.bundle_reader.specs.Reads.{Takes}

pub pushed_is : (old new : List Told) (x : Told) → new ≡ old ++ x ∷ [] → map branch_told new ≡ map branch_told old ++ branch_told x ∷ []
pushed_is old new x e = ap (map branch_told) e ∙ map-append branch_told old (x ∷ [])

same_true : (m n : ℕ) → m ≡ n → (m == n) ≡ true
same_true m n e = grind arith

both_true : (a b : Bool) → a ≡ true → b ≡ true → (a && b) ≡ true
both_true a b p q = ap (λ t. t && b) p ∙ q

pub behind_is : (w : WholeTold) (x : BranchTold) (branches : List BranchTold) (f : Frame) (r : Result Reading Misplaced) → length x.closing.stocks ≡ w.header.stocks
    → length x.closing.agents ≡ w.header.agents → branches ≡ w.branches ++ x ∷ [] → Takes (take_next (record { header = w.header; branches = branches }) f) r
    → Takes (if is_closed w.header x.closing then take_next (with_branch w x) f else None) r
behind_is w x branches f r stocks agents same takes =
    let closed : is_closed w.header x.closing ≡ true =
    both_true (length x.closing.stocks == w.header.stocks) (length x.closing.agents == w.header.agents) (same_true (length x.closing.stocks) w.header.stocks stocks)
    (same_true (length x.closing.agents) w.header.agents agents) in
    let P : Bool → Type 0 = λ t. Takes (if t then take_next (with_branch w x) f else None) r in
    let Q : List BranchTold → Type 0 = λ l. Takes (take_next (record { header = w.header; branches = l }) f) r in
    subst P (sym closed) (subst Q same takes)
