-- Rows of branches.
use Rattle.std.proofs.Common.{◌≡◌, ◌∙◌, ◌+◌, ◌++◌, ◌<◌, ◌≤◌, ℕ, suc, zero, List, [], ◌∷◌, length, map, All, add-one, ap, ap₂, sym, subst, arith}
use Rattle.std.proofs.lemmas.List.{length-map}
use Rattle.std.proofs.lemmas.List.Elements.{All-append, All-cons, All-nil}
use Rattle.branch_tree.specs.declared.branch.Branch.{Branch}
use Rattle.branch_tree.specs.Plan.{Plan}
use Rattle.kernel_copy.specs.Courses.{CourseTold}
use Rattle.probe_desk.specs.Probe.{Meaning}
use Rattle.study_report.specs.declared.row.TableRow.{TableRow}
use Rattle.study_report.specs.Tables.{column, row_of, rows_of}

-- a row has a number for each probe
pub rows_wide : (c : CourseTold) (ms : List Meaning) (k n : ℕ) → k ≡ length ms → All (λ (r : TableRow). length r.values ≡ k) (rows_of c ms n)
rows_wide c ms k zero h = All-nil (λ (r : TableRow). length r.values ≡ k)
rows_wide c ms k (suc n) h =
    let P : TableRow → Type 0 = λ r. length r.values ≡ k in
    let wide : length (map (column c n) ms) ≡ k = length-map ms (column c n) ∙ sym h in
    All-append P (rows_of c ms n) (row_of c ms n ∷ []) (rows_wide c ms k n h) (All-cons P (row_of c ms n) [] wide (All-nil P))

-- the row of the next branch is appended, its probes of the same meanings
pub one_row_more : (c : CourseTold) (ms now : List Meaning) (rows new : List TableRow) (b : ℕ) (next : TableRow) → rows ≡ rows_of c ms b → now ≡ ms → next ≡ row_of c now b
    → new ≡ rows ++ next ∷ [] → new ≡ rows_of c ms (b + 1)
one_row_more c ms now rows new b next before same is pushed =
    pushed ∙ ap₂ (λ (rs : List TableRow) (r : TableRow). rs ++ r ∷ []) before (is ∙ ap (λ (xs : List Meaning). row_of c xs b) same)
    ∙ ap (λ n. rows_of c ms n) (sym (add-one b))

-- the rows of all branches, each of which was counted
pub all_rows : (c : CourseTold) (ms : List Meaning) (rows : List TableRow) (p : Plan) (bs : List Branch) (b : ℕ) → rows ≡ rows_of c ms b → bs ≡ p.branches → p ≡ c.plan → length bs ≤ b
    → b ≤ length bs → rows ≡ rows_of c ms (length c.plan.branches)
all_rows c ms rows p bs b before are is past within =
    let all : b ≡ length bs = omega (arith, past, within) in
    before ∙ ap (λ (n : ℕ). rows_of c ms n) (all ∙ ap length (are ∙ ap (λ (x : Plan). x.branches) is))

-- a branch that is counted is one of the course's
pub is_branch : (p q : Plan) (bs : List Branch) (b : ℕ) → bs ≡ q.branches → q ≡ p → b < length bs → b < length p.branches
is_branch p q bs b are is within =
    subst (λ (xs : List Branch). b < length xs) (are ∙ ap (λ (x : Plan). x.branches) is) within
