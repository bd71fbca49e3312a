-- What an audit that finds nothing says.
use Rattle.std.proofs.Common.{◌≡◌, ℕ, ◌+◌, List, [], ◌∷◌, Option, Some, None, Result, Ok, Err, refl, sym, ap, subst, ◌∙◌}
use Rattle.std.specs.Prelude.{All}
use Rattle.std.proofs.lemmas.List.Elements.{All-cons, All-head, All-nil, All-tail}
use Rattle.bundle_frames.specs.declared.closing.Closing.{Closing}
use Rattle.bundle_reader.specs.Told.{BranchTold}
use Rattle.feed_rebuild.specs.Books.{Books, books, books_of}
use Rattle.feed_rebuild.specs.Compared.{by_stock, difference}
use Rattle.feed_rebuild.specs.Fold.{Told, fold}
use Rattle.feed_rebuild.specs.declared.shown.Shown.{Shown}
use Rattle.feed_rebuild.proofs.Folding.{none-differs, same-orders_by, same-states_by}
use Rattle.audit_desk.specs.declared.failing.Failing.{Failing}
use Rattle.audit_desk.specs.Agrees.{Agrees}
use Rattle.audit_desk.specs.Audited.{branch_feed, displayed, failing_or, first_failing, misfit_by, misfit_of, states_of}

-- what tells the books of a fold from a closing is what tells the fold
pub books-misfit : (stocks : ℕ) (c : Closing) (r : Result Told ℕ) (b : Books) → books r ≡ Ok b
    → difference stocks b.orders b.states (displayed c) (states_of c) ≡ misfit_by stocks c r
books-misfit stocks c (Ok t) b is =
    let same : books_of t ≡ b = cc in
    ap (λ (x : Books). difference stocks x.orders x.states (displayed c) (states_of c)) (sym same)
books-misfit stocks c (Err n) b is = cc

agreed : (stocks : ℕ) (b : BranchTold) (r : Result Told ℕ) → fold stocks (branch_feed b) ≡ r → misfit_by stocks b.closing r ≡ None → Agrees stocks b
agreed stocks b (Ok t) is none = record {
  told = t;
  applied = is;
  orders = same-orders_by stocks t.orders t.states (displayed b.closing) (states_of b.closing) none;
  states = same-states_by stocks t.orders t.states (displayed b.closing) (states_of b.closing) none;
}
agreed stocks b (Err n) is none = cc

neither : (n : ℕ) (misfit : Option ℕ) (later : Option Failing) → failing_or n misfit later ≡ None → (misfit ≡ None) × (later ≡ None)
neither n None later h = (refl, h)
neither n (Some reference) later h = cc

-- where no branch fails each agrees
pub all-agree : (stocks n : ℕ) (bs : List BranchTold) → first_failing stocks n bs ≡ None → All (Agrees stocks) bs
all-agree stocks n [] h = All-nil (Agrees stocks)
all-agree stocks n (b ∷ bs) h =
    let parts = neither n (misfit_of stocks b) (first_failing stocks (n + 1) bs) h in
    All-cons (Agrees stocks) b bs (agreed stocks b (fold stocks (branch_feed b)) refl parts.0) (all-agree stocks (n + 1) bs parts.1)

fits : (stocks : ℕ) (b : BranchTold) → Agrees stocks b → misfit_of stocks b ≡ None
fits stocks b a =
    let t = a.told in
    ap (λ (r : Result Told ℕ). misfit_by stocks b.closing r) a.applied
    ∙ subst (λ (live : List Shown). difference stocks t.orders t.states live (states_of b.closing) ≡ None) a.orders
    (subst (λ (states : List ℕ). difference stocks t.orders t.states (by_stock stocks t.orders) states ≡ None) a.states
    (none-differs stocks t.orders t.states))

-- and where each agrees no branch fails
pub none-fails : (stocks n : ℕ) (bs : List BranchTold) → All (Agrees stocks) bs → first_failing stocks n bs ≡ None
none-fails stocks n [] a = refl
none-fails stocks n (b ∷ bs) a =
    ap (λ (misfit : Option ℕ). failing_or n misfit (first_failing stocks (n + 1) bs)) (fits stocks b (All-head (Agrees stocks) b bs a))
    ∙ none-fails stocks (n + 1) bs (All-tail (Agrees stocks) b bs a)
