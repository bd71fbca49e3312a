-- What is clipped of a course's bundle agrees too: the numbers that tell the books fit their fields.
use Rattle.std.proofs.Common.{◌≡◌, ◌∙◌, ℕ, zero, suc, ◌<◌, ◌≤◌, List, [], ◌∷◌, ◌++◌, length, map, All, ap, refl, subst, sym, arith}
use Rattle.std.proofs.lemmas.List.{map-append}
use Rattle.std.proofs.lemmas.List.Elements.{All-map, All-nil, All-push}
use Rattle.market_types.specs.Limits.{most_stocks}
use Rattle.market_types.specs.declared.feed.Feed.{Feed}
use Rattle.market_types.specs.Told.{EntryTold, event, edit}
use Rattle.bundle_frames.specs.declared.closing.Closing.{Closing}
use Rattle.kernel_copy.specs.Courses.{CourseTold}
use Rattle.bundle_reader.specs.Told.{BranchTold}
use Rattle.audit_desk.specs.Back.{branch_back, branches_back, bundle_back}
use Rattle.feed_rebuild.specs.Feeds.{entries_feed, entry_feed}
use Rattle.feed_rebuild.specs.Fold.{fold}
use Rattle.audit_desk.specs.Agrees.{Agrees}
use Rattle.audit_desk.specs.Audited.{branch_feed, displayed, states_of}
use Rattle.audit_desk.specs.Clipped.{IsComparable, TellsBooks, clipped, clipped_branch, clipped_closing, clipped_entry, clipped_feed, clipped_number}
use Rattle.audit_desk.proofs.Agreements.{AreTold, agrees}
use Rattle.audit_desk.proofs.Fitting.{IsSmallRun, comparable-branch, tells-branch}

-- What fits stays: the books that a feed tells, and what a closing is compared with.
pub record Stays : Type 0 where
  pub feed : (stocks : ℕ) (feed : List Feed) → All TellsBooks feed → fold stocks (map clipped_feed feed) ≡ fold stocks feed
  pub displayed : (c : Closing) → All IsComparable c.orders → displayed (clipped_closing c) ≡ displayed c
  pub states : (c : Closing) → states_of (clipped_closing c) ≡ states_of c

entry-clipped : (x : EntryTold) → entry_feed (clipped_entry x) ≡ map clipped_feed (entry_feed x)
entry-clipped (event e) = sym (map-append clipped_feed e.before e.after)
entry-clipped (edit d) = refl

entries-clipped : (xs : List EntryTold) → entries_feed (map clipped_entry xs) ≡ map clipped_feed (entries_feed xs)
entries-clipped [] = refl
entries-clipped (x ∷ xs) =
    ap (λ (rest : List Feed). entry_feed (clipped_entry x) ++ rest) (entries-clipped xs)
    ∙ ap (λ (own : List Feed). own ++ map clipped_feed (entries_feed xs)) (entry-clipped x)
    ∙ sym (map-append clipped_feed (entry_feed x) (entries_feed xs))

feed-clipped : (b : BranchTold) → branch_feed (clipped_branch b) ≡ map clipped_feed (branch_feed b)
feed-clipped b =
    let last = b.ended ∷ [] in
    ap (λ (own : List Feed). map clipped_feed b.opening ++ (own ++ map clipped_feed last)) (entries-clipped b.entries)
    ∙ ap (λ (rest : List Feed). map clipped_feed b.opening ++ rest) (sym (map-append clipped_feed (entries_feed b.entries) last))
    ∙ sym (map-append clipped_feed b.opening (entries_feed b.entries ++ last))

branch-clipped : (n : ℕ) (b : BranchTold) → Stays → All TellsBooks (branch_feed b) → All IsComparable b.closing.orders → Agrees n b → Agrees n (clipped_branch b)
branch-clipped n b stays tells compares a = record {
  told = a.told;
  applied = ap (fold n) (feed-clipped b) ∙ stays.feed n (branch_feed b) tells ∙ a.applied;
  orders = a.orders ∙ sym (stays.displayed b.closing compares);
  states = a.states ∙ sym (stays.states b.closing);
}

-- each branch of a course
abbrev pub AreSmall : CourseTold → Type 0
AreSmall c = (b : ℕ) → b < length c.plan.branches → IsSmallRun c b

-- what is clipped of a branch agrees
abbrev ClippedAgrees : ℕ → BranchTold → Type 0
ClippedAgrees n b = Agrees n (clipped_branch b)

clipped-agree : (c : CourseTold) (n : ℕ) → Stays → AreTold c → AreSmall c → n ≤ length c.plan.branches → All (ClippedAgrees (length c.opening.stocks)) (branches_back c n)
clipped-agree c zero stays told small le = All-nil (ClippedAgrees (length c.opening.stocks))
clipped-agree c (suc n) stays told small le =
    let stocks = length c.opening.stocks in
    let fits = small n (omega (arith, le)) in
    All-push (ClippedAgrees stocks) (branches_back c n) (branch_back c n) (clipped-agree c n stays told small (omega (arith, le)))
    (branch-clipped stocks (branch_back c n) stays (tells-branch c n fits) (comparable-branch c n fits) (agrees c n (told n (omega (arith, le)))))

few-stay : (n : ℕ) → n ≤ most_stocks → clipped_number 2 n ≡ n
few-stay n le = omega (arith, le)

pub all-clipped-agree : (c : CourseTold) → length c.opening.stocks ≤ most_stocks → Stays → AreTold c → AreSmall c
    → All (Agrees (clipped (bundle_back c)).stocks) (clipped (bundle_back c)).branches
all-clipped-agree c few stays told small =
    let stocks = length c.opening.stocks in
    let bs = branches_back c (length c.plan.branches) in
    subst (λ (n : ℕ). All (Agrees n) (map clipped_branch bs)) (sym (few-stay stocks few))
    (All-map (Agrees stocks) clipped_branch bs (clipped-agree c (length c.plan.branches) stays told small (omega arith)))
