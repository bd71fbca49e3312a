-- What the feed of a branch tells agrees with its closing, in each branch of a course.
use Rattle.std.proofs.Common.{◌≡◌, ◌∙◌, ℕ, zero, suc, ◌<◌, ◌≤◌, List, ◌∷◌, [], ◌++◌, length, All, Ok, ap, sym, arith}
use Rattle.std.proofs.lemmas.List.Elements.{All-nil, All-push}
use Rattle.market_types.specs.declared.feed.Feed.{Feed}
use Rattle.kernel_copy.specs.Courses.{CourseTold}
use Rattle.kernel_copy.specs.Full.{full_run}
use Rattle.trace_bundle.specs.Feed.{opening_feed, system_event}
use Rattle.audit_desk.specs.Back.{branch_back, branches_back}
use Rattle.feed_rebuild.specs.Compared.{by_stock}
use Rattle.feed_rebuild.specs.Feeds.{entries_feed}
use Rattle.feed_rebuild.specs.Fold.{fold, Told}
use Rattle.audit_desk.specs.Agrees.{Agrees}
use Rattle.market_laws.specs.Shown.{IsShownBy}
use Rattle.market_laws.specs.Market.{exchange_of}
use Rattle.audit_desk.proofs.Displays.{displayed-are, states-are}
use Rattle.audit_desk.proofs.Moved.{same-feed}
use Rattle.audit_desk.proofs.Openers.{around}

-- The feed of a run's entries tells the books of its exchange, which has the opening's stocks.
pub record IsTold (c : CourseTold) (b : ℕ) : Type 0 where
  pub stocks : length (exchange_of (full_run c.opening c.plan b)).stocks ≡ length c.opening.stocks
  pub told : Told
  pub led : fold (length c.opening.stocks) (entries_feed (full_run c.opening c.plan b).entries) ≡ Ok told
  pub shown : IsShownBy (exchange_of (full_run c.opening c.plan b)) told

pub agrees : (c : CourseTold) (b : ℕ) → IsTold c b → Agrees (length c.opening.stocks) (branch_back c b)
agrees c b h =
    let o = c.opening in
    let r = full_run o c.plan b in
    let n = length o.stocks in
    record {
      told = h.told;
      applied =
          ap (λ (feed : List Feed). fold n (opening_feed o ++ (feed ++ system_event r.state.time 67 ∷ []))) (same-feed r.entries)
          ∙ around o (entries_feed r.entries) r.state.time
          ∙ h.led;
      orders = sym (displayed-are o r.state h.told.orders h.shown.orders ∙ ap (λ (k : ℕ). by_stock k h.told.orders) h.stocks);
      states = h.shown.states ∙ sym (states-are o r.state);
    }

-- each branch of a course
abbrev pub AreTold : CourseTold → Type 0
AreTold c = (b : ℕ) → b < length c.plan.branches → IsTold c b

pub branches-agree : (c : CourseTold) (n : ℕ) → AreTold c → n ≤ length c.plan.branches → All (Agrees (length c.opening.stocks)) (branches_back c n)
branches-agree c zero h le = All-nil (Agrees (length c.opening.stocks))
branches-agree c (suc n) h le =
    All-push (Agrees (length c.opening.stocks)) (branches_back c n) (branch_back c n) (branches-agree c n h (omega (arith, le))) (agrees c n (h n (omega (arith, le))))
