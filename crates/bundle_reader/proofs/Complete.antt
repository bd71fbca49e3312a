-- Each bundle is read.
use Rattle.std.proofs.Common.{◌≡◌, ◌∙◌, ℕ, ◌+◌, ◌<◌, ◌==◌, nat_lt, Bool, true, false, ◌&&◌, List, [], ◌∷◌, ◌++◌, length, map, Option, Some, None, if◌then◌else◌, refl, sym, ap, subst, append_assoc, zero-add, arith}
use Rattle.std.specs.Prelude.{All}
use Rattle.std.specs.List.{flat_map}
use Rattle.std.proofs.lemmas.List.{append-nil, length-append}
use Rattle.std.proofs.lemmas.List.Elements.{All-head, All-tail}
use Rattle.market_types.specs.declared.feed.Feed.{Feed}
use Rattle.market_types.specs.declared.feed.What.{What}
use Rattle.market_types.specs.declared.feed.What.TheVariants as what
use Rattle.market_types.specs.Told.{EntryTold, event, edit}
use Rattle.bundle_frames.specs.declared.closing.Closing.{Closing}
use Rattle.bundle_frames.specs.declared.closing.ClosingStock.{ClosingStock}
use Rattle.bundle_frames.specs.declared.closing.ClosingOrder.{ClosingOrder}
use Rattle.bundle_frames.specs.declared.closing.ClosingAgent.{ClosingAgent}
use Rattle.bundle_reader.specs.declared.frame.HeaderFrame.{HeaderFrame}
use Rattle.bundle_reader.specs.declared.frame.BranchFrame.{BranchFrame}
use Rattle.bundle_reader.specs.declared.frame.Frame.{Frame}
use Rattle.bundle_reader.specs.declared.frame.Frame.TheVariants as frame
use Rattle.bundle_reader.specs.Told.{BranchTold, BundleTold, BegunTold, WholeTold, LastTold, apart, ReadingTold, start, between, opening, entries, ended, closing, end}
use Rattle.bundle_reader.specs.Order.{is_none, is_system, is_trading, is_of_orders, all_entries, before_next, take_trading, take_of_orders, with_branch, take_next, begun, bundle_of, taken}
use Rattle.bundle_reader.specs.Bundle.{feed_list, entry_list, closing_list, branch_list, branches_list, bundle_list, stand, IsOpening, IsSplit, IsBranch}
use Rattle.bundle_reader.proofs.Runs.{takes, takes_then, takes_both}
use Rattle.bundle_reader.proofs.OpeningRuns.{opening_read}
use Rattle.bundle_reader.proofs.EntryRuns.{EntriesRead, IsFreeOf, entries_read}
use Rattle.bundle_reader.proofs.Closings.{parts, stocks_read, orders_read, agents_read}

both_true : (a b : Bool) → a ≡ true → b ≡ true → (a && b) ≡ true
both_true a b p q = ap (λ t. t && b) p ∙ q

same_true : (m n : ℕ) → m ≡ n → (m == n) ≡ true
same_true m n e = grind arith

less_true : (m n : ℕ) → m < n → nat_lt m n ≡ true
less_true m n e = grind arith

-- a system event is nothing else
system_alone : (x : What) → is_system x ≡ true → (is_trading x ≡ false) × (is_of_orders x ≡ false)
system_alone (what.System code) h = (refl, refl)
system_alone (what.Directory stock category financial lot lots_only class sub_type authenticity short_sale ipo tier etp leverage inverse) h = absurd cc
system_alone (what.Trading stock state reserved reason) h = absurd cc
system_alone (what.Add reference side shares stock price) h = absurd cc
system_alone (what.Executed reference shares match_number) h = absurd cc
system_alone (what.Cancel reference shares) h = absurd cc
system_alone (what.Delete reference) h = absurd cc
system_alone (what.Trade reference side shares stock price match_number) h = absurd cc
system_alone (what.Cross shares stock price match_number kind) h = absurd cc

-- what a message of the feed comes to, by its kind
abbrev message_by : Bool → Bool → Bool → WholeTold → BegunTold → List EntryTold → LastTold → Feed → Option ReadingTold
message_by t o s w b es l m =
    if t then Some (take_trading w b es l m) else (if o then take_of_orders w b es l m else (if s then Some (ended w b (all_entries es l) m) else None))

system_taken : (w : WholeTold) (b : BegunTold) (es : List EntryTold) (l : LastTold) (m : Feed) → is_system m.what ≡ true → before_next l ≡ []
    → taken (entries w b es l) (frame.Message m) ≡ Some (ended w b (all_entries es l) m)
unfolding taken
system_taken w b es l m is none =
    let others = system_alone m.what is in
    let last = is_system m.what && is_none (before_next l) in
    ap (λ t. message_by t (is_of_orders m.what) last w b es l m) others.0
    ∙ ap (λ t. message_by false t last w b es l m) others.1
    ∙ ap (λ t. message_by false false t w b es l m) (both_true (is_system m.what) (is_none (before_next l)) is (ap is_none none))

counts_taken : (w : WholeTold) (b : BegunTold) (es : List EntryTold) (m : Feed) (c : Closing)
    → taken (ended w b es m) (frame.Counts c.counts) ≡ Some (closing w b es m (parts c.counts [] [] []))
unfolding taken
counts_taken w b es m c = refl

header_taken : (h : HeaderFrame) → taken start (frame.Header h) ≡ Some (between (record { header = h; branches = [] }))
unfolding taken
header_taken h = refl

-- entries may stand behind nothing
all_free : (xs : List EntryTold) → IsSplit xs → IsFreeOf (apart []) xs
all_free [] split = tt
all_free (event e ∷ rest) split = refl
all_free (edit d ∷ rest) split = tt

-- Behind a whole branch a branch or the end is taken as behind these branches.
pub record IsBehind (r : ReadingTold) (w : WholeTold) : Type 0 where
  pub branch : (x : BranchFrame) → taken r (frame.Branch x) ≡ take_next w (frame.Branch x)
  pub last : (n : ℕ) → taken r (frame.End n) ≡ take_next w (frame.End n)

behind_header : (w : WholeTold) → IsBehind (between w) w
unfolding taken
behind_header w = record { branch = λ x. refl; last = λ n. refl }

abbrev pub begun_of : BranchTold → BegunTold
begun_of b = record { name = b.name; parent = b.parent; stop = b.stop; opening = b.opening }

behind_branch : (w : WholeTold) (b : BranchTold) → length b.closing.stocks ≡ w.header.stocks → length b.closing.agents ≡ w.header.agents
    → IsBehind (closing w (begun_of b) b.entries b.ended b.closing) (with_branch w b)
unfolding taken
behind_branch w b stocks agents =
    let closed = both_true (length b.closing.stocks == w.header.stocks) (length b.closing.agents == w.header.agents)
    (same_true (length b.closing.stocks) w.header.stocks stocks) (same_true (length b.closing.agents) w.header.agents agents) in
    record {
      branch = λ x. ap (λ t. if t then take_next (with_branch w b) (frame.Branch x) else None) closed;
      last = λ n. ap (λ t. if t then take_next (with_branch w b) (frame.End n) else None) closed;
    }

-- the frame that begins a branch
abbrev frame_of : ℕ → BranchTold → BranchFrame
frame_of n b = record { branch = n; parent = b.parent; stop = b.stop; name = b.name }

branch_taken : (r : ReadingTold) (w : WholeTold) (b : BranchTold) → IsBehind r w → length w.branches < w.header.branches
    → taken r (frame.Branch (frame_of (length w.branches) b)) ≡ Some (opening w (begun (frame_of (length w.branches) b)))
branch_taken r w b behind less =
    behind.branch (frame_of (length w.branches) b)
    ∙ ap (λ t. if t then Some (opening w (begun (frame_of (length w.branches) b))) else None)
    (both_true (nat_lt (length w.branches) w.header.branches) (length w.branches == length w.branches) (less_true (length w.branches) w.header.branches less)
    (same_true (length w.branches) (length w.branches) refl))

-- from the counters on
closing_read : (w : WholeTold) (b : BranchTold) → IsBranch w.header.stocks w.header.agents b
    → takes (ended w (begun_of b) b.entries b.ended) (closing_list b.closing) ≡ Some (closing w (begun_of b) b.entries b.ended b.closing)
closing_read w b is =
    let c = b.closing in
    let at : List ClosingStock → List ClosingOrder → List ClosingAgent → ReadingTold = λ ss os as_. closing w (begun_of b) b.entries b.ended (parts c.counts ss os as_) in
    let stocks = stocks_read w (begun_of b) b.entries b.ended c.counts [] c.stocks (zero-add (length c.stocks) ∙ is.closing.stock_count) is.closing.each_stock in
    let orders = orders_read w (begun_of b) b.entries b.ended c.counts c.stocks [] c.orders is.closing.stock_count in
    let agents = agents_read w (begun_of b) b.entries b.ended c.counts c.stocks c.orders [] c.agents is.closing.stock_count (zero-add (length c.agents) ∙ is.closing.agent_count) is.closing.each_agent in
    takes_then (ended w (begun_of b) b.entries b.ended) (at [] [] []) (at c.stocks c.orders c.agents) (frame.Counts c.counts)
    (map frame.Stock c.stocks ++ map frame.Order c.orders ++ map frame.Agent c.agents)
    (counts_taken w (begun_of b) b.entries b.ended c)
    (takes_both (at [] [] []) (at c.stocks c.orders []) (at c.stocks c.orders c.agents) (map frame.Stock c.stocks ++ map frame.Order c.orders) (map frame.Agent c.agents)
    (takes_both (at [] [] []) (at c.stocks [] []) (at c.stocks c.orders []) (map frame.Stock c.stocks) (map frame.Order c.orders) stocks orders)
    agents)

-- from the entries on
ending_read : (w : WholeTold) (b : BranchTold) → IsBranch w.header.stocks w.header.agents b
    → takes (entries w (begun_of b) [] (apart [])) (flat_map entry_list b.entries ++ (frame.Message b.ended ∷ closing_list b.closing))
    ≡ Some (closing w (begun_of b) b.entries b.ended b.closing)
ending_read w b is =
    let done : EntriesRead w (begun_of b) (entries w (begun_of b) [] (apart [])) (flat_map entry_list b.entries) b.entries =
    entries_read w (begun_of b) [] (apart []) b.entries refl (all_free b.entries is.split) is.split in
    let after : taken (entries w (begun_of b) done.now done.last) (frame.Message b.ended) ≡ Some (ended w (begun_of b) b.entries b.ended) =
    system_taken w (begun_of b) done.now done.last b.ended is.ended done.none ∙ ap (λ es. Some (ended w (begun_of b) es b.ended)) done.same in
    takes_both (entries w (begun_of b) [] (apart [])) (entries w (begun_of b) done.now done.last) (closing w (begun_of b) b.entries b.ended b.closing)
    (flat_map entry_list b.entries) (frame.Message b.ended ∷ closing_list b.closing)
    done.read
    (takes_then (entries w (begun_of b) done.now done.last) (ended w (begun_of b) b.entries b.ended) (closing w (begun_of b) b.entries b.ended b.closing)
    (frame.Message b.ended) (closing_list b.closing) after (closing_read w b is))

-- an opening has a first message
opening_of : (w : WholeTold) (beg : BegunTold) (feed : List Feed) → beg.opening ≡ [] → IsOpening w.header.stocks feed
    → takes (opening w beg) (feed_list feed) ≡ Some (entries w (record beg { opening = feed }) [] (apart []))
opening_of w beg [] none is = absurd (omega (arith, is.count))
opening_of w beg (m ∷ rest) none is =
    let zero_long : length beg.opening ≡ 0 = ap length none in
    opening_read w beg m rest (ap (λ n. n + length (m ∷ rest)) zero_long ∙ zero-add (length (m ∷ rest)) ∙ is.count) (ap (λ n. stand w.header.stocks n (m ∷ rest)) zero_long ∙ is.order)
    ∙ ap (λ l. Some (entries w (record beg { opening = l ++ m ∷ rest }) [] (apart []))) none

-- a branch behind others
branch_read : (r : ReadingTold) (w : WholeTold) (b : BranchTold) → IsBehind r w → length w.branches < w.header.branches → IsBranch w.header.stocks w.header.agents b
    → takes r (branch_list (length w.branches) b) ≡ Some (closing w (begun_of b) b.entries b.ended b.closing)
branch_read r w b behind less is =
    let first = frame_of (length w.branches) b in
    let rest = flat_map entry_list b.entries ++ (frame.Message b.ended ∷ closing_list b.closing) in
    takes_then r (opening w (begun first)) (closing w (begun_of b) b.entries b.ended b.closing) (frame.Branch first)
    (feed_list b.opening ++ flat_map entry_list b.entries ++ (frame.Message b.ended ∷ closing_list b.closing))
    (branch_taken r w b behind less)
    (ap (takes (opening w (begun first))) (append_assoc (feed_list b.opening) (flat_map entry_list b.entries) (frame.Message b.ended ∷ closing_list b.closing))
    ∙ takes_both (opening w (begun first)) (entries w (begun_of b) [] (apart [])) (closing w (begun_of b) b.entries b.ended b.closing) (feed_list b.opening) rest
    (opening_of w (begun first) b.opening refl is.opening)
    (ending_read w b is))

-- several branches
pub record BranchesRead (r : ReadingTold) (fs : List Frame) (w : WholeTold) : Type 0 where
  pub next : ReadingTold
  pub read : takes r fs ≡ Some next
  pub behind : IsBehind next w

branches_read : (r : ReadingTold) (w : WholeTold) (bs : List BranchTold) → IsBehind r w → length w.branches + length bs ≡ w.header.branches
    → All (IsBranch w.header.stocks w.header.agents) bs → BranchesRead r (branches_list (length w.branches) bs) (record w { branches = w.branches ++ bs })
branches_read r w [] behind count all =
    let P : List BranchTold → Type 0 = λ l. IsBehind r (record w { branches = l }) in
    record { next = r; read = refl; behind = subst P (sym (append-nil w.branches)) behind }
branches_read r w (b ∷ bs) behind count all =
    let Q = IsBranch w.header.stocks w.header.agents in
    let is = All-head Q b bs all in
    let now = closing w (begun_of b) b.entries b.ended b.closing in
    let first = branch_read r w b behind (omega (arith, count)) is in
    let len : length (w.branches ++ b ∷ []) ≡ length w.branches + 1 = length-append w.branches (b ∷ []) in
    let rest = branches_read now (with_branch w b) bs (behind_branch w b is.closing.stock_count is.closing.agent_count) (omega (arith, len, count)) (All-tail Q b bs all) in
    let P : List BranchTold → Type 0 = λ l. IsBehind rest.next (record w { branches = l }) in
    record {
      next = rest.next;
      read = takes_both r now rest.next (branch_list (length w.branches) b) (branches_list (length w.branches + 1) bs) first
          (ap (λ n. takes now (branches_list n bs)) (sym len) ∙ rest.read);
      behind = subst P (append_assoc w.branches (b ∷ []) bs) rest.behind;
    }

-- the header, the branches and the end
pub bundle_read : (b : BundleTold) → All (IsBranch b.stocks b.agents) b.branches → takes start (bundle_list b) ≡ Some (end b)
bundle_read b all =
    let header : HeaderFrame = record { agents = b.agents; stocks = b.stocks; branches = length b.branches } in
    let w : WholeTold = record { header = header; branches = [] } in
    let whole : WholeTold = record { header = header; branches = b.branches } in
    let done = branches_read (between w) w b.branches (behind_header w) (zero-add (length b.branches)) all in
    let last : taken done.next (frame.End (length b.branches)) ≡ Some (end b) =
    done.behind.last (length b.branches)
    ∙ ap (λ t. if t then Some (end (bundle_of whole)) else None)
    (both_true (length b.branches == length b.branches) (length b.branches == length b.branches) (same_true (length b.branches) (length b.branches) refl)
    (same_true (length b.branches) (length b.branches) refl)) in
    takes_then start (between w) (end b) (frame.Header header) (branches_list 0 b.branches ++ frame.End (length b.branches) ∷ []) (header_taken header)
    (takes_both (between w) done.next (end b) (branches_list 0 b.branches) (frame.End (length b.branches) ∷ []) done.read
    (takes_then done.next (end b) (end b) (frame.End (length b.branches)) [] last refl))
