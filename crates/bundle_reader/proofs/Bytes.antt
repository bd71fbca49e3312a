-- The bytes of a bundle's frames are the bytes of the bundle.
use Rattle.std.proofs.Common.{◌≡◌, ◌∙◌, ℕ, ◌+◌, List, [], ◌∷◌, ◌++◌, length, map, refl, sym, ap, append_assoc}
use Rattle.std.specs.List.{flat_map}
use Rattle.std.proofs.lemmas.List.{append-nil}
use Rattle.std.proofs.lemmas.Grind.{flat_map-append}
use Rattle.market_types.specs.declared.feed.Feed.{Feed}
use Rattle.market_types.specs.Told.{EntryTold, EventTold, EditTold, event, edit}
use Rattle.itch_codec.specs.Frames.{framed}
use Rattle.bundle_frames.specs.Frames.{header_frame, branch_frame, message_frame, event_frame, edit_frame, counts_frame, stock_frame, order_frame, agent_frame, end_frame, feed_frames, entry_frames, closing_frames}
use Rattle.bundle_frames.specs.declared.closing.Closing.{Closing}
use Rattle.bundle_frames.specs.declared.closing.ClosingStock.{ClosingStock}
use Rattle.bundle_frames.specs.declared.closing.ClosingOrder.{ClosingOrder}
use Rattle.bundle_frames.specs.declared.closing.ClosingAgent.{ClosingAgent}
use Rattle.bundle_reader.specs.declared.frame.Frame.{Frame}
use Rattle.bundle_reader.specs.declared.frame.Frame.TheVariants as frame
use Rattle.bundle_reader.specs.Frames.{payload}
use Rattle.bundle_reader.specs.Told.{BranchTold, BundleTold}
use Rattle.bundle_reader.specs.Bundle.{event_part, edit_part, feed_list, entry_list, closing_list, branch_list, branches_list, bundle_list, branch_bytes, branches_bytes, bundle_bytes}

-- a frame with its length, and several
abbrev pub frame_bytes : Frame → List ℕ
frame_bytes f = framed (payload f)

abbrev pub all_bytes : List Frame → List ℕ
all_bytes = flat_map frame_bytes

both : (fs gs : List Frame) → all_bytes (fs ++ gs) ≡ all_bytes fs ++ all_bytes gs
both fs gs = flat_map-append frame_bytes fs gs

same_both : (a b c d : List ℕ) → a ≡ b → c ≡ d → a ++ c ≡ b ++ d
same_both a b c d e g = ap (λ (l : List ℕ). l ++ c) e ∙ ap (λ (l : List ℕ). b ++ l) g

-- what is written of each item of a list
mapped : {X : Type 0} (f : X → Frame) (g : X → List ℕ) → ((x : X) → frame_bytes (f x) ≡ g x) → (xs : List X) → all_bytes (map f xs) ≡ flat_map g xs
mapped f g is [] = refl
mapped f g is (x ∷ xs) = same_both (frame_bytes (f x)) (g x) (all_bytes (map f xs)) (flat_map g xs) (is x) (mapped f g is xs)

message_is : (m : Feed) → frame_bytes (frame.Message m) ≡ message_frame m
unfolding message_frame
message_is m = refl

event_is : (e : EventTold) → frame_bytes (frame.Event (event_part e)) ≡ event_frame e
unfolding event_frame
event_is e = refl

edit_is : (d : EditTold) → frame_bytes (frame.Edit (edit_part d)) ≡ edit_frame d
unfolding edit_frame
edit_is d = refl

counts_is : (c : Closing) → frame_bytes (frame.Counts c.counts) ≡ counts_frame c.counts
unfolding counts_frame
counts_is c = refl

stock_is : (s : ClosingStock) → frame_bytes (frame.Stock s) ≡ stock_frame s
unfolding stock_frame
stock_is s = refl

order_is : (o : ClosingOrder) → frame_bytes (frame.Order o) ≡ order_frame o
unfolding order_frame
order_is o = refl

agent_is : (a : ClosingAgent) → frame_bytes (frame.Agent a) ≡ agent_frame a
unfolding agent_frame
agent_is a = refl

branch_is : (n : ℕ) (b : BranchTold) → frame_bytes (frame.Branch (record { branch = n; parent = b.parent; stop = b.stop; name = b.name })) ≡ branch_frame n b.parent b.stop b.name
unfolding branch_frame
branch_is n b = refl

header_is : (b : BundleTold) → frame_bytes (frame.Header (record { agents = b.agents; stocks = b.stocks; branches = length b.branches })) ≡ header_frame b.agents b.stocks (length b.branches)
unfolding header_frame
header_is b = refl

end_is : (n : ℕ) → frame_bytes (frame.End n) ≡ end_frame n
unfolding end_frame
end_is n = refl

feed_is : (feed : List Feed) → all_bytes (feed_list feed) ≡ feed_frames feed
feed_is feed = mapped frame.Message message_frame message_is feed

entry_is : (x : EntryTold) → all_bytes (entry_list x) ≡ entry_frames x
entry_is (event e) =
    both (feed_list e.before) (frame.Event (event_part e) ∷ feed_list e.after)
    ∙ same_both (all_bytes (feed_list e.before)) (feed_frames e.before) (frame_bytes (frame.Event (event_part e)) ++ all_bytes (feed_list e.after)) (event_frame e ++ feed_frames e.after)
    (feed_is e.before)
    (same_both (frame_bytes (frame.Event (event_part e))) (event_frame e) (all_bytes (feed_list e.after)) (feed_frames e.after) (event_is e) (feed_is e.after))
    ∙ sym (append_assoc (feed_frames e.before) (event_frame e) (feed_frames e.after))
entry_is (edit d) =
    same_both (frame_bytes (frame.Edit (edit_part d))) (edit_frame d) (all_bytes (feed_list d.feed)) (feed_frames d.feed) (edit_is d) (feed_is d.feed)

entries_are : (xs : List EntryTold) → all_bytes (flat_map entry_list xs) ≡ flat_map entry_frames xs
entries_are [] = refl
entries_are (x ∷ xs) =
    both (entry_list x) (flat_map entry_list xs)
    ∙ same_both (all_bytes (entry_list x)) (entry_frames x) (all_bytes (flat_map entry_list xs)) (flat_map entry_frames xs) (entry_is x) (entries_are xs)

closing_is : (c : Closing) → all_bytes (closing_list c) ≡ closing_frames c
closing_is c =
    let ss = map frame.Stock c.stocks in
    let os = map frame.Order c.orders in
    let xs = map frame.Agent c.agents in
    let stocks = mapped frame.Stock stock_frame stock_is c.stocks in
    let orders = mapped frame.Order order_frame order_is c.orders in
    let agents = mapped frame.Agent agent_frame agent_is c.agents in
    let first = both (ss ++ os) xs ∙ ap (λ (l : List ℕ). l ++ all_bytes xs) (both ss os) in
    let parts =
    same_both (all_bytes ss ++ all_bytes os) (flat_map stock_frame c.stocks ++ flat_map order_frame c.orders) (all_bytes xs) (flat_map agent_frame c.agents)
    (same_both (all_bytes ss) (flat_map stock_frame c.stocks) (all_bytes os) (flat_map order_frame c.orders) stocks orders) agents in
    same_both (frame_bytes (frame.Counts c.counts)) (counts_frame c.counts) (all_bytes (ss ++ os ++ xs)) (flat_map stock_frame c.stocks ++ flat_map order_frame c.orders ++ flat_map agent_frame c.agents)
    (counts_is c) (first ∙ parts)
    ∙ sym (append_assoc (counts_frame c.counts) (flat_map stock_frame c.stocks ++ flat_map order_frame c.orders) (flat_map agent_frame c.agents))
    ∙ ap (λ (l : List ℕ). l ++ flat_map agent_frame c.agents) (sym (append_assoc (counts_frame c.counts) (flat_map stock_frame c.stocks) (flat_map order_frame c.orders)))

branch_are : (n : ℕ) (b : BranchTold) → all_bytes (branch_list n b) ≡ branch_bytes n b
branch_are n b =
    let first = branch_frame n b.parent b.stop b.name in
    let feed = feed_frames b.opening in
    let es = flat_map entry_frames b.entries in
    let tail = message_frame b.ended ++ closing_frames b.closing in
    let last = same_both (frame_bytes (frame.Message b.ended)) (message_frame b.ended) (all_bytes (closing_list b.closing)) (closing_frames b.closing) (message_is b.ended) (closing_is b.closing) in
    let middle =
    both (feed_list b.opening ++ flat_map entry_list b.entries) (frame.Message b.ended ∷ closing_list b.closing)
    ∙ same_both (all_bytes (feed_list b.opening ++ flat_map entry_list b.entries)) (feed ++ es) (frame_bytes (frame.Message b.ended) ++ all_bytes (closing_list b.closing)) tail
    (both (feed_list b.opening) (flat_map entry_list b.entries)
    ∙ same_both (all_bytes (feed_list b.opening)) feed (all_bytes (flat_map entry_list b.entries)) es (feed_is b.opening) (entries_are b.entries))
    last in
    same_both (frame_bytes (frame.Branch (record { branch = n; parent = b.parent; stop = b.stop; name = b.name }))) first
    (all_bytes (feed_list b.opening ++ flat_map entry_list b.entries ++ (frame.Message b.ended ∷ closing_list b.closing))) (feed ++ es ++ tail) (branch_is n b) middle
    ∙ sym (append_assoc first (feed ++ es) tail)
    ∙ ap (λ (l : List ℕ). l ++ tail) (sym (append_assoc first feed es))
    ∙ sym (append_assoc (first ++ feed ++ es) (message_frame b.ended) (closing_frames b.closing))

branches_are : (n : ℕ) (bs : List BranchTold) → all_bytes (branches_list n bs) ≡ branches_bytes n bs
branches_are n [] = refl
branches_are n (b ∷ bs) =
    both (branch_list n b) (branches_list (n + 1) bs)
    ∙ same_both (all_bytes (branch_list n b)) (branch_bytes n b) (all_bytes (branches_list (n + 1) bs)) (branches_bytes (n + 1) bs) (branch_are n b) (branches_are (n + 1) bs)

pub bundle_are : (b : BundleTold) → all_bytes (bundle_list b) ≡ bundle_bytes b
unfolding bundle_bytes
bundle_are b =
    let first = header_frame b.agents b.stocks (length b.branches) in
    let last = end_frame (length b.branches) in
    let end = append-nil (frame_bytes (frame.End (length b.branches))) ∙ end_is (length b.branches) in
    same_both (frame_bytes (frame.Header (record { agents = b.agents; stocks = b.stocks; branches = length b.branches }))) first
    (all_bytes (branches_list 0 b.branches ++ frame.End (length b.branches) ∷ [])) (branches_bytes 0 b.branches ++ last) (header_is b)
    (both (branches_list 0 b.branches) (frame.End (length b.branches) ∷ [])
    ∙ same_both (all_bytes (branches_list 0 b.branches)) (branches_bytes 0 b.branches) (frame_bytes (frame.End (length b.branches)) ++ []) last (branches_are 0 b.branches) end)
    ∙ sym (append_assoc first (branches_bytes 0 b.branches) last)
