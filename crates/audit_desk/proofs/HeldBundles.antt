-- A bundle, clipped: its frames are the clipped frames, so its bytes are the same.
use Rattle.std.proofs.Common.{◌≡◌, ◌∙◌, ℕ, ◌+◌, List, [], ◌∷◌, ◌++◌, length, map, refl, sym, ap}
use Rattle.std.specs.List.{flat_map}
use Rattle.std.proofs.lemmas.List.{length-map, map-append}
use Rattle.market_types.specs.declared.feed.Feed.{Feed}
use Rattle.market_types.specs.Told.{EntryTold, event, edit}
use Rattle.itch_codec.specs.Frames.{framed}
use Rattle.bundle_frames.specs.declared.closing.Closing.{Closing}
use Rattle.bundle_reader.specs.declared.frame.Frame.{Frame}
use Rattle.bundle_reader.specs.declared.frame.Frame.TheVariants as frame
use Rattle.bundle_reader.specs.Told.{BranchTold, BundleTold}
use Rattle.bundle_reader.specs.Bundle.{branch_list, branches_list, bundle_bytes, bundle_list, closing_list, edit_part, entry_list, event_part, feed_list}
use Rattle.bundle_reader.proofs.Bytes.{all_bytes, bundle_are, frame_bytes}
use Rattle.audit_desk.specs.Clipped.{clipped, clipped_agent, clipped_branch, clipped_closing, clipped_counts, clipped_entry, clipped_feed, clipped_order, clipped_stock}
use Rattle.audit_desk.proofs.HeldFrames.{clipped_frame, payload-same}

both : (a b c d : List Frame) → a ≡ b → c ≡ d → a ++ c ≡ b ++ d
both a b c d e g = ap (λ (l : List Frame). l ++ c) e ∙ ap (λ (l : List Frame). b ++ l) g

moved : {X : Type 0} (f : X → Frame) (g : X → X) → ((x : X) → f (g x) ≡ clipped_frame (f x)) → (xs : List X) → map f (map g xs) ≡ map clipped_frame (map f xs)
moved f g same [] = refl
moved f g same (x ∷ xs) = ap (λ (h : Frame). h ∷ map f (map g xs)) (same x) ∙ ap (λ (l : List Frame). clipped_frame (f x) ∷ l) (moved f g same xs)

feed-moved : (xs : List Feed) → feed_list (map clipped_feed xs) ≡ map clipped_frame (feed_list xs)
feed-moved xs = moved frame.Message clipped_feed (λ m. refl) xs

entry-moved : (x : EntryTold) → entry_list (clipped_entry x) ≡ map clipped_frame (entry_list x)
entry-moved (event e) =
    let here = clipped_frame (frame.Event (event_part e)) in
    both (feed_list (map clipped_feed e.before)) (map clipped_frame (feed_list e.before)) (here ∷ feed_list (map clipped_feed e.after)) (here ∷ map clipped_frame (feed_list e.after))
    (feed-moved e.before) (ap (λ (l : List Frame). here ∷ l) (feed-moved e.after))
    ∙ sym (map-append clipped_frame (feed_list e.before) (frame.Event (event_part e) ∷ feed_list e.after))
entry-moved (edit d) = ap (λ (l : List Frame). clipped_frame (frame.Edit (edit_part d)) ∷ l) (feed-moved d.feed)

entries-moved : (xs : List EntryTold) → flat_map entry_list (map clipped_entry xs) ≡ map clipped_frame (flat_map entry_list xs)
entries-moved [] = refl
entries-moved (x ∷ xs) =
    both (entry_list (clipped_entry x)) (map clipped_frame (entry_list x)) (flat_map entry_list (map clipped_entry xs)) (map clipped_frame (flat_map entry_list xs))
    (entry-moved x) (entries-moved xs)
    ∙ sym (map-append clipped_frame (entry_list x) (flat_map entry_list xs))

pub closing-moved : (c : Closing) → closing_list (clipped_closing c) ≡ map clipped_frame (closing_list c)
closing-moved c =
    let ss = map frame.Stock c.stocks in
    let os = map frame.Order c.orders in
    let xs = map frame.Agent c.agents in
    let stocks = moved frame.Stock clipped_stock (λ s. refl) c.stocks in
    let orders = moved frame.Order clipped_order (λ o. refl) c.orders in
    let agents = moved frame.Agent clipped_agent (λ a. refl) c.agents in
    let first = both (map frame.Stock (map clipped_stock c.stocks)) (map clipped_frame ss) (map frame.Order (map clipped_order c.orders)) (map clipped_frame os) stocks orders
    ∙ sym (map-append clipped_frame ss os) in
    let all = both (map frame.Stock (map clipped_stock c.stocks) ++ map frame.Order (map clipped_order c.orders)) (map clipped_frame (ss ++ os)) (map frame.Agent (map clipped_agent c.agents)) (map clipped_frame xs) first agents
    ∙ sym (map-append clipped_frame (ss ++ os) xs) in
    ap (λ (l : List Frame). frame.Counts (clipped_counts c.counts) ∷ l) all

branch-moved : (n : ℕ) (b : BranchTold) → branch_list n (clipped_branch b) ≡ map clipped_frame (branch_list n b)
branch-moved n b =
    let here = frame.Branch (record { branch = n; parent = b.parent; stop = b.stop; name = b.name }) in
    let opening = feed_list b.opening in
    let entries = flat_map entry_list b.entries in
    let last = frame.Message b.ended in
    let closing = closing_list b.closing in
    let first = both (feed_list (map clipped_feed b.opening)) (map clipped_frame opening) (flat_map entry_list (map clipped_entry b.entries)) (map clipped_frame entries) (feed-moved b.opening) (entries-moved b.entries)
    ∙ sym (map-append clipped_frame opening entries) in
    let rest = ap (λ (l : List Frame). clipped_frame last ∷ l) (closing-moved b.closing) in
    let all = both (feed_list (map clipped_feed b.opening) ++ flat_map entry_list (map clipped_entry b.entries)) (map clipped_frame (opening ++ entries)) (clipped_frame last ∷ closing_list (clipped_closing b.closing)) (clipped_frame last ∷ map clipped_frame closing) first rest
    ∙ sym (map-append clipped_frame (opening ++ entries) (last ∷ closing)) in
    ap (λ (l : List Frame). clipped_frame here ∷ l) all

branches-moved : (n : ℕ) (bs : List BranchTold) → branches_list n (map clipped_branch bs) ≡ map clipped_frame (branches_list n bs)
branches-moved n [] = refl
branches-moved n (b ∷ bs) =
    both (branch_list n (clipped_branch b)) (map clipped_frame (branch_list n b)) (branches_list (n + 1) (map clipped_branch bs)) (map clipped_frame (branches_list (n + 1) bs))
    (branch-moved n b) (branches-moved (n + 1) bs)
    ∙ sym (map-append clipped_frame (branch_list n b) (branches_list (n + 1) bs))

-- the frames of what is clipped
pub bundle-moved : (b : BundleTold) → bundle_list (clipped b) ≡ map clipped_frame (bundle_list b)
bundle-moved b =
    let n = length b.branches in
    let count : length (map clipped_branch b.branches) ≡ n = length-map b.branches clipped_branch in
    let first : ℕ → Frame = λ k. frame.Header (record { agents = (clipped b).agents; stocks = (clipped b).stocks; branches = k }) in
    let middle = branches_list 0 (map clipped_branch b.branches) in
    ap (λ (k : ℕ). first k ∷ (middle ++ frame.End k ∷ [])) count
    ∙ ap (λ (l : List Frame). first n ∷ l)
    (ap (λ (l : List Frame). l ++ frame.End n ∷ []) (branches-moved 0 b.branches)
    ∙ sym (map-append clipped_frame (branches_list 0 b.branches) (frame.End n ∷ [])))

frames-same : (fs : List Frame) → all_bytes (map clipped_frame fs) ≡ all_bytes fs
frames-same [] = refl
frames-same (f ∷ fs) =
    ap (λ (l : List ℕ). framed l ++ all_bytes (map clipped_frame fs)) (payload-same f)
    ∙ ap (λ (l : List ℕ). frame_bytes f ++ l) (frames-same fs)

-- its bytes
pub bytes-same : (b : BundleTold) → bundle_bytes (clipped b) ≡ bundle_bytes b
bytes-same b =
    sym (bundle_are (clipped b)) ∙ ap all_bytes (bundle-moved b) ∙ frames-same (bundle_list b) ∙ bundle_are b
