-- Entries as they are read are split as reading splits them, and stand in the same frames.
use Rattle.std.proofs.Common.{◌≡◌, ◌∙◌, Bool, true, false, ◌&&◌, ◌||◌, List, [], ◌∷◌, ◌++◌, refl, ap, sym, append_assoc, ℕ, All}
use Rattle.std.specs.Prelude.{◌==◌, not, if◌then◌else◌}
use Rattle.std.specs.List.{flat_map, list_all}
use Rattle.std.proofs.lemmas.Bool.{and_parts}
use Rattle.std.proofs.lemmas.List.Elements.{All-head, All-tail}
use Rattle.market_types.specs.declared.feed.Feed.{Feed}
use Rattle.market_types.specs.Told.{EntryTold, EventTold, EditTold, event, edit}
use Rattle.bundle_frames.specs.Frames.{edit_frame, entry_frames, event_frame, feed_frames, message_frame}
use Rattle.bundle_reader.specs.declared.frame.Frame.{Frame}
use Rattle.bundle_reader.specs.declared.frame.Frame.TheVariants as frame
use Rattle.bundle_reader.specs.Order.{belongs, is_none, is_trading}
use Rattle.bundle_reader.specs.Bundle.{HasFeed, IsApart, IsSplit, is_left, is_own, edit_part, entry_list, event_part, feed_list}
use Rattle.audit_desk.specs.AsRead.{with_first, without_first, as_read}

abbrev trades : Feed → Bool
trades m = is_trading m.what

abbrev is_halting : EditTold → Bool
is_halting d = (d.letter == 104) || (d.letter == 114)

-- what belongs to an edit belongs to one without a feed
bare-belongs : (d : EditTold) (m : Feed) → belongs d m ≡ true → belongs (record d { feed = [] }) m ≡ true
bare-belongs d m h =
    let parts = and_parts (is_halting d) (is_none d.feed && (m.time == d.time)) h in
    let rest = and_parts (is_none d.feed) (m.time == d.time) parts.1 in
    ap (λ t. t && (m.time == d.time)) parts.0 ∙ rest.1

none-is : (xs : List Feed) → is_none xs ≡ true → xs ≡ []
none-is [] h = refl
none-is (x ∷ xs) h = absurd cc

no-feed : (d : EditTold) (m : Feed) → belongs d m ≡ true → d.feed ≡ []
no-feed d m h =
    let parts = and_parts (is_halting d) (is_none d.feed && (m.time == d.time)) h in
    none-is d.feed (and_parts (is_none d.feed) (m.time == d.time) parts.1).0

never : (b : Bool) → not (b && false) ≡ true
never true = refl
never false = refl

-- nothing more belongs to an edit with a feed
full-left : (d : EditTold) (m : Feed) (rest : List Feed) → is_left (record d { feed = m ∷ [] }) rest ≡ true
full-left d m [] = refl
full-left d m (n ∷ rest) = never (is_halting d)

-- an edit and an event that follows it, with these messages before it, as they are read
pub record IsPaired (d : EditTold) (feed : List Feed) (own : EditTold) (rest : List Feed) : Type 0 where
  pub is_own : is_own own own.feed ≡ true
  pub left : is_left own rest ≡ true
  pub trading : list_all trades rest ≡ true

paired-by : (t : Bool) (d : EditTold) (m : Feed) (rest : List Feed) → belongs d m ≡ t → is_own d d.feed ≡ true → list_all trades (m ∷ rest) ≡ true
    → IsPaired d (m ∷ rest) (if t then record d { feed = m ∷ [] } else d) (if t then rest else m ∷ rest)
paired-by true d m rest e h all =
    let parts = and_parts (trades m) (list_all trades rest) all in
    record {
      is_own = ap (λ t. t && belongs (record d { feed = [] }) m) parts.0 ∙ bare-belongs d m e;
      left = full-left d m rest;
      trading = parts.1;
    }
paired-by false d m rest e h all = record { is_own = h; left = ap (λ t. not t) e; trading = all }

paired : (d : EditTold) (feed : List Feed) → is_own d d.feed ≡ true → list_all trades feed ≡ true → IsPaired d feed (with_first d feed) (without_first d feed)
paired d [] h all = record { is_own = h; left = refl; trading = all }
paired d (m ∷ rest) h all = paired-by (belongs d m) d m rest refl h all

-- behind an edit that an edit follows, no event follows
apart-edit : (d next : EditTold) (rest : List EntryTold) → IsApart (edit d) (as_read (edit next ∷ rest))
apart-edit d next [] = tt
apart-edit d next (event e ∷ rest) = tt
apart-edit d next (edit f ∷ rest) = tt

pub split-read : (xs : List EntryTold) → All HasFeed xs → IsSplit (as_read xs)
split-read [] h = tt
split-read (event e ∷ rest) h = (All-head HasFeed (event e) rest h, tt, split-read rest (All-tail HasFeed (event e) rest h))
split-read (edit d ∷ []) h = (All-head HasFeed (edit d) [] h, tt, tt)
split-read (edit d ∷ edit next ∷ rest) h =
    (All-head HasFeed (edit d) (edit next ∷ rest) h, apart-edit d next rest, split-read (edit next ∷ rest) (All-tail HasFeed (edit d) (edit next ∷ rest) h))
split-read (edit d ∷ event e ∷ rest) h =
    let tail = All-tail HasFeed (edit d) (event e ∷ rest) h in
    let own = All-head HasFeed (edit d) (event e ∷ rest) h in
    let feed = All-head HasFeed (event e) rest tail in
    let pair = paired d e.before own feed.0 in
    (pair.is_own, pair.left, ((pair.trading, feed.1), tt, split-read rest (All-tail HasFeed (event e) rest tail)))

-- ---- the same frames

moved-by : (t : Bool) (d : EditTold) (m : Feed) (rest : List Feed) (after : List Frame) → belongs d m ≡ t
    → entry_list (edit (if t then record d { feed = m ∷ [] } else d)) ++ (feed_list (if t then rest else m ∷ rest) ++ after) ≡ entry_list (edit d) ++ (feed_list (m ∷ rest) ++ after)
moved-by true d m rest after e = ap (λ feed. frame.Edit (edit_part d) ∷ (feed_list feed ++ (frame.Message m ∷ (feed_list rest ++ after)))) (sym (no-feed d m e))
moved-by false d m rest after e = refl

moved : (d : EditTold) (feed : List Feed) (after : List Frame) → entry_list (edit (with_first d feed)) ++ (feed_list (without_first d feed) ++ after) ≡ entry_list (edit d) ++ (feed_list feed ++ after)
moved d [] after = refl
moved d (m ∷ rest) after = moved-by (belongs d m) d m rest after refl

pub same-frames : (xs : List EntryTold) → flat_map entry_list (as_read xs) ≡ flat_map entry_list xs
same-frames [] = refl
same-frames (event e ∷ rest) = ap (λ fs. entry_list (event e) ++ fs) (same-frames rest)
same-frames (edit d ∷ []) = refl
same-frames (edit d ∷ edit next ∷ rest) = ap (λ fs. entry_list (edit d) ++ fs) (same-frames (edit next ∷ rest))
same-frames (edit d ∷ event e ∷ rest) =
    let here : List Frame = frame.Event (event_part e) ∷ feed_list e.after in
    let later = flat_map entry_list (as_read rest) in
    ap (λ fs. entry_list (edit (with_first d e.before)) ++ fs) (append_assoc (feed_list (without_first d e.before)) here later)
    ∙ moved d e.before (here ++ later)
    ∙ ap (λ fs. entry_list (edit d) ++ fs) (sym (append_assoc (feed_list e.before) here later))
    ∙ ap (λ fs. entry_list (edit d) ++ (entry_list (event e) ++ fs)) (same-frames rest)

-- ---- the same bytes

edit-bare : (d : EditTold) (feed : List Feed) → edit_frame (record d { feed = feed }) ≡ edit_frame d
unfolding edit_frame
edit-bare d feed = refl

event-bare : (e : EventTold) (before : List Feed) → event_frame (record e { before = before }) ≡ event_frame e
unfolding event_frame
event-bare e before = refl

bytes-by : (t : Bool) (d : EditTold) (m : Feed) (rest : List Feed) (after : List ℕ) → belongs d m ≡ t
    → entry_frames (edit (if t then record d { feed = m ∷ [] } else d)) ++ (feed_frames (if t then rest else m ∷ rest) ++ after) ≡ entry_frames (edit d) ++ (feed_frames (m ∷ rest) ++ after)
bytes-by true d m rest after e =
    let first = edit_frame d in
    let message = message_frame m in
    let more = feed_frames rest in
    ap (λ bs. (bs ++ (message ++ [])) ++ (more ++ after)) (edit-bare d (m ∷ []))
    ∙ append_assoc first (message ++ []) (more ++ after)
    ∙ ap (λ bs. first ++ bs) (append_assoc message [] (more ++ after))
    ∙ ap (λ bs. first ++ bs) (sym (append_assoc message more after))
    ∙ sym (append_assoc first [] ((message ++ more) ++ after))
    ∙ ap (λ feed. (first ++ feed_frames feed) ++ ((message ++ more) ++ after)) (sym (no-feed d m e))
bytes-by false d m rest after e = refl

bytes-moved : (d : EditTold) (feed : List Feed) (after : List ℕ) → entry_frames (edit (with_first d feed)) ++ (feed_frames (without_first d feed) ++ after) ≡ entry_frames (edit d) ++ (feed_frames feed ++ after)
bytes-moved d [] after = refl
bytes-moved d (m ∷ rest) after = bytes-by (belongs d m) d m rest after refl

three : (a b c d : List ℕ) → ((a ++ b) ++ c) ++ d ≡ a ++ (b ++ (c ++ d))
three a b c d = append_assoc (a ++ b) c d ∙ append_assoc a b (c ++ d)

pub same-bytes : (xs : List EntryTold) → flat_map entry_frames (as_read xs) ≡ flat_map entry_frames xs
same-bytes [] = refl
same-bytes (event e ∷ rest) = ap (λ bs. entry_frames (event e) ++ bs) (same-bytes rest)
same-bytes (edit d ∷ []) = refl
same-bytes (edit d ∷ edit next ∷ rest) = ap (λ bs. entry_frames (edit d) ++ bs) (same-bytes (edit next ∷ rest))
same-bytes (edit d ∷ event e ∷ rest) =
    let own = entry_frames (edit (with_first d e.before)) in
    let before = feed_frames (without_first d e.before) in
    let here = event_frame e in
    let after = feed_frames e.after in
    let later = flat_map entry_frames (as_read rest) in
    ap (λ bs. own ++ (((before ++ bs) ++ after) ++ later)) (event-bare e (without_first d e.before))
    ∙ ap (λ bs. own ++ bs) (three before here after later)
    ∙ bytes-moved d e.before (here ++ (after ++ later))
    ∙ ap (λ bs. entry_frames (edit d) ++ bs) (sym (three (feed_frames e.before) here after later))
    ∙ ap (λ bs. entry_frames (edit d) ++ (entry_frames (event e) ++ bs)) (same-bytes rest)
