-- Entries grow at their end, and their feed stays split as it is read.
use Rattle.std.proofs.Common.{◌≡◌, ◌∙◌, Bool, true, false, ◌&&◌, List, [], ◌∷◌, ◌++◌, refl, sym, ap}
use Rattle.std.specs.List.{list_all}
use Rattle.market_types.specs.declared.feed.Feed.{Feed}
use Rattle.market_types.specs.Told.{EntryTold, EventTold, EditTold, event, edit}
use Rattle.bundle_reader.specs.Bundle.{is_left, HasFeed, IsSplit}

-- These messages may stand behind entries and before an event that follows them.
abbrev pub IsFreeAfter : EntryTold → List Feed → Type 0
IsFreeAfter (event e) feed = Unit {0}
IsFreeAfter (edit d) feed = is_left d feed ≡ true

abbrev pub IsFreeBehind : List EntryTold → List Feed → Type 0
IsFreeBehind [] feed = Unit {0}
IsFreeBehind (x ∷ []) feed = IsFreeAfter x feed
IsFreeBehind (x ∷ y ∷ rest) feed = IsFreeBehind (y ∷ rest) feed

-- an event behind entries
pub with_event : (es : List EntryTold) (e : EventTold) → IsSplit es → HasFeed (event e) → IsFreeBehind es e.before → IsSplit (es ++ event e ∷ [])
with_event [] e split feed free = (feed, tt, tt)
with_event (event x ∷ []) e split feed free = (split.0, tt, (feed, tt, tt))
with_event (edit d ∷ []) e split feed free = (split.0, free, (feed, tt, tt))
with_event (event x ∷ y ∷ rest) e split feed free = (split.0, tt, with_event (y ∷ rest) e split.2 feed free)
with_event (edit d ∷ event y ∷ rest) e split feed free = (split.0, split.1, with_event (event y ∷ rest) e split.2 feed free)
with_event (edit d ∷ edit y ∷ rest) e split feed free = (split.0, tt, with_event (edit y ∷ rest) e split.2 feed free)

-- an edit behind entries
pub with_edit : (es : List EntryTold) (d : EditTold) → IsSplit es → HasFeed (edit d) → IsSplit (es ++ edit d ∷ [])
with_edit [] d split feed = (feed, tt, tt)
with_edit (event x ∷ []) d split feed = (split.0, tt, (feed, tt, tt))
with_edit (edit x ∷ []) d split feed = (split.0, tt, (feed, tt, tt))
with_edit (event x ∷ y ∷ rest) d split feed = (split.0, tt, with_edit (y ∷ rest) d split.2 feed)
with_edit (edit x ∷ event y ∷ rest) d split feed = (split.0, split.1, with_edit (event y ∷ rest) d split.2 feed)
with_edit (edit x ∷ edit y ∷ rest) d split feed = (split.0, tt, with_edit (edit y ∷ rest) d split.2 feed)

-- another event in the place of the last, with the same messages before it
pub other_event : (es : List EntryTold) (e f : EventTold) → e.before ≡ f.before → HasFeed (event f) → IsSplit (es ++ event e ∷ []) → IsSplit (es ++ event f ∷ [])
other_event [] e f same feed split = (feed, tt, tt)
other_event (event x ∷ rest) e f same feed split = (split.0, tt, other_event rest e f same feed split.2)
other_event (edit d ∷ []) e f same feed split = (split.0, ap (is_left d) (sym same) ∙ split.1, (feed, tt, tt))
other_event (edit d ∷ event y ∷ rest) e f same feed split = (split.0, split.1, other_event (event y ∷ rest) e f same feed split.2)
other_event (edit d ∷ edit y ∷ rest) e f same feed split = (split.0, tt, other_event (edit y ∷ rest) e f same feed split.2)

-- another edit in the place of the last
pub other_edit : (es : List EntryTold) (d f : EditTold) → HasFeed (edit f) → IsSplit (es ++ edit d ∷ []) → IsSplit (es ++ edit f ∷ [])
other_edit [] d f feed split = (feed, tt, tt)
other_edit (event x ∷ rest) d f feed split = (split.0, tt, other_edit rest d f feed split.2)
other_edit (edit x ∷ []) d f feed split = (split.0, tt, (feed, tt, tt))
other_edit (edit x ∷ event y ∷ rest) d f feed split = (split.0, split.1, other_edit (event y ∷ rest) d f feed split.2)
other_edit (edit x ∷ edit y ∷ rest) d f feed split = (split.0, tt, other_edit (edit y ∷ rest) d f feed split.2)

-- the feed of the last event
pub last_feed : (es : List EntryTold) (e : EventTold) → IsSplit (es ++ event e ∷ []) → HasFeed (event e)
last_feed [] e split = split.0
last_feed (x ∷ rest) e split = last_feed rest e split.2

-- behind an event each message is free, behind an edit those that are not its own
pub free_behind_event : (es : List EntryTold) (e : EventTold) (feed : List Feed) → IsFreeBehind (es ++ event e ∷ []) feed
free_behind_event [] e feed = tt
free_behind_event (x ∷ []) e feed = tt
free_behind_event (x ∷ y ∷ rest) e feed = free_behind_event (y ∷ rest) e feed

pub free_behind_edit : (es : List EntryTold) (d : EditTold) (feed : List Feed) → is_left d feed ≡ true → IsFreeBehind (es ++ edit d ∷ []) feed
free_behind_edit [] d feed is = is
free_behind_edit (x ∷ []) d feed is = is
free_behind_edit (x ∷ y ∷ rest) d feed is = free_behind_edit (y ∷ rest) d feed is

-- more messages behind a first one
pub free_more : (es : List EntryTold) (m : Feed) (feed more : List Feed) → IsFreeBehind es (m ∷ feed) → IsFreeBehind es (m ∷ more)
free_more [] m feed more is = tt
free_more (event e ∷ []) m feed more is = tt
free_more (edit d ∷ []) m feed more is = is
free_more (event e ∷ y ∷ rest) m feed more is = free_more (y ∷ rest) m feed more is
free_more (edit d ∷ y ∷ rest) m feed more is = free_more (y ∷ rest) m feed more is

-- no message is free
pub free_none : (es : List EntryTold) → IsFreeBehind es []
free_none [] = tt
free_none (event e ∷ []) = tt
free_none (edit d ∷ []) = refl
free_none (event e ∷ y ∷ rest) = free_none (y ∷ rest)
free_none (edit d ∷ y ∷ rest) = free_none (y ∷ rest)

first : (a b : Bool) → (a && b) ≡ true → a ≡ true
first true b h = refl
first false b h = h

second : (a b : Bool) → (a && b) ≡ true → b ≡ true
second true b h = h
second false b h = absurd cc

-- every message of a list passes a test, and one more
pub all_more : (test : Feed → Bool) (feed : List Feed) (m : Feed) → list_all test feed ≡ true → test m ≡ true → list_all test (feed ++ m ∷ []) ≡ true
all_more test [] m all is = ap (λ t. t && true) is
all_more test (n ∷ feed) m all is =
    ap (λ t. t && list_all test (feed ++ m ∷ [])) (first (test n) (list_all test feed) all) ∙ all_more test feed m (second (test n) (list_all test feed) all) is
