-- The entries of a branch are read.
use Rattle.std.proofs.Common.{◌≡◌, ◌∙◌, Bool, true, false, not, ◌&&◌, List, [], ◌∷◌, ◌++◌, Some, None, if◌then◌else◌, refl, sym, ap, append_assoc}
use Rattle.std.specs.List.{flat_map, list_all}
use Rattle.std.proofs.lemmas.List.{append-nil}
use Rattle.market_types.specs.declared.feed.Feed.{Feed}
use Rattle.market_types.specs.declared.feed.What.{What}
use Rattle.market_types.specs.declared.feed.What.TheVariants as what
use Rattle.market_types.specs.Told.{EntryTold, EventTold, EditTold}
use Rattle.market_types.specs.Told as told
use Rattle.bundle_reader.specs.declared.frame.Frame.{Frame}
use Rattle.bundle_reader.specs.declared.frame.Frame.TheVariants as frame
use Rattle.bundle_reader.specs.Told.{BegunTold, WholeTold, LastTold, apart, event, edit, ReadingTold, entries, ended}
use Rattle.bundle_reader.specs.Order.{is_none, is_trading, is_of_orders, is_system, belongs, all_entries, before_next, take_trading, take_of_orders, taken}
use Rattle.bundle_reader.specs.Bundle.{feed_list, entry_list, event_part, edit_part, is_own, is_left, HasFeed, IsApart, IsSplit}
use Rattle.bundle_reader.proofs.Runs.{takes, takes_then, takes_both}
use Rattle.bundle_reader.proofs.OpeningRuns.{and_left, and_right}

-- what the next message may belong to behind an entry
abbrev pub last_of : EntryTold → LastTold
last_of (told.event e) = event e
last_of (told.edit d) = edit d

-- these messages may stand before an event that follows
abbrev pub IsFree : LastTold → List Feed → Type 0
IsFree (apart before) feed = before ≡ []
IsFree (event e) feed = Unit {0}
IsFree (edit d) feed = is_left d feed ≡ true

trading_taken : (w : WholeTold) (b : BegunTold) (es : List EntryTold) (l : LastTold) (m : Feed) → is_trading m.what ≡ true
    → taken (entries w b es l) (frame.Message m) ≡ Some (take_trading w b es l m)
unfolding taken
trading_taken w b es l m e = ap (λ t. if t then Some (take_trading w b es l m) else (if is_of_orders m.what then take_of_orders w b es l m else (if is_system m.what && is_none (before_next l) then Some (ended w b (all_entries es l) m) else None))) e

false_of : (t : Bool) → not t ≡ true → t ≡ false
false_of true h = absurd cc
false_of false h = refl

-- a first trading action that belongs to the next event
first_trading : (w : WholeTold) (b : BegunTold) (es : List EntryTold) (l : LastTold) (m : Feed) (rest : List Feed) → IsFree l (m ∷ rest)
    → take_trading w b es l m ≡ entries w b (all_entries es l) (apart (m ∷ []))
first_trading w b es (apart before) m rest free = ap (λ feed. entries w b es (apart (feed ++ m ∷ []))) free
first_trading w b es (event e) m rest free = refl
first_trading w b es (edit d) m rest free =
    ap (λ t. if t then entries w b es (edit (record d { feed = m ∷ [] })) else entries w b (es ++ told.edit d ∷ []) (apart (m ∷ []))) (false_of (belongs d m) free)

-- more trading actions before an event
pub tradings_read : (w : WholeTold) (b : BegunTold) (es : List EntryTold) (before feed : List Feed) → list_all (λ m. is_trading m.what) feed ≡ true
    → takes (entries w b es (apart before)) (feed_list feed) ≡ Some (entries w b es (apart (before ++ feed)))
tradings_read w b es before [] all = ap (λ l. Some (entries w b es (apart l))) (sym (append-nil before))
tradings_read w b es before (m ∷ rest) all =
    takes_then (entries w b es (apart before)) (entries w b es (apart (before ++ m ∷ []))) (entries w b es (apart (before ++ m ∷ rest))) (frame.Message m) (feed_list rest)
    (trading_taken w b es (apart before) m (and_left (is_trading m.what) (list_all (λ n. is_trading n.what) rest) all))
    (tradings_read w b es (before ++ m ∷ []) rest (and_right (is_trading m.what) (list_all (λ n. is_trading n.what) rest) all)
    ∙ ap (λ l. Some (entries w b es (apart l))) (append_assoc before (m ∷ []) rest))

-- messages on orders behind an event
abbrev with_after : EventTold → List Feed → EventTold
with_after e feed = record {
  number = e.number;
  time = e.time;
  seq = e.seq;
  from = e.from;
  to = e.to;
  put_back = e.put_back;
  until = e.until;
  fee = e.fee;
  body = e.body;
  before = e.before;
  after = e.after ++ feed;
}

-- a message on orders is no trading action
not_both : (x : What) → is_of_orders x ≡ true → is_trading x ≡ false
not_both (what.System code) h = absurd cc
not_both (what.Directory stock category financial lot lots_only class sub_type authenticity short_sale ipo tier etp leverage inverse) h = absurd cc
not_both (what.Trading stock state reserved reason) h = absurd cc
not_both (what.Add reference side shares stock price) h = refl
not_both (what.Executed reference shares match_number) h = refl
not_both (what.Cancel reference shares) h = refl
not_both (what.Delete reference) h = refl
not_both (what.Trade reference side shares stock price match_number) h = refl
not_both (what.Cross shares stock price match_number kind) h = absurd cc

not_trading : (m : Feed) → is_of_orders m.what ≡ true → is_trading m.what ≡ false
not_trading m e = not_both m.what e

message_taken : (w : WholeTold) (b : BegunTold) (es : List EntryTold) (l : LastTold) (m : Feed) (t : Bool) → is_trading m.what ≡ t
    → taken (entries w b es l) (frame.Message m)
    ≡ (if t then Some (take_trading w b es l m) else (if is_of_orders m.what then take_of_orders w b es l m else (if is_system m.what && is_none (before_next l) then Some (ended w b (all_entries es l) m) else None)))
unfolding taken
message_taken w b es l m t e =
    ap (λ s. if s then Some (take_trading w b es l m) else (if is_of_orders m.what then take_of_orders w b es l m else (if is_system m.what && is_none (before_next l) then Some (ended w b (all_entries es l) m) else None))) e

after_taken : (w : WholeTold) (b : BegunTold) (es : List EntryTold) (e : EventTold) (m : Feed) → is_of_orders m.what ≡ true
    → taken (entries w b es (event e)) (frame.Message m) ≡ Some (entries w b es (event (with_after e (m ∷ []))))
after_taken w b es e m is =
    message_taken w b es (event e) m false (not_trading m is)
    ∙ ap (λ s. if s then take_of_orders w b es (event e) m else (if is_system m.what && true then Some (ended w b (all_entries es (event e)) m) else None)) is

afters_read : (w : WholeTold) (b : BegunTold) (es : List EntryTold) (e : EventTold) (feed : List Feed) → list_all (λ m. is_of_orders m.what) feed ≡ true
    → takes (entries w b es (event e)) (feed_list feed) ≡ Some (entries w b es (event (with_after e feed)))
afters_read w b es e [] all = ap (λ l. Some (entries w b es (event (record e { after = l })))) (sym (append-nil e.after))
afters_read w b es e (m ∷ rest) all =
    takes_then (entries w b es (event e)) (entries w b es (event (with_after e (m ∷ [])))) (entries w b es (event (with_after e (m ∷ rest)))) (frame.Message m) (feed_list rest)
    (after_taken w b es e m (and_left (is_of_orders m.what) (list_all (λ n. is_of_orders n.what) rest) all))
    (afters_read w b es (with_after e (m ∷ [])) rest (and_right (is_of_orders m.what) (list_all (λ n. is_of_orders n.what) rest) all)
    ∙ ap (λ l. Some (entries w b es (event (record e { after = l })))) (append_assoc e.after (m ∷ []) rest))

-- an event without what follows it
abbrev start_of : EventTold → EventTold
start_of e = record {
  number = e.number;
  time = e.time;
  seq = e.seq;
  from = e.from;
  to = e.to;
  put_back = e.put_back;
  until = e.until;
  fee = e.fee;
  body = e.body;
  before = e.before;
  after = [];
}

event_taken : (w : WholeTold) (b : BegunTold) (es : List EntryTold) (l : LastTold) (e : EventTold) → before_next l ≡ e.before
    → taken (entries w b es l) (frame.Event (event_part e)) ≡ Some (entries w b (all_entries es l) (event (start_of e)))
unfolding taken
event_taken w b es l e is = ap (λ (before : List Feed). Some (entries w b (all_entries es l) (event (record (start_of e) { before = before })))) is

-- no message waits for an event where a last one is free of none
none_waits : (l : LastTold) → IsFree l [] → before_next l ≡ []
none_waits (apart before) free = free
none_waits (event e) free = refl
none_waits (edit d) free = refl

-- what stands behind the trading actions before an event
abbrev behind : EventTold → List Frame
behind e = frame.Event (event_part e) ∷ feed_list e.after

event_behind : (w : WholeTold) (b : BegunTold) (es : List EntryTold) (l : LastTold) (e : EventTold) → before_next l ≡ e.before → list_all (λ m. is_of_orders m.what) e.after ≡ true
    → takes (entries w b es l) (behind e) ≡ Some (entries w b (all_entries es l) (event e))
event_behind w b es l e is after =
    takes_then (entries w b es l) (entries w b (all_entries es l) (event (start_of e))) (entries w b (all_entries es l) (event e)) (frame.Event (event_part e)) (feed_list e.after)
    (event_taken w b es l e is)
    (afters_read w b (all_entries es l) (start_of e) e.after after)

event_from : (w : WholeTold) (b : BegunTold) (es : List EntryTold) (l : LastTold) (e : EventTold) (before : List Feed) → e.before ≡ before → IsFree l [] → IsFree l before
    → list_all (λ m. is_trading m.what) before ≡ true → list_all (λ m. is_of_orders m.what) e.after ≡ true
    → takes (entries w b es l) (feed_list before ++ behind e) ≡ Some (entries w b (all_entries es l) (event e))
event_from w b es l e [] is none free all after = event_behind w b es l e (none_waits l none ∙ sym is) after
event_from w b es l e (m ∷ rest) is none free all after =
    let now = all_entries es l in
    let first : taken (entries w b es l) (frame.Message m) ≡ Some (entries w b now (apart (m ∷ []))) =
    trading_taken w b es l m (and_left (is_trading m.what) (list_all (λ n. is_trading n.what) rest) all) ∙ ap Some (first_trading w b es l m rest free) in
    let others = tradings_read w b now (m ∷ []) rest (and_right (is_trading m.what) (list_all (λ n. is_trading n.what) rest) all) in
    takes_then (entries w b es l) (entries w b now (apart (m ∷ []))) (entries w b now (event e)) (frame.Message m) (feed_list rest ++ behind e)
    first
    (takes_both (entries w b now (apart (m ∷ []))) (entries w b now (apart (m ∷ rest))) (entries w b now (event e)) (feed_list rest) (behind e)
    others
    (event_behind w b now (apart (m ∷ rest)) e (sym is) after))

-- an event and its feed
event_read : (w : WholeTold) (b : BegunTold) (es : List EntryTold) (l : LastTold) (e : EventTold) → IsFree l [] → IsFree l e.before → HasFeed (told.event e)
    → takes (entries w b es l) (entry_list (told.event e)) ≡ Some (entries w b (all_entries es l) (event e))
event_read w b es l e none free feed = event_from w b es l e e.before refl none free feed.0 feed.1

-- an edit with this feed
abbrev edit_having : EditTold → List Feed → EditTold
edit_having d feed = record { events = d.events; time = d.time; branch = d.branch; index = d.index; letter = d.letter; feed = feed }

edit_taken : (w : WholeTold) (b : BegunTold) (es : List EntryTold) (l : LastTold) (d : EditTold) → before_next l ≡ []
    → taken (entries w b es l) (frame.Edit (edit_part d)) ≡ Some (entries w b (all_entries es l) (edit (edit_having d [])))
unfolding taken
edit_taken w b es l d is =
    ap (λ (before : List Feed). if is_none before then Some (entries w b (all_entries es l) (edit (edit_having d []))) else None) is

own_taken : (w : WholeTold) (b : BegunTold) (es : List EntryTold) (d : EditTold) (m : Feed) → is_trading m.what ≡ true → belongs (edit_having d []) m ≡ true
    → taken (entries w b es (edit (edit_having d []))) (frame.Message m) ≡ Some (entries w b es (edit (edit_having d (m ∷ []))))
own_taken w b es d m is own =
    trading_taken w b es (edit (edit_having d [])) m is
    ∙ ap (λ t. Some (if t then entries w b es (edit (edit_having d (m ∷ []))) else entries w b (es ++ told.edit (edit_having d []) ∷ []) (apart (m ∷ [])))) own

edit_from : (w : WholeTold) (b : BegunTold) (es : List EntryTold) (l : LastTold) (d : EditTold) (feed : List Feed) → before_next l ≡ [] → is_own d feed ≡ true
    → takes (entries w b es l) (frame.Edit (edit_part d) ∷ feed_list feed) ≡ Some (entries w b (all_entries es l) (edit (edit_having d feed)))
edit_from w b es l d [] none own =
    let now = entries w b (all_entries es l) (edit (edit_having d [])) in
    takes_then (entries w b es l) now now (frame.Edit (edit_part d)) [] (edit_taken w b es l d none) refl
edit_from w b es l d (m ∷ []) none own =
    let now = all_entries es l in
    let last = entries w b now (edit (edit_having d (m ∷ []))) in
    takes_then (entries w b es l) (entries w b now (edit (edit_having d []))) last (frame.Edit (edit_part d)) (frame.Message m ∷ []) (edit_taken w b es l d none)
    (takes_then (entries w b now (edit (edit_having d []))) last last (frame.Message m) []
    (own_taken w b now d m (and_left (is_trading m.what) (belongs (edit_having d []) m) own) (and_right (is_trading m.what) (belongs (edit_having d []) m) own)) refl)
edit_from w b es l d (m ∷ n ∷ rest) none own = absurd cc

edit_read : (w : WholeTold) (b : BegunTold) (es : List EntryTold) (l : LastTold) (d : EditTold) → IsFree l [] → HasFeed (told.edit d)
    → takes (entries w b es l) (entry_list (told.edit d)) ≡ Some (entries w b (all_entries es l) (edit d))
edit_read w b es l d none feed = edit_from w b es l d d.feed (none_waits l none) feed

-- these entries may follow
abbrev pub IsFreeOf : LastTold → List EntryTold → Type 0
IsFreeOf l [] = Unit {0}
IsFreeOf l (told.event e ∷ rest) = IsFree l e.before
IsFreeOf l (told.edit d ∷ rest) = Unit {0}

free_of_event : (e : EventTold) (xs : List EntryTold) → IsFreeOf (event e) xs
free_of_event e [] = tt
free_of_event e (told.event x ∷ rest) = tt
free_of_event e (told.edit x ∷ rest) = tt

free_of_edit : (d : EditTold) (xs : List EntryTold) → IsApart (told.edit d) xs → IsFreeOf (edit d) xs
free_of_edit d [] is = tt
free_of_edit d (told.event x ∷ rest) is = is
free_of_edit d (told.edit x ∷ rest) is = tt

-- what was read of entries
pub record EntriesRead (w : WholeTold) (b : BegunTold) (from : ReadingTold) (fs : List Frame) (all : List EntryTold) : Type 0 where
  pub now : List EntryTold
  pub last : LastTold
  pub read : takes from fs ≡ Some (entries w b now last)
  pub same : all_entries now last ≡ all
  pub none : before_next last ≡ []

entries_then : (w : WholeTold) (b : BegunTold) (from next : ReadingTold) (fs gs : List Frame) (all more : List EntryTold) → takes from fs ≡ Some next → all ≡ more
    → EntriesRead w b next gs all → EntriesRead w b from (fs ++ gs) more
entries_then w b from next fs gs all more first is rest = record {
  now = rest.now;
  last = rest.last;
  read = takes_both from next (entries w b rest.now rest.last) fs gs first rest.read;
  same = rest.same ∙ is;
  none = rest.none;
}

-- the entries that are left
pub entries_read : (w : WholeTold) (b : BegunTold) (es : List EntryTold) (l : LastTold) (xs : List EntryTold) → IsFree l [] → IsFreeOf l xs → IsSplit xs
    → EntriesRead w b (entries w b es l) (flat_map entry_list xs) (all_entries es l ++ xs)
entries_read w b es l [] none free split = record {
  now = es;
  last = l;
  read = refl;
  same = sym (append-nil (all_entries es l));
  none = none_waits l none;
}
entries_read w b es l (told.event e ∷ rest) none free split =
    let now = all_entries es l in
    entries_then w b (entries w b es l) (entries w b now (event e)) (entry_list (told.event e)) (flat_map entry_list rest) ((now ++ told.event e ∷ []) ++ rest) (now ++ told.event e ∷ rest)
    (event_read w b es l e none free split.0)
    (append_assoc now (told.event e ∷ []) rest)
    (entries_read w b now (event e) rest tt (free_of_event e rest) split.2)
entries_read w b es l (told.edit d ∷ rest) none free split =
    let now = all_entries es l in
    entries_then w b (entries w b es l) (entries w b now (edit d)) (entry_list (told.edit d)) (flat_map entry_list rest) ((now ++ told.edit d ∷ []) ++ rest) (now ++ told.edit d ∷ rest)
    (edit_read w b es l d none split.0)
    (append_assoc now (told.edit d ∷ []) rest)
    (entries_read w b now (edit d) rest refl (free_of_edit d rest split.1) split.2)
