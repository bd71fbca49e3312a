-- What was read of a bundle says which frames were read, and is as a bundle may be.
use Rattle.std.proofs.Common.{◌≡◌, ◌∙◌, ℕ, ◌+◌, ◌*◌, ◌<◌, ◌==◌, nat_lt, Bool, true, false, not, ◌&&◌, ◌||◌, List, [], ◌∷◌, ◌++◌, length, map, Some, None, if◌then◌else◌, refl, sym, ap, subst, append_assoc, arith}
use Rattle.std.specs.Prelude.{All}
use Rattle.std.specs.List.{flat_map, list_all}
use Rattle.std.proofs.lemmas.Grind.{flat_map-append}
use Rattle.std.proofs.Math.Nat.{add-zero, zero-add}
use Rattle.std.proofs.lemmas.List.{append-nil, length-append, map-append}
use Rattle.std.proofs.lemmas.List.Elements.{All-push, All-nil}
use Rattle.market_types.specs.declared.feed.Feed.{Feed}
use Rattle.market_types.specs.Told.{EntryTold, EventTold, EditTold}
use Rattle.market_types.specs.Told as told
use Rattle.bundle_frames.specs.declared.closing.Closing.{Closing}
use Rattle.bundle_frames.specs.declared.closing.ClosingStock.{ClosingStock}
use Rattle.bundle_frames.specs.declared.closing.ClosingOrder.{ClosingOrder}
use Rattle.bundle_frames.specs.declared.closing.ClosingAgent.{ClosingAgent}
use Rattle.bundle_reader.specs.Frames.{event_with, edit_with}
use Rattle.bundle_reader.specs.declared.frame.HeaderFrame.{HeaderFrame}
use Rattle.bundle_reader.specs.declared.head.EditHead.{EditHead}
use Rattle.bundle_reader.specs.declared.frame.EventFrame.{EventFrame}
use Rattle.bundle_reader.specs.declared.frame.Frame.{Frame}
use Rattle.bundle_reader.specs.declared.frame.Frame.TheVariants as frame
use Rattle.bundle_reader.specs.Told.{BranchTold, BundleTold, BegunTold, WholeTold, LastTold, apart, event, edit, ReadingTold, start, between, opening, entries, ended, closing, end}
use Rattle.bundle_reader.specs.Order.{is_none, is_system, is_trading, is_of_orders, opens, opened, belongs, all_entries, before_next, take_trading, take_of_orders, counted, more_closing, is_closed, branch_of, with_branch, take_next, begun, bundle_of, taken}
use Rattle.bundle_reader.specs.Bundle.{feed_list, entry_list, closing_list, branch_list, branches_list, bundle_list, stand, event_part, edit_part, is_own, IsSplit, IsOpening, AreStocks, AreAgents, IsBranch}
use Rattle.bundle_reader.proofs.Runs.{some_same, none_some}
use Rattle.bundle_reader.proofs.Split.{IsFreeBehind, with_event, with_edit, other_event, other_edit, last_feed, free_behind_event, free_behind_edit, free_more, free_none, all_more}

-- ---- the frames that were read

abbrev header_list : WholeTold → List Frame
header_list w = frame.Header w.header ∷ branches_list 0 w.branches

abbrev begun_list : WholeTold → BegunTold → List Frame
begun_list w b =
    header_list w ++ (frame.Branch (record { branch = length w.branches; parent = b.parent; stop = b.stop; name = b.name }) ∷ feed_list b.opening)

abbrev last_list : LastTold → List Frame
last_list (apart before) = feed_list before
last_list (event e) = entry_list (told.event e)
last_list (edit d) = entry_list (told.edit d)

abbrev pub read_list : ReadingTold → List Frame
read_list start = []
read_list (between w) = header_list w
read_list (opening w b) = begun_list w b
read_list (entries w b es l) = begun_list w b ++ (flat_map entry_list es ++ last_list l)
read_list (ended w b es m) = begun_list w b ++ (flat_map entry_list es ++ frame.Message m ∷ [])
read_list (closing w b es m c) = begun_list w b ++ (flat_map entry_list es ++ (frame.Message m ∷ closing_list c))
read_list (end b) = bundle_list b

-- ---- what holds of what was read

abbrev AreWhole : WholeTold → Type 0
AreWhole w = All (IsBranch w.header.stocks w.header.agents) w.branches

-- nothing waits for the next event at first alone
abbrev IsFreeSo : List EntryTold → List Feed → Type 0
IsFreeSo es [] = es ≡ []
IsFreeSo es (m ∷ rest) = IsFreeBehind es (m ∷ rest)

abbrev IsSplitSo : List EntryTold → LastTold → Type 0
IsSplitSo es (apart before) = IsSplit es × (list_all (λ m. is_trading m.what) before ≡ true) × IsFreeSo es before
IsSplitSo es (event e) = IsSplit (es ++ told.event e ∷ [])
IsSplitSo es (edit d) = IsSplit (es ++ told.edit d ∷ [])

-- a closing so far: orders and agents come behind all stocks
pub record IsClosingSo (h : HeaderFrame) (c : Closing) : Type 0 where
  pub stocks : AreStocks 0 c.stocks
  pub agents : AreAgents 0 c.agents
  pub late : length c.stocks < h.stocks → (c.orders ≡ []) × (c.agents ≡ [])

pub record IsEnded (w : WholeTold) (b : BegunTold) (es : List EntryTold) (m : Feed) : Type 0 where
  pub branches : AreWhole w
  pub opening : IsOpening w.header.stocks b.opening
  pub split : IsSplit es
  pub ended : is_system m.what ≡ true

abbrev pub IsSo : ReadingTold → Type 0
IsSo start = Unit {0}
IsSo (between w) = AreWhole w
IsSo (opening w b) = AreWhole w × (stand w.header.stocks 0 b.opening ≡ true)
IsSo (entries w b es l) = AreWhole w × IsOpening w.header.stocks b.opening × IsSplitSo es l
IsSo (ended w b es m) = IsEnded w b es m
IsSo (closing w b es m c) = IsEnded w b es m × IsClosingSo w.header c
IsSo (end b) = All (IsBranch b.stocks b.agents) b.branches

-- what one frame more makes of what was read
pub record IsStep (r : ReadingTold) (f : Frame) (next : ReadingTold) : Type 0 where
  pub list : read_list next ≡ read_list r ++ f ∷ []
  pub so : IsSo next

-- ---- tests

passed : {A : Type 0} (t : Bool) (x y : A) → (if t then Some x else None) ≡ Some y → (t ≡ true) × (x ≡ y)
passed true x y e = (refl, some_same x y e)
passed false x y e = absurd (none_some y e)

first : (a b : Bool) → (a && b) ≡ true → a ≡ true
first true b h = refl
first false b h = h

second : (a b : Bool) → (a && b) ≡ true → b ≡ true
second true b h = h
second false b h = absurd cc

equal : (m n : ℕ) → (m == n) ≡ true → m ≡ n
equal m n h = grind arith

less : (m n : ℕ) → nat_lt m n ≡ true → m < n
less m n h = grind arith

empty : {A : Type 0} (xs : List A) → is_none xs ≡ true → xs ≡ []
empty [] h = refl
empty (x ∷ xs) h = absurd cc

-- ---- the opening

stand_more : (stocks at : ℕ) (feed : List Feed) (m : Feed) → stand stocks at feed ≡ true → opens stocks (at + length feed) m.what ≡ true → stand stocks at (feed ++ m ∷ []) ≡ true
stand_more stocks at [] m all is = ap (λ t. t && true) (ap (λ k. opens stocks k m.what) (sym (add-zero at)) ∙ is)
stand_more stocks at (n ∷ feed) m all is =
    let there : at + length (n ∷ feed) ≡ at + 1 + length feed = omega arith in
    ap (λ t. t && stand stocks (at + 1) (feed ++ m ∷ [])) (first (opens stocks at n.what) (stand stocks (at + 1) feed) all)
    ∙ stand_more stocks (at + 1) feed m (second (opens stocks at n.what) (stand stocks (at + 1) feed) all) (ap (λ k. opens stocks k m.what) (sym there) ∙ is)

-- ---- lists of frames that grow at their end

behind : (a b c d : List Frame) → c ≡ b ++ d → a ++ c ≡ a ++ b ++ d
behind a b c d e = ap (λ (l : List Frame). a ++ l) e ∙ sym (append_assoc a b d)

feed_more : (feed : List Feed) (m : Feed) → feed_list (feed ++ m ∷ []) ≡ feed_list feed ++ frame.Message m ∷ []
feed_more feed m = map-append frame.Message feed (m ∷ [])

entries_more : (es : List EntryTold) (x : EntryTold) → flat_map entry_list (es ++ x ∷ []) ≡ flat_map entry_list es ++ entry_list x
entries_more es x = flat_map-append entry_list es (x ∷ []) ∙ ap (λ (l : List Frame). flat_map entry_list es ++ l) (append-nil (entry_list x))

moved : (r next x : ReadingTold) (f : Frame) → x ≡ next → IsStep r f x → IsStep r f next
moved r next x f e step = let P : ReadingTold → Type 0 = λ y. IsStep r f y in subst P e step

-- ---- one step of the opening

abbrev with_message : BegunTold → Feed → BegunTold
with_message b m = record { name = b.name; parent = b.parent; stop = b.stop; opening = b.opening ++ m ∷ [] }

begun_more : (w : WholeTold) (b : BegunTold) (m : Feed) → begun_list w (with_message b m) ≡ begun_list w b ++ frame.Message m ∷ []
begun_more w b m =
    let x = frame.Branch (record { branch = length w.branches; parent = b.parent; stop = b.stop; name = b.name }) in
    behind (header_list w) (x ∷ feed_list b.opening) (x ∷ feed_list (b.opening ++ m ∷ [])) (frame.Message m ∷ []) (ap (λ (l : List Frame). x ∷ l) (feed_more b.opening m))

opened_by : (w : WholeTold) (b : BegunTold) (m : Feed) (t : Bool) → (length (with_message b m).opening == 1 + 2 * w.header.stocks) ≡ t
    → AreWhole w → stand w.header.stocks 0 (with_message b m).opening ≡ true
    → IsStep (opening w b) (frame.Message m) (if t then entries w (with_message b m) [] (apart []) else opening w (with_message b m))
opened_by w b m true e whole order = record {
  list = append-nil (begun_list w (with_message b m)) ∙ begun_more w b m;
  so = (whole, record { count = equal (length (with_message b m).opening) (1 + 2 * w.header.stocks) e; order = order }, (tt, refl, refl));
}
opened_by w b m false e whole order = record { list = begun_more w b m; so = (whole, order) }

step_opening : (w : WholeTold) (b : BegunTold) (f : Frame) (next : ReadingTold) → taken (opening w b) f ≡ Some next → IsSo (opening w b) → IsStep (opening w b) f next
unfolding taken
step_opening w b (frame.Message m) next e so =
    let test = passed (opens w.header.stocks (length b.opening) m.what) (opened w (with_message b m)) next e in
    let order = stand_more w.header.stocks 0 b.opening m so.1 (ap (λ k. opens w.header.stocks k m.what) (zero-add (length b.opening)) ∙ test.0) in
    moved (opening w b) next (opened w (with_message b m)) (frame.Message m) test.1
    (opened_by w b m (length (with_message b m).opening == 1 + 2 * w.header.stocks) refl so.0 order)
step_opening w b f next e so = absurd (none_some next e)

-- ---- one step of the entries

all_split : (es : List EntryTold) (l : LastTold) → IsSplitSo es l → IsSplit (all_entries es l)
all_split es (apart before) so = so.0
all_split es (event e) so = so
all_split es (edit d) so = so

all_trading : (es : List EntryTold) (l : LastTold) → IsSplitSo es l → list_all (λ m. is_trading m.what) (before_next l) ≡ true
all_trading es (apart before) so = so.1
all_trading es (event e) so = refl
all_trading es (edit d) so = refl

free_so : (es : List EntryTold) (before : List Feed) → IsFreeSo es before → IsFreeBehind es before
free_so es [] free = free_none es
free_so es (m ∷ rest) free = free

all_are_free : (es : List EntryTold) (l : LastTold) → IsSplitSo es l → IsFreeBehind (all_entries es l) (before_next l)
all_are_free es (apart before) so = free_so es before so.2
all_are_free es (event e) so = free_none (es ++ told.event e ∷ [])
all_are_free es (edit d) so = free_none (es ++ told.edit d ∷ [])

-- all entries and what waits for the next event are the entries and the last one
all_list : (es : List EntryTold) (l : LastTold) → flat_map entry_list (all_entries es l) ++ feed_list (before_next l) ≡ flat_map entry_list es ++ last_list l
all_list es (apart before) = refl
all_list es (event e) = append-nil (flat_map entry_list (es ++ told.event e ∷ [])) ∙ entries_more es (told.event e)
all_list es (edit d) = append-nil (flat_map entry_list (es ++ told.edit d ∷ [])) ∙ entries_more es (told.edit d)

-- a frame behind the entries, and one list of it
list_behind : (a b c d e : List Frame) → b ++ c ≡ d → a ++ (b ++ (c ++ e)) ≡ a ++ d ++ e
list_behind a b c d e is =
    ap (λ (l : List Frame). a ++ l) (sym (append_assoc b c e) ∙ ap (λ (l : List Frame). l ++ e) is) ∙ sym (append_assoc a d e)

step_event : (w : WholeTold) (b : BegunTold) (es : List EntryTold) (l : LastTold) (x : EventFrame) → IsSo (entries w b es l)
    → IsStep (entries w b es l) (frame.Event x) (entries w b (all_entries es l) (event (event_with x (before_next l) [])))
step_event w b es l x so = record {
  list = list_behind (begun_list w b) (flat_map entry_list (all_entries es l)) (feed_list (before_next l)) (flat_map entry_list es ++ last_list l) (frame.Event x ∷ []) (all_list es l);
  so = (so.0, so.1, with_event (all_entries es l) (event_with x (before_next l) []) (all_split es l so.2) (all_trading es l so.2, refl) (all_are_free es l so.2));
}

step_edit : (w : WholeTold) (b : BegunTold) (es : List EntryTold) (l : LastTold) (x : EditHead) → before_next l ≡ [] → IsSo (entries w b es l)
    → IsStep (entries w b es l) (frame.Edit x) (entries w b (all_entries es l) (edit (edit_with x [])))
step_edit w b es l x none so =
    let none_waits : flat_map entry_list (all_entries es l) ++ [] ≡ flat_map entry_list es ++ last_list l =
    ap (λ feed. flat_map entry_list (all_entries es l) ++ feed_list feed) (sym none) ∙ all_list es l in
    record {
      list = list_behind (begun_list w b) (flat_map entry_list (all_entries es l)) [] (flat_map entry_list es ++ last_list l) (frame.Edit x ∷ []) none_waits;
      so = (so.0, so.1, with_edit (all_entries es l) (edit_with x []) (all_split es l so.2) refl);
    }

-- trading actions that wait, with one more
free_push : (es : List EntryTold) (before : List Feed) (m : Feed) → IsFreeSo es before → IsFreeSo es (before ++ m ∷ [])
free_push es [] m free = let P : List EntryTold → Type 0 = λ xs. IsFreeBehind xs (m ∷ []) in subst P (sym free) tt
free_push es (n ∷ rest) m free = free_more es n rest (rest ++ m ∷ []) free

-- a last edit gets its trading action
own_step : (w : WholeTold) (b : BegunTold) (es : List EntryTold) (d : EditTold) (m : Feed) → is_trading m.what ≡ true → belongs d m ≡ true → IsSo (entries w b es (edit d))
    → IsStep (entries w b es (edit d)) (frame.Message m) (entries w b es (edit (record d { feed = m ∷ [] })))
own_step w b es d m is own so =
    let tests = (d.letter == 104) || (d.letter == 114) in
    let none : d.feed ≡ [] = empty d.feed (first (is_none d.feed) (m.time == d.time) (second tests (is_none d.feed && (m.time == d.time)) own)) in
    let bare : belongs (record d { feed = [] }) m ≡ true = ap (λ feed. belongs (record d { feed = feed }) m) (sym none) ∙ own in
    let feed : is_own (record d { feed = m ∷ [] }) (m ∷ []) ≡ true = ap (λ t. t && belongs (record d { feed = [] }) m) is ∙ bare in
    let last : entry_list (told.edit (record d { feed = m ∷ [] })) ≡ entry_list (told.edit d) ++ frame.Message m ∷ [] =
    ap (λ l. (frame.Edit (edit_part d) ∷ feed_list l) ++ frame.Message m ∷ []) (sym none) in
    record {
      list = ap (λ (l : List Frame). begun_list w b ++ l) (behind (flat_map entry_list es) (entry_list (told.edit d)) (entry_list (told.edit (record d { feed = m ∷ [] }))) (frame.Message m ∷ []) last)
          ∙ sym (append_assoc (begun_list w b) (flat_map entry_list es ++ entry_list (told.edit d)) (frame.Message m ∷ []));
      so = (so.0, so.1, other_edit es d (record d { feed = m ∷ [] }) feed so.2);
    }

not_own : (t : Bool) → t ≡ false → not t ≡ true
not_own t e = ap not e

-- a last edit keeps its feed, and the trading action waits
left_step : (w : WholeTold) (b : BegunTold) (es : List EntryTold) (d : EditTold) (m : Feed) → is_trading m.what ≡ true → belongs d m ≡ false → IsSo (entries w b es (edit d))
    → IsStep (entries w b es (edit d)) (frame.Message m) (entries w b (es ++ told.edit d ∷ []) (apart (m ∷ [])))
left_step w b es d m is other so = record {
  list = list_behind (begun_list w b) (flat_map entry_list (es ++ told.edit d ∷ [])) [] (flat_map entry_list es ++ entry_list (told.edit d)) (frame.Message m ∷ []) (all_list es (edit d));
  so = (so.0, so.1, (so.2, ap (λ t. t && true) is, free_behind_edit es d (m ∷ []) (not_own (belongs d m) other)));
}

edit_trading : (w : WholeTold) (b : BegunTold) (es : List EntryTold) (d : EditTold) (m : Feed) (t : Bool) → belongs d m ≡ t → is_trading m.what ≡ true → IsSo (entries w b es (edit d))
    → IsStep (entries w b es (edit d)) (frame.Message m) (if t then entries w b es (edit (record d { feed = m ∷ [] })) else entries w b (es ++ told.edit d ∷ []) (apart (m ∷ [])))
edit_trading w b es d m true e is so = own_step w b es d m is e so
edit_trading w b es d m false e is so = left_step w b es d m is e so

step_trading : (w : WholeTold) (b : BegunTold) (es : List EntryTold) (l : LastTold) (m : Feed) → is_trading m.what ≡ true → IsSo (entries w b es l)
    → IsStep (entries w b es l) (frame.Message m) (take_trading w b es l m)
step_trading w b es (apart before) m is so = record {
  list = ap (λ (k : List Frame). begun_list w b ++ k) (behind (flat_map entry_list es) (feed_list before) (feed_list (before ++ m ∷ [])) (frame.Message m ∷ []) (feed_more before m))
      ∙ sym (append_assoc (begun_list w b) (flat_map entry_list es ++ feed_list before) (frame.Message m ∷ []));
  so = (so.0, so.1, (so.2.0, all_more (λ n. is_trading n.what) before m so.2.1 is, free_push es before m so.2.2));
}
step_trading w b es (event e) m is so = record {
  list = list_behind (begun_list w b) (flat_map entry_list (es ++ told.event e ∷ [])) [] (flat_map entry_list es ++ entry_list (told.event e)) (frame.Message m ∷ []) (all_list es (event e));
  so = (so.0, so.1, (so.2, ap (λ t. t && true) is, free_behind_event es e (m ∷ [])));
}
step_trading w b es (edit d) m is so = edit_trading w b es d m (belongs d m) refl is so

step_of_orders : (w : WholeTold) (b : BegunTold) (es : List EntryTold) (l : LastTold) (m : Feed) (next : ReadingTold) → is_of_orders m.what ≡ true → take_of_orders w b es l m ≡ Some next
    → IsSo (entries w b es l) → IsStep (entries w b es l) (frame.Message m) next
step_of_orders w b es (apart before) m next is e so = absurd (none_some next e)
step_of_orders w b es (edit d) m next is e so = absurd (none_some next e)
step_of_orders w b es (event x) m next is e so =
    let grown : EventTold = record x { after = x.after ++ m ∷ [] } in
    let feed = last_feed es x so.2 in
    let last : entry_list (told.event grown) ≡ entry_list (told.event x) ++ frame.Message m ∷ [] =
    behind (feed_list x.before) (frame.Event (event_part x) ∷ feed_list x.after) (frame.Event (event_part x) ∷ feed_list (x.after ++ m ∷ [])) (frame.Message m ∷ [])
    (ap (λ (k : List Frame). frame.Event (event_part x) ∷ k) (feed_more x.after m)) in
    moved (entries w b es (event x)) next (entries w b es (event grown)) (frame.Message m) (some_same (entries w b es (event grown)) next e) (record {
      list = ap (λ (k : List Frame). begun_list w b ++ k) (behind (flat_map entry_list es) (entry_list (told.event x)) (entry_list (told.event grown)) (frame.Message m ∷ []) last)
          ∙ sym (append_assoc (begun_list w b) (flat_map entry_list es ++ entry_list (told.event x)) (frame.Message m ∷ []));
      so = (so.0, so.1, other_event es x grown refl (feed.0, all_more (λ n. is_of_orders n.what) x.after m feed.1 is) so.2);
    })

step_system : (w : WholeTold) (b : BegunTold) (es : List EntryTold) (l : LastTold) (m : Feed) → is_system m.what ≡ true → before_next l ≡ [] → IsSo (entries w b es l)
    → IsStep (entries w b es l) (frame.Message m) (ended w b (all_entries es l) m)
step_system w b es l m is none so =
    let none_waits : flat_map entry_list (all_entries es l) ++ [] ≡ flat_map entry_list es ++ last_list l =
    ap (λ feed. flat_map entry_list (all_entries es l) ++ feed_list feed) (sym none) ∙ all_list es l in
    record {
      list = list_behind (begun_list w b) (flat_map entry_list (all_entries es l)) [] (flat_map entry_list es ++ last_list l) (frame.Message m ∷ []) none_waits;
      so = record { branches = so.0; opening = so.1; split = all_split es l so.2; ended = is };
    }

step_message : (w : WholeTold) (b : BegunTold) (es : List EntryTold) (l : LastTold) (m : Feed) (next : ReadingTold) (t o : Bool) → is_trading m.what ≡ t → is_of_orders m.what ≡ o
    → (if t then Some (take_trading w b es l m) else (if o then take_of_orders w b es l m else (if is_system m.what && is_none (before_next l) then Some (ended w b (all_entries es l) m) else None))) ≡ Some next
    → IsSo (entries w b es l) → IsStep (entries w b es l) (frame.Message m) next
step_message w b es l m next true o trading orders e so =
    moved (entries w b es l) next (take_trading w b es l m) (frame.Message m) (some_same (take_trading w b es l m) next e) (step_trading w b es l m trading so)
step_message w b es l m next false true trading orders e so = step_of_orders w b es l m next orders e so
step_message w b es l m next false false trading orders e so =
    let test = passed (is_system m.what && is_none (before_next l)) (ended w b (all_entries es l) m) next e in
    let none = empty (before_next l) (second (is_system m.what) (is_none (before_next l)) test.0) in
    moved (entries w b es l) next (ended w b (all_entries es l) m) (frame.Message m) test.1
    (step_system w b es l m (first (is_system m.what) (is_none (before_next l)) test.0) none so)

step_entries : (w : WholeTold) (b : BegunTold) (es : List EntryTold) (l : LastTold) (f : Frame) (next : ReadingTold) → taken (entries w b es l) f ≡ Some next → IsSo (entries w b es l) → IsStep (entries w b es l) f next
unfolding taken
step_entries w b es l (frame.Event x) next e so =
    let now = entries w b (all_entries es l) (event (event_with x (before_next l) [])) in
    moved (entries w b es l) next now (frame.Event x) (some_same now next e) (step_event w b es l x so)
step_entries w b es l (frame.Edit x) next e so =
    let now = entries w b (all_entries es l) (edit (edit_with x [])) in
    let test = passed (is_none (before_next l)) now next e in
    moved (entries w b es l) next now (frame.Edit x) test.1 (step_edit w b es l x (empty (before_next l) test.0) so)
step_entries w b es l (frame.Message m) next e so = step_message w b es l m next (is_trading m.what) (is_of_orders m.what) refl refl e so
step_entries w b es l f next e so = absurd (none_some next e)

-- ---- one step of the closing

step_counts : (w : WholeTold) (b : BegunTold) (es : List EntryTold) (m : Feed) (f : Frame) (next : ReadingTold) → taken (ended w b es m) f ≡ Some next → IsSo (ended w b es m) → IsStep (ended w b es m) f next
unfolding taken
step_counts w b es m (frame.Counts c) next e so =
    let now = closing w b es m (counted c) in
    moved (ended w b es m) next now (frame.Counts c) (some_same now next e) (record {
      list = behind (begun_list w b) (flat_map entry_list es ++ frame.Message m ∷ []) (flat_map entry_list es ++ (frame.Message m ∷ frame.Counts c ∷ [])) (frame.Counts c ∷ [])
          (sym (append_assoc (flat_map entry_list es) (frame.Message m ∷ []) (frame.Counts c ∷ [])));
      so = (so, record { stocks = tt; agents = tt; late = λ few. (refl, refl) });
    })
step_counts w b es m f next e so = absurd (none_some next e)

-- a frame behind a closing
closing_behind : (w : WholeTold) (b : BegunTold) (es : List EntryTold) (m : Feed) (c d : Closing) (f : Frame) → closing_list d ≡ closing_list c ++ f ∷ []
    → read_list (closing w b es m d) ≡ read_list (closing w b es m c) ++ f ∷ []
closing_behind w b es m c d f e =
    behind (begun_list w b) (flat_map entry_list es ++ (frame.Message m ∷ closing_list c)) (flat_map entry_list es ++ (frame.Message m ∷ closing_list d)) (f ∷ [])
    (behind (flat_map entry_list es) (frame.Message m ∷ closing_list c) (frame.Message m ∷ closing_list d) (f ∷ []) (ap (λ (l : List Frame). frame.Message m ∷ l) e))

stocks_push : (n : ℕ) (ss : List ClosingStock) (s : ClosingStock) → AreStocks n ss → s.stock ≡ n + length ss → AreStocks n (ss ++ s ∷ [])
stocks_push n [] s are is = (is ∙ add-zero n, tt)
stocks_push n (x ∷ ss) s are is = (are.0, stocks_push (n + 1) ss s are.1 (is ∙ omega arith))

agents_push : (n : ℕ) (xs : List ClosingAgent) (a : ClosingAgent) → AreAgents n xs → a.agent ≡ n + length xs → AreAgents n (xs ++ a ∷ [])
agents_push n [] a are is = (is ∙ add-zero n, tt)
agents_push n (x ∷ xs) a are is = (are.0, agents_push (n + 1) xs a are.1 (is ∙ omega arith))

abbrev stock_list : List ClosingStock → List Frame
stock_list = map frame.Stock

abbrev order_list : List ClosingOrder → List Frame
order_list = map frame.Order

abbrev agent_list : List ClosingAgent → List Frame
agent_list = map frame.Agent

-- an option of a closing that was put
put : (w : WholeTold) (b : BegunTold) (es : List EntryTold) (m : Feed) (t : Bool) (d : Closing) (next : ReadingTold)
    → more_closing w b es m (if t then Some d else None) ≡ Some next → (t ≡ true) × (closing w b es m d ≡ next)
put w b es m true d next e = (refl, some_same (closing w b es m d) next e)
put w b es m false d next e = absurd (none_some next e)

step_stock : (w : WholeTold) (b : BegunTold) (es : List EntryTold) (m : Feed) (c : Closing) (s : ClosingStock) → length c.stocks < w.header.stocks → s.stock ≡ length c.stocks
    → IsSo (closing w b es m c) → IsStep (closing w b es m c) (frame.Stock s) (closing w b es m (record c { stocks = c.stocks ++ s ∷ [] }))
step_stock w b es m c s few number so =
    let none = so.1.late few in
    let len = length-append c.stocks (s ∷ []) in
    let grown : Closing = record c { stocks = c.stocks ++ s ∷ [] } in
    let at : List ClosingOrder → List ClosingAgent → List Frame = λ os xs. frame.Counts c.counts ∷ (stock_list (c.stocks ++ s ∷ []) ++ order_list os ++ agent_list xs) in
    let old : List ClosingOrder → List ClosingAgent → List Frame = λ os xs. (frame.Counts c.counts ∷ (stock_list c.stocks ++ order_list os ++ agent_list xs)) ++ frame.Stock s ∷ [] in
    let bare : at [] [] ≡ old [] [] =
    ap (λ (l : List Frame). frame.Counts c.counts ∷ l)
    (append-nil (stock_list (c.stocks ++ s ∷ []) ++ []) ∙ append-nil (stock_list (c.stocks ++ s ∷ [])) ∙ map-append frame.Stock c.stocks (s ∷ [])
    ∙ ap (λ (l : List Frame). l ++ frame.Stock s ∷ []) (sym (append-nil (stock_list c.stocks)) ∙ sym (append-nil (stock_list c.stocks ++ [])))) in
    record {
      list = closing_behind w b es m c grown (frame.Stock s)
          (ap (λ os. at os c.agents) none.0 ∙ ap (at []) none.1 ∙ bare ∙ ap (old []) (sym none.1) ∙ ap (λ os. old os c.agents) (sym none.0));
      so = (so.0, record { stocks = stocks_push 0 c.stocks s so.1.stocks (number ∙ omega arith); agents = so.1.agents; late = λ h. so.1.late (omega (arith, h, len)) });
    }

step_order : (w : WholeTold) (b : BegunTold) (es : List EntryTold) (m : Feed) (c : Closing) (o : ClosingOrder) → length c.stocks ≡ w.header.stocks → c.agents ≡ []
    → IsSo (closing w b es m c) → IsStep (closing w b es m c) (frame.Order o) (closing w b es m (record c { orders = c.orders ++ o ∷ [] }))
step_order w b es m c o all none so =
    let grown : Closing = record c { orders = c.orders ++ o ∷ [] } in
    let at : List ClosingAgent → List Frame = λ xs. frame.Counts c.counts ∷ (stock_list c.stocks ++ order_list (c.orders ++ o ∷ []) ++ agent_list xs) in
    let old : List ClosingAgent → List Frame = λ xs. (frame.Counts c.counts ∷ (stock_list c.stocks ++ order_list c.orders ++ agent_list xs)) ++ frame.Order o ∷ [] in
    let bare : at [] ≡ old [] =
    ap (λ (l : List Frame). frame.Counts c.counts ∷ l)
    (append-nil (stock_list c.stocks ++ order_list (c.orders ++ o ∷ []))
    ∙ behind (stock_list c.stocks) (order_list c.orders) (order_list (c.orders ++ o ∷ [])) (frame.Order o ∷ []) (map-append frame.Order c.orders (o ∷ []))
    ∙ ap (λ (l : List Frame). l ++ frame.Order o ∷ []) (sym (append-nil (stock_list c.stocks ++ order_list c.orders)))) in
    record {
      list = closing_behind w b es m c grown (frame.Order o) (ap at none ∙ bare ∙ ap old (sym none));
      so = (so.0, record { stocks = so.1.stocks; agents = so.1.agents; late = λ few. absurd (omega (arith, few, all)) });
    }

step_agent : (w : WholeTold) (b : BegunTold) (es : List EntryTold) (m : Feed) (c : Closing) (a : ClosingAgent) → length c.stocks ≡ w.header.stocks → a.agent ≡ length c.agents
    → IsSo (closing w b es m c) → IsStep (closing w b es m c) (frame.Agent a) (closing w b es m (record c { agents = c.agents ++ a ∷ [] }))
step_agent w b es m c a all number so = record {
  list = closing_behind w b es m c (record c { agents = c.agents ++ a ∷ [] }) (frame.Agent a)
      (ap (λ (l : List Frame). frame.Counts c.counts ∷ l)
      (behind (stock_list c.stocks ++ order_list c.orders) (agent_list c.agents) (agent_list (c.agents ++ a ∷ [])) (frame.Agent a ∷ []) (map-append frame.Agent c.agents (a ∷ []))));
  so = (so.0, record { stocks = so.1.stocks; agents = agents_push 0 c.agents a so.1.agents (number ∙ omega arith); late = λ few. absurd (omega (arith, few, all)) });
}

-- ---- behind a whole branch

branches_push : (n : ℕ) (bs : List BranchTold) (b : BranchTold) → branches_list n (bs ++ b ∷ []) ≡ branches_list n bs ++ branch_list (n + length bs) b
branches_push n [] b = append-nil (branch_list n b) ∙ ap (λ k. branch_list k b) (omega arith)
branches_push n (x ∷ bs) b =
    let there : n + 1 + length bs ≡ n + length (x ∷ bs) = omega arith in
    behind (branch_list n x) (branches_list (n + 1) bs) (branches_list (n + 1) (bs ++ b ∷ [])) (branch_list (n + length (x ∷ bs)) b)
    (branches_push (n + 1) bs b ∙ ap (λ k. branches_list (n + 1) bs ++ branch_list k b) there)

-- what was read behind whole branches is these branches
pub record IsNext (w : WholeTold) (f : Frame) (next : ReadingTold) : Type 0 where
  pub list : read_list next ≡ header_list w ++ f ∷ []
  pub so : IsSo next

next_moved : (w : WholeTold) (next x : ReadingTold) (f : Frame) → x ≡ next → IsNext w f x → IsNext w f next
next_moved w next x f e is = let P : ReadingTold → Type 0 = λ y. IsNext w f y in subst P e is

next_of : (w : WholeTold) (f : Frame) (next : ReadingTold) → take_next w f ≡ Some next → AreWhole w → IsNext w f next
next_of w (frame.Branch x) next e whole =
    let test = passed (nat_lt (length w.branches) w.header.branches && (x.branch == length w.branches)) (opening w (begun x)) next e in
    let number = equal x.branch (length w.branches) (second (nat_lt (length w.branches) w.header.branches) (x.branch == length w.branches) test.0) in
    let at : ℕ → Frame = λ n. frame.Branch (record { branch = n; parent = x.parent; stop = x.stop; name = x.name }) in
    next_moved w next (opening w (begun x)) (frame.Branch x) test.1
    (record { list = ap (λ n. header_list w ++ at n ∷ []) (sym number); so = (whole, refl) })
next_of w (frame.End n) next e whole =
    let tests = passed ((length w.branches == w.header.branches) && (n == w.header.branches)) (end (bundle_of w)) next e in
    let count = equal (length w.branches) w.header.branches (first (length w.branches == w.header.branches) (n == w.header.branches) tests.0) in
    let last = equal n w.header.branches (second (length w.branches == w.header.branches) (n == w.header.branches) tests.0) in
    let at : ℕ → ℕ → List Frame = λ k j. frame.Header (record { agents = w.header.agents; stocks = w.header.stocks; branches = k }) ∷ (branches_list 0 w.branches ++ frame.End j ∷ []) in
    next_moved w next (end (bundle_of w)) (frame.End n) tests.1
    (record { list = ap (λ k. at k (length w.branches)) count ∙ ap (at w.header.branches) (count ∙ sym last); so = whole })
next_of w f next e whole = absurd (none_some next e)

-- a whole branch is read as the last of the branches
whole_list : (w : WholeTold) (b : BegunTold) (es : List EntryTold) (m : Feed) (c : Closing) → header_list (with_branch w (branch_of b es m c)) ≡ read_list (closing w b es m c)
whole_list w b es m c =
    let x = frame.Branch (record { branch = length w.branches; parent = b.parent; stop = b.stop; name = b.name }) in
    let tail = frame.Message m ∷ closing_list c in
    let es_list = flat_map entry_list es in
    ap (λ (l : List Frame). frame.Header w.header ∷ l) (branches_push 0 w.branches (branch_of b es m c) ∙ ap (λ k. branches_list 0 w.branches ++ branch_list k (branch_of b es m c)) (omega arith))
    ∙ ap (λ (l : List Frame). header_list w ++ (x ∷ l)) (append_assoc (feed_list b.opening) es_list tail)
    ∙ sym (append_assoc (header_list w) (x ∷ feed_list b.opening) (es_list ++ tail))

whole_branch : (w : WholeTold) (b : BegunTold) (es : List EntryTold) (m : Feed) (c : Closing) → is_closed w.header c ≡ true → IsSo (closing w b es m c) → AreWhole (with_branch w (branch_of b es m c))
whole_branch w b es m c closed so =
    let count = equal (length c.stocks) w.header.stocks (first (length c.stocks == w.header.stocks) (length c.agents == w.header.agents) closed) in
    let agents = equal (length c.agents) w.header.agents (second (length c.stocks == w.header.stocks) (length c.agents == w.header.agents) closed) in
    All-push (IsBranch w.header.stocks w.header.agents) w.branches (branch_of b es m c) so.0.branches (record {
      opening = so.0.opening;
      split = so.0.split;
      ended = so.0.ended;
      closing = record { stock_count = count; each_stock = so.1.stocks; agent_count = agents; each_agent = so.1.agents };
    })

step_behind : (w : WholeTold) (b : BegunTold) (es : List EntryTold) (m : Feed) (c : Closing) (f : Frame) (next : ReadingTold) (t : Bool) → is_closed w.header c ≡ t
    → (if t then take_next (with_branch w (branch_of b es m c)) f else None) ≡ Some next → IsSo (closing w b es m c) → IsStep (closing w b es m c) f next
step_behind w b es m c f next true closed e so =
    let is = next_of (with_branch w (branch_of b es m c)) f next e (whole_branch w b es m c closed so) in
    record { list = is.list ∙ ap (λ (l : List Frame). l ++ f ∷ []) (whole_list w b es m c); so = is.so }
step_behind w b es m c f next false closed e so = absurd (none_some next e)

step_closing : (w : WholeTold) (b : BegunTold) (es : List EntryTold) (m : Feed) (c : Closing) (f : Frame) (next : ReadingTold) → taken (closing w b es m c) f ≡ Some next → IsSo (closing w b es m c) → IsStep (closing w b es m c) f next
unfolding taken
step_closing w b es m c (frame.Stock s) next e so =
    let few = nat_lt (length c.stocks) w.header.stocks in
    let is = put w b es m (few && (s.stock == length c.stocks)) (record c { stocks = c.stocks ++ s ∷ [] }) next e in
    moved (closing w b es m c) next (closing w b es m (record c { stocks = c.stocks ++ s ∷ [] })) (frame.Stock s) is.1
    (step_stock w b es m c s (less (length c.stocks) w.header.stocks (first few (s.stock == length c.stocks) is.0)) (equal s.stock (length c.stocks) (second few (s.stock == length c.stocks) is.0)) so)
step_closing w b es m c (frame.Order o) next e so =
    let all = length c.stocks == w.header.stocks in
    let is = put w b es m (all && is_none c.agents) (record c { orders = c.orders ++ o ∷ [] }) next e in
    moved (closing w b es m c) next (closing w b es m (record c { orders = c.orders ++ o ∷ [] })) (frame.Order o) is.1
    (step_order w b es m c o (equal (length c.stocks) w.header.stocks (first all (is_none c.agents) is.0)) (empty c.agents (second all (is_none c.agents) is.0)) so)
step_closing w b es m c (frame.Agent a) next e so =
    let all = length c.stocks == w.header.stocks in
    let few = nat_lt (length c.agents) w.header.agents in
    let number = a.agent == length c.agents in
    let is = put w b es m (all && (few && number)) (record c { agents = c.agents ++ a ∷ [] }) next e in
    moved (closing w b es m c) next (closing w b es m (record c { agents = c.agents ++ a ∷ [] })) (frame.Agent a) is.1
    (step_agent w b es m c a (equal (length c.stocks) w.header.stocks (first all (few && number) is.0)) (equal a.agent (length c.agents) (second few number (second all (few && number) is.0))) so)
step_closing w b es m c f next e so = step_behind w b es m c f next (is_closed w.header c) refl e so

-- ---- one step

step_start : (f : Frame) (next : ReadingTold) → taken start f ≡ Some next → IsStep start f next
unfolding taken
step_start (frame.Header h) next e =
    let now = between (record { header = h; branches = [] }) in
    moved start next now (frame.Header h) (some_same now next e) (record { list = refl; so = All-nil (IsBranch h.stocks h.agents) })
step_start f next e = absurd (none_some next e)

step_between : (w : WholeTold) (f : Frame) (next : ReadingTold) → taken (between w) f ≡ Some next → IsSo (between w) → IsStep (between w) f next
unfolding taken
step_between w f next e so = let is = next_of w f next e so in record { list = is.list; so = is.so }

step_end : (b : BundleTold) (f : Frame) (next : ReadingTold) → taken (end b) f ≡ Some next → ⊥
unfolding taken
step_end b f next e = none_some next e

-- one frame more
pub step : (r : ReadingTold) (f : Frame) (next : ReadingTold) → taken r f ≡ Some next → IsSo r → IsStep r f next
step start f next e so = step_start f next e
step (between w) f next e so = step_between w f next e so
step (opening w b) f next e so = step_opening w b f next e so
step (entries w b es l) f next e so = step_entries w b es l f next e so
step (ended w b es m) f next e so = step_counts w b es m f next e so
step (closing w b es m c) f next e so = step_closing w b es m c f next e so
step (end b) f next e so = absurd (step_end b f next e)
