-- Entries come back from marks and columns.
use Rattle.std.proofs.Common.{◌≡◌, ◌∙◌, ◌<◌, ◌≤◌, ℕ, ◌+◌, ◌-◌, ◌^◌, ℤ, pos, Bool, true, false, List, [], ◌∷◌, ◌++◌, length, take, drop, refl, ap, ap₂, sym, subst, arith, length-append, length-drop}
use Rattle.std.specs.Prelude.{if◌then◌else◌}
use Rattle.std.proofs.lemmas.List.{take-append-le, drop-append-le, take_at, drop_at, take_all, drop_all}
use Rattle.market_types.specs.declared.feed.Feed.{Feed}
use Rattle.market_types.specs.declared.message.Body.{Body}
use Rattle.market_types.specs.Told.{EntryTold, EventTold, EditTold, event, edit}
use Rattle.packed_entries.specs.declared.mark.Mark.{Mark}
use Rattle.packed_entries.specs.declared.mark.Extra.{Extra}
use Rattle.packed_entries.specs.Kinds.{is_edit, enters_in, cancels_in, accepted_in, shorts_in, quotes_in, edits_in}
use Rattle.packed_entries.specs.Parts.{Parts, nothing, joined}
use Rattle.packed_entries.specs.Entries.{first, short, extra_in, extras_in, body_in, event_with, feed_before, feed_after, feed_behind, event_in, edit_in, entry_in, with_feed, no_edit, left_by, HasFor, entries_of, IsWhole}
use Rattle.packed_entries.specs.Own.{low, mark_of, own_parts, extra_of, edit_mark, edit_parts, edit_head, edit_extra, enters_of, cancels_of, accepted_of, shorts_of, quotes_of}
use Rattle.packed_entries.proofs.Bodies.{first-append, first_if-append, body_joined, edits_needed, not_edit, edits_has, enters_has, cancels_has, accepted_has, shorts_has, quotes_has, body_back}

pub same_parts : (p q : Parts) → p.enters ≡ q.enters → p.cancels ≡ q.cancels → p.accepted ≡ q.accepted → p.shorts ≡ q.shorts → p.quotes ≡ q.quotes → p.extras ≡ q.extras → p.edits ≡ q.edits → p.feed ≡ q.feed → p ≡ q
same_parts p q a b c d e f g h =
    ap (λ x. let r : Parts = record { enters = x; cancels = p.cancels; accepted = p.accepted; shorts = p.shorts; quotes = p.quotes; extras = p.extras; edits = p.edits; feed = p.feed } in r) a
    ∙ ap (λ x. let r : Parts = record { enters = q.enters; cancels = x; accepted = p.accepted; shorts = p.shorts; quotes = p.quotes; extras = p.extras; edits = p.edits; feed = p.feed } in r) b
    ∙ ap (λ x. let r : Parts = record { enters = q.enters; cancels = q.cancels; accepted = x; shorts = p.shorts; quotes = p.quotes; extras = p.extras; edits = p.edits; feed = p.feed } in r) c
    ∙ ap (λ x. let r : Parts = record { enters = q.enters; cancels = q.cancels; accepted = q.accepted; shorts = x; quotes = p.quotes; extras = p.extras; edits = p.edits; feed = p.feed } in r) d
    ∙ ap (λ x. let r : Parts = record { enters = q.enters; cancels = q.cancels; accepted = q.accepted; shorts = q.shorts; quotes = x; extras = p.extras; edits = p.edits; feed = p.feed } in r) e
    ∙ ap (λ x. let r : Parts = record { enters = q.enters; cancels = q.cancels; accepted = q.accepted; shorts = q.shorts; quotes = q.quotes; extras = x; edits = p.edits; feed = p.feed } in r) f
    ∙ ap (λ x. let r : Parts = record { enters = q.enters; cancels = q.cancels; accepted = q.accepted; shorts = q.shorts; quotes = q.quotes; extras = q.extras; edits = x; feed = p.feed } in r) g
    ∙ ap (λ x. let r : Parts = record { enters = q.enters; cancels = q.cancels; accepted = q.accepted; shorts = q.shorts; quotes = q.quotes; extras = q.extras; edits = q.edits; feed = x } in r) h

event_same : (m : Mark) (x x' : Extra) (y y' : Body) (b b' a a' : List Feed) → x ≡ x' → y ≡ y' → b ≡ b' → a ≡ a' → event_with m x y b a ≡ event_with m x' y' b' a'
event_same m x x' y y' b b' a a' p q r s =
    ap (λ z. event_with m z y b a) p ∙ ap (λ z. event_with m x' z b a) q ∙ ap (λ z. event_with m x' y' z a) r ∙ ap (λ z. event_with m x' y' b' z) s

-- ---- what follows changes nothing

extra_joined : (m : Mark) (p q : Parts) → HasFor m p → extra_in m (p.extras ++ q.extras) ≡ extra_in m p.extras
extra_joined m p q h = first_if-append m.is_more (λ (x : Extra). x) (short m) p.extras q.extras h.extras

before_joined : (m : Mark) (p q : Parts) → HasFor m p → feed_before (extra_in m (p.extras ++ q.extras)) (p.feed ++ q.feed) ≡ feed_before (extra_in m p.extras) p.feed
before_joined m p q h =
    ap (λ (y : Extra). feed_before y (p.feed ++ q.feed)) (extra_joined m p q h)
    ∙ take-append-le (extra_in m p.extras).before p.feed q.feed (omega (arith, h.feed))

after_joined : (m : Mark) (p q : Parts) → HasFor m p → feed_after (extra_in m (p.extras ++ q.extras)) (p.feed ++ q.feed) ≡ feed_after (extra_in m p.extras) p.feed
after_joined m p q h =
    let x = extra_in m p.extras in
    ap (λ (y : Extra). feed_after y (p.feed ++ q.feed)) (extra_joined m p q h)
    ∙ ap (take x.after) (drop-append-le x.before p.feed q.feed (omega (arith, h.feed)))
    ∙ take-append-le x.after (drop x.before p.feed) q.feed (omega (arith, h.feed, length-drop x.before p.feed))

behind_joined : (m : Mark) (p q : Parts) → HasFor m p → feed_behind (extra_in m (p.extras ++ q.extras)) (p.feed ++ q.feed) ≡ feed_behind (extra_in m p.extras) p.feed ++ q.feed
behind_joined m p q h =
    let x = extra_in m p.extras in
    ap (λ (y : Extra). feed_behind y (p.feed ++ q.feed)) (extra_joined m p q h)
    ∙ ap (drop x.after) (drop-append-le x.before p.feed q.feed (omega (arith, h.feed)))
    ∙ drop-append-le x.after (drop x.before p.feed) q.feed (omega (arith, h.feed, length-drop x.before p.feed))

event_joined : (m : Mark) (p q : Parts) → HasFor m p → event_in m (joined p q) ≡ event_in m p
event_joined m p q h =
    event_same m (extra_in m (p.extras ++ q.extras)) (extra_in m p.extras) (body_in m.kind m.stock (joined p q)) (body_in m.kind m.stock p) _ _ _ _
    (extra_joined m p q h)
    (body_joined m.kind m.stock p q h.enters h.cancels h.accepted h.shorts h.quotes)
    (before_joined m p q h)
    (after_joined m p q h)

edit_joined : (m : Mark) (p q : Parts) → HasFor m p → is_edit m.kind ≡ true → edit_in m (joined p q) ≡ edit_in m p
edit_joined m p q h is =
    first-append (with_feed (feed_before (extra_in m (p.extras ++ q.extras)) (p.feed ++ q.feed))) no_edit p.edits q.edits (omega (arith, h.edits, edits_needed m.kind true is))
    ∙ ap (λ (feed : List Feed). first (with_feed feed) no_edit p.edits) (before_joined m p q h)

chosen : (b : Bool) (x x' : EditTold) (y y' : EventTold) → (b ≡ true → x ≡ x') → y ≡ y' → (if b then edit x else event y) ≡ (if b then edit x' else event y')
chosen true x x' y y' f e = ap (λ (d : EditTold). edit d) (f refl)
chosen false x x' y y' f e = ap (λ (d : EventTold). event d) e

entry_joined : (m : Mark) (p q : Parts) → HasFor m p → entry_in m (joined p q) ≡ entry_in m p
entry_joined m p q h =
    chosen (is_edit m.kind) (edit_in m (joined p q)) (edit_in m p) (event_in m (joined p q)) (event_in m p) (edit_joined m p q h) (event_joined m p q h)

left_joined : (m : Mark) (p q : Parts) → HasFor m p → left_by m (joined p q) ≡ joined (left_by m p) q
left_joined m p q h =
    same_parts (left_by m (joined p q)) (joined (left_by m p) q)
    (drop-append-le (enters_in m.kind) p.enters q.enters h.enters)
    (drop-append-le (cancels_in m.kind) p.cancels q.cancels h.cancels)
    (drop-append-le (accepted_in m.kind) p.accepted q.accepted h.accepted)
    (drop-append-le (shorts_in m.kind) p.shorts q.shorts h.shorts)
    (drop-append-le (quotes_in m.kind) p.quotes q.quotes h.quotes)
    (drop-append-le (extras_in m.is_more) p.extras q.extras h.extras)
    (drop-append-le (edits_in m.kind) p.edits q.edits h.edits)
    (behind_joined m p q h)

has_joined : (m : Mark) (p q : Parts) → HasFor m p → HasFor m (joined p q)
has_joined m p q h = record {
  enters = omega (arith, h.enters, length-append p.enters q.enters);
  cancels = omega (arith, h.cancels, length-append p.cancels q.cancels);
  accepted = omega (arith, h.accepted, length-append p.accepted q.accepted);
  shorts = omega (arith, h.shorts, length-append p.shorts q.shorts);
  quotes = omega (arith, h.quotes, length-append p.quotes q.quotes);
  extras = omega (arith, h.extras, length-append p.extras q.extras);
  edits = omega (arith, h.edits, length-append p.edits q.edits);
  feed = omega (arith, h.feed, ap (λ (y : Extra). y.before + y.after) (extra_joined m p q h), length-append p.feed q.feed);
  until = h.until;
}

-- the same columns hold the same entries
pub same_whole : (ms ns : List Mark) (p q : Parts) → ns ≡ ms → q ≡ p → IsWhole ms p → IsWhole ns q
same_whole ms ns p q is joins w = subst (λ (ks : List Mark). IsWhole ks q) (sym is) (subst (λ (r : Parts). IsWhole ms r) (sym joins) w)

-- one entry more
pub pushed : (ms : List Mark) (p q : Parts) (m : Mark) → IsWhole ms p → HasFor m q → left_by m q ≡ nothing
    → (entries_of (ms ++ m ∷ []) (joined p q) ≡ entries_of ms p ++ entry_in m q ∷ []) × IsWhole (ms ++ m ∷ []) (joined p q)
pushed [] p q m w h l =
    subst (λ (r : Parts). (entries_of (m ∷ []) (joined r q) ≡ entry_in m q ∷ []) × IsWhole (m ∷ []) (joined r q)) (sym w) (refl, (h, l))
pushed (n ∷ ms) p q m w h l =
    let more = pushed ms (left_by n p) q m w.1 h l in
    let left = left_joined n p q w.0 in (
      ap₂ (λ (e : EntryTold) es. e ∷ es) (entry_joined n p q w.0) (ap (λ (r : Parts). entries_of (ms ++ m ∷ []) r) left ∙ more.0),
      (has_joined n p q w.0, subst (λ (r : Parts). IsWhole (ms ++ m ∷ []) r) (sym left) more.1),
    )

-- ---- an event comes back

-- an event's mark and extra tell its numbers
pub record Tells (b : Bool) (e : EventTold) : Type 0 where
  pub fee : b ≡ false → e.fee ≡ pos 0
  pub early : b ≡ false → e.time ≤ e.until
  pub time : e.time < 2 ^ 64
  pub until : e.until < 2 ^ 64

until_back : (time until : ℕ) → time ≤ until → time + (until - time) ≡ until
until_back time until h = omega arith

extra_back : (b : Bool) (e : EventTold) → Tells b e → extra_in (mark_of b e) (own_parts b e).extras ≡ extra_of e
extra_back true e h = refl
extra_back false e h =
    ap₂ (λ (u : ℕ) (z : ℤ). let r : Extra = record { seq = e.seq; until = u; fee = z; before = length e.before; after = length e.after } in r)
    (until_back e.time e.until (h.early refl))
    (sym (h.fee refl))

until_fits : (b : Bool) (e : EventTold) → Tells b e → e.time + low b (e.until - e.time) < 2 ^ 64
until_fits true e h = omega (arith, h.time)
until_fits false e h = omega (arith, h.early refl, h.until)

pub event_back : (b : Bool) (e : EventTold) → Tells b e → entry_in (mark_of b e) (own_parts b e) ≡ event e
event_back b e h =
    let m = mark_of b e in
    let p = own_parts b e in
    let feed = e.before ++ e.after in
    let x = extra_back b e h in
    let before : feed_before (extra_in m p.extras) feed ≡ e.before = ap (λ (y : Extra). feed_before y feed) x ∙ take_at e.before e.after (length e.before) refl in
    let after : feed_after (extra_in m p.extras) feed ≡ e.after =
    ap (λ (y : Extra). feed_after y feed) x
    ∙ ap (take (length e.after)) (drop_at e.before e.after (length e.before) refl)
    ∙ take_all (length e.after) e.after (omega arith) in
    ap (λ (c : Bool). if c then edit (edit_in m p) else event (event_in m p)) (not_edit e.body)
    ∙ ap (λ (d : EventTold). event d) (event_same m (extra_in m p.extras) (extra_of e) (body_in m.kind m.stock p) e.body _ _ _ _ x (body_back e.body p.extras [] feed) before after)

extras_has : (b : Bool) (x : Extra) → extras_in b ≡ length (if b then x ∷ [] else [])
extras_has true x = refl
extras_has false x = refl

pub event_has : (b : Bool) (e : EventTold) → Tells b e → HasFor (mark_of b e) (own_parts b e)
event_has b e h = record {
  enters = omega (arith, enters_has e.body);
  cancels = omega (arith, cancels_has e.body);
  accepted = omega (arith, accepted_has e.body);
  shorts = omega (arith, shorts_has e.body);
  quotes = omega (arith, quotes_has e.body);
  extras = omega (arith, extras_has b (extra_of e));
  edits = omega (arith, edits_has e.body);
  feed = omega (arith, ap (λ (y : Extra). y.before + y.after) (extra_back b e h), length-append e.before e.after);
  until = until_fits b e h;
}

pub event_left : (b : Bool) (e : EventTold) → Tells b e → left_by (mark_of b e) (own_parts b e) ≡ nothing
event_left b e h =
    same_parts (left_by (mark_of b e) (own_parts b e)) nothing
    (drop_all _ (enters_of e.body) (omega (arith, enters_has e.body)))
    (drop_all _ (cancels_of e.body) (omega (arith, cancels_has e.body)))
    (drop_all _ (accepted_of e.body) (omega (arith, accepted_has e.body)))
    (drop_all _ (shorts_of e.body) (omega (arith, shorts_has e.body)))
    (drop_all _ (quotes_of e.body) (omega (arith, quotes_has e.body)))
    (drop_all _ (own_parts b e).extras (omega (arith, extras_has b (extra_of e))))
    (drop_all _ [] (omega arith))
    (ap (λ (y : Extra). feed_behind y (e.before ++ e.after)) (extra_back b e h)
    ∙ ap (drop (length e.after)) (drop_at e.before e.after (length e.before) refl)
    ∙ drop_all (length e.after) e.after (omega arith))

-- one event more
pub event_pushed : (ms new : List Mark) (p q : Parts) (b : Bool) (e : EventTold) → Tells b e → IsWhole ms p
    → new ≡ ms ++ mark_of b e ∷ [] → q ≡ joined p (own_parts b e) → (entries_of new q ≡ entries_of ms p ++ event e ∷ []) × IsWhole new q
event_pushed ms new p q b e h w is joins =
    let more = pushed ms p (own_parts b e) (mark_of b e) w (event_has b e h) (event_left b e h) in (
      ap₂ (λ (ns : List Mark) (r : Parts). entries_of ns r) is joins ∙ more.0 ∙ ap (λ (x : EntryTold). entries_of ms p ++ x ∷ []) (event_back b e h),
      same_whole (ms ++ mark_of b e ∷ []) new (joined p (own_parts b e)) q is joins more.1,
    )

-- ---- an edit comes back

edit_extra_back : (b : Bool) (d : EditTold) → extra_in (edit_mark b d) (edit_parts b d).extras ≡ edit_extra d
edit_extra_back true d = refl
edit_extra_back false d = refl

pub edit_back : (b : Bool) (d : EditTold) → entry_in (edit_mark b d) (edit_parts b d) ≡ edit d
edit_back b d =
    ap (λ (f : List Feed). edit (with_feed f (edit_head d))) (ap (λ (y : Extra). feed_before y d.feed) (edit_extra_back b d) ∙ take_all (length d.feed) d.feed (omega arith))

pub edit_has : (b : Bool) (d : EditTold) → HasFor (edit_mark b d) (edit_parts b d)
edit_has b d = record {
  enters = omega arith;
  cancels = omega arith;
  accepted = omega arith;
  shorts = omega arith;
  quotes = omega arith;
  extras = omega (arith, extras_has b (edit_extra d));
  edits = omega arith;
  feed = omega (arith, ap (λ (y : Extra). y.before + y.after) (edit_extra_back b d));
  until = omega arith;
}

pub edit_left : (b : Bool) (d : EditTold) → left_by (edit_mark b d) (edit_parts b d) ≡ nothing
edit_left b d =
    same_parts (left_by (edit_mark b d) (edit_parts b d)) nothing refl refl refl refl refl
    (drop_all _ (edit_parts b d).extras (omega (arith, extras_has b (edit_extra d))))
    refl
    (ap (λ (y : Extra). feed_behind y d.feed) (edit_extra_back b d) ∙ drop_all (length d.feed) d.feed (omega arith))

-- one edit more
pub edit_pushed : (ms new : List Mark) (p q : Parts) (b : Bool) (d : EditTold) → IsWhole ms p
    → new ≡ ms ++ edit_mark b d ∷ [] → q ≡ joined p (edit_parts b d) → (entries_of new q ≡ entries_of ms p ++ edit d ∷ []) × IsWhole new q
edit_pushed ms new p q b d w is joins =
    let more = pushed ms p (edit_parts b d) (edit_mark b d) w (edit_has b d) (edit_left b d) in (
      ap₂ (λ (ns : List Mark) (r : Parts). entries_of ns r) is joins ∙ more.0 ∙ ap (λ (x : EntryTold). entries_of ms p ++ x ∷ []) (edit_back b d),
      same_whole (ms ++ edit_mark b d ∷ []) new (joined p (edit_parts b d)) q is joins more.1,
    )

-- as many entries as marks
pub entries_length : (ms : List Mark) (p : Parts) → length (entries_of ms p) ≡ length ms
entries_length [] p = refl
entries_length (m ∷ ms) p = omega (arith, entries_length ms (left_by m p))
