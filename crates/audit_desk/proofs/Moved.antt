-- Reading splits the feed otherwise over the entries, and keeps it.
use Rattle.std.proofs.Common.{◌≡◌, ◌∙◌, Bool, true, false, ◌&&◌, ◌||◌, List, [], ◌∷◌, ◌++◌, refl, ap, sym, append_assoc}
use Rattle.std.specs.Prelude.{◌==◌, if◌then◌else◌}
use Rattle.std.proofs.lemmas.Bool.{and_parts}
use Rattle.market_types.specs.declared.feed.Feed.{Feed}
use Rattle.market_types.specs.Told.{EntryTold, EditTold, event, edit}
use Rattle.feed_rebuild.specs.Feeds.{entries_feed, entry_feed}
use Rattle.bundle_reader.specs.Order.{belongs, is_none}
use Rattle.audit_desk.specs.AsRead.{as_read, with_first, without_first}

none-is : (xs : List Feed) → is_none xs ≡ true → xs ≡ []
none-is [] h = refl
none-is (x ∷ xs) h = absurd cc

-- an edit to which a message belongs has no feed
no-feed : (d : EditTold) (m : Feed) → belongs d m ≡ true → d.feed ≡ []
no-feed d m h =
    let parts = and_parts ((d.letter == 104) || (d.letter == 114)) (is_none d.feed && (m.time == d.time)) h in
    none-is d.feed (and_parts (is_none d.feed) (m.time == d.time) parts.1).0

moved-by : (t : Bool) (d : EditTold) (m : Feed) (rest after : List Feed) → belongs d m ≡ t
    → (if t then record d { feed = m ∷ [] } else d).feed ++ ((if t then rest else m ∷ rest) ++ after) ≡ d.feed ++ ((m ∷ rest) ++ after)
moved-by true d m rest after e = ap (λ (feed : List Feed). feed ++ ((m ∷ rest) ++ after)) (sym (no-feed d m e))
moved-by false d m rest after e = refl

-- the first message stands in front of the others, the edit's or not
moved : (d : EditTold) (before after : List Feed) → (with_first d before).feed ++ (without_first d before ++ after) ≡ d.feed ++ (before ++ after)
moved d [] after = refl
moved d (m ∷ rest) after = moved-by (belongs d m) d m rest after refl

pub same-feed : (xs : List EntryTold) → entries_feed (as_read xs) ≡ entries_feed xs
same-feed [] = refl
same-feed (event e ∷ rest) = ap (λ (ms : List Feed). entry_feed (event e) ++ ms) (same-feed rest)
same-feed (edit d ∷ []) = refl
same-feed (edit d ∷ edit next ∷ rest) = ap (λ (ms : List Feed). d.feed ++ ms) (same-feed (edit next ∷ rest))
same-feed (edit d ∷ event e ∷ rest) =
    let own = (with_first d e.before).feed in
    let left = without_first d e.before in
    ap (λ (ms : List Feed). own ++ ((left ++ e.after) ++ ms)) (same-feed rest)
    ∙ ap (λ (ms : List Feed). own ++ ms) (append_assoc left e.after (entries_feed rest))
    ∙ moved d e.before (e.after ++ entries_feed rest)
    ∙ ap (λ (ms : List Feed). d.feed ++ ms) (sym (append_assoc e.before e.after (entries_feed rest)))
