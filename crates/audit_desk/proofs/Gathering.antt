-- One entry's feed behind another's.
use Rattle.std.proofs.Common.{◌≡◌, ℕ, ◌+◌, ◌<◌, List, ◌++◌, length, map, get_or, drop, sym, ap, ◌∙◌, append_assoc}
use Rattle.std.proofs.lemmas.List.{drop_more}
use Rattle.market_types.specs.declared.feed.Feed.{Feed}
use Rattle.market_types.specs.declared.entry.Entry.{Entry}
use Rattle.market_types.specs.Told.{entry_told}
use Rattle.feed_rebuild.specs.Feeds.{entries_feed, entry_feed}

-- an entry that was read adds its part, and the rest is still to come
pub one_entry_more : (entries : List Entry) (i : ℕ) (entry : Entry) (now new : List Feed) → i < length entries → entry ≡ get_or entries i entry
    → new ≡ now ++ entry_feed (entry_told entry)
    → new ++ entries_feed (map entry_told (drop (i + 1) entries)) ≡ now ++ entries_feed (map entry_told (drop i entries))
one_entry_more entries i entry now new within at after =
    ap (λ (l : List Feed). l ++ entries_feed (map entry_told (drop (i + 1) entries))) (after ∙ ap (λ (e : Entry). now ++ entry_feed (entry_told e)) at)
    ∙ append_assoc now (entry_feed (entry_told (get_or entries i entry))) (entries_feed (map entry_told (drop (i + 1) entries)))
    ∙ sym (ap (λ (es : List Entry). now ++ entries_feed (map entry_told es)) (drop_more entries i entry within))
