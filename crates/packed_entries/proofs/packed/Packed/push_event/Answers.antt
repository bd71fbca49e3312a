use Rattle.std.proofs.Common.{◌≡◌, ◌∙◌, ◌++◌, ◌∷◌, [], ◌-◌, ap, ap₂, arith}
use Rattle.market_types.specs.Told.{event}
use Rattle.packed_entries.specs.Held.{Held}
use Rattle.packed_entries.specs.Parts.{Parts, joined}
use Rattle.packed_entries.specs.Own.{mark_of, own_parts}
use Rattle.packed_entries.specs.Told.{columns_told, parts_told}
use Rattle.packed_entries.proofs.Packing.{Tells, event_pushed, same_whole}
use Rattle.packed_entries.proofs.Rooms.{fewer}
use Rattle.packed_entries.proofs.packed.Packed.push_event.Goals as goal

pub invariant_of-self : goal.invariant_of-self
invariant_of-self c = (same_whole _ _ _ _ c.make_room.ensures.list c.make_room.ensures.lists c.self.invariant.0, c.make_room.ensures.marks, c.make_room.ensures.columns)

pub invariant_of-self-in_err-reserve_feed : goal.invariant_of-self-in_err-reserve_feed
invariant_of-self-in_err-reserve_feed c = (
  same_whole _ _ _ _ c.make_room.ensures.list (c.reserve_feed.ensures.lists ∙ c.make_room.ensures.lists) c.self.invariant.0,
  c.make_room.ensures.marks,
  c.reserve_feed.ensures.room c.make_room.new.room c.make_room.ensures.columns,
)

pub put_event-requires-clause-room : goal.put_event-requires-clause-room
put_event-requires-clause-room c = fewer c.make_room.new.room 1 _ (omega (arith, c.in_ok-make_room.ensures.more)) (c.reserve_feed.ensures.room c.make_room.new.room c.make_room.ensures.columns)

pub invariant_of-self-2 : goal.invariant_of-self-2
invariant_of-self-2 c =
    let b = c.has_more-is_more.result in
    let e = parts_told c.args.e.now in
    let more = c.has_more-is_more.ensures in
    let tells : Tells b e = record { fee = more.fee; early = more.early; time = more.time; until = more.until } in
    let ms = c.self.inside.marks.list in
    let p = columns_told c.self.inside.columns in
    let marks : c.put.new.self.list ≡ ms ++ mark_of b e ∷ [] = ap (λ r. r.list) c.put.ensures ∙ ap₂ (λ ms m. ms ++ m ∷ []) c.make_room.ensures.list c.mark_of.ensures in
    let joins = c.put_event.ensures.told ∙ ap (λ (q : Parts). joined q (own_parts b e)) (c.reserve_feed.ensures.lists ∙ c.make_room.ensures.lists) in
    let more = event_pushed ms c.put.new.self.list p (columns_told c.put_event.new.self) b e tells c.self.invariant.0 marks joins in (
      more.1,
      omega (arith, c.make_room.ensures.marks, ap (λ r. r.spare) c.put.ensures),
      c.put_event.ensures.room c.make_room.new.room (c.make_room.new.room - 1) (omega (arith, c.in_ok-make_room.ensures.more)) (c.reserve_feed.ensures.room c.make_room.new.room c.make_room.ensures.columns),
    )

pub returns-clause-pushed : goal.returns-clause-pushed
returns-clause-pushed c =
    let b = c.has_more-is_more.result in
    let e = parts_told c.args.e.now in
    let more = c.has_more-is_more.ensures in
    let tells : Tells b e = record { fee = more.fee; early = more.early; time = more.time; until = more.until } in
    let ms = c.self.inside.marks.list in
    let p = columns_told c.self.inside.columns in
    let marks : c.put.new.self.list ≡ ms ++ mark_of b e ∷ [] = ap (λ r. r.list) c.put.ensures ∙ ap₂ (λ ms m. ms ++ m ∷ []) c.make_room.ensures.list c.mark_of.ensures in
    let joins = c.put_event.ensures.told ∙ ap (λ (q : Parts). joined q (own_parts b e)) (c.reserve_feed.ensures.lists ∙ c.make_room.ensures.lists) in
    let more = event_pushed ms c.put.new.self.list p (columns_told c.put_event.new.self) b e tells c.self.invariant.0 marks joins in
    more.0 ∙ ap (λ (h : Held). h.list ++ event e ∷ []) c.self.view_is
