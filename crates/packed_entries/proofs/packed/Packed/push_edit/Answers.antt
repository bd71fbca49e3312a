use Rattle.std.proofs.Common.{◌≡◌, ◌∙◌, ◌++◌, ◌∷◌, [], ◌-◌, ap, ap₂, arith}
use Rattle.market_types.specs.Told.{edit, edit_told}
use Rattle.packed_entries.specs.Held.{Held}
use Rattle.packed_entries.specs.Parts.{Parts, joined}
use Rattle.packed_entries.specs.Own.{edit_mark, edit_parts}
use Rattle.packed_entries.specs.Told.{columns_told}
use Rattle.packed_entries.proofs.Packing.{edit_pushed, same_whole}
use Rattle.packed_entries.proofs.Rooms.{fewer}
use Rattle.packed_entries.proofs.packed.Packed.push_edit.Goals as goal

pub invariant_of-self : goal.invariant_of-self
invariant_of-self c = (same_whole _ _ _ _ c.make_room.ensures.list c.make_room.ensures.lists c.self.invariant.0, c.make_room.ensures.marks, c.make_room.ensures.columns)

pub invariant_of-self-in_err-reserve_feed : goal.invariant_of-self-in_err-reserve_feed
invariant_of-self-in_err-reserve_feed c = (
  same_whole _ _ _ _ c.make_room.ensures.list (c.reserve_feed.ensures.lists ∙ c.make_room.ensures.lists) c.self.invariant.0,
  c.make_room.ensures.marks,
  c.reserve_feed.ensures.room c.make_room.new.room c.make_room.ensures.columns,
)

pub put_edit-requires-clause-room : goal.put_edit-requires-clause-room
put_edit-requires-clause-room c = fewer c.make_room.new.room 1 _ (omega (arith, c.in_ok-make_room.ensures.more)) (c.reserve_feed.ensures.room c.make_room.new.room c.make_room.ensures.columns)

pub invariant_of-self-2 : goal.invariant_of-self-2
invariant_of-self-2 c =
    let b = c.has_long_feed-is_more.result in
    let d = edit_told c.args.d.now in
    let ms = c.self.inside.marks.list in
    let p = columns_told c.self.inside.columns in
    let marks : c.put.new.self.list ≡ ms ++ edit_mark b d ∷ [] = ap (λ r. r.list) c.put.ensures ∙ ap₂ (λ ms m. ms ++ m ∷ []) c.make_room.ensures.list c.edit_mark.ensures in
    let joins = c.put_edit.ensures.told ∙ ap (λ (q : Parts). joined q (edit_parts b d)) (c.reserve_feed.ensures.lists ∙ c.make_room.ensures.lists) in
    let more = edit_pushed ms c.put.new.self.list p (columns_told c.put_edit.new.self) b d c.self.invariant.0 marks joins in (
      more.1,
      omega (arith, c.make_room.ensures.marks, ap (λ r. r.spare) c.put.ensures),
      c.put_edit.ensures.room c.make_room.new.room (c.make_room.new.room - 1) (omega (arith, c.in_ok-make_room.ensures.more)) (c.reserve_feed.ensures.room c.make_room.new.room c.make_room.ensures.columns),
    )

pub returns-clause-pushed : goal.returns-clause-pushed
returns-clause-pushed c =
    let b = c.has_long_feed-is_more.result in
    let d = edit_told c.args.d.now in
    let ms = c.self.inside.marks.list in
    let p = columns_told c.self.inside.columns in
    let marks : c.put.new.self.list ≡ ms ++ edit_mark b d ∷ [] = ap (λ r. r.list) c.put.ensures ∙ ap₂ (λ ms m. ms ++ m ∷ []) c.make_room.ensures.list c.edit_mark.ensures in
    let joins = c.put_edit.ensures.told ∙ ap (λ (q : Parts). joined q (edit_parts b d)) (c.reserve_feed.ensures.lists ∙ c.make_room.ensures.lists) in
    let more = edit_pushed ms c.put.new.self.list p (columns_told c.put_edit.new.self) b d c.self.invariant.0 marks joins in
    more.0 ∙ ap (λ (h : Held). h.list ++ edit d ∷ []) c.self.view_is
