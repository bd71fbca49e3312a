-- What is left behind an event.
use Rattle.std.proofs.Common.{◌≡◌, ◌∙◌, false, drop, ap, sym}
use Rattle.packed_entries.specs.declared.mark.Mark.{Mark}
use Rattle.packed_entries.specs.declared.mark.Extra.{Extra}
use Rattle.packed_entries.specs.Kinds.{is_edit, enters_in, cancels_in, accepted_in, shorts_in, quotes_in}
use Rattle.packed_entries.specs.Parts.{Parts}
use Rattle.packed_entries.specs.Entries.{extra_in, feed_behind, left_by, extras_in}
use Rattle.packed_entries.proofs.Bodies.{edits_needed}
use Rattle.packed_entries.proofs.Packing.{same_parts}

pub event_leaves : (m : Mark) (p q : Parts) (x : Extra) → is_edit m.kind ≡ false → x ≡ extra_in m p.extras
    → q.enters ≡ drop (enters_in m.kind) p.enters → q.cancels ≡ drop (cancels_in m.kind) p.cancels → q.accepted ≡ drop (accepted_in m.kind) p.accepted
    → q.shorts ≡ drop (shorts_in m.kind) p.shorts → q.quotes ≡ drop (quotes_in m.kind) p.quotes → q.extras ≡ drop (extras_in m.is_more) p.extras
    → q.edits ≡ p.edits → q.feed ≡ feed_behind x p.feed → q ≡ left_by m p
event_leaves m p q x k is a b c d e f g h =
    same_parts q (left_by m p) a b c d e f
    (g ∙ sym (ap (λ n. drop n p.edits) (edits_needed m.kind false k)))
    (h ∙ ap (λ (z : Extra). feed_behind z p.feed) is)
